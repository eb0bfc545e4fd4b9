-- An operation gives as many results as it has registers for them, each of 64 bits.
use Rattle.std.proofs.Common.{◌≡◌, ℕ, zero, suc, ◌+◌, ◌*◌, ◌/◌, ◌%◌, ◌^◌, ◌<◌, ◌≤◌, Bool, true, false, List, [], ◌∷◌, ◌++◌, length, Option, Some, None, length-append, refl, sym, ap, ◌∙◌, subst, arith}
use Rattle.std.specs.Prelude.{◌≢◌, ◌&&◌, if◌then◌else◌, nat_eq, slice_index_or}
use Rattle.std.proofs.lemmas.Bool.{false≢true}
use Rattle.std.proofs.lemmas.Nat.{pow_pos}
use Rattle.std.proofs.lemmas.Option.{none-some, same_Some}
use Rattle.ax_words.specs.declared.mark.Op.{Op}
use Rattle.ax_words.specs.declared.mark.Op.TheVariants as op
use Rattle.ax_words.specs.declared.order.Order.{Order}
use Rattle.ax_words.specs.declared.width.Width.{Width}
use Rattle.ax_words.specs.declared.width.Width.TheVariants.{W8, W16, W32, W64, W128}
use Rattle.ax_words.specs.Width.{bits_of, bytes_of}
use Rattle.ax_target.specs.declared.target.Target.{Target}
use Rattle.ax_target.specs.declared.target.Target.TheVariants.{X86}
use Rattle.ax_source_run.specs.SourceAccess.{Drains, Looks, Manner, ObjectOperation, Waits, is_expected, manner_of_native}
use Rattle.ax_source_run.specs.SourceInstructions.{is_seq_cst}
use Rattle.ax_source_run.specs.SourceValues.{number_of_flag}
use Rattle.ax_isa.specs.Tells.{Given, Nothing, An_act, A_look, A_miss}
use Rattle.ax_follow.specs.Contract.{done_after}
use Rattle.ax_mid.specs.Machine.{argument, is_exchange, is_fence, is_wide, may_wait, operation_of, parts_of}
use Rattle.ax_mid.specs.Machine.{results_of as numbers_of}
use Rattle.ax_fine.specs.OnBytes.{Asks, IsObject, acts, atomic_doing, fenced, load_doing, looks, met_at, met_by, misses, store_doing}
use Rattle.ax_expand.specs.Doing.{Doing, Result}
use Rattle.ax_expand.specs.Shared.{Shared}
use Rattle.ax_emit.specs.Atomics.{AllOf, Counted}
use Rattle.ax_loops.specs.Updating.{AreNumbers}
use Rattle.ax_mask.proofs.Found.{loaded_small, sent_small}
use Rattle.ax_cas.specs.Codes.{asking, number_and_flag, numbered, one_number, results_of_op}
use Rattle.ax_cas.proofs.WideValues.{whole}
use Rattle.ax_cas.proofs.Widths.{Narrow}

abbrev Words : List ℕ → Type 0
Words ns = AllOf (λ n. n < 2 ^ 64) ns

-- ---- the parts of a number
parts_length : (wide : Bool) (n : ℕ) → length (parts_of wide n) ≡ length (one_number wide)
parts_length true n = refl
parts_length false n = refl

flagged_length : (wide : Bool) (n f : ℕ) → length (parts_of wide n ++ f ∷ []) ≡ length (number_and_flag wide)
flagged_length true n f = refl
flagged_length false n f = refl

low_part : (n : ℕ) → n % 2 ^ 64 < 2 ^ 64
low_part n = omega arith

high_part : (n : ℕ) → n < 2 ^ 128 → n / 2 ^ 64 < 2 ^ 64
high_part n h = omega (arith, h)

-- both are words, where the number fits both
parts_small : (width : Width) (n : ℕ) → (is_wide width ≡ true → n < 2 ^ 128) → Words (parts_of (is_wide width) n)
parts_small W8 n h = (low_part n, tt)
parts_small W16 n h = (low_part n, tt)
parts_small W32 n h = (low_part n, tt)
parts_small W64 n h = (low_part n, tt)
parts_small W128 n h = (low_part n, (high_part n (h refl), tt))

words_append : (ms ns : List ℕ) → Words ms → Words ns → Words (ms ++ ns)
words_append [] ns h g = g
words_append (m ∷ ms) ns h g = (h.0, words_append ms ns h.1 g)

flag_small : (t : Bool) → number_of_flag t < 2 ^ 64
flag_small true = omega arith
flag_small false = omega arith

-- ---- what is found
met_small : (m : Manner) (buffered : Bool) (p a n : ℕ) (operation : ObjectOperation) (w : Shared) → IsObject a n w → (met_by m buffered p a n operation w).found < 2 ^ (8 * n)
met_small (Waits v) buffered p a n operation w o = pow_pos (8 * n)
met_small Looks buffered p a n operation w o = loaded_small p a n w o
met_small Drains buffered p a n operation w o = sent_small p a n w o

of_wide : (width : Width) (n : ℕ) → n < 2 ^ bits_of width → is_wide width ≡ true → n < 2 ^ 128
of_wide W128 n h e = h
of_wide W8 n h e = absurd (false≢true e)
of_wide W16 n h e = absurd (false≢true e)
of_wide W32 n h e = absurd (false≢true e)
of_wide W64 n h e = absurd (false≢true e)

-- ---- what is expected, of numbers of registers
indexed : (ns : List ℕ) (k : ℕ) → AreNumbers ns → slice_index_or ns k 0 < 2 ^ 64
indexed [] k h = omega arith
indexed (n ∷ ns) zero h = h.0
indexed (n ∷ ns) (suc k) h = indexed ns k h.1

argument_small : (width : Width) (args : List ℕ) → AreNumbers args → is_wide width ≡ true → argument width args 0 < 2 ^ 128
argument_small W128 args h e = (let a = indexed args 0 h in let b = indexed args 1 h in let q : whole (slice_index_or args 0 0) (slice_index_or args 1 0) < 2 ^ 128 = omega (arith, a, b) in q)
argument_small W8 args h e = absurd (false≢true e)
argument_small W16 args h e = absurd (false≢true e)
argument_small W32 args h e = absurd (false≢true e)
argument_small W64 args h e = absurd (false≢true e)

-- a result by its numbers
result_by : (q r : Result Shared) (Q : List ℕ → Type 0) → Q q.results → Some q ≡ Some r → Q r.results
result_by q r Q h e = subst (λ (s : Result Shared). Q s.results) (same_Some q r e) h

-- ---- an atomic operation
module _ (target : Target) (o : Op) (width : Width) (order : Order) (weak : Bool) where
  abbrev wide : Bool
  wide = is_wide width

  abbrev doing : Doing Shared
  doing = atomic_doing target o width order weak

  abbrev many : ℕ
  many = length (results_of_op o (is_wide width))

  fenced_none : (b : Bool) (p : ℕ) (w : Shared) → (fenced target o width order b p w).results ≡ []
  fenced_none true p w = refl
  fenced_none false p w = refl

  -- what it gives of a number
  numbers_length : (o : Op) (n : ℕ) (equal : Bool) → length (numbers_of o width n equal) ≡ length (results_of_op o (is_wide width))
  numbers_length op.Load n equal = parts_length (is_wide width) n
  numbers_length op.Store n equal = refl
  numbers_length op.Cmpxchg n equal = flagged_length (is_wide width) n (number_of_flag equal)
  numbers_length (op.Rmw q) n equal = parts_length (is_wide width) n
  numbers_length op.Fence n equal = refl

  numbers_small : (o : Op) (n : ℕ) (equal : Bool) → (is_wide width ≡ true → n < 2 ^ 128) → Words (numbers_of o width n equal)
  numbers_small op.Load n equal h = parts_small width n h
  numbers_small op.Store n equal h = tt
  numbers_small op.Cmpxchg n equal h = words_append (parts_of (is_wide width) n) (number_of_flag equal ∷ []) (parts_small width n h) (flag_small equal, tt)
  numbers_small (op.Rmw q) n equal h = parts_small width n h
  numbers_small op.Fence n equal h = tt

  -- a fence gives none
  fence_many : (o : Op) → is_fence o ≡ true → length (results_of_op o (is_wide width)) ≡ 0
  fence_many op.Fence e = refl
  fence_many op.Load e = absurd (false≢true e)
  fence_many op.Store e = absurd (false≢true e)
  fence_many op.Cmpxchg e = absurd (false≢true e)
  fence_many (op.Rmw q) e = absurd (false≢true e)

  -- ---- an act
  abbrev act_if : Bool → ℕ → ℕ → List ℕ → Shared → Result Shared
  act_if fence p a args w =
      if fence then fenced target o width order (is_seq_cst order) p w
      else (let operation = operation_of o width args in let met = met_at target (may_wait target width order) p a (bytes_of width) operation w in record { results = numbers_of o width met.found (is_expected operation met.found); seen = None; world = met.world; output = None; excused = false })

  act_length : (fence : Bool) (p a : ℕ) (args : List ℕ) (w : Shared) → is_fence o ≡ fence → length (act_if fence p a args w).results ≡ many
  act_length true p a args w e = ap (λ ns. length ns) (fenced_none (is_seq_cst order) p w) ∙ sym (fence_many o e)
  act_length false p a args w e = numbers_length o _ _

  act_small : (fence : Bool) (p a : ℕ) (args : List ℕ) (w : Shared) → Asks target o width order fence a w → Words (act_if fence p a args w).results
  act_small true p a args w h = subst Words (sym (fenced_none (is_seq_cst order) p w)) tt
  act_small false p a args w h = numbers_small o _ _ (of_wide width _ (met_small (manner_of_native (operation_of o width args) (may_wait target width order)) _ p a (bytes_of width) (operation_of o width args) w h))

  -- ---- a miss, and a look
  exchange_many : (o : Op) → is_exchange o ≡ true → length (results_of_op o (is_wide width)) ≡ length (number_and_flag (is_wide width))
  exchange_many op.Cmpxchg e = refl
  exchange_many op.Load e = absurd (false≢true e)
  exchange_many op.Store e = absurd (false≢true e)
  exchange_many op.Fence e = absurd (false≢true e)
  exchange_many (op.Rmw q) e = absurd (false≢true e)

  both : (a b : Bool) → (a && b) ≡ true → b ≡ true
  both true b e = e
  both false b e = absurd (false≢true e)

  abbrev if_may : Bool → Option (Result Shared) → Option (Result Shared)
  if_may may r = if may then r else None

  -- what holds of a result that is given holds where it may be
  given_by : (may : Bool) (x : Option (Result Shared)) (r : Result Shared) (Q : Result Shared → Type 0) → (may ≡ true → x ≡ Some r → Q r) → if_may may x ≡ Some r → Q r
  given_by true x r Q f e = f refl e
  given_by false x r Q f e = absurd (none-some r e)

  -- it answers false with the expected number
  abbrev missed : List ℕ → Shared → Result Shared
  missed args w = record { results = numbers_of op.Cmpxchg width (argument width args 0) false; seen = None; world = w; output = None; excused = false }

  missed_by : (args : List ℕ) (seen : Option ℕ) (w : Shared) (r : Result Shared) (Q : List ℕ → Type 0) → Q (missed args w).results → misses target o width order args seen w ≡ Some r → Q r.results
  missed_by args None w r Q h e = absurd (none-some r e)
  missed_by args (Some n) w r Q h e = given_by (nat_eq (argument width args 0) n) (Some (missed args w)) r (λ s. Q s.results) (λ may f. result_by (missed args w) r Q h f) e

  through : (g : Given) (p a : ℕ) (args : List ℕ) (seen : Option ℕ) (w : Shared) (r : Result Shared) → doing.happens g p a args seen w ≡ Some r → done_after g false ≡ true → length r.results ≡ many
  through Nothing p a args seen w r e done = absurd (none-some r e)
  through An_act p a args seen w r e done = result_by _ r (λ ns. length ns ≡ many) (act_length (is_fence o) p a args w refl) e
  through A_look p a args seen w r e done = absurd (false≢true done)
  through A_miss p a args seen w r e done =
      given_by (weak && is_exchange o) (misses target o width order args seen w) r (λ s. length s.results ≡ many) (λ may f. missed_by args seen w r (λ ns. length ns ≡ many) (flagged_length (is_wide width) _ _ ∙ sym (exchange_many o (both weak (is_exchange o) may))) f) e

  seen_none : (g : Given) (p a : ℕ) (args : List ℕ) (seen : Option ℕ) (w : Shared) (r : Result Shared) → doing.happens g p a args seen w ≡ Some r → done_after g false ≡ false → r.results ≡ []
  seen_none Nothing p a args seen w r e done = absurd (none-some r e)
  seen_none An_act p a args seen w r e done = absurd (false≢true (sym done))
  seen_none A_look p a args seen w r e done = given_by (weak && is_exchange o) (Some (looks target o width order a w)) r (λ s. s.results ≡ []) (λ may f. result_by (looks target o width order a w) r (λ ns. ns ≡ []) refl f) e
  seen_none A_miss p a args seen w r e done = absurd (false≢true (sym done))

  words : (g : Given) (p a : ℕ) (args : List ℕ) (seen : Option ℕ) (w : Shared) (r : Result Shared) → doing.fits a args w → (is_wide width ≡ true → AreNumbers args) → doing.happens g p a args seen w ≡ Some r → Words r.results
  words Nothing p a args seen w r fit numbers e = absurd (none-some r e)
  words An_act p a args seen w r fit numbers e = result_by _ r Words (act_small (is_fence o) p a args w fit) e
  words A_look p a args seen w r fit numbers e = subst Words (sym (seen_none A_look p a args seen w r e refl)) tt
  words A_miss p a args seen w r fit numbers e =
      given_by (weak && is_exchange o) (misses target o width order args seen w) r (λ s. Words s.results) (λ may f. missed_by args seen w r Words (numbers_small op.Cmpxchg (argument width args 0) false (λ is. argument_small width args (numbers is) is)) f) e

  counted_by : (b : Bool) → is_wide width ≡ b → Counted (asking b doing) many
  counted_by true e = record { through = through; looks = seen_none; small = λ g p a args seen w r fit h. words g p a args seen w r fit.0 (λ is. fit.1) h }
  counted_by false e = record { through = through; looks = seen_none; small = λ g p a args seen w r fit h. words g p a args seen w r fit (λ is. absurd (false≢true (sym e ∙ is))) h }

  pub atomic_counted : Counted (asking (is_wide width) doing) many
  atomic_counted = counted_by (is_wide width) refl

-- ---- plain accesses
-- an operation that has its event in one act
module _ (doing : Doing Shared) (many : ℕ) (only : (g : Given) (p a : ℕ) (args : List ℕ) (seen : Option ℕ) (w : Shared) (r : Result Shared) → g ≢ An_act → doing.happens g p a args seen w ≡ Some r → ⊥)
    (acts_many : (p a : ℕ) (args : List ℕ) (seen : Option ℕ) (w : Shared) (r : Result Shared) → doing.happens An_act p a args seen w ≡ Some r → length r.results ≡ many)
    (acts_small : (p a : ℕ) (args : List ℕ) (seen : Option ℕ) (w : Shared) (r : Result Shared) → doing.fits a args w → doing.happens An_act p a args seen w ≡ Some r → Words r.results) where
  plain_counted : Counted doing many
  plain_counted = record { through = λ g p a args seen w r e done. go g p a args seen w r e; looks = λ g p a args seen w r e done. none g p a args seen w r e done; small = λ g p a args seen w r fit e. small g p a args seen w r fit e }
    where
      go : (g : Given) (p a : ℕ) (args : List ℕ) (seen : Option ℕ) (w : Shared) (r : Result Shared) → doing.happens g p a args seen w ≡ Some r → length r.results ≡ many
      go An_act p a args seen w r e = acts_many p a args seen w r e
      go Nothing p a args seen w r e = absurd (only Nothing p a args seen w r (λ q. cc) e)
      go A_look p a args seen w r e = absurd (only A_look p a args seen w r (λ q. cc) e)
      go A_miss p a args seen w r e = absurd (only A_miss p a args seen w r (λ q. cc) e)

      none : (g : Given) (p a : ℕ) (args : List ℕ) (seen : Option ℕ) (w : Shared) (r : Result Shared) → doing.happens g p a args seen w ≡ Some r → done_after g false ≡ false → r.results ≡ []
      none An_act p a args seen w r e done = absurd (false≢true (sym done))
      none Nothing p a args seen w r e done = absurd (only Nothing p a args seen w r (λ q. cc) e)
      none A_look p a args seen w r e done = absurd (only A_look p a args seen w r (λ q. cc) e)
      none A_miss p a args seen w r e done = absurd (only A_miss p a args seen w r (λ q. cc) e)

      small : (g : Given) (p a : ℕ) (args : List ℕ) (seen : Option ℕ) (w : Shared) (r : Result Shared) → doing.fits a args w → doing.happens g p a args seen w ≡ Some r → Words r.results
      small An_act p a args seen w r fit e = acts_small p a args seen w r fit e
      small Nothing p a args seen w r fit e = absurd (only Nothing p a args seen w r (λ q. cc) e)
      small A_look p a args seen w r fit e = absurd (only A_look p a args seen w r (λ q. cc) e)
      small A_miss p a args seen w r fit e = absurd (only A_miss p a args seen w r (λ q. cc) e)

pub load_counted : (target : Target) (width : Width) → Narrow width → Counted (load_doing target (bytes_of width)) 1
load_counted target width f =
    plain_counted (load_doing target (bytes_of width)) 1 only (λ p a args seen w r e. result_by _ r (λ ns. length ns ≡ 1) refl e)
    (λ p a args seen w r fit e. result_by _ r Words (let low = loaded_small p a (bytes_of width) w fit in let room = f.room in omega (arith, low, room), tt) e)
  where
    only : (g : Given) (p a : ℕ) (args : List ℕ) (seen : Option ℕ) (w : Shared) (r : Result Shared) → g ≢ An_act → (load_doing target (bytes_of width)).happens g p a args seen w ≡ Some r → ⊥
    only An_act p a args seen w r ne e = ne refl
    only Nothing p a args seen w r ne e = none-some r e
    only A_look p a args seen w r ne e = none-some r e
    only A_miss p a args seen w r ne e = none-some r e

pub store_counted : (target : Target) (width : Width) → Counted (store_doing target (bytes_of width)) 0
store_counted target width = plain_counted (store_doing target (bytes_of width)) 0 only (λ p a args seen w r e. result_by _ r (λ ns. length ns ≡ 0) refl e) (λ p a args seen w r fit e. result_by _ r Words tt e)
  where
    only : (g : Given) (p a : ℕ) (args : List ℕ) (seen : Option ℕ) (w : Shared) (r : Result Shared) → g ≢ An_act → (store_doing target (bytes_of width)).happens g p a args seen w ≡ Some r → ⊥
    only An_act p a args seen w r ne e = ne refl
    only Nothing p a args seen w r ne e = none-some r e
    only A_look p a args seen w r ne e = none-some r e
    only A_miss p a args seen w r ne e = none-some r e
