-- Each operation up to 8 bytes that is one instruction, and each plain access.
use Rattle.std.proofs.Common.{◌≡◌, ℕ, ◌+◌, ◌-◌, ◌*◌, ◌%◌, ◌^◌, ◌<◌, ◌≤◌, Bool, true, false, List, [], ◌∷◌, ◌++◌, Option, Some, None, refl, sym, ap, ◌∙◌, subst, ⊎_elim, arith}
use Rattle.std.specs.Prelude.{◌≢◌, if◌then◌else◌, nat_eq, pos}
use Rattle.std.proofs.lemmas.Bool.{cases_eq, eq-eqb, eqb-true, false≢true, ne_eqb}
use Rattle.ax_words.specs.declared.mark.Op.{Op}
use Rattle.ax_words.specs.declared.mark.Op.TheVariants as op
use Rattle.ax_words.specs.declared.operation.RmwOp.{RmwOp}
use Rattle.ax_words.specs.declared.operation.RmwOp.TheVariants as rmw
use Rattle.ax_words.specs.declared.order.Order.{Order}
use Rattle.ax_words.specs.declared.width.Width.{Width}
use Rattle.ax_words.specs.declared.width.Width.TheVariants.{W8, W16, W32, W64, W128}
use Rattle.ax_words.specs.Width.{bits_of, bytes_of}
use Rattle.ax_ops.specs.Operation.{result_of}
use Rattle.ax_store.specs.Bytes.{number_at}
use Rattle.ax_store.specs.Storage.{at_place, entry_of}
use Rattle.ax_store.proofs.Numbers.{number_small}
use Rattle.ax_target.specs.declared.target.Target.{Target}
use Rattle.ax_target.specs.declared.target.Target.TheVariants.{X86}
use Rattle.ax_source_run.specs.SourceInstructions.{is_seq_cst}
use Rattle.ax_source_run.specs.SourceValues.{number_of_flag}
use Rattle.ax_isa.specs.declared.effects.Change.TheVariants.{Exchange, Update}
use Rattle.ax_isa.specs.declared.effects.Effect.{Effect}
use Rattle.ax_isa.specs.declared.effects.Effect.TheVariants as effect
use Rattle.ax_isa.specs.Numbers.{displaced}
use Rattle.ax_isa.specs.Processor.{Processor}
use Rattle.ax_isa.specs.Tells.{An_act}
use Rattle.ax_isa.specs.Steps.{exchanged, go_with, is_flushing, taken}
use Rattle.ax_isa.proofs.Functions.{at_same, at_other}
use Rattle.ax_mid.specs.Machine.{is_wide}
use Rattle.ax_x86.specs.Arithmetic.{low_byte_set, negative}
use Rattle.ax_x86.specs.declared.instructions.Condition.TheVariants as condition
use Rattle.ax_x86.specs.declared.instructions.X86Instr.{X86Instr}
use Rattle.ax_x86.specs.declared.instructions.X86Instr.TheVariants as x86
use Rattle.ax_x86.specs.Instructions.{effect_of, rest_of, x86_kind}
use Rattle.ax_x86.specs.Sizes.{size_bytes}
use Rattle.ax_fine.specs.OnBytes.{IsObject, atomic_doing, load_doing, results_with, store_doing}
use Rattle.ax_expand.specs.Doing.{Doing, on_registers}
use Rattle.ax_expand.specs.Operation.{Deed, Keeps, Operation}
use Rattle.ax_expand.specs.Accesses.{HasObject}
use Rattle.ax_expand.specs.Shared.{Object, Shared, shared_replaced, shared_wrote}
use Rattle.ax_emit_x86.specs.Code.{at_address, load_in, size_of_bytes, store_in}
use Rattle.ax_emit_x86.specs.Laws.{every, is_kept}
use Rattle.ax_emit_x86.proofs.Numbers.{flag_byte}
use Rattle.ax_loops.specs.Registers.{all_but}
use Rattle.ax_loops.proofs.Registers.{apart}
use Rattle.ax_mask.proofs.Found.{object_of}
use Rattle.ax_cas.specs.Codes.{addition, args_of_op, asking, fence_of, flag_in, lone, narrow_exchange, narrow_store, negated, numbered, results_of_op, swap, widened}
use Rattle.ax_cas.specs.Loops.{low_bits}
use Rattle.ax_cas.specs.Rounds.{Accesses, Acted, IsRound, Reaches, Straight}
use Rattle.ax_cas.proofs.Accesses.{Prepared, happens_as, load_round, located, stays, store_round, update_round}
use Rattle.ax_cas.proofs.Acts.{atomic_exchanges, atomic_fences, atomic_loads, atomic_stores, atomic_updates, atomic_waits, cut_again, plain_waits}
use Rattle.ax_cas.proofs.Running.{behind, behind_all, keeps_each, reaches}
use Rattle.ax_cas.proofs.Widths.{Narrow, Results, low_extended, low_of, low_reaches, narrow_width, pair_one, reaches_then, taken_one}

-- an operation up to 8 bytes on its registers
abbrev pub narrow_operation : Bool → Op → Width → Order → Bool → Operation Shared
narrow_operation cx16 o width order weak = on_registers (atomic_doing (X86 cx16) o width order weak) 6 (args_of_op o false) (results_of_op o false)

-- ---- tests
-- two numbers are equal both ways
pub same_test : (a b : ℕ) → nat_eq a b ≡ nat_eq b a
same_test a b = ⊎_elim (λ e. eq-eqb a b e ∙ sym (eq-eqb b a (sym e))) (λ ne. ne_eqb a b ne ∙ sym (ne_eqb b a (λ e. ne (sym e)))) (cases_eq a b)

-- a register tells it, and all others stay
pub flag_reaches : (r : ℕ) (c : Processor) → Reaches x86_kind (flag_in r) c (Results r (number_of_flag (nat_eq c.compared.0 c.compared.1)) c.regs)
flag_reaches r c =
    let equal = nat_eq c.compared.0 c.compared.1 in
    let low = low_byte_set (c.regs r) equal in
    let b = behind (x86.Setcc condition.Equal r) c in
    reaches (flag_in r) c _ refl
    (record {
      is = at_same b.regs r _ ∙ ap (λ v. v % 2 ^ 8) (at_same c.regs r low) ∙ flag_byte (c.regs r) equal;
      others = λ q ne. at_other b.regs r _ q ne ∙ at_other c.regs r low q ne;
    })

-- ---- effects
swap_effect : (width : Width) (r : ℕ) (c : Processor) → effect_of (x86.Xchg (size_of_bytes (bytes_of width)) r at_address) c ≡ effect.Locked r 0 (displaced (c.regs 6) (pos 0)) (size_bytes (size_of_bytes (bytes_of width))) (rest_of (size_of_bytes (bytes_of width))) (Update rmw.Xchg (c.regs r))
unfolding effect_of
swap_effect width r c = refl

pub exchange_effect : (width : Width) (r : ℕ) (c : Processor) → effect_of (x86.LockCmpxchg (size_of_bytes (bytes_of width)) r at_address) c ≡ effect.Locked 0 0 (displaced (c.regs 6) (pos 0)) (size_bytes (size_of_bytes (bytes_of width))) (rest_of (size_of_bytes (bytes_of width))) (Exchange (c.regs 0) (c.regs r) true)
unfolding effect_of
exchange_effect width r c = refl

abbrev fence_as : Bool → Effect
fence_as true = effect.Fence
fence_as false = effect.Nop

fence_effect : (s : Bool) (c : Processor) → effect_of (fence_of s) c ≡ fence_as s
unfolding effect_of
fence_effect true c = refl
fence_effect false c = refl

addition_effect : (width : Width) (c : Processor) → effect_of (x86.LockXadd (size_of_bytes (bytes_of width)) 0 at_address) c ≡ effect.Locked 0 0 (displaced (c.regs 6) (pos 0)) (size_bytes (size_of_bytes (bytes_of width))) (rest_of (size_of_bytes (bytes_of width))) (Update rmw.Add (c.regs 0))
unfolding effect_of
addition_effect width c = refl

-- the number that a subtraction adds
negative_adds : (width : Width) (old v : ℕ) → Narrow width → result_of (bits_of width) rmw.Add old (negative (v % 2 ^ bits_of width) % 2 ^ bits_of width) ≡ result_of (bits_of width) rmw.Sub old (v % 2 ^ bits_of width)
negative_adds W8 old v f = (let e : (old + (2 ^ 64 - v % 2 ^ 8) % 2 ^ 64 % 2 ^ 8) % 2 ^ 8 ≡ (old + (2 ^ 8 - v % 2 ^ 8)) % 2 ^ 8 = omega arith in e)
negative_adds W16 old v f = (let e : (old + (2 ^ 64 - v % 2 ^ 16) % 2 ^ 64 % 2 ^ 16) % 2 ^ 16 ≡ (old + (2 ^ 16 - v % 2 ^ 16)) % 2 ^ 16 = omega arith in e)
negative_adds W32 old v f = (let e : (old + (2 ^ 64 - v % 2 ^ 32) % 2 ^ 64 % 2 ^ 32) % 2 ^ 32 ≡ (old + (2 ^ 32 - v % 2 ^ 32)) % 2 ^ 32 = omega arith in e)
negative_adds W64 old v f = (let e : (old + (2 ^ 64 - v % 2 ^ 64) % 2 ^ 64 % 2 ^ 64) % 2 ^ 64 ≡ (old + (2 ^ 64 - v % 2 ^ 64)) % 2 ^ 64 = omega arith in e)
negative_adds W128 old v f = absurd (false≢true (sym f.narrow))

module _ (cx16 : Bool) (width : Width) (f : Narrow width) (order : Order) (weak : Bool) where
  abbrev target : Target
  target = X86 cx16

  abbrev Rounds : Op → Straight X86Instr → Type 0
  Rounds o z = IsRound x86_kind is_kept (narrow_operation cx16 o width order weak) z

  pub load_rounds : Rounds op.Load (lone (load_in (bytes_of width)))
  load_rounds = load_round (atomic_doing target op.Load width order weak) width f (λ a args w fit. fit) is_kept refl (λ p a seen w fit. atomic_loads target width f order weak p a [] seen w fit)

  pub swap_rounds : Rounds (op.Rmw rmw.Xchg) (swap width)
  swap_rounds =
      update_round (atomic_doing target (op.Rmw rmw.Xchg) width order weak) width f (λ a args w fit. fit) rmw.Xchg rmw.Xchg _ (swap_effect width 0) (λ p a v seen w fit none. atomic_updates target width f order weak rmw.Xchg p a v seen w fit none) []
      (λ c. stays c _ (record { leaves = λ old small. refl; others = λ q k. refl }))

  pub addition_rounds : Rounds (op.Rmw rmw.Add) (addition width [])
  addition_rounds =
      update_round (atomic_doing target (op.Rmw rmw.Add) width order weak) width f (λ a args w fit. fit) rmw.Add rmw.Add _ (addition_effect width) (λ p a v seen w fit none. atomic_updates target width f order weak rmw.Add p a v seen w fit none) []
      (λ c. stays c _ (record { leaves = λ old small. refl; others = λ q k. refl }))

  -- the negative of the low bits
  negates : (c : Processor) → Reaches x86_kind (negated width) c (λ b. Prepared width rmw.Sub rmw.Add c.regs b)
  negates c =
      let low = c.regs 0 % 2 ^ bits_of width in
      reaches_then x86_kind (low_bits false width 0 ∷ []) (x86.Neg 0 ∷ []) c (λ b. b ≡ go_with 0 low c) _ (low_reaches false width 0 c (λ b. b ≡ go_with 0 low c) f refl)
      (λ b is. reaches (x86.Neg 0 ∷ []) b _ refl
      (record {
        leaves = λ old small. ap (λ m. result_of (bits_of width) rmw.Add old (negative m % 2 ^ bits_of width)) (ap (λ (m : Processor). m.regs 0) is) ∙ negative_adds width old (c.regs 0) f;
        others = λ q k. (let ne = (apart is_kept 0 q k).1 in at_other b.regs 0 _ q ne ∙ ap (λ (m : Processor). m.regs q) is ∙ at_other c.regs 0 low q ne);
      }))

  pub subtraction_rounds : Rounds (op.Rmw rmw.Sub) (addition width (negated width))
  subtraction_rounds =
      update_round (atomic_doing target (op.Rmw rmw.Sub) width order weak) width f (λ a args w fit. fit) rmw.Sub rmw.Add _ (addition_effect width) (λ p a v seen w fit none. atomic_updates target width f order weak rmw.Sub p a v seen w fit none) (negated width) negates

  abbrev AtAccess : Op → Straight X86Instr → (ℕ → ℕ) → Processor → Type 0
  AtAccess o z regs b = Accesses x86_kind is_kept (narrow_operation cx16 o width order weak) z regs b

  abbrev Deeds : Op → Straight X86Instr → ℕ → Effect → Processor → Shared → Deed Shared → Type 0
  Deeds o z p e c w d = Acted x86_kind is_kept (narrow_operation cx16 o width order weak) z p e c w d

  -- ---- stores
  -- the exchange that is a seq_cst store leaves the old number in a scratch register
  exchange_store : is_seq_cst order ≡ true → Rounds op.Store (narrow_store true width)
  exchange_store is c regs same =
      let n = bytes_of width in
      let rest = rest_of (size_of_bytes n) in
      let b = behind_all (x86.Mov 0 8 ∷ []) c in
      reaches (x86.Mov 0 8 ∷ []) c (AtAccess op.Store (narrow_store true width) regs) refl
      (record {
        effect = effect.Locked 8 0 (regs 6) n rest (Update rmw.Xchg (c.regs 0));
        is = λ w fit. swap_effect width 8 b ∙ located width f (λ a m. effect.Locked 8 0 a m rest (Update rmw.Xchg (c.regs 0))) b regs w (same 6 refl) fit;
        object = λ w fit. object_of (regs 6) n w f.some fit;
        acts = λ p seen w fit below none. happens_as [] regs _ _ (Deeds op.Store (narrow_store true width) p (effect.Locked 8 0 (regs 6) n rest (Update rmw.Xchg (c.regs 0))) b w) (atomic_stores cx16 width f order weak p (regs 6) (regs 0) seen w is (none refl))
            (record {
              world = ap (λ v. shared_wrote (entry_of (regs 6) n (v % 2 ^ bits_of width)) w) (same 0 refl);
              output = refl;
              excused = refl;
              puts = stays _ _ (λ q k. ap (λ (g : ℕ → ℕ). g q) (taken_one width 8 0 rest (number_at w.mem (regs 6) n) b.regs f) ∙ at_other b.regs 8 _ q (not_free q k) ∙ at_other c.regs 8 _ q (not_free q k) ∙ same q k);
            });
      })
    where
      not_free : (q : ℕ) → is_kept q ≡ true → q ≢ 8
      not_free q k e = false≢true (ap is_kept (sym e) ∙ k)

  pub store_rounds : (s : Bool) → is_seq_cst order ≡ s → Rounds op.Store (narrow_store s width)
  store_rounds true is = exchange_store is
  store_rounds false is = store_round (atomic_doing target op.Store width order weak) width f (λ a args w fit. fit) is_kept refl refl (λ p a v seen w. atomic_waits cx16 width f order weak p a v seen w is)

  -- ---- compare-exchanges
  -- behind the exchange, which found a number
  record Found (number : ℕ) (c b : Processor) : Type 0 where
    pub compared : b.compared ≡ (c.regs 0 % 2 ^ bits_of width, number)
    pub low : b.regs 0 % 2 ^ bits_of width ≡ number
    pub others : (q : ℕ) → q ≢ 0 → b.regs q ≡ c.regs q

  abbrev left_if : ℕ → Processor → Bool → ℕ → ℕ
  left_if number c equal = if equal then c.regs else taken (bytes_of width) 0 0 (rest_of (size_of_bytes (bytes_of width))) number c.regs

  abbrev exchanged_with : ℕ → ℕ → Processor → Processor
  exchanged_with desired number c = exchanged (bytes_of width) 0 0 (rest_of (size_of_bytes (bytes_of width))) (Exchange (c.regs 0) desired true) number c

  found_by : (equal : Bool) (number desired : ℕ) (c : Processor) → number < 2 ^ bits_of width → nat_eq number (c.regs 0 % 2 ^ bits_of width) ≡ equal → Found number c (exchanged_with desired number c)
  found_by true number desired c small e =
      record { compared = pair_one width _ number f; low = ap (λ (t : Bool). left_if number c t 0 % 2 ^ bits_of width) e ∙ sym (eqb-true _ _ e); others = λ q ne. ap (λ (t : Bool). left_if number c t q) e }
  found_by false number desired c small e =
      let one = taken_one width 0 0 (rest_of (size_of_bytes (bytes_of width))) number c.regs f in
      record {
        compared = pair_one width _ number f;
        low = ap (λ (t : Bool). left_if number c t 0 % 2 ^ bits_of width) e ∙ ap (λ (g : ℕ → ℕ). g 0 % 2 ^ bits_of width) one ∙ low_extended width (c.regs 0) number f small;
        others = λ q ne. ap (λ (t : Bool). left_if number c t q) e ∙ ap (λ (g : ℕ → ℕ). g q) one ∙ at_other c.regs 0 _ q ne;
      }

  -- the flag, and the low bits of the number found
  answers : (number : ℕ) (regs : ℕ → ℕ) (c b : Processor) → Keeps is_kept c.regs regs → Found number c b
      → Reaches x86_kind (narrow_exchange width).after b (λ l. Keeps is_kept l.regs (at_place (at_place regs 0 number) 2 (number_of_flag (nat_eq number (regs 0 % 2 ^ bits_of width)))))
  answers number regs c b same h =
      reaches_then x86_kind (flag_in 2) (low_bits false width 0 ∷ []) b (Results 2 (number_of_flag (nat_eq b.compared.0 b.compared.1)) b.regs) _ (flag_reaches 2 b)
      (λ l r. low_reaches false width 0 l _ f
      (keeps_each _ _
      (ap (λ v. v % 2 ^ bits_of width) (r.others 0 (λ e. omega (arith, e))) ∙ h.low)
      (r.others 1 (λ e. omega (arith, e)) ∙ h.others 1 (λ e. omega (arith, e)) ∙ same 1 refl)
      (r.is ∙ ap (λ (z : ℕ × ℕ). number_of_flag (nat_eq z.0 z.1)) h.compared ∙ ap number_of_flag (same_test _ number) ∙ ap (λ v. number_of_flag (nat_eq number (v % 2 ^ bits_of width))) (same 0 refl))
      (r.others 3 (λ e. omega (arith, e)) ∙ h.others 3 (λ e. omega (arith, e)) ∙ same 3 refl)
      (r.others 4 (λ e. omega (arith, e)) ∙ h.others 4 (λ e. omega (arith, e)) ∙ same 4 refl)
      (r.others 6 (λ e. omega (arith, e)) ∙ h.others 6 (λ e. omega (arith, e)) ∙ same 6 refl)))

  -- what it leaves in memory
  leaves_as : (equal : Bool) (a number expected desired : ℕ) (w : Shared) → nat_eq number (expected % 2 ^ bits_of width) ≡ equal
      → shared_replaced a (bytes_of width) (if nat_eq number (expected % 2 ^ bits_of width) then Some desired else None) w ≡ shared_replaced a (bytes_of width) (if nat_eq number (expected % 2 ^ bits_of width) then Some (desired % 2 ^ bits_of width) else None) w
  leaves_as true a number expected desired w e =
      ap (λ (t : Bool). shared_replaced a (bytes_of width) (if t then Some desired else None) w) e ∙ ap (λ q. shared_wrote q w) (sym (cut_again a (bytes_of width) desired))
      ∙ ap (λ (t : Bool). shared_replaced a (bytes_of width) (if t then Some (desired % 2 ^ bits_of width) else None) w) (sym e)
  leaves_as false a number expected desired w e =
      ap (λ (t : Bool). shared_replaced a (bytes_of width) (if t then Some desired else None) w) e ∙ ap (λ (t : Bool). shared_replaced a (bytes_of width) (if t then Some (desired % 2 ^ bits_of width) else None) w) (sym e)

  pub exchange_rounds : Rounds op.Cmpxchg (narrow_exchange width)
  exchange_rounds c regs same =
      let n = bytes_of width in
      let rest = rest_of (size_of_bytes n) in
      stays c (AtAccess op.Cmpxchg (narrow_exchange width) regs)
      (record {
        effect = effect.Locked 0 0 (regs 6) n rest (Exchange (c.regs 0) (c.regs 2) true);
        is = λ w fit. exchange_effect width 2 c ∙ located width f (λ a m. effect.Locked 0 0 a m rest (Exchange (c.regs 0) (c.regs 2) true)) c regs w (same 6 refl) fit;
        object = λ w fit. object_of (regs 6) n w f.some fit;
        acts = λ p seen w fit below none. (
            let number = number_at w.mem (regs 6) n in
            let small : number < 2 ^ bits_of width = number_small w.mem fit.small (regs 6) n in
            happens_as (0 ∷ 2 ∷ []) regs _ _ (Deeds op.Cmpxchg (narrow_exchange width) p (effect.Locked 0 0 (regs 6) n rest (Exchange (c.regs 0) (c.regs 2) true)) c w) (atomic_exchanges target width f order weak p (regs 6) (regs 0) (regs 2) seen w fit (none refl))
            (record {
              world = leaves_as (nat_eq number (c.regs 0 % 2 ^ bits_of width)) (regs 6) number (c.regs 0) (c.regs 2) w refl
                  ∙ ap (λ (e : ℕ). shared_replaced (regs 6) n (if nat_eq number (e % 2 ^ bits_of width) then Some (c.regs 2 % 2 ^ bits_of width) else None) w) (same 0 refl)
                  ∙ ap (λ (d : ℕ). shared_replaced (regs 6) n (if nat_eq number (regs 0 % 2 ^ bits_of width) then Some (d % 2 ^ bits_of width) else None) w) (same 2 refl);
              output = refl;
              excused = refl;
              puts = answers number regs c _ same (found_by (nat_eq number (c.regs 0 % 2 ^ bits_of width)) number (c.regs 2) c small refl);
            }));
      })

-- ---- fences
fence_object : (s : Bool) (w : Shared) → HasObject (fence_as s) w
fence_object true w = tt
fence_object false w = tt

-- of an operation that leaves all as it is, where no own store waits if it is a full one
pub fence_round : (doing : Doing Shared) (s : Bool) → ((p a : ℕ) (seen : Option ℕ) (w : Shared) → (s ≡ true → w.pending p ≡ []) → doing.happens An_act p a [] seen w ≡ Some (results_with [] w)) → IsRound x86_kind is_kept (on_registers doing 6 [] []) (lone (fence_of s))
fence_round doing s fences c regs same =
    stays c _
    (record {
      effect = fence_as s;
      is = λ w fit. fence_effect s c;
      object = λ w fit. fence_object s w;
      acts = λ p seen w fit below none. happens_as [] regs _ _ _ (fences p (regs 6) seen w (λ e. none (ap (λ t. is_flushing (fence_as t)) e))) (acted s p w);
    })
  where
    acted : (s : Bool) (p : ℕ) (w : Shared) → Acted x86_kind is_kept (on_registers doing 6 [] []) (lone (fence_of s)) p (fence_as s) c w (record { regs = regs; seen = None; world = w; output = None; excused = false })
    acted true p w = record { world = refl; output = refl; excused = refl; puts = stays _ _ same }
    acted false p w = record { world = refl; output = refl; excused = refl; puts = stays _ _ same }

-- at any width
pub fence_rounds : (cx16 : Bool) (width : Width) (order : Order) (weak : Bool) (b : Bool) → IsRound x86_kind is_kept (on_registers (asking b (atomic_doing (X86 cx16) op.Fence width order weak)) 6 [] []) (lone (fence_of (is_seq_cst order)))
fence_rounds cx16 width order weak true = fence_round (numbered (atomic_doing (X86 cx16) op.Fence width order weak)) (is_seq_cst order) (λ p a seen w none. atomic_fences (X86 cx16) width order weak p a [] seen w none)
fence_rounds cx16 width order weak false = fence_round (atomic_doing (X86 cx16) op.Fence width order weak) (is_seq_cst order) (λ p a seen w none. atomic_fences (X86 cx16) width order weak p a [] seen w none)

-- ---- plain accesses
pub plain_load_rounds : (cx16 : Bool) (width : Width) → Narrow width → IsRound x86_kind every (on_registers (load_doing (X86 cx16) (bytes_of width)) 6 [] (0 ∷ [])) (lone (load_in (bytes_of width)))
plain_load_rounds cx16 width f = load_round (load_doing (X86 cx16) (bytes_of width)) width f (λ a args w fit. fit) every refl (λ p a seen w fit. refl)

pub plain_store_rounds : (cx16 : Bool) (width : Width) → Narrow width → IsRound x86_kind every (on_registers (store_doing (X86 cx16) (bytes_of width)) 6 (0 ∷ []) []) (lone (store_in (bytes_of width)))
plain_store_rounds cx16 width f = store_round (store_doing (X86 cx16) (bytes_of width)) width f (λ a args w fit. fit) every refl refl (λ p a v seen w. plain_waits cx16 width p a v seen w)
