-- `lock cmpxchg16b`: what it finds, and a load and a compare-exchange of 16 bytes by it.
use Rattle.std.proofs.Common.{◌≡◌, ℕ, ◌+◌, ◌*◌, ◌/◌, ◌%◌, ◌^◌, ◌<◌, ◌≤◌, Bool, true, false, List, [], ◌∷◌, ◌++◌, Option, Some, None, refl, sym, ap, ◌∙◌, subst, inl, inr, arith}
use Rattle.std.specs.Prelude.{◌≢◌, ◌⊎◌, if◌then◌else◌, nat_eq, pos}
use Rattle.std.proofs.lemmas.Bool.{eq-eqb, eqb-true, false≢true, ne_eqb}
use Rattle.ax_words.specs.declared.mark.Op.{Op}
use Rattle.ax_words.specs.declared.mark.Op.TheVariants as op
use Rattle.ax_words.specs.declared.order.Order.{Order}
use Rattle.ax_words.specs.declared.width.Width.TheVariants.{W128}
use Rattle.ax_store.specs.Bytes.{number_at}
use Rattle.ax_store.specs.Storage.{at_place, entry_of, newest}
use Rattle.ax_store.proofs.Numbers.{number_small}
use Rattle.ax_target.specs.declared.target.Target.{Target}
use Rattle.ax_target.specs.declared.target.Target.TheVariants.{X86}
use Rattle.ax_source_run.specs.SourceValues.{number_of_flag}
use Rattle.ax_isa.specs.declared.effects.Change.TheVariants.{Exchange}
use Rattle.ax_isa.specs.declared.effects.Effect.{Effect}
use Rattle.ax_isa.specs.declared.effects.Effect.TheVariants as effect
use Rattle.ax_isa.specs.declared.effects.Rest.TheVariants.{Zeros}
use Rattle.ax_isa.specs.Numbers.{displaced}
use Rattle.ax_isa.specs.Processor.{Processor}
use Rattle.ax_isa.specs.Steps.{changed, exchanged, unequal}
use Rattle.ax_isa.specs.Tells.{An_act}
use Rattle.ax_isa.proofs.Functions.{at_same, at_other}
use Rattle.ax_x86.specs.declared.instructions.X86Instr.{X86Instr}
use Rattle.ax_x86.specs.declared.instructions.X86Instr.TheVariants as x86
use Rattle.ax_x86.specs.Instructions.{effect_of, x86_kind}
use Rattle.ax_fine.specs.OnBytes.{IsObject, atomic_doing, results_with, sent_out}
use Rattle.ax_expand.specs.Doing.{Result, on_registers}
use Rattle.ax_expand.specs.Operation.{Deed, Keeps, Operation}
use Rattle.ax_expand.specs.Shared.{Object, Shared, masked, shared_replaced, shared_wrote}
use Rattle.ax_emit_x86.specs.Code.{at_address}
use Rattle.ax_emit_x86.specs.Laws.{is_kept}
use Rattle.ax_mask.proofs.Found.{object_of, sent_same}
use Rattle.ax_cas.specs.Codes.{args_of_op, flag_in, numbered, results_of_op, wide_exchange, wide_load}
use Rattle.ax_cas.specs.Loops.{restored, saved, zeroed}
use Rattle.ax_cas.specs.Rounds.{Accesses, Acted, IsBelowFrames, IsRound, Reaches, Straight}
use Rattle.ax_cas.proofs.Accesses.{at_object, happens_as, stays}
use Rattle.ax_cas.proofs.Compares.{zero_over_zero}
use Rattle.ax_cas.proofs.Inline.{flag_reaches}
use Rattle.ax_cas.proofs.Running.{behind_all, keeps_each, reaches}
use Rattle.ax_cas.proofs.WideValues.{halves_are, whole}
use Rattle.ax_cas.proofs.Widths.{Results}

-- an operation on 16 bytes on its registers
abbrev pub wide_operation : Bool → Op → Order → Bool → Operation Shared
wide_operation cx16 o order weak = on_registers (numbered (atomic_doing (X86 cx16) o W128 order weak)) 6 (args_of_op o true) (results_of_op o true)

pub wide_object : (a : ℕ) (w : Shared) → IsObject a 16 w → Object a 16 w
wide_object a w o = object_of a 16 w (omega arith) o

-- ---- the instruction
abbrev pub swapping : ℕ → ℕ → ℕ → Effect
swapping a expected new = effect.Locked 0 2 a 16 Zeros (Exchange expected new true)

swap_effect : (c : Processor) → effect_of (x86.LockCmpxchg16b at_address) c ≡ swapping (displaced (c.regs 6) (pos 0)) (whole (c.regs 0) (c.regs 2)) (whole (c.regs 3) (c.regs 1))
unfolding effect_of
swap_effect c = refl

pub swap_is : (c : Processor) (regs : ℕ → ℕ) (w : Shared) → c.regs 6 ≡ regs 6 → IsObject (regs 6) 16 w → effect_of (x86.LockCmpxchg16b at_address) c ≡ swapping (regs 6) (whole (c.regs 0) (c.regs 2)) (whole (c.regs 3) (c.regs 1))
swap_is c regs w same o = swap_effect c ∙ ap (λ a. swapping a (whole (c.regs 0) (c.regs 2)) (whole (c.regs 3) (c.regs 1))) (at_object (c.regs 6) (regs 6) 16 w same o)

-- behind it: what it found in rax and rdx, which had the number that it compared with
abbrev pub swapped : ℕ → ℕ → Processor → Processor
swapped new found c = exchanged 16 0 2 Zeros (Exchange (whole (c.regs 0) (c.regs 2)) new true) found c

pub record Swapped (found : ℕ) (c b : Processor) : Type 0 where
  pub low : b.regs 0 ≡ found % 2 ^ 64
  pub high : b.regs 2 ≡ found / 2 ^ 64
  pub others : (q : ℕ) → q ≢ 0 → q ≢ 2 → b.regs q ≡ c.regs q

whole_small : (a b : ℕ) → a < 2 ^ 64 → b < 2 ^ 64 → whole a b % 2 ^ 128 ≡ whole a b
whole_small a b h g = omega (arith, h, g)

abbrev left_if : ℕ → Processor → Bool → ℕ → ℕ
left_if found c equal = if equal then c.regs else at_place (at_place c.regs 0 (found % 2 ^ 64)) 2 (found / 2 ^ 64)

swapped_by : (equal : Bool) (new found : ℕ) (c : Processor) → c.regs 0 < 2 ^ 64 → c.regs 2 < 2 ^ 64 → nat_eq found (whole (c.regs 0) (c.regs 2) % 2 ^ 128) ≡ equal → Swapped found c (swapped new found c)
swapped_by true new found c h g e =
    let is : found ≡ whole (c.regs 0) (c.regs 2) = eqb-true _ _ e ∙ whole_small (c.regs 0) (c.regs 2) h g in
    record {
      low = ap (λ (t : Bool). left_if found c t 0) e ∙ (let q : c.regs 0 ≡ found % 2 ^ 64 = omega (arith, is, h) in q);
      high = ap (λ (t : Bool). left_if found c t 2) e ∙ (let q : c.regs 2 ≡ found / 2 ^ 64 = omega (arith, is, h) in q);
      others = λ q ne nf. ap (λ (t : Bool). left_if found c t q) e;
    }
swapped_by false new found c h g e =
    record {
      low = ap (λ (t : Bool). left_if found c t 0) e;
      high = ap (λ (t : Bool). left_if found c t 2) e;
      others = λ q ne nf. ap (λ (t : Bool). left_if found c t q) e ∙ at_other (at_place c.regs 0 (found % 2 ^ 64)) 2 _ q nf ∙ at_other c.regs 0 _ q ne;
    }

pub swapped_is : (new found : ℕ) (c : Processor) → c.regs 0 < 2 ^ 64 → c.regs 2 < 2 ^ 64 → Swapped found c (swapped new found c)
swapped_is new found c h g = swapped_by _ new found c h g refl

-- ---- a load: zero by zero
-- an object that is 0 is left as it is
pub zero_left : (a : ℕ) (w : Shared) → IsBelowFrames w → shared_replaced a 16 (changed 16 (Exchange 0 0 true) (number_at w.mem a 16)) w ≡ w
zero_left a w below = by (nat_eq (number_at w.mem a 16) 0) refl
  where
    by : (t : Bool) → nat_eq (number_at w.mem a 16) 0 ≡ t → shared_replaced a 16 (if t then Some 0 else None) w ≡ w
    by false e = refl
    by true e = ap (λ (g : ℕ → ℕ). record w { mem = g }) (ap masked (zero_over_zero w.inside w.mem a 16 (eqb-true _ _ e)) ∙ below)

module _ (cx16 : Bool) (order : Order) (weak : Bool) where
  abbrev target : Target
  target = X86 cx16

  abbrev Rounds : Op → Straight X86Instr → Type 0
  Rounds o z = IsRound x86_kind is_kept (wide_operation cx16 o order weak) z

  abbrev AtAccess : Op → Straight X86Instr → (ℕ → ℕ) → Processor → Type 0
  AtAccess o z regs b = Accesses x86_kind is_kept (wide_operation cx16 o order weak) z regs b

  abbrev Deeds : Op → Straight X86Instr → ℕ → Effect → Processor → Shared → Deed Shared → Type 0
  Deeds o z p e c w d = Acted x86_kind is_kept (wide_operation cx16 o order weak) z p e c w d

  abbrev found_in : ℕ → Shared → Option (Result Shared)
  found_in n w = Some (results_with (n % 2 ^ 64 ∷ n / 2 ^ 64 ∷ []) w)

  wide_loads : (p a : ℕ) (seen : Option ℕ) (w : Shared) → w.pending p ≡ [] → (atomic_doing target op.Load W128 order weak).happens An_act p a [] seen w ≡ found_in (number_at w.mem a 16) w
  wide_loads p a seen w none = ap (λ es. found_in (number_at (λ b. newest (w.inside b) es b (w.mem b)) a 16) w) none

  pub load_rounds : Rounds op.Load wide_load
  load_rounds c regs same =
      let b = behind_all (saved ++ zeroed) c in
      reaches (saved ++ zeroed) c (AtAccess op.Load wide_load regs) refl
      (record {
        effect = swapping (regs 6) 0 0;
        is = λ w fit. swap_is b regs w (same 6 refl) fit.0;
        object = λ w fit. wide_object (regs 6) w fit.0;
        acts = λ p seen w fit below none. (
            let found = number_at w.mem (regs 6) 16 in
            let s = swapped_is 0 found b (omega arith) (omega arith) in
            happens_as (0 ∷ 2 ∷ []) regs _ _ (Deeds op.Load wide_load p (swapping (regs 6) 0 0) b w) (wide_loads p (regs 6) seen w (none refl))
            (record {
              world = zero_left (regs 6) w below;
              output = refl;
              excused = refl;
              puts = reaches restored _ _ refl
                  (keeps_each _ _ s.low (s.others 11 (λ e. omega (arith, e)) (λ e. omega (arith, e)) ∙ same 1 refl) s.high (s.others 10 (λ e. omega (arith, e)) (λ e. omega (arith, e)) ∙ same 3 refl) (s.others 4 (λ e. omega (arith, e)) (λ e. omega (arith, e)) ∙ same 4 refl) (s.others 6 (λ e. omega (arith, e)) (λ e. omega (arith, e)) ∙ same 6 refl));
            }));
      })

  -- ---- a compare-exchange
  abbrev exchanged_in : ℕ → ℕ → ℕ → Shared → Option (Result Shared)
  exchanged_in a expected desired w =
      (let found = number_at w.mem a 16 in
      let equal = nat_eq found expected in
      Some (results_with (found % 2 ^ 64 ∷ found / 2 ^ 64 ∷ number_of_flag equal ∷ []) (shared_replaced a 16 (if equal then Some desired else None) w)))

  wide_exchanges : (p a e0 e1 d0 d1 : ℕ) (seen : Option ℕ) (w : Shared) → w.pending p ≡ [] → (atomic_doing target op.Cmpxchg W128 order weak).happens An_act p a (e0 ∷ e1 ∷ d0 ∷ d1 ∷ []) seen w ≡ exchanged_in a (whole e0 e1) (whole d0 d1) w
  wide_exchanges p a e0 e1 d0 d1 seen w none = ap (exchanged_in a (whole e0 e1) (whole d0 d1)) (sent_same p w none)

  -- the flag
  flag_is : (t : Bool) → nat_eq 0 (unequal t) ≡ t
  flag_is true = refl
  flag_is false = refl

  pub exchange_rounds : Rounds op.Cmpxchg wide_exchange
  exchange_rounds c regs same =
      let expected = whole (c.regs 0) (c.regs 2) in
      let new = whole (c.regs 3) (c.regs 1) in
      let e = swapping (regs 6) expected new in
      stays c (AtAccess op.Cmpxchg wide_exchange regs)
      (record {
        effect = e;
        is = λ w fit. swap_is c regs w (same 6 refl) fit.0;
        object = λ w fit. wide_object (regs 6) w fit.0;
        acts = λ p seen w fit below none. (
            let found = number_at w.mem (regs 6) 16 in
            let low : c.regs 0 < 2 ^ 64 = subst (λ v. v < 2 ^ 64) (sym (same 0 refl)) fit.1.0 in
            let high : c.regs 2 < 2 ^ 64 = subst (λ v. v < 2 ^ 64) (sym (same 2 refl)) fit.1.1.0 in
            let s = swapped_is new found c low high in
            let b = swapped new found c in
            let expected_is : expected % 2 ^ 128 ≡ whole (regs 0) (regs 2) = whole_small (c.regs 0) (c.regs 2) low high ∙ ap (λ v. whole v (c.regs 2)) (same 0 refl) ∙ ap (whole (regs 0)) (same 2 refl) in
            let new_is : new ≡ whole (regs 3) (regs 1) = ap (λ v. whole v (c.regs 1)) (same 3 refl) ∙ ap (whole (regs 3)) (same 1 refl) in
            let r = flag_reaches 3 b in
            happens_as (0 ∷ 2 ∷ 3 ∷ []) regs _ _ (Deeds op.Cmpxchg wide_exchange p e c w) (wide_exchanges p (regs 6) (regs 0) (regs 2) (regs 3) (regs 1) seen w (none refl))
            (record {
              world = ap (λ (v : ℕ). shared_replaced (regs 6) 16 (if nat_eq found v then Some new else None) w) expected_is ∙ ap (λ (v : ℕ). shared_replaced (regs 6) 16 (if nat_eq found (whole (regs 0) (regs 2)) then Some v else None) w) new_is;
              output = refl;
              excused = refl;
              puts = record {
                last = r.last;
                goes = r.goes;
                known = keeps_each _ _
                    (r.known.others 0 (λ e. omega (arith, e)) ∙ s.low)
                    (r.known.others 1 (λ e. omega (arith, e)) ∙ s.others 1 (λ e. omega (arith, e)) (λ e. omega (arith, e)) ∙ same 1 refl)
                    (r.known.others 2 (λ e. omega (arith, e)) ∙ s.high)
                    (r.known.is ∙ ap number_of_flag (flag_is (nat_eq found (expected % 2 ^ 128)) ∙ ap (nat_eq found) expected_is))
                    (r.known.others 4 (λ e. omega (arith, e)) ∙ s.others 4 (λ e. omega (arith, e)) (λ e. omega (arith, e)) ∙ same 4 refl)
                    (r.known.others 6 (λ e. omega (arith, e)) ∙ s.others 6 (λ e. omega (arith, e)) (λ e. omega (arith, e)) ∙ same 6 refl);
              };
            }));
      })
