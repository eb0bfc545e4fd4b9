-- Shifts by constants, operations on the bits of numbers of 128 bits, and whether such numbers are equal.
use Rattle.std.proofs.Common.{◌≡◌, ℕ, ◌*◌, ◌/◌, ◌%◌, ◌^◌, ◌<◌, ◌≤◌, pos, Bool, true, false, not, inl, [], ◌∷◌, ◌++◌, Some, refl, ap, ◌∙◌, subst, arith}
use Rattle.std.specs.Prelude.{if◌then◌else◌, nat_eq, bit_or, bit_xor}
use Rattle.std.proofs.Math.Nat.{div-le_self}
use Rattle.ax_check.specs.Accepted.{IsAccepted}
use Rattle.ax_check.specs.Laws.{AtInstructions, IsSound}
use Rattle.ax_module.specs.declared.inst.BinOp.{BinOp}
use Rattle.ax_module.specs.declared.inst.BinOp.TheVariants as bin
use Rattle.ax_module.specs.declared.inst.Inst.{Inst}
use Rattle.ax_module.specs.declared.inst.Inst.TheVariants as inst
use Rattle.ax_module.specs.declared.inst.Pred.{Pred}
use Rattle.ax_module.specs.declared.inst.Pred.TheVariants.{Eq, Ne}
use Rattle.ax_module.specs.declared.operand.Operand.{Operand}
use Rattle.ax_module.specs.declared.operand.Operand.TheVariants as operand
use Rattle.ax_module.specs.declared.types.Ty.{Ty}
use Rattle.ax_module.specs.declared.types.Ty.TheVariants.{I1}
use Rattle.ax_source_run.specs.SourceAccess.{gets, put_at}
use Rattle.ax_source_run.specs.SourceEvent.{expected_by, number_of_next, seen_by}
use Rattle.ax_source_run.specs.SourceInstructions.{access_of, changed, deed_of, is_unreachable, pointers_of, result_in}
use Rattle.ax_source_run.specs.SourceState.{Number, SourceProcessor, SourceProgram}
use Rattle.ax_source_run.specs.SourceValues.{computed, holds, number_of_flag, operand_of, shifted_down, type_bits}
use Rattle.ax_mid.specs.declared.code.Mid.{Mid}
use Rattle.ax_mid.specs.declared.instruction.MidInst.{MidInst}
use Rattle.ax_mid.specs.declared.instruction.MidInst.TheVariants as line
use Rattle.ax_mid.specs.declared.instruction.MidOp.{MidOp}
use Rattle.ax_mid.specs.declared.instruction.MidOp.TheVariants as op
use Rattle.ax_mid.specs.declared.instruction.MidShift.TheVariants as shift
use Rattle.ax_mid.specs.declared.registers.Virtual.{Virtual}
use Rattle.ax_mid.specs.Machine as machine
use Rattle.ax_mid.specs.Machine.{missed_by, private_step}
use Rattle.ax_mid.specs.Numbers.{applied, extended}
use Rattle.ax_mid.specs.Processor as mid
use Rattle.ax_mid.specs.Processor.{MidProcessor}
use Rattle.ax_rules.specs.declared.facts.Outcome.TheVariants as outcome
use Rattle.ax_rules.specs.Facts.{outcome_of}
use Rattle.ax_rules.specs.Parts.{operands_of}
use Rattle.ax_typed.proofs.Types.{ResultsFit}
use Rattle.ax_typed.specs.Typed.{IsOf, outcome_in}
use Rattle.ax_selected.specs.Contract.{Alike, Follows, Known, Stands}
use Rattle.ax_selected.specs.Laid.{IsLaid, piece_of}
use Rattle.ax_selected.specs.Operands.{high_into, is_narrow, low_into}
use Rattle.ax_selected.specs.Pieces.{Straight, apply, both_into, comparison, copy, cut_into, narrow_bin, narrow_icmp, wide_bin, wide_icmp, wide_op}
use Rattle.ax_selected.specs.Registers.{high_of, key, low_of, virtual}
use Rattle.ax_selected.specs.Selected.{piece, straight}
use Rattle.ax_selected.proofs.Arith.{wrapped_64}
use Rattle.ax_selected.proofs.Comparisons.{extends, flag_small}
use Rattle.ax_selected.proofs.Computes.{Gives, Held, IsCalm, IsPlain, gives, high_fetched, low_fetched, outcome_is}
use Rattle.ax_selected.proofs.Cuts.{and_halves, ashr_halves, equal_halves, lshr_halves, or_halves, shift_cut, shl_halves, xor_halves}
use Rattle.ax_selected.proofs.Registers.{Temps, fits_64, narrow_result, no_temps, put_other, temp, wide_result}
use Rattle.ax_selected.proofs.Straight.{runs_both}
use Rattle.ax_selected.proofs.Sums.{cut_fits, fetched, four, full, held_at, narrow_le, narrow_one_follows, number, temps_4, typed_at}

module _ (program : SourceProgram) (accepted : IsAccepted program) (law : AtInstructions IsSound) (fit : ResultsFit) (code : Mid Virtual) (begins : ℕ → ℕ → ℕ → ℕ) (laid : IsLaid program code.lines begins) (most base : ℕ) (enough : 512 ≤ most) (s : SourceProcessor) (c : MidProcessor) (numbers : ℕ → ℕ → ℕ) (alike : Alike s c) (here : Stands program.source begins s c) where
  abbrev k : ℕ
  k = number_of_next program s

  abbrev pub read : Ty → Operand → ℕ
  read t v = operand_of t v s.values

  abbrev pub at_0 : ℕ → MidProcessor
  at_0 a = mid.gets 0 a c

  temps_0 : (a : ℕ) → Temps c.regs (at_0 a).regs
  temps_0 a = temp c.regs c.regs 0 a (omega arith) (no_temps c.regs)

  module _ (i : Inst) (known : Known program s numbers i) where
    abbrev pub does_follow : Type 0
    does_follow = Follows key program code begins most base s c numbers i

    abbrev pub Calm : Type 0
    Calm = IsCalm program accepted law code begins laid most base s c numbers i known alike here

    abbrev pub Is : ℕ → Type 0
    Is n = number program accepted law fit code begins laid most base enough s c numbers alike here i known n

    abbrev is_given : (n : ℕ) (st : Straight) (x d : MidProcessor) → Gives program accepted law code begins laid most base s c numbers i known alike here (Number n) st x d → does_follow
    is_given n = gives program accepted law code begins laid most base s c numbers i known alike here (Number n)

    -- one operand, a step on register 0, and the low bits
    pub one_step : (t u : Ty) (v : Operand) (step : MidInst Virtual) (r n : ℕ) → piece_of program s i ≡ straight s.function k (record { silent = low_into 0 t v ∷ step ∷ []; last = cut_into (low_of k) 0 (type_bits u) }) → Is n → Calm
        → outcome_in program.source s.function k ≡ outcome.Number u → type_bits u ≤ 64 → Held v s.values c.regs → private_step key program.target code base step (at_0 (read t v % 2 ^ 64)) ≡ Some (mid.gets 0 r (at_0 (read t v % 2 ^ 64))) → r % 2 ^ type_bits u ≡ n → does_follow
    unfolding private_step machine.seen_by missed_by
    one_step t u v step r n is does calm out narrow hv steps value =
        let y = at_0 (read t v % 2 ^ 64) in
        let x = mid.gets 0 r y in
        let d = mid.gets (low_of k) (r % 2 ^ type_bits u) x in
        is_given n (record { silent = low_into 0 t v ∷ step ∷ []; last = cut_into (low_of k) 0 (type_bits u) }) x d (record {
          piece = is;
          does = does;
          calm = calm;
          few = omega (arith, enough);
          runs = (y, low_fetched program code base 0 t v s.values c hv, refl, (x, steps, refl, refl));
          last = refl;
          plain = record { seen = λ y ns. refl; missed = λ y. refl };
          place = refl;
          status = refl;
          pending = refl;
          matches = narrow_result program.source s c k here.matches d refl u n x.regs out known.typed narrow (subst (λ (q : ℕ). q < 2 ^ 64) value (cut_fits r (type_bits u) narrow))
              (temp c.regs y.regs 0 r (omega arith) (temps_0 (read t v % 2 ^ 64))) (ap (put_at x.regs (low_of k)) value);
        })

    -- one operand, two steps on register 0, and the low bits
    two_steps : (t : Ty) (v : Operand) (first second : MidInst Virtual) (q r n : ℕ) → piece_of program s i ≡ straight s.function k (record { silent = low_into 0 t v ∷ first ∷ second ∷ []; last = cut_into (low_of k) 0 (type_bits t) }) → Is n → Calm
        → outcome_in program.source s.function k ≡ outcome.Number t → type_bits t ≤ 64 → Held v s.values c.regs → private_step key program.target code base first (at_0 (read t v % 2 ^ 64)) ≡ Some (mid.gets 0 q (at_0 (read t v % 2 ^ 64)))
        → private_step key program.target code base second (mid.gets 0 q (at_0 (read t v % 2 ^ 64))) ≡ Some (mid.gets 0 r (mid.gets 0 q (at_0 (read t v % 2 ^ 64)))) → r % 2 ^ type_bits t ≡ n → does_follow
    unfolding private_step machine.seen_by missed_by
    two_steps t v first second q r n is does calm out narrow hv steps more value =
        let y = at_0 (read t v % 2 ^ 64) in
        let z = mid.gets 0 q y in
        let x = mid.gets 0 r z in
        let d = mid.gets (low_of k) (r % 2 ^ type_bits t) x in
        is_given n (record { silent = low_into 0 t v ∷ first ∷ second ∷ []; last = cut_into (low_of k) 0 (type_bits t) }) x d (record {
          piece = is;
          does = does;
          calm = calm;
          few = omega (arith, enough);
          runs = (y, low_fetched program code base 0 t v s.values c hv, refl, (z, steps, refl, (x, more, refl, refl)));
          last = refl;
          plain = record { seen = λ u ns. refl; missed = λ u. refl };
          place = refl;
          status = refl;
          pending = refl;
          matches = narrow_result program.source s c k here.matches d refl t n x.regs out known.typed narrow (subst (λ (p : ℕ). p < 2 ^ 64) value (cut_fits r (type_bits t) narrow))
              (temp c.regs z.regs 0 r (omega arith) (temp c.regs y.regs 0 q (omega arith) (temps_0 (read t v % 2 ^ 64)))) (ap (put_at x.regs (low_of k)) value);
        })

    -- one half of an operand in register 0, and from it the high half and then the low half of the result
    pub halves_follow : (t : Ty) (fetch step last : MidInst Virtual) (a low high n : ℕ) → piece_of program s i ≡ straight s.function k (record { silent = fetch ∷ step ∷ []; last = last }) → Is n → Calm
        → outcome_in program.source s.function k ≡ outcome.Number t → private_step key program.target code base fetch c ≡ Some (at_0 a) → private_step key program.target code base step (at_0 a) ≡ Some (mid.gets (high_of k) high (at_0 a))
        → private_step key program.target code base last (mid.gets (high_of k) high (at_0 a)) ≡ Some (mid.gets (low_of k) low (mid.gets (high_of k) high (at_0 a))) → IsPlain program code base last → low ≡ n % 2 ^ 64 → high ≡ n / 2 ^ 64 → does_follow
    halves_follow t fetch step last a low high n is does calm out fetches steps ends plain is_low is_high =
        let y = at_0 a in
        let x = mid.gets (high_of k) high y in
        let d = mid.gets (low_of k) low x in
        is_given n (record { silent = fetch ∷ step ∷ []; last = last }) x d (record {
          piece = is;
          does = does;
          calm = calm;
          few = omega (arith, enough);
          runs = (y, fetches, refl, (x, steps, refl, refl));
          last = ends;
          plain = plain;
          place = refl;
          status = refl;
          pending = refl;
          matches = wide_result program.source s c k here.matches d refl t n low high y.regs out is_low is_high (temps_0 a) refl;
        })

    -- an operation on both halves
    both_follow : (o : MidOp) (t : Ty) (v w : Operand) (low high n : ℕ) → piece_of program s i ≡ straight s.function k (wide_op o k t v w) → Is n → Calm → outcome_in program.source s.function k ≡ outcome.Number t → Held v s.values c.regs → Held w s.values c.regs
        → applied o (read t v % 2 ^ 64) (read t w % 2 ^ 64) ≡ low → applied o (read t v / 2 ^ 64) (read t w / 2 ^ 64) ≡ high → low ≡ n % 2 ^ 64 → high ≡ n / 2 ^ 64 → does_follow
    unfolding private_step machine.seen_by missed_by
    both_follow o t v w low high n is does calm out hv hw value_low value_high is_low is_high =
        let f = four program accepted law fit code begins laid most base enough s c numbers alike here i known t v w hv hw in
        let x = mid.gets (high_of k) high f in
        let d = mid.gets (low_of k) low x in
        let zero = put_other f.regs (high_of k) high 0 (inl (omega arith)) in
        let two = put_other f.regs (high_of k) high 2 (inl (omega arith)) in
        is_given n (wide_op o k t v w) x d (record {
          piece = is;
          does = does;
          calm = calm;
          few = omega (arith, enough);
          runs = runs_both program.target code base (both_into t v w) (apply o (high_of k) 1 3 ∷ []) c f x (fetched program accepted law fit code begins laid most base enough s c numbers alike here i known t v w hv hw)
              (x, ap (λ (r : ℕ). Some (mid.gets (high_of k) r f)) value_high, refl, refl);
          last = ap (λ (r : ℕ). Some (mid.gets (low_of k) (applied o r (x.regs 2)) x)) zero ∙ (ap (λ (r : ℕ). Some (mid.gets (low_of k) (applied o (read t v % 2 ^ 64) r) x)) two ∙ ap (λ (r : ℕ). Some (mid.gets (low_of k) r x)) value_low);
          plain = record { seen = λ u ns. refl; missed = λ u. refl };
          place = refl;
          status = refl;
          pending = refl;
          matches = wide_result program.source s c k here.matches d refl t n low high f.regs out is_low is_high (temps_4 program accepted law fit code begins laid most base enough s c numbers alike here i known t v w hv hw) refl;
        })

  -- ---- shifts of at most 64 bits
  pub shl_narrow : (t : Ty) (v : Operand) (n : ℕ) → Known program s numbers (inst.Bin bin.Shl t v (operand.Const (pos n))) → is_narrow t ≡ true → Follows key program code begins most base s c numbers (inst.Bin bin.Shl t v (operand.Const (pos n)))
  unfolding piece operands_of outcome_of deed_of access_of result_in is_unreachable pointers_of seen_by expected_by private_step
  shl_narrow t v n known e =
      let w = operand.Const (pos n) in
      let i = inst.Bin bin.Shl t v w in
      let by = read t w in
      let narrow = narrow_le t e in
      let whole = full program accepted law fit code begins laid most base enough s c numbers alike here t (read t v) narrow (typed_at program accepted law fit code begins laid most base enough s c numbers alike here i known 0 t v refl) in
      one_step i known t t v (line.Shift shift.Shl (virtual 0) (virtual 0) by) (read t v % 2 ^ 64 * 2 ^ by % 2 ^ 64) (read t v * 2 ^ by % 2 ^ type_bits t)
      (ap (λ (b : Bool). straight s.function k (if b then narrow_bin bin.Shl k t v w else wide_bin bin.Shl k t v w)) e)
      refl (record { seen = refl; expected = refl }) (outcome_is program accepted law code begins laid most base s c numbers i known alike here) narrow (held_at program accepted law fit code begins laid most base enough s c numbers alike here i known 0 t v refl)
      refl (ap (λ (a : ℕ). a * 2 ^ by % 2 ^ 64 % 2 ^ type_bits t) whole ∙ wrapped_64 (read t v * 2 ^ by) (type_bits t) narrow)

  pub lshr_narrow : (t : Ty) (v : Operand) (n : ℕ) → Known program s numbers (inst.Bin bin.Lshr t v (operand.Const (pos n))) → is_narrow t ≡ true → Follows key program code begins most base s c numbers (inst.Bin bin.Lshr t v (operand.Const (pos n)))
  unfolding piece operands_of outcome_of deed_of access_of result_in is_unreachable pointers_of seen_by expected_by private_step machine.seen_by missed_by
  lshr_narrow t v n known e =
      let w = operand.Const (pos n) in
      let i = inst.Bin bin.Lshr t v w in
      let by = read t w in
      let narrow = narrow_le t e in
      let typed = typed_at program accepted law fit code begins laid most base enough s c numbers alike here i known 0 t v refl in
      let whole = full program accepted law fit code begins laid most base enough s c numbers alike here t (read t v) narrow typed in
      let below = fits_64 (read t v) (type_bits t) narrow typed in
      let down = div-le_self (read t v) (2 ^ by) in
      narrow_one_follows program accepted law fit code begins laid most base enough s c numbers alike here i known t t v (line.Shift shift.Lshr (virtual (low_of k)) (virtual 0) by) (read t v / 2 ^ by)
      (ap (λ (b : Bool). straight s.function k (if b then narrow_bin bin.Lshr k t v w else wide_bin bin.Lshr k t v w)) e)
      refl (record { seen = refl; expected = refl }) (outcome_is program accepted law code begins laid most base s c numbers i known alike here) narrow (omega (arith, below, down)) (held_at program accepted law fit code begins laid most base enough s c numbers alike here i known 0 t v refl)
      (ap (λ (a : ℕ). Some (mid.gets (low_of k) (a / 2 ^ by) (at_0 (read t v % 2 ^ 64)))) whole) (record { seen = λ u ns. refl; missed = λ u. refl })

  pub ashr_narrow : (t : Ty) (v : Operand) (n : ℕ) → Known program s numbers (inst.Bin bin.Ashr t v (operand.Const (pos n))) → is_narrow t ≡ true → 1 ≤ type_bits t → Follows key program code begins most base s c numbers (inst.Bin bin.Ashr t v (operand.Const (pos n)))
  unfolding piece operands_of outcome_of deed_of access_of result_in is_unreachable pointers_of seen_by expected_by private_step
  ashr_narrow t v n known e some =
      let w = operand.Const (pos n) in
      let i = inst.Bin bin.Ashr t v w in
      let by = read t w in
      let narrow = narrow_le t e in
      let typed = typed_at program accepted law fit code begins laid most base enough s c numbers alike here i known 0 t v refl in
      let ext = extended (type_bits t) true (read t v % 2 ^ 64) in
      let is = extends program accepted law code begins laid most base enough s c numbers alike here true (type_bits t) (read t v) typed narrow in
      two_steps i known t v (line.Extend (virtual 0) (virtual 0) (type_bits t) true) (line.Shift shift.Ashr (virtual 0) (virtual 0) by) ext (shifted_down 64 ext by) (shifted_down (type_bits t) (read t v) by)
      (ap (λ (b : Bool). straight s.function k (if b then narrow_bin bin.Ashr k t v w else wide_bin bin.Ashr k t v w)) e)
      refl (record { seen = refl; expected = refl }) (outcome_is program accepted law code begins laid most base s c numbers i known alike here) narrow (held_at program accepted law fit code begins laid most base enough s c numbers alike here i known 0 t v refl)
      refl refl (ap (λ (a : ℕ). shifted_down 64 a by % 2 ^ type_bits t) is ∙ shift_cut (type_bits t) (read t v) by some narrow typed)

  -- ---- of 128 bits, by 64
  module _ (t : Ty) (v : Operand) (bits : type_bits t ≡ 128) (e : is_narrow t ≡ false) where
    abbrev by_64 : Operand
    by_64 = operand.Const (pos 64)

    amount : read t by_64 ≡ 64
    amount = ap (λ (b : ℕ). 64 % 2 ^ b) bits

    below : (n : ℕ) → IsOf t n → n < 2 ^ 128
    below n h = subst (λ (b : ℕ). n < 2 ^ b) bits h

    pub shl_wide : Known program s numbers (inst.Bin bin.Shl t v by_64) → Follows key program code begins most base s c numbers (inst.Bin bin.Shl t v by_64)
    unfolding piece operands_of outcome_of deed_of access_of result_in is_unreachable pointers_of seen_by expected_by private_step machine.seen_by missed_by
    shl_wide known =
        let i = inst.Bin bin.Shl t v by_64 in
        let a = below (read t v) (typed_at program accepted law fit code begins laid most base enough s c numbers alike here i known 0 t v refl) in
        let h = shl_halves (read t v) a in
        halves_follow i known t (low_into 0 t v) (copy (high_of k) 0) (line.Const (virtual (low_of k)) 0) (read t v % 2 ^ 64) 0 (read t v % 2 ^ 64) (read t v * 2 ^ 64 % 2 ^ 128)
        (ap (λ (x : Bool). straight s.function k (if x then narrow_bin bin.Shl k t v by_64 else wide_bin bin.Shl k t v by_64)) e)
        (ap (λ (x : ℕ). changed program s (gets k (Number (read t v * 2 ^ x % 2 ^ type_bits t)) s) numbers) amount ∙ ap (λ (x : ℕ). changed program s (gets k (Number (read t v * 2 ^ 64 % 2 ^ x)) s) numbers) bits)
        (record { seen = refl; expected = refl }) (outcome_is program accepted law code begins laid most base s c numbers i known alike here)
        (low_fetched program code base 0 t v s.values c (held_at program accepted law fit code begins laid most base enough s c numbers alike here i known 0 t v refl)) refl refl (record { seen = λ u ns. refl; missed = λ u. refl }) h.0 h.1

    pub lshr_wide : Known program s numbers (inst.Bin bin.Lshr t v by_64) → Follows key program code begins most base s c numbers (inst.Bin bin.Lshr t v by_64)
    unfolding piece operands_of outcome_of deed_of access_of result_in is_unreachable pointers_of seen_by expected_by private_step machine.seen_by missed_by
    lshr_wide known =
        let i = inst.Bin bin.Lshr t v by_64 in
        let a = below (read t v) (typed_at program accepted law fit code begins laid most base enough s c numbers alike here i known 0 t v refl) in
        let h = lshr_halves (read t v) a in
        let zero = put_other (at_0 (read t v / 2 ^ 64)).regs (high_of k) 0 0 (inl (omega arith)) in
        halves_follow i known t (high_into 0 t v) (line.Const (virtual (high_of k)) 0) (copy (low_of k) 0) (read t v / 2 ^ 64) (read t v / 2 ^ 64) 0 (read t v / 2 ^ 64)
        (ap (λ (x : Bool). straight s.function k (if x then narrow_bin bin.Lshr k t v by_64 else wide_bin bin.Lshr k t v by_64)) e)
        (ap (λ (x : ℕ). changed program s (gets k (Number (read t v / 2 ^ x)) s) numbers) amount)
        (record { seen = refl; expected = refl }) (outcome_is program accepted law code begins laid most base s c numbers i known alike here)
        (high_fetched program code base 0 t v s.values c (held_at program accepted law fit code begins laid most base enough s c numbers alike here i known 0 t v refl)) refl
        (ap (λ (r : ℕ). Some (mid.gets (low_of k) r (mid.gets (high_of k) 0 (at_0 (read t v / 2 ^ 64))))) zero) (record { seen = λ u ns. refl; missed = λ u. refl }) h.0 h.1

    pub ashr_wide : Known program s numbers (inst.Bin bin.Ashr t v by_64) → Follows key program code begins most base s c numbers (inst.Bin bin.Ashr t v by_64)
    unfolding piece operands_of outcome_of deed_of access_of result_in is_unreachable pointers_of seen_by expected_by private_step machine.seen_by missed_by
    ashr_wide known =
        let i = inst.Bin bin.Ashr t v by_64 in
        let a = below (read t v) (typed_at program accepted law fit code begins laid most base enough s c numbers alike here i known 0 t v refl) in
        let h = ashr_halves (read t v) a in
        let high = shifted_down 64 (read t v / 2 ^ 64) 63 in
        let zero = put_other (at_0 (read t v / 2 ^ 64)).regs (high_of k) high 0 (inl (omega arith)) in
        halves_follow i known t (high_into 0 t v) (line.Shift shift.Ashr (virtual (high_of k)) (virtual 0) 63) (copy (low_of k) 0) (read t v / 2 ^ 64) (read t v / 2 ^ 64) high (shifted_down 128 (read t v) 64)
        (ap (λ (x : Bool). straight s.function k (if x then narrow_bin bin.Ashr k t v by_64 else wide_bin bin.Ashr k t v by_64)) e)
        (ap (λ (x : ℕ). changed program s (gets k (Number (shifted_down (type_bits t) (read t v) x)) s) numbers) amount ∙ ap (λ (x : ℕ). changed program s (gets k (Number (shifted_down x (read t v) 64)) s) numbers) bits)
        (record { seen = refl; expected = refl }) (outcome_is program accepted law code begins laid most base s c numbers i known alike here)
        (high_fetched program code base 0 t v s.values c (held_at program accepted law fit code begins laid most base enough s c numbers alike here i known 0 t v refl)) refl
        (ap (λ (r : ℕ). Some (mid.gets (low_of k) r (mid.gets (high_of k) high (at_0 (read t v / 2 ^ 64))))) zero) (record { seen = λ u ns. refl; missed = λ u. refl }) h.0 h.1

  -- ---- bits of numbers of 128 bits
  wide_bits : (o : BinOp) (p : MidOp) (t : Ty) (v w : Operand) → Known program s numbers (inst.Bin o t v w) → is_narrow t ≡ false → wide_bin o k t v w ≡ wide_op p k t v w
      → (applied p (read t v % 2 ^ 64) (read t w % 2 ^ 64) ≡ computed o (type_bits t) (read t v) (read t w) % 2 ^ 64) × (applied p (read t v / 2 ^ 64) (read t w / 2 ^ 64) ≡ computed o (type_bits t) (read t v) (read t w) / 2 ^ 64)
      → Follows key program code begins most base s c numbers (inst.Bin o t v w)
  unfolding piece operands_of outcome_of deed_of access_of result_in is_unreachable pointers_of seen_by expected_by
  wide_bits o p t v w known e is h =
      let i = inst.Bin o t v w in
      both_follow i known p t v w (applied p (read t v % 2 ^ 64) (read t w % 2 ^ 64)) (applied p (read t v / 2 ^ 64) (read t w / 2 ^ 64)) (computed o (type_bits t) (read t v) (read t w))
      (ap (λ (x : Bool). straight s.function k (if x then narrow_bin o k t v w else wide_bin o k t v w)) e ∙ ap (straight s.function k) is)
      refl (record { seen = refl; expected = refl }) (outcome_is program accepted law code begins laid most base s c numbers i known alike here)
      (held_at program accepted law fit code begins laid most base enough s c numbers alike here i known 0 t v refl) (held_at program accepted law fit code begins laid most base enough s c numbers alike here i known 1 t w refl) refl refl h.0 h.1

  pub and_wide : (t : Ty) (v w : Operand) → Known program s numbers (inst.Bin bin.And t v w) → is_narrow t ≡ false → Follows key program code begins most base s c numbers (inst.Bin bin.And t v w)
  and_wide t v w known e = wide_bits bin.And op.And t v w known e refl (and_halves (read t v) (read t w))

  pub or_wide : (t : Ty) (v w : Operand) → Known program s numbers (inst.Bin bin.Or t v w) → is_narrow t ≡ false → Follows key program code begins most base s c numbers (inst.Bin bin.Or t v w)
  or_wide t v w known e = wide_bits bin.Or op.Or t v w known e refl (or_halves (read t v) (read t w))

  pub xor_wide : (t : Ty) (v w : Operand) → Known program s numbers (inst.Bin bin.Xor t v w) → is_narrow t ≡ false → Follows key program code begins most base s c numbers (inst.Bin bin.Xor t v w)
  xor_wide t v w known e = wide_bits bin.Xor op.Xor t v w known e refl (xor_halves (read t v) (read t w))

  -- ---- whether two numbers of 128 bits are equal
  module _ (p : Pred) (o : MidOp) (t : Ty) (v w : Operand) (known : Known program s numbers (inst.Icmp p t v w)) where
    abbrev equal : Bool → ℕ
    equal b = number_of_flag (if b then nat_eq (read t v) (read t w) else not (nat_eq (read t v) (read t w)))

    icmp_both : (b : Bool) → is_narrow t ≡ false → wide_icmp (comparison p) k t v w ≡ record { silent = both_into t v w ++ apply op.Xor 0 0 2 ∷ apply op.Xor 1 1 3 ∷ apply op.Or 0 0 1 ∷ line.Const (virtual 1) 0 ∷ []; last = apply o (low_of k) 0 1 }
        → ((x : ℕ) → applied o x 0 ≡ number_of_flag (if b then nat_eq x 0 else not (nat_eq x 0))) → number_of_flag (holds p (type_bits t) (read t v) (read t w)) ≡ equal b → Follows key program code begins most base s c numbers (inst.Icmp p t v w)
    unfolding piece operands_of outcome_of deed_of access_of result_in is_unreachable pointers_of seen_by expected_by private_step machine.seen_by missed_by
    icmp_both b e is tests value =
        let i = inst.Icmp p t v w in
        let hv = held_at program accepted law fit code begins laid most base enough s c numbers alike here i known 0 t v refl in
        let hw = held_at program accepted law fit code begins laid most base enough s c numbers alike here i known 1 t w refl in
        let f = four program accepted law fit code begins laid most base enough s c numbers alike here i known t v w hv hw in
        let t4 = temps_4 program accepted law fit code begins laid most base enough s c numbers alike here i known t v w hv hw in
        let a = bit_xor (read t v % 2 ^ 64) (read t w % 2 ^ 64) in
        let d = bit_xor (read t v / 2 ^ 64) (read t w / 2 ^ 64) in
        let y1 = mid.gets 0 a f in
        let y2 = mid.gets 1 d y1 in
        let y3 = mid.gets 0 (bit_or a d) y2 in
        let x = mid.gets 1 0 y3 in
        let n = equal b in
        let z = mid.gets (low_of k) n x in
        let rest = apply op.Xor 0 0 2 ∷ apply op.Xor 1 1 3 ∷ apply op.Or 0 0 1 ∷ line.Const (virtual 1) 0 ∷ [] in
        let st : Straight = record { silent = both_into t v w ++ rest; last = apply o (low_of k) 0 1 } in
        let flag : applied o (bit_or a d) 0 ≡ n = tests (bit_or a d) ∙ ap (λ (q : Bool). number_of_flag (if b then q else not q)) (equal_halves (read t v) (read t w)) in
        is_given i known n st x z (record {
          piece = ap (λ (q : Bool). straight s.function k (if q then narrow_icmp (comparison p) k t v w else wide_icmp (comparison p) k t v w)) e ∙ ap (straight s.function k) is;
          does = ap (λ (q : ℕ). changed program s (gets k (Number q) s) numbers) value;
          calm = record { seen = refl; expected = refl };
          few = omega (arith, enough);
          runs = runs_both program.target code base (both_into t v w) rest c f x (fetched program accepted law fit code begins laid most base enough s c numbers alike here i known t v w hv hw)
              (y1, refl, refl, (y2, refl, refl, (y3, refl, refl, (x, refl, refl, refl))));
          last = ap (λ (r : ℕ). Some (mid.gets (low_of k) r x)) flag;
          plain = record { seen = λ u ns. refl; missed = λ u. refl };
          place = refl;
          status = refl;
          pending = refl;
          matches = narrow_result program.source s c k here.matches z refl I1 n x.regs (outcome_is program accepted law code begins laid most base s c numbers i known alike here) known.typed (omega arith) (flag_small (if b then nat_eq (read t v) (read t w) else not (nat_eq (read t v) (read t w))))
              (temp c.regs y3.regs 1 0 (omega arith) (temp c.regs y2.regs 0 (bit_or a d) (omega arith) (temp c.regs y1.regs 1 d (omega arith) (temp c.regs f.regs 0 a (omega arith) t4)))) refl;
        })

  pub eq_wide : (t : Ty) (v w : Operand) → Known program s numbers (inst.Icmp Eq t v w) → is_narrow t ≡ false → Follows key program code begins most base s c numbers (inst.Icmp Eq t v w)
  eq_wide t v w known e = icmp_both Eq op.Eq t v w known true e refl (λ x. refl) refl

  pub ne_wide : (t : Ty) (v w : Operand) → Known program s numbers (inst.Icmp Ne t v w) → is_narrow t ≡ false → Follows key program code begins most base s c numbers (inst.Icmp Ne t v w)
  ne_wide t v w known e = icmp_both Ne op.Ne t v w known false e refl (λ x. refl) refl
