-- Comparisons of numbers of at most 64 bits.
use Rattle.std.proofs.Common.{◌≡◌, ℕ, ◌%◌, ◌^◌, ◌<◌, ◌≤◌, Bool, true, false, not, Some, None, refl, ap, ◌∙◌, arith}
use Rattle.std.specs.Prelude.{if◌then◌else◌, int_lt}
use Rattle.ax_check.specs.Accepted.{IsAccepted}
use Rattle.ax_check.specs.Laws.{AtInstructions, IsSound}
use Rattle.ax_module.specs.declared.inst.Inst.TheVariants as inst
use Rattle.ax_module.specs.declared.inst.Pred.{Pred}
use Rattle.ax_module.specs.declared.inst.Pred.TheVariants.{Eq, Ne, Ugt, Uge, Ult, Ule, Sgt, Sge, Slt, Sle}
use Rattle.ax_module.specs.declared.operand.Operand.{Operand}
use Rattle.ax_module.specs.declared.types.Ty.{Ty}
use Rattle.ax_source_run.specs.SourceEvent.{expected_by, number_of_next, seen_by}
use Rattle.ax_source_run.specs.SourceInstructions.{access_of, deed_of, is_unreachable, pointers_of, result_in}
use Rattle.ax_source_run.specs.SourceState.{Number, SourceProcessor, SourceProgram}
use Rattle.ax_source_run.specs.SourceValues.{holds, number_of_flag, operand_of, type_bits, wrapped}
use Rattle.ax_mid.specs.declared.code.Mid.{Mid}
use Rattle.ax_mid.specs.declared.registers.Virtual.{Virtual}
use Rattle.ax_mid.specs.Machine as machine
use Rattle.ax_mid.specs.Machine.{missed_by, private_step}
use Rattle.ax_mid.specs.Numbers.{applied, extended}
use Rattle.ax_mid.specs.Processor as mid
use Rattle.ax_mid.specs.Processor.{MidProcessor}
use Rattle.ax_ops.specs.Operation.{signed}
use Rattle.ax_rules.specs.Facts.{outcome_of}
use Rattle.ax_rules.specs.Parts.{operands_of}
use Rattle.ax_typed.proofs.Facts.{operand_at}
use Rattle.ax_typed.proofs.Standing as standing
use Rattle.ax_selected.specs.Contract.{Alike, Follows, Known, Stands}
use Rattle.ax_selected.specs.Laid.{IsLaid}
use Rattle.ax_selected.specs.Operands.{is_narrow}
use Rattle.ax_selected.specs.Pieces.{Comparison, apply, comparison, narrow_icmp, wide_icmp}
use Rattle.ax_selected.specs.Registers.{key, low_of}
use Rattle.ax_selected.specs.Selected.{piece, straight}
use Rattle.ax_selected.proofs.Computes.{gives, held, held_temps, low_fetched, outcome_is}
use Rattle.ax_selected.proofs.Elements.{cut_again}
use Rattle.ax_selected.proofs.Registers.{narrow_result, no_temps, temp}
use Rattle.ax_selected.proofs.Signs.{sign_kept}
use Rattle.ax_selected.proofs.Sums.{narrow_le}

-- what a comparison gives, of two numbers as they are extended
abbrev compared_by : Comparison → ℕ → ℕ → ℕ
compared_by c a b = if c.swapped then applied c.operation b a else applied c.operation a b

abbrev pub as_signed : Bool → ℕ → ℕ → ℕ
as_signed false bits a = a
as_signed true bits a = wrapped 64 (signed bits a)

pub flag_small : (b : Bool) → number_of_flag b < 2 ^ 64
flag_small true = omega arith
flag_small false = omega arith

compares : (p : Pred) (bits a b : ℕ) → 1 ≤ bits → bits ≤ 64 → a < 2 ^ bits → b < 2 ^ bits → compared_by (comparison p) (as_signed (comparison p).signed bits a) (as_signed (comparison p).signed bits b) ≡ number_of_flag (holds p bits a b)
compares Eq bits a b some few h g = refl
compares Ne bits a b some few h g = refl
compares Ugt bits a b some few h g = refl
compares Uge bits a b some few h g = refl
compares Ult bits a b some few h g = refl
compares Ule bits a b some few h g = refl
compares Sgt bits a b some few h g = ap (λ z. number_of_flag (int_lt z (signed 64 (wrapped 64 (signed bits a))))) (sign_kept bits b some few g) ∙ ap (λ z. number_of_flag (int_lt (signed bits b) z)) (sign_kept bits a some few h)
compares Sge bits a b some few h g = ap (λ z. number_of_flag (not (int_lt z (signed 64 (wrapped 64 (signed bits b)))))) (sign_kept bits a some few h) ∙ ap (λ z. number_of_flag (not (int_lt (signed bits a) z))) (sign_kept bits b some few g)
compares Slt bits a b some few h g = ap (λ z. number_of_flag (int_lt z (signed 64 (wrapped 64 (signed bits b))))) (sign_kept bits a some few h) ∙ ap (λ z. number_of_flag (int_lt (signed bits a) z)) (sign_kept bits b some few g)
compares Sle bits a b some few h g = ap (λ z. number_of_flag (not (int_lt z (signed 64 (wrapped 64 (signed bits a)))))) (sign_kept bits b some few g) ∙ ap (λ z. number_of_flag (not (int_lt (signed bits b) z))) (sign_kept bits a some few h)

module _ (program : SourceProgram) (accepted : IsAccepted program) (law : AtInstructions IsSound) (code : Mid Virtual) (begins : ℕ → ℕ → ℕ → ℕ) (laid : IsLaid program code.lines begins) (most base : ℕ) (enough : 512 ≤ most) (s : SourceProcessor) (c : MidProcessor) (numbers : ℕ → ℕ → ℕ) (alike : Alike s c) (here : Stands program.source begins s c) where
  abbrev k : ℕ
  k = number_of_next program s

  -- the low bits of a register, extended
  pub extends : (sign : Bool) (bits n : ℕ) → n < 2 ^ bits → bits ≤ 64 → extended bits sign (n % 2 ^ 64) ≡ as_signed sign bits n
  extends false bits n h le = cut_again program accepted law code begins laid most base enough s c numbers alike here n bits h le
  extends true bits n h le = ap (λ (x : ℕ). wrapped 64 (signed bits x)) (cut_again program accepted law code begins laid most base enough s c numbers alike here n bits h le)

  pub icmp_narrow : (p : Pred) (t : Ty) (v w : Operand) → (known : Known program s numbers (inst.Icmp p t v w)) → is_narrow t ≡ true → 1 ≤ type_bits t → Follows key program code begins most base s c numbers (inst.Icmp p t v w)
  unfolding piece operands_of outcome_of deed_of access_of result_in is_unreachable pointers_of seen_by expected_by private_step machine.seen_by missed_by
  icmp_narrow p t v w known e some =
      let i = inst.Icmp p t v w in
      let cmp = comparison p in
      let bits = type_bits t in
      let few = narrow_le t e in
      let stands = standing.stands program accepted law s i known.next in
      let a = operand_of t v s.values in
      let b = operand_of t w s.values in
      let ta = operand_at program accepted law s known.typed i stands 0 t v refl in
      let tb = operand_at program accepted law s known.typed i stands 1 t w refl in
      let hv = held program accepted law code begins laid most base s c numbers i known alike here 0 t v refl in
      let hw = held program accepted law code begins laid most base s c numbers i known alike here 1 t w refl in
      let n = number_of_flag (holds p bits a b) in
      let y1 = mid.gets 0 (a % 2 ^ 64) c in
      let t1 = temp c.regs c.regs 0 (a % 2 ^ 64) (omega arith) (no_temps c.regs) in
      let y2 = mid.gets 1 (b % 2 ^ 64) y1 in
      let t2 = temp c.regs y1.regs 1 (b % 2 ^ 64) (omega arith) t1 in
      let ea = extended bits cmp.signed (a % 2 ^ 64) in
      let eb = extended bits cmp.signed (b % 2 ^ 64) in
      let y3 = mid.gets 0 ea y2 in
      let t3 = temp c.regs y2.regs 0 ea (omega arith) t2 in
      let x = mid.gets 1 eb y3 in
      let t4 = temp c.regs y3.regs 1 eb (omega arith) t3 in
      let d = mid.gets (low_of k) n x in
      let value : compared_by cmp ea eb ≡ n = ap (λ (r : ℕ). compared_by cmp r eb) (extends cmp.signed bits a ta few) ∙ (ap (λ (r : ℕ). compared_by cmp (as_signed cmp.signed bits a) r) (extends cmp.signed bits b tb few) ∙ compares p bits a b some few ta tb) in
      gives program accepted law code begins laid most base s c numbers i known alike here (Number n) (narrow_icmp cmp k t v w) x d (record {
        piece = ap (λ (q : Bool). straight s.function k (if q then narrow_icmp cmp k t v w else wide_icmp cmp k t v w)) e;
        does = refl;
        calm = record { seen = refl; expected = refl };
        few = omega (arith, enough);
        runs = (y1, low_fetched program code base 0 t v s.values c hv, refl, (y2, low_fetched program code base 1 t w s.values y1 (held_temps w s.values c.regs y1.regs t1 hw), refl, (y3, refl, refl, (x, refl, refl, refl))));
        last = step cmp.swapped cmp.operation x ∙ ap (λ (r : ℕ). Some (mid.gets (low_of k) r x)) value;
        plain = record { seen = λ u ns. seen_none cmp.swapped cmp.operation u ns; missed = λ u. missed_none cmp.swapped cmp.operation u };
        place = refl;
        status = refl;
        pending = refl;
        matches = narrow_result program.source s c k here.matches d refl Rattle.ax_module.specs.declared.types.Ty.TheVariants.I1 n x.regs (outcome_is program accepted law code begins laid most base s c numbers i known alike here) known.typed (omega arith) (flag_small (holds p bits a b)) t4 refl;
      })
    where
      step : (q : Bool) (o : Rattle.ax_mid.specs.declared.instruction.MidOp.MidOp) (u : MidProcessor) → private_step key program.target code base (if q then apply o (low_of k) 1 0 else apply o (low_of k) 0 1) u ≡ Some (mid.gets (low_of k) (if q then applied o (u.regs 1) (u.regs 0) else applied o (u.regs 0) (u.regs 1)) u)
      step true o u = refl
      step false o u = refl

      seen_none : (q : Bool) (o : Rattle.ax_mid.specs.declared.instruction.MidOp.MidOp) (u : MidProcessor) (ns : ℕ → ℕ → ℕ) → machine.seen_by key program.target code base (if q then apply o (low_of k) 1 0 else apply o (low_of k) 0 1) u ns ≡ None
      seen_none true o u ns = refl
      seen_none false o u ns = refl

      missed_none : (q : Bool) (o : Rattle.ax_mid.specs.declared.instruction.MidOp.MidOp) (u : MidProcessor) → missed_by key program.target code base (if q then apply o (low_of k) 1 0 else apply o (low_of k) 0 1) u ≡ None
      missed_none true o u = refl
      missed_none false o u = refl
