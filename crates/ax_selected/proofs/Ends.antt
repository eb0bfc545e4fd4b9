-- Instructions of one line: a return, an unreachable, an alloca, an output, a fence.
use Rattle.std.proofs.Common.{◌≡◌, ℕ, ◌+◌, ◌%◌, ◌^◌, ◌≤◌, Bool, true, List, [], ◌∷◌, Option, Some, None, length, refl, sym, ap, ◌∙◌, subst, arith}
use Rattle.std.specs.Prelude.{if◌then◌else◌}
use Rattle.ax_check.specs.Accepted.{IsAccepted}
use Rattle.ax_check.specs.Laws.{AtInstructions, IsSound}
use Rattle.ax_module.specs.declared.inst.Inst.TheVariants as inst
use Rattle.ax_module.specs.declared.operand.Arg.TheVariants as arg
use Rattle.ax_module.specs.declared.operand.Operand.{Operand}
use Rattle.ax_module.specs.declared.types.Ty.{Ty}
use Rattle.ax_module.specs.declared.types.Ty.TheVariants.{I64}
use Rattle.ax_source_run.specs.SourceAccess.{Deed}
use Rattle.ax_source_run.specs.SourceEvent.{expected_by, number_of_next, seen_by}
use Rattle.ax_source_run.specs.SourceInstructions.{access_of, deed, deed_of, done_by, is_out, is_unreachable, pointers_of, result_in, written}
use Rattle.ax_source_run.specs.SourceState.{PointsTo, Private, SourceProcessor, SourceProgram}
use Rattle.ax_source_run.specs.SourceValues.{operand_of}
use Rattle.ax_mid.specs.declared.code.Line.{Line}
use Rattle.ax_mid.specs.declared.code.Mid.{Mid}
use Rattle.ax_mid.specs.declared.instruction.MidInst.TheVariants as line
use Rattle.ax_mid.specs.declared.registers.Virtual.{Virtual}
use Rattle.ax_mid.specs.Machine as machine
use Rattle.ax_mid.specs.Machine.{act_if, act_step, missed_by, private_step, shared_step}
use Rattle.ax_mid.specs.Processor as mid
use Rattle.ax_mid.specs.Processor.{MidDeed, MidProcessor}
use Rattle.ax_words.specs.declared.source.SourceStatus.TheVariants.{Ended, Running}
use Rattle.ax_rules.specs.declared.facts.Outcome.{Outcome}
use Rattle.ax_rules.specs.Facts.{outcome_of}
use Rattle.ax_rules.specs.Parts.{operands_of}
use Rattle.ax_typed.proofs.Facts.{operand_at}
use Rattle.ax_typed.proofs.Standing as standing
use Rattle.ax_selected.specs.Contract.{Alike, Follows, Known, Leaves, Stands}
use Rattle.ax_selected.specs.Laid.{HasAt, IsLaid, piece_of}
use Rattle.ax_selected.specs.Matches.{HoldsValue}
use Rattle.ax_selected.specs.Registers.{key}
use Rattle.ax_selected.specs.Selected.{lone, out_operand, piece, straight}
use Rattle.ax_selected.proofs.Computes.{calm_follows, gives, has, held, low_fetched, next_place, outcome_is}
use Rattle.ax_selected.proofs.Entering.{not_moved}
use Rattle.ax_selected.proofs.Reaching.{trap_follows}
use Rattle.ax_selected.proofs.Registers.{half_below, no_temps, only_temps, temp, values_get, values_temps}
use Rattle.ax_selected.proofs.Straight.{comes, stops}

module _ (program : SourceProgram) (accepted : IsAccepted program) (law : AtInstructions IsSound) (code : Mid Virtual) (begins : ℕ → ℕ → ℕ → ℕ) (laid : IsLaid program code.lines begins) (most base : ℕ) (enough : 512 ≤ most) (s : SourceProcessor) (c : MidProcessor) (numbers : ℕ → ℕ → ℕ) (alike : Alike s c) (here : Stands program.source begins s c) where
  abbrev k : ℕ
  k = number_of_next program s

  pub unreachable_follows : Known program s numbers inst.Unreachable → Follows key program code begins most base s c numbers inst.Unreachable
  unfolding piece is_unreachable seen_by
  unreachable_follows known =
      let at = has program accepted law code begins laid most base s c numbers inst.Unreachable known alike here in
      trap_follows program accepted law code begins laid most base enough s c numbers alike here inst.Unreachable known refl refl
      (record { at = c; moved = not_moved c; way = stops program.target code base s.function k line.Trap c most at.0; line = at.0 })

  pub ret_follows : Known program s numbers inst.RetVoid → Follows key program code begins most base s c numbers inst.RetVoid
  unfolding piece is_unreachable pointers_of deed_of seen_by expected_by private_step shared_step machine.seen_by missed_by
  ret_follows known =
      let at = has program accepted law code begins laid most base s c numbers inst.RetVoid known alike here in
      let way = stops program.target code base s.function k line.Ret c most at.0 in
      calm_follows program accepted law code begins laid most base s c numbers inst.RetVoid known alike here line.Ret c (record { seen = refl; expected = refl }) (record { seen = λ y ns. refl; missed = λ y. refl }) way at.0
      (record {
        does = record { processor = record c { status = Ended; seen = None }; numbers = numbers; output = None };
        is = ap (λ (u : MidProcessor). act_step key program.target code base u numbers) way ∙ ap (λ (o : Option (Line Virtual)). act_if key program.target code base o c numbers) at.0;
        leaves = record { numbers = refl; output = refl; alike = record { status = refl; seen = refl; pending = alike.pending }; stands = λ r. absurd (never r); unseen = λ r. refl };
      })
    where
      never : Ended ≡ Running → ⊥
      never e = cc

  pub alloca_follows : (t : Ty) (count : ℕ) (align : Option ℕ) → Known program s numbers (inst.Alloca t count align) → Follows key program code begins most base s c numbers (inst.Alloca t count align)
  unfolding piece is_unreachable pointers_of deed_of access_of result_in outcome_of seen_by expected_by private_step shared_step machine.seen_by missed_by
  alloca_follows t count align known =
      let i = inst.Alloca t count align in
      let v = PointsTo (record { object = Private k; index = 0 }) in
      let out = outcome_is program accepted law code begins laid most base s c numbers i known alike here in
      gives program accepted law code begins laid most base s c numbers i known alike here v (lone line.Nop) c (mid.goes_on c) (record {
        piece = refl;
        does = refl;
        calm = record { seen = refl; expected = refl };
        few = omega (arith, enough);
        runs = refl;
        last = refl;
        plain = record { seen = λ y ns. refl; missed = λ y. refl };
        place = refl;
        status = refl;
        pending = refl;
        matches = record {
          values = values_get program.source s.function k s.values v c.regs c.regs here.matches.values (only_temps k c.regs c.regs (no_temps c.regs)) (subst (λ (o : Outcome). HoldsValue o c.regs k v) (sym out) tt);
          allocas = here.matches.allocas;
        };
      })

  -- of `@out`
  pub out_follows : (result : Option Ty) (name : List ℕ) (v : Operand) → (known : Known program s numbers (inst.Call result name (arg.Value I64 v ∷ []))) → is_out name ≡ true → Follows key program code begins most base s c numbers (inst.Call result name (arg.Value I64 v ∷ []))
  unfolding piece is_unreachable pointers_of deed_of seen_by expected_by operands_of private_step shared_step machine.seen_by missed_by
  out_follows result name v known e =
      let args = arg.Value I64 v ∷ [] in
      let i = inst.Call result name args in
      let n = operand_of I64 v s.values in
      let x = mid.gets 0 (n % 2 ^ 64) c in
      let rest = out_operand s.function k args in
      let is : piece_of program s i ≡ straight s.function k rest = ap (λ (b : Bool). if b then straight s.function k rest else straight s.function k (lone line.Nop)) e in
      let at = comes program.target code base s.function k rest c x most (omega (arith, enough)) (subst (HasAt code.lines c.place) is (has program accepted law code begins laid most base s c numbers i known alike here))
      (x, low_fetched program code base 0 I64 v s.values c (held program accepted law code begins laid most base s c numbers i known alike here 0 I64 v refl), refl, refl) in
      let typed = operand_at program accepted law s known.typed i (standing.stands program accepted law s i known.next) 0 I64 v refl in
      let full : n % 2 ^ 64 ≡ n = (half_below n typed).0 in
      let d : ℕ → MidDeed = λ w. record { processor = record x { place = x.place + 1; seen = None }; numbers = numbers; output = Some w } in
      let does : deed program s k numbers i ≡ written program s args numbers = ap (λ (b : Bool). if b then written program s args numbers else done_by program s (access_of program s i) (result_in program s k i) k numbers) e in
      let next = next_place program accepted law code begins laid most base s c numbers i known alike here in
      let leaves : Leaves program.source begins (written program s args numbers) (d n) = record {
        numbers = refl;
        output = refl;
        alike = record { status = alike.status; seen = refl; pending = alike.pending };
        stands = λ r. record {
          place = place_is (length (piece_of program s i)) (begins s.function s.block (s.index + 1)) (ap length is) next;
          matches = record { values = values_temps program.source s.function s.values c.regs x.regs (temp c.regs c.regs 0 (n % 2 ^ 64) (omega arith) (no_temps c.regs)) here.matches.values; allocas = here.matches.allocas };
        };
        unseen = λ r. refl;
      } in
      calm_follows program accepted law code begins laid most base s c numbers i known alike here rest.last x (record { seen = refl; expected = refl }) (record { seen = λ y ns. refl; missed = λ y. refl }) at.ready at.line
      (record {
        does = d n;
        is = ap (λ (u : MidProcessor). act_step key program.target code base u numbers) at.ready ∙ (ap (λ (o : Option (Line Virtual)). act_if key program.target code base o x numbers) at.line ∙ ap (λ (w : ℕ). Some (d w)) full);
        leaves = subst (λ (t : Deed). Leaves program.source begins t (d n)) (sym does) leaves;
      })
    where
      place_is : (n there : ℕ) → n ≡ 2 → there ≡ c.place + n → c.place + 1 + 1 ≡ there
      place_is n there e h = omega (arith, e, h)
