use Rattle.std.proofs.Common.{◌∷◌, [], ◌++◌, ◌∙◌, ap}
use Rattle.ax_rv.specs.declared.instructions.Shift.{Shift as ShiftOp}
use Rattle.ax_rv.specs.declared.instructions.RvInstr.TheVariants.{Shift}
use Rattle.ax_expand.specs.Standing.{silently}
use Rattle.ax_emit_rv.specs.Code.{get_one, shift_of}
use Rattle.ax_emit_rv.specs.Emitters.{slot_of}
use Rattle.ax_emit_rv.proofs.Emitting.{both_silent, computed_is}
use Rattle.ax_emit_rv.proofs.computed.push_shifted.Goals as goal

pub returns : goal.returns
returns c =
    let got = get_one slot_of 7 c.args.from in
    let shifts = λ (o : ShiftOp). Shift o 7 7 c.args.by ∷ [] in
    let last = c.in_ok-push_shift.ensures ∙ ap (λ (o : ShiftOp). c.push_get_one.new.out.items ++ silently (shifts o)) c.shift_of.ensures in
    let made = both_silent got (shifts (shift_of c.args.op)) _ _ _ c.in_ok-push_get_one.ensures last in
    computed_is c.args.to (got ++ shifts (shift_of c.args.op)) _ _ _ made c.in_ok-push_result.ensures
