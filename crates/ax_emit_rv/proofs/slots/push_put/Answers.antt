use Rattle.std.proofs.Common.{◌++◌, ◌∷◌, [], ◌∙◌, ap}
use Rattle.ax_rv.specs.declared.instructions.RvInstr.{RvInstr}
use Rattle.ax_expand.specs.Standing.{silently}
use Rattle.ax_emit_rv.specs.Slots.{put_first, put_last}
use Rattle.ax_emit_rv.proofs.Emitting.{both_silent}
use Rattle.ax_emit_rv.proofs.slots.push_put.Goals as goal

pub returns : goal.returns
returns c =
    let last = c.in_ok-push_silent.ensures ∙ ap (λ (i : RvInstr). c.push_put_first.new.out.items ++ silently (i ∷ [])) c.put_last.ensures in
    both_silent (put_first c.args.slot c.args.rs2) (put_last c.args.slot c.args.rs2 ∷ []) _ _ _ c.in_ok-push_put_first.ensures last
