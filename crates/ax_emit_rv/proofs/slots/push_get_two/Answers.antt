use Rattle.std.proofs.Common.{◌++◌, []}
use Rattle.ax_emit_rv.specs.Slots.{get}
use Rattle.ax_emit_rv.proofs.Emitting.{both_silent, one_silent}
use Rattle.ax_emit_rv.proofs.slots.push_get_two.Goals as goal

pub returns : goal.returns
returns c =
    let last = one_silent (get 6 c.args.right.0) _ _ c.in_ok-push_get-2.ensures in
    both_silent (get 5 c.args.left.0) (get 6 c.args.right.0 ++ []) _ _ _ c.in_ok-push_get.ensures last
