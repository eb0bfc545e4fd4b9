use Rattle.std.proofs.Common.{◌++◌, []}
use Rattle.ax_emit_rv.specs.Slots.{get}
use Rattle.ax_emit_rv.proofs.Emitting.{both_silent, one_silent}
use Rattle.ax_emit_rv.proofs.slots.push_get_three.Goals as goal

pub returns : goal.returns
returns c =
    let last = one_silent (get 7 c.args.y.0) _ _ c.in_ok-push_get-3.ensures in
    let rest = both_silent (get 6 c.args.x.0) (get 7 c.args.y.0 ++ []) _ _ _ c.in_ok-push_get-2.ensures last in
    both_silent (get 5 c.args.test.0) (get 6 c.args.x.0 ++ (get 7 c.args.y.0 ++ [])) _ _ _ c.in_ok-push_get.ensures rest
