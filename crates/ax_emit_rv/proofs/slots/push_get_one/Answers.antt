use Rattle.ax_emit_rv.specs.Slots.{get}
use Rattle.ax_emit_rv.proofs.Emitting.{one_silent}
use Rattle.ax_emit_rv.proofs.slots.push_get_one.Goals as goal

pub returns : goal.returns
returns c = one_silent (get c.args.rd c.args.from.0) _ _ c.in_ok-push_get.ensures
