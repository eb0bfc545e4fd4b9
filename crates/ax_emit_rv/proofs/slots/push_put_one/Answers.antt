use Rattle.ax_emit.specs.Table.{put}
use Rattle.ax_emit_rv.specs.Slots.{rv_table}
use Rattle.ax_emit_rv.proofs.Emitting.{one_silent}
use Rattle.ax_emit_rv.proofs.slots.push_put_one.Goals as goal

pub returns : goal.returns
returns c = one_silent (put rv_table c.args.to.0 c.args.rs) _ _ c.in_ok-push_put.ensures
