use Rattle.std.proofs.Common.{arith}
use Rattle.ax_io.proofs.Writes.{Appends-take}
use Rattle.ax_io.proofs.host_sink.write_whole.Goals as goal

pub loop-at-preserved : goal.loop-at-preserved
loop-at-preserved g c =
    (omega (arith, c.in_ok-n.ensures.bound), Appends-take _ _ _ _ _ _ c.loop-at.invariant.1 c.in_ok-n.ensures.bytes)
