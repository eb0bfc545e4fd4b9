use Rattle.std.proofs.Common.{append_assoc}
use Rattle.ax_print.proofs.report.push_head.Goals as goal

pub returns : goal.returns
returns c = simp append_assoc (rw (← c.name-name.ensures) c.writeln.ensures.bytes)
