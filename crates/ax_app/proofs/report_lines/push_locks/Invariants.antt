use Rattle.std.proofs.Common.{◌≡◌, ◌++◌, ◌-◌}
use Rattle.std.specs.String.{string_bytes}
use Rattle.ax_isa.specs.Run.{Machine}
use Rattle.ax_run.specs.Machine.{Shows}
use Rattle.ax_app.specs.Report.{lock_part}
use Rattle.ax_app.proofs.report_lines.push_locks.Given as goal

-- what was appended and what is left is the whole
abbrev pub invariant-loop-i : goal.invariant-loop-i
invariant-loop-i l = (m : Machine) → Shows l.run.machine m → string_bytes l.out ++ lock_part m l.i (l.count - l.i) ≡ string_bytes l.initial.out ++ lock_part m 0 l.count
