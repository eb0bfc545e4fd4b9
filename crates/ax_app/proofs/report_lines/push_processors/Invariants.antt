use Rattle.std.proofs.Common.{◌≡◌, ◌++◌, ◌-◌}
use Rattle.std.specs.String.{string_bytes}
use Rattle.ax_isa.specs.Run.{Machine}
use Rattle.ax_run.specs.Machine.{Shows}
use Rattle.ax_app.specs.Report.{processor_part}
use Rattle.ax_app.proofs.report_lines.push_processors.Given as goal

-- what was appended and what is left is the whole
abbrev pub invariant-loop-p : goal.invariant-loop-p
invariant-loop-p l =
    (m : Machine) → Shows l.run.machine m → string_bytes l.out ++ processor_part l.run.program m l.p (l.p-end - l.p) ≡ string_bytes l.initial.out ++ processor_part l.run.program m 0 l.p-end
