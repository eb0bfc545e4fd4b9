use Rattle.std.proofs.Common.{◌≡◌, ◌++◌, ◌-◌}
use Rattle.std.specs.String.{string_bytes}
use Rattle.ax_isa.specs.Run.{Machine}
use Rattle.ax_run.specs.Machine.{Shows}
use Rattle.ax_app.specs.Report.{element_lines}
use Rattle.ax_app.proofs.report_lines.push_elements.Given as goal

-- what was appended and what is left is the whole
abbrev pub invariant-loop-i : goal.invariant-loop-i
invariant-loop-i l =
    (m : Machine) → Shows l.run.machine m
    → string_bytes l.out ++ element_lines l.run.program m.noted.storage.mem l.g l.name l.i (l.count - l.i) ≡ string_bytes l.initial.out ++ element_lines l.run.program m.noted.storage.mem l.g l.name 0 l.count
