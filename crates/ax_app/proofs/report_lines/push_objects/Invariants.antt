use Rattle.std.proofs.Common.{◌≡◌, ◌++◌, drop, map}
use Rattle.std.specs.String.{string_bytes}
use Rattle.ax_isa.specs.Run.{Machine}
use Rattle.ax_run.specs.Machine.{Shows}
use Rattle.ax_app.specs.Report.{object_part}
use Rattle.ax_app.proofs.report_lines.push_objects.Given as goal

-- what was appended and what is left is the whole
abbrev pub invariant-loop-global : goal.invariant-loop-global
invariant-loop-global l =
    (l.g ≡ l.global-index)
    × ((m : Machine) → Shows l.run.machine m
    → string_bytes l.out ++ object_part l.run.program m.noted.storage.mem l.global-index (map (λ x. x.name) (drop l.global-index l.globals)) ≡ string_bytes l.initial.out ++ object_part l.run.program m.noted.storage.mem 0 (map (λ x. x.name) l.globals))
