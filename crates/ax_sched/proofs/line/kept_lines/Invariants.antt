use Rattle.std.proofs.Common.{◌≡◌, ◌+◌, ◌++◌, drop, map}
use Rattle.ax_sched.specs.Lines.{kept_from}
use Rattle.ax_sched.proofs.line.kept_lines.Given as goal

abbrev pub invariant-loop-i : goal.invariant-loop-i
invariant-loop-i l =
    map (λ x. (x.0, x.1.now)) l.kept.items ++ kept_from (l.i + 1) (map (λ x. x.now) (drop l.i l.lines)) ≡ kept_from 1 (map (λ x. x.now) l.lines)
