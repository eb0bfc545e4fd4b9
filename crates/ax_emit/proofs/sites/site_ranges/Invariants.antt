use Rattle.ax_emit.proofs.Ranges.{Covered}
use Rattle.ax_emit.proofs.sites.site_ranges.Given as goal

abbrev pub invariant-loop-j : goal.invariant-loop-j
invariant-loop-j g l = Covered l.lines l.places l.j l.ranges.items l.current
