use Rattle.ax_emit.proofs.Behind.{Behinds}
use Rattle.ax_emit.proofs.labels.Labels.of.Given as goal

abbrev pub invariant-loop-j : goal.invariant-loop-j
invariant-loop-j g l = Behinds l.lines l.j l.found.entries
