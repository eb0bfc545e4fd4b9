use Rattle.ax_run.proofs.Elements.{Stored}
use Rattle.ax_run.proofs.globals.store_elements.Given as goal

abbrev pub invariant-loop-i : goal.invariant-loop-i
invariant-loop-i l = Stored l.program l.g l.i l.initial.store l.store
