use Rattle.ax_run.proofs.Elements.{StoredFrom}
use Rattle.ax_run.proofs.globals.store_globals.Given as goal

abbrev pub invariant-loop-g : goal.invariant-loop-g
invariant-loop-g l = StoredFrom l.program l.g l.initial.store l.store

abbrev pub decreases-loop-g : goal.decreases-loop-g
decreases-loop-g l = l.g
