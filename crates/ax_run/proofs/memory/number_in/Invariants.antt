use Rattle.ax_store.specs.Store.{storage_of}
use Rattle.ax_store.proofs.Reading.{Sofar}
use Rattle.ax_run.proofs.memory.number_in.Given as goal

abbrev pub invariant-loop-i : goal.invariant-loop-i
invariant-loop-i l = Sofar (storage_of l.store).mem l.address l.i l.n l.number

abbrev pub decreases-loop-i : goal.decreases-loop-i
decreases-loop-i l = l.i
