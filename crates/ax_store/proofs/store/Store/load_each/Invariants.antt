use Rattle.ax_store.specs.Storage.{seen}
use Rattle.ax_store.specs.Store.{storage_of}
use Rattle.ax_store.proofs.Reading.{Sofar}
use Rattle.ax_store.proofs.store.Store.load_each.Given as goal

abbrev pub invariant-loop-i : goal.invariant-loop-i
invariant-loop-i l = Sofar (seen l.p (storage_of l.self)) l.a l.i l.n l.value

abbrev pub decreases-loop-i : goal.decreases-loop-i
decreases-loop-i l = l.i
