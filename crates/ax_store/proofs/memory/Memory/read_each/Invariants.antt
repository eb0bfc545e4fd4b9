use Rattle.ax_store.specs.Places.{byte_at}
use Rattle.ax_store.proofs.Reading.{Sofar}
use Rattle.ax_store.proofs.memory.Memory.read_each.Given as goal

abbrev pub invariant-loop-i : goal.invariant-loop-i
invariant-loop-i l = Sofar (byte_at l.self) l.a l.i l.n l.value

abbrev pub decreases-loop-i : goal.decreases-loop-i
decreases-loop-i l = l.i
