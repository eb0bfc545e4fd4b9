use Rattle.ax_store.proofs.Writing.{Sofar}
use Rattle.ax_store.proofs.memory.Memory.write_each.Given as goal

abbrev pub invariant-loop-i : goal.invariant-loop-i
invariant-loop-i l = Sofar l.fn.self l.self l.a l.i l.v
