use Rattle.std.proofs.Common.{◌≡◌, ◌+◌, ◌-◌}
use Rattle.ax_store.specs.Bytes.{all_inside}
use Rattle.ax_store.specs.Places.{is_inside}
use Rattle.ax_store.proofs.memory.Memory.each_inside.Given as goal

abbrev pub invariant-loop-i : goal.invariant-loop-i
invariant-loop-i l = all_inside (is_inside l.self) l.a l.n ≡ all_inside (is_inside l.self) (l.a + l.i) (l.n - l.i)
