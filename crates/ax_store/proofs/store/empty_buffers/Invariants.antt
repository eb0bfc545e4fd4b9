use Rattle.std.proofs.Common.{◌≡◌}
use Rattle.std.specs.Prelude.{replicate}
use Rattle.ax_store.specs.Buffers.{none}
use Rattle.ax_store.proofs.store.empty_buffers.Given as goal

abbrev pub invariant-loop-i : goal.invariant-loop-i
invariant-loop-i l = l.buffers.items ≡ replicate l._i none
