use Rattle.std.proofs.Common.{ℕ, ◌<◌, None}
use Rattle.std.specs.Prelude.{IsSome, slice_index_or}
use Rattle.ax_store.proofs.buffer.is_whole.Given as goal

abbrev pub invariant-loop-i : goal.invariant-loop-i
invariant-loop-i l = (j : ℕ) → j < l.i → IsSome (slice_index_or l.found j None)
