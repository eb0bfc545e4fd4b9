use Rattle.std.proofs.Common.{◌≡◌, ◌+◌, ◌<◌, ◌≤◌, ℕ, None, drop, length}
use Rattle.std.specs.Prelude.{slice_index_or}
use Rattle.ax_store.specs.Buffers.{latest}
use Rattle.ax_store.proofs.buffer.Buffer.latest.Given as goal

abbrev pub invariant-loop-k : goal.invariant-loop-k
invariant-loop-k l = record {
  within : l.k ≤ length l.self.entries;
  newer : (i : ℕ) → i < l.n → slice_index_or l.found i None ≡ latest (drop l.k l.self.entries) (l.a + i);
}

abbrev pub decreases-loop-k : goal.decreases-loop-k
decreases-loop-k l = l.k
