use Rattle.std.proofs.Common.{◌≡◌, ◌+◌, ◌<◌, ◌≤◌, ℕ, None}
use Rattle.std.specs.Prelude.{slice_index_or}
use Rattle.std.specs.Option.{option_or}
use Rattle.ax_store.specs.Buffers.{byte_from}
use Rattle.ax_store.proofs.buffer.add_bytes.Given as goal

abbrev pub invariant-loop-i : goal.invariant-loop-i
invariant-loop-i l = record {
  added : (j : ℕ) → j < l.i → slice_index_or l.found j None ≡ option_or (slice_index_or l.fn.found j None) (byte_from l.e (l.a + j));
  left : (j : ℕ) → l.i ≤ j → slice_index_or l.found j None ≡ slice_index_or l.fn.found j None;
}
