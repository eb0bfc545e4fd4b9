use Rattle.std.proofs.Common.{◌≡◌, ◌+◌, ◌++◌, drop}
use Rattle.ax_reach.specs.Frames.{frame_bytes, offsets_from}
use Rattle.ax_reach.proofs.frame.Frame.of.Given as goal

abbrev pub invariant-loop-outcome : goal.invariant-loop-outcome
invariant-loop-outcome l = record {
  offsets : l.offsets.items ++ offsets_from l.bytes (drop l.outcome-index l.outcomes) ≡ offsets_from 0 l.outcomes;
  bytes : l.bytes + frame_bytes (drop l.outcome-index l.outcomes) ≡ frame_bytes l.outcomes;
}
