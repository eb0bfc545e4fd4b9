use Rattle.std.proofs.Common.{◌≡◌, ◌+◌, ◌≤◌, length}
use Rattle.ax_symbols.specs.Pieces.{type_at}
use Rattle.ax_symbols.specs.Vectors.{closed_times}
use Rattle.ax_symbols.proofs.types.openings.Given as goal

abbrev pub invariant-loop-behind : goal.invariant-loop-behind
invariant-loop-behind l = record {
  same : closed_times l.depth (type_at l.rest) ≡ type_at l.line;
  small : l.depth + length l.rest ≤ length l.line;
}

abbrev pub decreases-loop-behind : goal.decreases-loop-behind
decreases-loop-behind l = length l.rest
