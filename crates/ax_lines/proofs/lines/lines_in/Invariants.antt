use Rattle.std.proofs.Common.{length}
use Rattle.std.specs.List.{slice_split}
use Rattle.ax_symbols.specs.Symbols.{is_feed}
use Rattle.ax_lines.proofs.Places.{Walked}
use Rattle.ax_lines.proofs.lines.lines_in.Given as goal

abbrev pub invariant-loop-line : goal.invariant-loop-line
invariant-loop-line l = Walked (slice_split is_feed l.symbols) l.lines.items l.place (slice_split is_feed l.rest)

abbrev pub decreases-loop-line : goal.decreases-loop-line
decreases-loop-line l = length l.rest
