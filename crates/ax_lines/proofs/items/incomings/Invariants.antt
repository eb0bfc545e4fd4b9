use Rattle.std.proofs.Common.{length}
use Rattle.ax_lines.specs.Productions.{incoming}
use Rattle.ax_symbols.specs.Grammar.{reads, list}
use Rattle.ax_symbols.proofs.Commas.{Listing}
use Rattle.ax_lines.proofs.items.incomings.Given as goal

abbrev pub invariant-loop-item : goal.invariant-loop-item
invariant-loop-item l = Listing incoming l.found.items l.rest (reads (list incoming) l.line)

abbrev pub decreases-loop-item : goal.decreases-loop-item
decreases-loop-item l = length l.rest
