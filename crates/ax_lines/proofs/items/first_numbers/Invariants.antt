use Rattle.std.proofs.Common.{length}
use Rattle.ax_lines.specs.Productions.{element}
use Rattle.ax_symbols.specs.Grammar.{reads, list}
use Rattle.ax_symbols.proofs.Commas.{Listing}
use Rattle.ax_lines.proofs.items.first_numbers.Given as goal

abbrev pub invariant-loop-item : goal.invariant-loop-item
invariant-loop-item l = Listing (element l.ty) l.found.items l.rest (reads (list (element l.ty)) l.line)

abbrev pub decreases-loop-item : goal.decreases-loop-item
decreases-loop-item l = length l.rest
