use Rattle.std.proofs.Common.{◌≡◌, drop}
use Rattle.ax_selected.specs.Edges.{operand_from}
use Rattle.ax_pieces.proofs.edges.operand_from.Given as goal

abbrev pub invariant-loop-entry : goal.invariant-loop-entry
invariant-loop-entry l = operand_from l.from (drop l.entry-index l.entries) ≡ operand_from l.from l.entries
