use Rattle.std.proofs.Common.{◌≡◌, take}
use Rattle.ax_target.proofs.endings.row_from.Given as goal

abbrev pub invariant-loop-mark : goal.invariant-loop-mark
invariant-loop-mark l = l.row.items ≡ take l.mark-index l.marks
