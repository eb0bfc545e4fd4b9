use Rattle.std.proofs.Common.{◌≡◌, length}
use Rattle.ax_symbols.specs.Pieces.{is_tail}
use Rattle.ax_symbols.proofs.pass.is_tail.Given as goal

abbrev pub invariant-loop-rest : goal.invariant-loop-rest
invariant-loop-rest l = is_tail l.rest ≡ is_tail l.line

abbrev pub decreases-loop-rest : goal.decreases-loop-rest
decreases-loop-rest l = length l.rest
