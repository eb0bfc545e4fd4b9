use Rattle.std.proofs.Common.{length, ◌-◌}
use Rattle.ax_lex.proofs.Walk.{Reached}
use Rattle.ax_lex.proofs.lexer.tokens.Given as goal

abbrev pub invariant-loop-at : goal.invariant-loop-at
invariant-loop-at l = Reached l.text l.tokens.items l.at

abbrev pub decreases-loop-at : goal.decreases-loop-at
decreases-loop-at l = length l.text - l.at
