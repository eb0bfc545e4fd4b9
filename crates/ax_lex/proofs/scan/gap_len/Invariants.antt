use Rattle.std.proofs.Common.{◌≡◌, ◌+◌, drop, false}
use Rattle.ax_lex.specs.Tokens.{gap}
use Rattle.ax_lex.proofs.scan.gap_len.Given as goal

abbrev pub invariant-loop-i : goal.invariant-loop-i
invariant-loop-i l = l.i + gap l.in_comment (drop l.i l.bytes) ≡ gap false l.bytes
