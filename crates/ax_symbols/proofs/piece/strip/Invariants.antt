use Rattle.std.proofs.Common.{◌≡◌, drop}
use Rattle.ax_symbols.specs.Pieces.{strip}
use Rattle.ax_symbols.proofs.piece.strip.Given as goal

abbrev pub invariant-loop-sign : goal.invariant-loop-sign
invariant-loop-sign l = strip (drop l.sign-index l.signs) l.rest ≡ strip l.signs l.line
