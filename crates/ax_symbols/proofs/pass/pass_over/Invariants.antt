use Rattle.std.proofs.Common.{◌≡◌, length}
use Rattle.ax_symbols.specs.Pieces.{pass_over}
use Rattle.ax_symbols.proofs.pass.pass_over.Given as goal

abbrev pub invariant-loop-pass : goal.invariant-loop-pass
invariant-loop-pass l = pass_over l.pass l.rest ≡ pass_over l.pass l.line

abbrev pub decreases-loop-pass : goal.decreases-loop-pass
decreases-loop-pass l = length l.rest
