use Rattle.std.proofs.Common.{◌≡◌, ◌+◌, ◌++◌, drop}
use Rattle.ax_ir.specs.Canonical.{later_params_tokens}
use Rattle.ax_ir.proofs.tokens.Tokens.params.Given as goal

abbrev pub invariant-loop-i : goal.invariant-loop-i
invariant-loop-i l = l.self ++ later_params_tokens (l.i + 1) (drop l.i l.rest) ≡ l.initial.self ++ later_params_tokens 1 l.rest
