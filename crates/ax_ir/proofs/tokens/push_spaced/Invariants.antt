use Rattle.std.proofs.Common.{◌≡◌, ◌++◌, drop, false, string_bytes}
use Rattle.ax_ir.specs.Spacing.{spaced_from}
use Rattle.ax_ir.proofs.tokens.push_spaced.Given as goal

abbrev pub invariant-loop-token : goal.invariant-loop-token
invariant-loop-token l =
    string_bytes l.out ++ spaced_from l.parted (drop l.token-index l.tokens) ≡ string_bytes l.initial.out ++ spaced_from false l.tokens
