use Rattle.std.proofs.Common.{◌≡◌, map, take}
use Rattle.ax_rules.proofs.parts.operands_of_phi.Given as goal

abbrev pub invariant-loop-operand : goal.invariant-loop-operand
invariant-loop-operand l = l.all.items ≡ map (λ e. (l.t, e.0)) (take l.operand-index l.entries)
