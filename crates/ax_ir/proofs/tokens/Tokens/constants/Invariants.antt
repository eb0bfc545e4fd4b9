use Rattle.std.proofs.Common.{◌≡◌, ◌∷◌, ◌++◌, codes, flat_map, take}
use Rattle.ax_ir.specs.OperandTokens.{typed_tokens}
use Rattle.ax_ir.proofs.tokens.Tokens.constants.Given as goal

abbrev pub invariant-loop-v : goal.invariant-loop-v
invariant-loop-v l = l.self ≡ l.initial.self ++ flat_map (λ v. codes "," ∷ typed_tokens l.elem v) (take l.v-index l.rest)
