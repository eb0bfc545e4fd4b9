use Rattle.std.proofs.Common.{◌≡◌, ◌∷◌, ◌++◌, codes, flat_map, take}
use Rattle.ax_ir.specs.OperandTokens.{arg_tokens}
use Rattle.ax_ir.proofs.tokens.Tokens.args.Given as goal

abbrev pub invariant-loop-arg : goal.invariant-loop-arg
invariant-loop-arg l = l.self ≡ l.initial.self ++ flat_map (λ a. codes "," ∷ arg_tokens l.names a) (take l.arg-index l.rest)
