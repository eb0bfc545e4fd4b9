use Rattle.std.proofs.Common.{◌≡◌, ◌∷◌, ◌++◌, codes, flat_map, take}
use Rattle.ax_ir.specs.InstTokens.{entry_tokens}
use Rattle.ax_ir.proofs.tokens.Tokens.entries.Given as goal

abbrev pub invariant-loop-v : goal.invariant-loop-v
invariant-loop-v l = l.self ≡ l.initial.self ++ flat_map (λ e. codes "," ∷ entry_tokens e) (take l.v-index l.rest)
