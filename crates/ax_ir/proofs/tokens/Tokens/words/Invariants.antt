use Rattle.std.proofs.Common.{◌≡◌, ◌++◌, map, take}
use Rattle.ax_ir.proofs.tokens.Tokens.words.Given as goal

abbrev pub invariant-loop-word : goal.invariant-loop-word
invariant-loop-word l = l.self ≡ l.initial.self ++ map (λ w. w.now) (take l.word-index l.words)
