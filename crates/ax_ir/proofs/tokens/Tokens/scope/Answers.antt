use Rattle.std.proofs.Common.{[], ◌∷◌, ◌++◌, codes}
use Rattle.ax_ir.specs.InstTokens.{scope_tokens}
use Rattle.ax_ir.proofs.Appended.{four}
use Rattle.ax_ir.proofs.tokens.Tokens.scope.Goals as goal

pub returns-in_ok-word-4 : goal.returns-in_ok-word-4
unfolding scope_tokens
returns-in_ok-word-4 c =
    rw c.if-single_thread.true (four c.args.self.now (codes "syncscope" ∷ []) (codes "(" ∷ []) ((34 ∷ codes "singlethread" ++ 34 ∷ []) ∷ []) (codes ")" ∷ []) c.word.new.self c.word-then-single_thread.new.self c.word-then-single_thread-2.new.self c.word-then-single_thread-3.new.self c.in_ok-word.ensures c.in_ok-word-2.ensures c.in_ok-word-3.ensures c.in_ok-word-4.ensures)
