use Rattle.std.proofs.Common.{[], ◌∷◌, codes}
use Rattle.std.proofs.lemmas.Result.{on_ok_weaker}
use Rattle.ax_ir.specs.OperandTokens.{gep_tokens, constant_gep_tokens}
use Rattle.ax_ir.proofs.Appended.{five}
use Rattle.ax_ir.proofs.tokens.Tokens.constant_gep.Goals as goal

pub returns : goal.returns
unfolding constant_gep_tokens
returns c =
    let inside = gep_tokens c.args.names.now c.args.elem c.args.count c.args.base c.args.t c.args.v in
    on_ok_weaker c.word-4.result (λ last. five c.args.self.now (codes "ptr" ∷ []) (codes "getelementptr" ∷ []) (codes "(" ∷ []) inside (codes ")" ∷ []) c.word.new.self c.word-2.new.self c.word-3.new.self c.gep.new.self c.word-4.new.self c.in_ok-word.ensures c.in_ok-word-2.ensures c.in_ok-word-3.ensures c.in_ok-gep.ensures last) c.word-4.ensures
