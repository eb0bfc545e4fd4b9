use Rattle.std.proofs.Common.{[], ◌∷◌, ◌++◌, ◌∙◌, ap, codes, decimal}
use Rattle.std.proofs.lemmas.Result.{on_ok_weaker}
use Rattle.ax_ir.specs.OperandTokens.{operand_token}
use Rattle.ax_ir.specs.InstTokens.{pair_tokens, inst_tokens}
use Rattle.ax_ir.proofs.Appended.{two, three}
use Rattle.ax_ir.proofs.tokens.Tokens.extract.Goals as goal

pub returns : goal.returns
unfolding inst_tokens
returns c =
    let s = c.args.self.now in
    let front = codes "extractvalue" ∷ pair_tokens c.args.t in
    let v = operand_token c.args.v in
    let number = ap (λ n. c.word-2.new.self ++ decimal n ∷ []) c.from.ensures in
    let pair = two s (codes "extractvalue" ∷ []) (pair_tokens c.args.t) c.word.new.self c.pair.new.self c.in_ok-word.ensures c.in_ok-pair.ensures in
    on_ok_weaker c.number.result
    (λ last. two s front (v ∷ codes "," ∷ decimal c.args.part ∷ []) c.pair.new.self c.number.new.self pair
    (three c.pair.new.self (v ∷ []) (codes "," ∷ []) (decimal c.args.part ∷ []) c.operand.new.self c.word-2.new.self c.number.new.self c.in_ok-operand.ensures c.in_ok-word-2.ensures (last ∙ number)))
    c.number.ensures
