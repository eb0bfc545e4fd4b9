use Rattle.std.proofs.Common.{map, ap, sym, ◌∙◌, List, ℕ}
use Rattle.std.proofs.lemmas.Result.{IfOk-weaker}
use Rattle.ax_module.specs.declared.operand.Operand.{Operand}
use Rattle.ax_rules.specs.Parts.{operands_of}
use Rattle.ax_rules.proofs.parts.operands_in.Goals as goal

pub returns-in-Phi : goal.returns-in-Phi
unfolding operands_of
returns-in-Phi c =
    IfOk-weaker c.operands_of_phi.result _ _
    (λ v h. h ∙ (ap (λ (es : List (Operand × ℕ)). map (λ (e : Operand × ℕ). (c.in-Phi.t, e.0)) es) c.as_slice.ensures ∙ sym (ap operands_of c.in-Phi.is)))
    c.operands_of_phi.ensures
