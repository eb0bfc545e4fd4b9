use Rattle.std.proofs.Common.{[], ◌∷◌, ◌++◌, ◌∙◌, ap}
use Rattle.ax_tags.specs.declared.tags.Tag.TheVariants.{Act}
use Rattle.ax_rv.specs.declared.instructions.RvInstr.{RvInstr}
use Rattle.ax_rv.specs.declared.instructions.RvInstr.TheVariants.{Amo}
use Rattle.ax_emit_rv.proofs.Emitting.{both}
use Rattle.ax_expand.specs.Standing.{silently}
use Rattle.ax_llsc.specs.Loops.{clear, size_of}
use Rattle.ax_llsc.specs.Codes.{amo_of, ending_of, operand_of, prepare}
use Rattle.ax_llsc.proofs.operations.push_update.Goals as goal

pub returns : goal.returns
returns c =
    let o = c.args.op in
    let width = c.args.width in
    let update = Amo (amo_of o) (size_of width) (ending_of c.args.order) 15 (operand_of o) 10 in
    let acts = c.in_ok-push_acting.ensures ∙ ap (λ (i : RvInstr). c.push_prepare.new.out.items ++ (i, Act) ∷ []) c.update.ensures in
    let rest = both ((update, Act) ∷ []) (silently (clear 15 width)) _ _ _ acts c.in_ok-push_clear.ensures in
    both (silently (prepare o)) ((update, Act) ∷ silently (clear 15 width)) _ _ _ c.in_ok-push_prepare.ensures rest
