use Rattle.std.proofs.Common.{◌∷◌, [], ◌++◌, ◌∙◌, ap}
use Rattle.ax_tags.specs.declared.tags.Tag.TheVariants.{Act}
use Rattle.ax_rv.specs.declared.instructions.RvInstr.{RvInstr}
use Rattle.ax_expand.specs.Standing.{silently}
use Rattle.ax_emit_rv.specs.Code.{get_two, store_in}
use Rattle.ax_emit_rv.specs.Emitters.{slot_of}
use Rattle.ax_emit_rv.proofs.Emitting.{both}
use Rattle.ax_emit_rv.proofs.accesses.push_store.Goals as goal

pub returns : goal.returns
returns c =
    let acts = c.in_ok-push_acting.ensures ∙ ap (λ (i : RvInstr). c.push_get_two.new.out.items ++ (i, Act) ∷ []) c.store_in.ensures in
    both (silently (get_two slot_of c.args.address c.args.from)) ((store_in c.args.bytes, Act) ∷ []) _ _ _ c.in_ok-push_get_two.ensures acts
