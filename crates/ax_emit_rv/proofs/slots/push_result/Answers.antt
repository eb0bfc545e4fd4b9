use Rattle.std.proofs.Common.{◌++◌, ◌∷◌, [], ◌∙◌, ap}
use Rattle.ax_tags.specs.declared.tags.Tag.TheVariants.{Act}
use Rattle.ax_rv.specs.declared.instructions.RvInstr.{RvInstr}
use Rattle.ax_expand.specs.Standing.{silently}
use Rattle.ax_emit_rv.specs.Slots.{put_first, put_last}
use Rattle.ax_emit_rv.proofs.Emitting.{both}
use Rattle.ax_emit_rv.proofs.slots.push_result.Goals as goal

pub returns : goal.returns
returns c =
    let last = c.in_ok-push_acting.ensures ∙ ap (λ (i : RvInstr). c.push_put_first.new.out.items ++ (i, Act) ∷ []) c.put_last.ensures in
    both (silently (put_first c.args.slot 7)) ((put_last c.args.slot 7, Act) ∷ []) _ _ _ c.in_ok-push_put_first.ensures last
