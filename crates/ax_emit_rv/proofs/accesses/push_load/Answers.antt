use Rattle.std.proofs.Common.{◌∷◌, [], ◌++◌, ◌∙◌, ap}
use Rattle.ax_tags.specs.declared.tags.Tag.TheVariants.{Act}
use Rattle.ax_rv.specs.declared.instructions.RvInstr.{RvInstr}
use Rattle.ax_emit.specs.Atomics.{puts_all}
use Rattle.ax_expand.specs.Standing.{silently}
use Rattle.ax_emit_rv.specs.Code.{cleared, get_one, load_in}
use Rattle.ax_emit_rv.specs.Emitters.{slot_of}
use Rattle.ax_emit_rv.specs.Slots.{rv_table}
use Rattle.ax_emit_rv.proofs.Emitting.{both, wrapped}
use Rattle.ax_emit_rv.proofs.accesses.push_load.Goals as goal

pub returns : goal.returns
returns c =
    let n = c.args.bytes in
    let acts = c.in_ok-push_acting.ensures ∙ ap (λ (i : RvInstr). c.push_get_one.new.out.items ++ (i, Act) ∷ []) c.load_in.ensures in
    let loads = both ((load_in n, Act) ∷ []) (silently (cleared n)) _ _ _ acts c.in_ok-push_cleared.ensures in
    wrapped (get_one slot_of 5 c.args.address) (puts_all rv_table ((7, slot_of c.args.to) ∷ [])) ((load_in n, Act) ∷ silently (cleared n)) _ _ _ _ c.in_ok-push_get_one.ensures loads c.in_ok-push_put_one.ensures
