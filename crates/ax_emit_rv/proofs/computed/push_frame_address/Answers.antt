use Rattle.std.proofs.Common.{ℕ, ◌-◌, ◌∷◌, [], ◌++◌, ◌∙◌, ap}
use Rattle.ax_rv.specs.declared.instructions.Binary.TheVariants as binary
use Rattle.ax_rv.specs.declared.instructions.RvInstr.TheVariants.{Binary, Li}
use Rattle.ax_expand.specs.Standing.{silently}
use Rattle.ax_emit_rv.specs.Slots.{down}
use Rattle.ax_emit_rv.proofs.Emitting.{both_silent, computed_is}
use Rattle.ax_emit_rv.proofs.computed.push_frame_address.Goals as goal

pub returns : goal.returns
returns c =
    let n = down (c.args.depth - c.args.offset) in
    let first = c.in_ok-push_silent.ensures ∙ ap (λ (k : ℕ). c.args.out.now.items ++ silently (Li 7 k ∷ [])) c.down-n.ensures in
    let made = both_silent (Li 7 n ∷ []) (Binary binary.Add 7 2 7 ∷ []) _ _ _ first c.in_ok-push_binary.ensures in
    computed_is c.args.to (Li 7 n ∷ Binary binary.Add 7 2 7 ∷ []) _ _ _ made c.in_ok-push_result.ensures
