use Rattle.std.proofs.Common.{◌∷◌, []}
use Rattle.ax_tags.specs.declared.tags.Tag.TheVariants.{Act}
use Rattle.ax_rv.specs.declared.instructions.RvInstr.TheVariants.{Ecall}
use Rattle.ax_expand.specs.Standing.{silently}
use Rattle.ax_emit_rv.specs.Code.{get_one}
use Rattle.ax_emit_rv.specs.Emitters.{slot_of}
use Rattle.ax_emit_rv.proofs.Emitting.{both}
use Rattle.ax_emit_rv.proofs.jumps.push_out.Goals as goal

pub returns : goal.returns
returns c = both (silently (get_one slot_of 10 c.args.from)) ((Ecall, Act) ∷ []) _ _ _ c.in_ok-push_get_one.ensures c.in_ok-push_acting.ensures
