use Rattle.std.proofs.Common.{◌∷◌, []}
use Rattle.ax_rv.specs.declared.instructions.RvInstr.TheVariants.{Li}
use Rattle.ax_emit_rv.proofs.Emitting.{computed_is}
use Rattle.ax_emit_rv.proofs.computed.push_const.Goals as goal

pub returns : goal.returns
returns c = computed_is c.args.to (Li 7 c.args.n ∷ []) _ _ _ c.in_ok-push_silent.ensures c.in_ok-push_result.ensures
