use Rattle.std.proofs.Common.{◌++◌, []}
use Rattle.ax_emit_rv.specs.Code.{get_one}
use Rattle.ax_emit_rv.specs.Emitters.{slot_of}
use Rattle.ax_emit_rv.proofs.Emitting.{computed_is, one_silent}
use Rattle.ax_emit_rv.proofs.computed.push_copy.Goals as goal

pub returns : goal.returns
returns c =
    let got = one_silent (get_one slot_of 7 c.args.from) _ _ c.in_ok-push_get_one.ensures in
    computed_is c.args.to (get_one slot_of 7 c.args.from ++ []) _ _ _ got c.in_ok-push_result.ensures
