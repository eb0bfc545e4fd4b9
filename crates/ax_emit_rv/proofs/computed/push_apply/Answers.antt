use Rattle.std.proofs.Common.{◌++◌}
use Rattle.ax_emit_rv.specs.Code.{get_two, op_code}
use Rattle.ax_emit_rv.specs.Emitters.{slot_of}
use Rattle.ax_emit_rv.proofs.Emitting.{both_silent, computed_is}
use Rattle.ax_emit_rv.proofs.computed.push_apply.Goals as goal

pub returns : goal.returns
returns c =
    let got = get_two slot_of c.args.left c.args.right in
    let made = both_silent got (op_code c.args.op) _ _ _ c.in_ok-push_get_two.ensures c.in_ok-push_op.ensures in
    computed_is c.args.to (got ++ op_code c.args.op) _ _ _ made c.in_ok-push_result.ensures
