use Rattle.std.proofs.Common.{◌++◌}
use Rattle.ax_emit_rv.specs.Code.{extend_code, get_one}
use Rattle.ax_emit_rv.specs.Emitters.{slot_of}
use Rattle.ax_emit_rv.proofs.Emitting.{both_silent, computed_is}
use Rattle.ax_emit_rv.proofs.computed.push_extended.Goals as goal

pub returns : goal.returns
returns c =
    let got = get_one slot_of 7 c.args.from in
    let extends = extend_code c.args.bits c.args.signed in
    let made = both_silent got extends _ _ _ c.in_ok-push_get_one.ensures c.in_ok-push_extension.ensures in
    computed_is c.args.to (got ++ extends) _ _ _ made c.in_ok-push_result.ensures
