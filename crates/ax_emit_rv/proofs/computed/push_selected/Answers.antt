use Rattle.std.proofs.Common.{◌∷◌, [], ◌++◌}
use Rattle.ax_emit.specs.Atomics.{gets_all}
use Rattle.ax_emit_rv.specs.Code.{select_code}
use Rattle.ax_emit_rv.specs.Emitters.{slot_of}
use Rattle.ax_emit_rv.specs.Slots.{rv_table}
use Rattle.ax_emit_rv.proofs.Emitting.{both_silent, computed_is}
use Rattle.ax_emit_rv.proofs.computed.push_selected.Goals as goal

pub returns : goal.returns
returns c =
    let got = gets_all rv_table ((5, slot_of c.args.test) ∷ (6, slot_of c.args.x) ∷ (7, slot_of c.args.y) ∷ []) in
    let made = both_silent got select_code _ _ _ c.in_ok-push_get_three.ensures c.in_ok-push_selection.ensures in
    computed_is c.args.to (got ++ select_code) _ _ _ made c.in_ok-push_result.ensures
