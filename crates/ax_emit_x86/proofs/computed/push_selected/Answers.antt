use Rattle.std.proofs.Common.{◌∷◌, [], ◌++◌}
use Rattle.ax_emit.specs.Atomics.{gets_all}
use Rattle.ax_emit_x86.specs.Code.{select_code}
use Rattle.ax_emit_x86.specs.Emitters.{slot_of}
use Rattle.ax_emit_x86.specs.Slots.{get, x86_table}
use Rattle.ax_emit_x86.proofs.Emitting.{both_silent, computed_is}
use Rattle.ax_emit_x86.proofs.computed.push_selected.Goals as goal

pub returns : goal.returns
returns c =
    let test = get 1 (slot_of c.args.test) in
    let x = get 2 (slot_of c.args.x) in
    let y = get 0 (slot_of c.args.y) in
    let got = gets_all x86_table ((1, slot_of c.args.test) ∷ (2, slot_of c.args.x) ∷ (0, slot_of c.args.y) ∷ []) in
    let first = both_silent test x _ _ _ c.in_ok-push_get.ensures c.in_ok-push_get-2.ensures in
    let second = both_silent (test ++ x) y _ _ _ first c.in_ok-push_get-3.ensures in
    let made = both_silent got select_code _ _ _ second c.in_ok-push_selection.ensures in
    computed_is c.args.to (got ++ select_code) _ _ _ made c.in_ok-push_result.ensures
