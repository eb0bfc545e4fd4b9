use Rattle.std.proofs.Common.{◌++◌}
use Rattle.ax_expand.specs.Standing.{silently}
use Rattle.ax_emit_rv.proofs.Emitting.{both_silent, silent_both, then}
use Rattle.ax_mask.specs.Codes.{exchange_setup, find_word, to_place, to_top}
use Rattle.ax_mask.proofs.setup.push_exchange_setup.Goals as goal

pub returns : goal.returns
returns c =
    let width = c.args.width in
    let found = find_word width in
    let top = found ++ to_top width 28 11 in
    let placed = top ++ to_place 28 in
    let next = placed ++ to_top width 30 12 in
    let at_top = both_silent found (to_top width 28 11) _ _ _ c.in_ok-push_find_word.ensures c.in_ok-push_to_top.ensures in
    let first = both_silent top (to_place 28) _ _ _ at_top c.in_ok-push_to_place.ensures in
    let second = both_silent placed (to_top width 30 12) _ _ _ first c.in_ok-push_to_top-2.ensures in
    then c.push_to_place-2.result (silently next) (silently (to_place 30)) (silently (exchange_setup width)) _ _ _ second c.push_to_place-2.ensures (silent_both next (to_place 30))
