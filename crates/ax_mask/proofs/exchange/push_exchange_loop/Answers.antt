use Rattle.std.proofs.Common.{refl, ap, ◌∙◌, List, [], ◌∷◌, ◌++◌, Some}
use Rattle.ax_tags.specs.declared.tags.Tag.{Tag}
use Rattle.ax_tags.specs.declared.tags.Tag.TheVariants.{Linked}
use Rattle.ax_rv.specs.declared.instructions.RvInstr.{RvInstr}
use Rattle.ax_loops.specs.PairExchange.{pair_mark}
use Rattle.ax_expand.specs.Standing.{silently}
use Rattle.ax_emit_rv.proofs.Emitting.{silent_both, then}
use Rattle.ax_mask.specs.Codes.{exchange_answer, exchange_between, link, store, take_out}
use Rattle.ax_mask.proofs.exchange.push_exchange_loop.Goals as goal

pub returns : goal.returns
returns c =
    let weak = c.args.weak in
    let width = c.args.width in
    let order = c.args.order in
    let r = c.push_take_out.result in
    let mark = Linked weak 28 (Some 7) in
    let linked : List (RvInstr × Tag) = (link order, mark) ∷ [] in
    let stored : List (RvInstr × Tag) = (store order 29, pair_mark weak) ∷ [] in
    let links = c.in_ok-push_marked.ensures ∙ ap (λ (i : RvInstr). c.args.out.now.items ++ (i, mark) ∷ []) c.link.ensures in
    let stores = c.in_ok-push_marked-2.ensures ∙ ap (λ (i : RvInstr). c.push_between.new.out.items ++ (i, c.pair_mark.result) ∷ []) c.store.ensures ∙ ap (λ (t : Tag). c.push_between.new.out.items ++ (store order 29, t) ∷ []) c.pair_mark.ensures in
    let behind = silently (exchange_answer weak ++ take_out width) in
    let last = then r (silently (exchange_answer weak)) (silently (take_out width)) behind _ _ _ c.in_ok-push_answer.ensures c.push_take_out.ensures (silent_both (exchange_answer weak) (take_out width)) in
    let rest = then r stored behind (stored ++ behind) _ _ _ stores last refl in
    let all = then r (silently (exchange_between weak)) (stored ++ behind) (silently (exchange_between weak) ++ (stored ++ behind)) _ _ _ c.in_ok-push_between.ensures rest refl in
    then r linked (silently (exchange_between weak) ++ (stored ++ behind)) (linked ++ (silently (exchange_between weak) ++ (stored ++ behind))) _ _ _ links all refl
