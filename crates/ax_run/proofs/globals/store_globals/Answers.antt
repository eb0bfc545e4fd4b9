use Rattle.std.proofs.Common.{◌≡◌, ◌+◌, ◌-◌, ◌<◌, List, length, drop, sym, ap, ◌∙◌, arith, slice_get}
use Rattle.ax_module.specs.declared.module.Global.{Global}
use Rattle.ax_module.specs.declared.module.Module.{Module}
use Rattle.ax_agree.specs.Lowers.{byte_in, region_end}
use Rattle.ax_run.specs.Start.{storage_with}
use Rattle.ax_run.proofs.Elements.{from_next, from_none, item, spans_counted, that}
use Rattle.ax_run.proofs.globals.store_globals.Goals as goal

pub loop-g-init : goal.loop-g-init
loop-g-init c =
    let p = c.args.program.now in
    let whole = c.as_slice-globals.ensures ∙ ap (λ (m : Module). m.globals) c.module.ensures in
    from_none p (length c.as_slice-globals.result.now) c.args.store.now (ap length whole) (spans_counted p c.is_without_faults.ensures c.accepted_can_be_laid_out.ensures)

pub store_elements-requires-clause-global : goal.store_elements-requires-clause-global
store_elements-requires-clause-global c =
    let g = c.loop-g.g - 1 in
    let globals = c.as_slice-globals.result.now in
    let whole = c.as_slice-globals.ensures ∙ ap (λ (m : Module). m.globals) c.module.ensures in
    let within = c.loop-g.invariant.within in
    let less : g < length globals = omega (arith, within, c.loop-g-test.true, ap length whole) in
    ap (λ (xs : List Global). slice_get xs g) (sym whole) ∙ item globals g c.index-globals-g.result less c.index-globals-g.is

pub loop-g-preserved : goal.loop-g-preserved
loop-g-preserved c =
    let p = c.args.program.now in
    let g = c.loop-g.g - 1 in
    let globals = c.as_slice-globals.result.now in
    let whole = c.as_slice-globals.ensures ∙ ap (λ (m : Module). m.globals) c.module.ensures in
    let within = c.loop-g.invariant.within in
    let less : g < length globals = omega (arith, within, c.loop-g-test.true, ap length whole) in
    let at = ap (λ (xs : List Global). slice_get xs g) (sym whole) ∙ item globals g c.index-globals-g.result less c.index-globals-g.is in
    let next : c.loop-g.g ≡ g + 1 = omega (arith, c.loop-g-test.true) in
    from_next p c.loop-g.g g c.index-globals-g.result.count c.args.store.now c.loop-g.store c.store_elements.new.store c.loop-g.invariant next
    (spans_counted p c.is_without_faults.ensures c.accepted_can_be_laid_out.ensures)
    (sym (that p c.is_without_faults.ensures c.accepted_can_be_laid_out.ensures c.objects_are_apart.ensures.globals g c.index-globals-g.result at).count)
    c.store_elements.ensures.storage c.store_elements.ensures.kept

pub returns-clause-storage : goal.returns-clause-storage
returns-clause-storage c =
    λ frames begins.
    let p = c.args.program.now in
    let none : c.loop-g.g ≡ 0 = omega (arith, c.loop-g-test.false) in
    c.loop-g.invariant.storage frames begins ∙ ap (λ n. storage_with (region_end p) frames (byte_in p.source n (drop n p.layout.spans))) none
