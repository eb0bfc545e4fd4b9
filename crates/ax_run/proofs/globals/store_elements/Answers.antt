use Rattle.std.proofs.Common.{◌≡◌, sym, ap, ◌∙◌, subst, arith}
use Rattle.ax_layout.specs.Layout.{HasElement, LayoutState, address_in, span_in}
use Rattle.ax_source_run.specs.SourceRun.{constants_of, first_numbers}
use Rattle.ax_agree.specs.Lowers.{region_end}
use Rattle.ax_run.specs.Start.{elements_put, storage_with}
use Rattle.ax_run.proofs.Elements.{element_narrow, has, laid_out, lies, stored_more}
use Rattle.ax_run.proofs.globals.store_elements.Goals as goal

pub address-address-requires : goal.address-address-requires
address-address-requires c =
    subst (λ (l : LayoutState). HasElement l c.args.g c.loop-i.i) (sym c.layout.ensures)
    (has c.args.program.now c.is_without_faults.ensures c.accepted_can_be_laid_out.ensures c.objects_are_apart.ensures.globals c.args.g c.args.global.now c.requires.global c.loop-i.i c.loop-i-test.true)

pub first_number-requires : goal.first_number-requires
first_number-requires c =
    let at = laid_out c.args.program.now c.is_without_faults.ensures c.accepted_can_be_laid_out.ensures c.objects_are_apart.ensures.globals c.args.g c.args.global.now c.requires.global in
    element_narrow c.args.global.now.elem at.element

pub loop-i-preserved : goal.loop-i-preserved
loop-i-preserved c =
    let p = c.args.program.now in
    let g = c.args.g in
    let i = c.loop-i.i in
    stored_more p g i c.args.store.now c.loop-i.store c.put_number.new.store c.address-address.result c.element_bytes-bytes.result c.first_number.result c.loop-i.invariant
    (c.address-address.ensures ∙ ap (λ (l : LayoutState). address_in l g i) c.layout.ensures)
    c.element_bytes-bytes.ensures.bytes
    (c.first_number.ensures ∙ sym (ap (λ o. constants_of o i) c.requires.global))
    (lies p c.is_without_faults.ensures c.accepted_can_be_laid_out.ensures c.objects_are_apart.ensures.globals g c.args.global.now c.requires.global c.objects_are_apart.ensures.lie i c.loop-i-test.true)
    c.put_number.ensures.storage c.put_number.ensures.kept

pub returns-clause-storage : goal.returns-clause-storage
returns-clause-storage c =
    λ frames mem begins.
    let p = c.args.program.now in
    let all : c.loop-i.i ≡ c.args.global.now.count = omega (arith, c.loop-i-test.false, c.loop-i.auto.i-end) in
    c.loop-i.invariant.storage frames mem begins
    ∙ ap (λ n. storage_with (region_end p) frames (elements_put (span_in p.layout c.args.g) n (first_numbers p.source c.args.g) mem)) all
