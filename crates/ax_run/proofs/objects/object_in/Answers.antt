use Rattle.std.proofs.Common.{◌<◌, List, length, sym, ap, ◌∙◌, arith, slice_get}
use Rattle.ax_module.specs.declared.module.Global.{Global}
use Rattle.ax_module.specs.declared.module.Module.{Module}
use Rattle.ax_layout.specs.Layout.{LayoutState, address_in}
use Rattle.ax_run.proofs.Elements.{item, lies_at, spans_counted}
use Rattle.ax_run.proofs.objects.object_in.Goals as goal

pub bounds-globals-g : goal.bounds-globals-g
bounds-globals-g c =
    let counted = spans_counted c.args.program.now c.is_without_faults.ensures c.accepted_can_be_laid_out.ensures in
    let whole = ap length (c.as_slice-globals.ensures ∙ ap (λ (m : Module). m.globals) c.module.ensures) in
    let less = c.requires.global in
    omega (arith, counted, whole, less)

pub number_in-requires-clause-within : goal.number_in-requires-clause-within
number_in-requires-clause-within c =
    let lies = lies_at c.args.program.now c.is_without_faults.ensures c.accepted_can_be_laid_out.ensures c.objects_are_apart.ensures.lie c.args.g c.args.i c.requires in
    let address = c.address-address.ensures ∙ ap (λ (l : LayoutState). address_in l c.args.g c.args.i) c.layout.ensures in
    omega (arith, lies.last, lies.limit, address, c.element_bytes-bytes.ensures.bytes)

pub element_bytes-bytes-requires : goal.element_bytes-bytes-requires
element_bytes-bytes-requires c =
    let globals = c.as_slice-globals.result.now in
    let whole = c.as_slice-globals.ensures ∙ ap (λ (m : Module). m.globals) c.module.ensures in
    let counted = spans_counted c.args.program.now c.is_without_faults.ensures c.accepted_can_be_laid_out.ensures in
    let less : c.args.g < length globals = (let l = c.requires.global in let e = ap length whole in omega (arith, counted, e, l)) in
    ap (λ (xs : List Global). slice_get xs c.args.g) (sym whole) ∙ item globals c.args.g c.index-globals-g.result less c.index-globals-g.is
