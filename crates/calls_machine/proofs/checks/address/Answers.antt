use Rattle.std.proofs.Common.{rules, ◌≡◌, ℕ, ◌<◌, List, length, refl, sym, subst, ap, ◌∙◌, Some, slice_get}
use Rattle.std.proofs.lemmas.Option.{slice_get_read}
use borrow.Author.Tests.{ltb-true}
use Rattle.ax_module.specs.declared.module.Global.{Global}
use Rattle.ax_module.specs.declared.module.Module.{Module}
use Rattle.ax_layout.specs.Layout.{CanBeLaidOut, HasElement, LayoutState}
use Rattle.calls_machine.proofs.Layouts.{has_element}
use Rattle.calls_machine.proofs.checks.address.Goals as goal

pub address-requires : goal.address-requires
address-requires c =
    let accepted = c.args.accepted.now in
    let global = c.in-Some.global.now in
    let slice = c.as_slice.result.now in
    let laid : CanBeLaidOut accepted.source = c.accepted_can_be_laid_out.ensures accepted c.is_without_faults.ensures in
    let inside : c.args.g < length slice = ltb-true c.args.g (length slice) (sym c.in-Some.ensures.lookup.0) in
    let read : slice_get slice c.args.g ≡ Some global = slice_get_read slice (length slice) c.args.g global refl inside c.in-Some.ensures.lookup.1 in
    let same : slice ≡ accepted.source.globals = c.as_slice.ensures ∙ ap (λ (m : Module). m.globals) c.module.ensures in
    let at : slice_get accepted.source.globals c.args.g ≡ Some global = subst (λ (xs : List Global). slice_get xs c.args.g ≡ Some global) same read in
    let has : LayoutState → Type 0 = λ layout. HasElement layout c.args.g c.args.i in
    subst has (sym c.layout.ensures) (has_element accepted c.args.g c.args.i global c.is_without_faults.ensures laid c.objects_are_apart.ensures.globals at c.if-i-global.true)
