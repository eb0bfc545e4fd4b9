use Rattle.std.proofs.Common.{sym, ap, ◌∙◌, subst}
use Rattle.ax_layout.specs.Layout.{HasElement, LayoutState, address_in}
use Rattle.ax_select.proofs.Lies.{global_is, has_first, laid_out}
use Rattle.ax_select.proofs.globals.mid_global.Goals as goal

pub address-address-requires : goal.address-address-requires
address-address-requires c =
    let p = c.args.a.now in
    subst (λ (l : LayoutState). HasElement l c.args.g 0) (sym c.layout.ensures) (has_first p c.requires.layout c.requires.limits c.objects_are_apart.ensures.globals c.args.g c.args.global.now c.requires.global)

pub is_native-requires : goal.is_native-requires
is_native-requires c =
    let p = c.args.a.now in
    (laid_out p c.requires.layout c.requires.limits c.objects_are_apart.ensures.globals c.args.g c.args.global.now c.requires.global).element

pub returns : goal.returns
returns c =
    let p = c.args.a.now in
    global_is p c.requires.layout c.requires.limits c.objects_are_apart.ensures.globals c.args.g c.args.global.now c.requires.global _ _ _ _
    (c.address-address.ensures ∙ ap (λ (l : LayoutState). address_in l c.args.g 0) c.layout.ensures) c.bytes.ensures c.is_native.ensures c.target.ensures
