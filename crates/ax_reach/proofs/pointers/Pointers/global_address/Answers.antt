use Rattle.std.proofs.Common.{◌<◌, sym, ap, ◌∙◌, subst}
use Rattle.ax_layout.specs.Layout.{HasElement, LayoutState}
use Rattle.ax_rules.specs.declared.facts.Extent.{Extent}
use Rattle.ax_reach.specs.Facts.{AreOf}
use Rattle.ax_reach.specs.FunctionState.{FunctionState}
use Rattle.ax_reach.proofs.pointers.Pointers.global_address.Goals as goal

pub address-requires : goal.address-requires
address-requires c =
    let g = c.args.g in
    let i = c.args.i in
    let facts = subst (λ (w : FunctionState). AreOf w.program w.function c.self.inside.scope c.self.inside.frame) c.self.view_is c.self.invariant in
    let layout = c.layout.ensures ∙ ap (λ (w : FunctionState). w.program.layout) c.self.view_is in
    subst (λ (l : LayoutState). HasElement l g i) (sym layout) (facts.fits.globals g i (subst (λ (x : Extent). i < x.count) c.extent.ensures.extent c.if-i-extent.true))
