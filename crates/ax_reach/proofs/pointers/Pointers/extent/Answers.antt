use Rattle.std.proofs.Common.{◌≤◌, sym, subst}
use Rattle.ax_module.specs.Types.{type_bytes}
use Rattle.ax_rules.specs.declared.facts.Extent.{Extent}
use Rattle.ax_reach.specs.Places.{object_of}
use Rattle.ax_reach.proofs.pointers.Pointers.extent.Goals as goal

pub returns-clause-bytes : goal.returns-clause-bytes
returns-clause-bytes c = subst (λ (x : Extent). type_bytes x.elem ≤ 16) (sym c.elements.ensures) (c.fits.ensures.sizes (object_of c.args.object))
