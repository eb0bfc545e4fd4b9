use Rattle.std.proofs.Common.{sym, ap, ◌∙◌, subst}
use Rattle.ax_rules.specs.declared.facts.Outcome.{Outcome}
use Rattle.ax_source_run.specs.SourcePointers.{elements_of}
use Rattle.ax_reach.specs.declared.place.Object.{Object}
use Rattle.ax_reach.specs.Facts.{AreOf, extent_of}
use Rattle.ax_reach.specs.Frames.{elements_in}
use Rattle.ax_reach.specs.FunctionState.{FunctionState}
use Rattle.ax_reach.specs.Places.{object_of}
use Rattle.ax_reach.proofs.Tables.{private_elements}
use Rattle.ax_reach.proofs.pointers.Pointers.elements.Goals as goal

pub returns-in-Private : goal.returns-in-Private
returns-in-Private c =
    let v = c.args.self.now in
    let m = v.program.source in
    let r = c.in-Private.r in
    let facts = subst (λ (w : FunctionState). AreOf w.program w.function c.self.inside.scope c.self.inside.frame) c.self.view_is c.self.invariant in
    c.extent_in.ensures
    ∙ (ap (λ (o : Outcome). extent_of (elements_in o)) (c.outcome.ensures ∙ facts.outcome r)
    ∙ (ap extent_of (private_elements m v.function r) ∙ ap (λ (o : Object). extent_of (elements_of m v.function (object_of o))) (sym c.in-Private.is)))
