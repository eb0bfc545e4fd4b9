use Rattle.std.proofs.Common.{ap, sym, ◌∙◌}
use Rattle.std.specs.Prelude.{option_map}
use Rattle.ax_isa.specs.Processor.{processor_of}
use Rattle.ax_isa.specs.Run.{events_of, tag_at}
use Rattle.ax_isa.specs.Tells.{given_of, role_after}
use Rattle.ax_isa.proofs.Made.{step_is}
use Rattle.ax_isa.proofs.place.step.Goals as goal

pub returns : goal.returns
returns g c =
    let before = processor_of c.args.c.now in
    step_is g.I.Isa.kind c.args.code.now c.args.tags.now c.args.p before c.args.s.now c.in-Some.i.now c.effect-e.result
    c.requires.kind
    (sym c.at_place.ensures ∙ ap (option_map (λ x. x.now)) c.in-Some.is)
    c.effect-e.ensures
    (sym c.is_possible.ensures ∙ c.if-not-is_possible.false)
    (processor_of c.perform-outcome.new.c) c.perform-outcome.new.s c.perform-outcome.result c.given.result c.role_after-c.result
    c.perform-outcome.ensures.processor c.perform-outcome.ensures.storage c.perform-outcome.ensures.outcome
    (c.role_after-c.ensures ∙ ap (λ t. role_after t c.effect-e.result c.perform-outcome.new.c.role) c.tag_at-tag.ensures)
    (c.given.ensures
    ∙ ap (λ t. events_of c.args.p (given_of t c.bytes_of.result before c.perform-outcome.result)) c.tag_at-tag.ensures
    ∙ ap (λ b. events_of c.args.p (given_of (tag_at c.args.tags.now c.args.c.now.place) b before c.perform-outcome.result)) c.bytes_of.ensures.value)
    c.perform-outcome.ensures.spares
    c.perform-outcome.ensures.kept
