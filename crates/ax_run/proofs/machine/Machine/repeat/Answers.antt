use Rattle.std.proofs.Common.{◌≡◌, ◌-◌, ◌<◌, ◌++◌, refl, ap, sym, ◌∙◌, append-nil, arith, Option, Some, None}
use Rattle.ax_sched.specs.Events.{item_events}
use Rattle.ax_sched.specs.Plan.{times_of}
use Rattle.ax_run.specs.Machine.{run_of, seen_in}
use Rattle.ax_run.proofs.Plans.{event_made, event_none}
use Rattle.ax_run.proofs.machine.Machine.repeat.Goals as goal

only_none : {A : Type 0} (o : Option A) → ((x : A) → o ≡ Some x → ⊥) → o ≡ None
only_none None h = refl
only_none (Some x) h = absurd (h x refl)

pub loop-number-preserved : goal.loop-number-preserved
loop-number-preserved g c =
    let far = c.loop-number.invariant in
    let kept = far.3 in
    let more = c.happen.ensures.kept in
    let k = c.loop-number.number in
    let item = c.args.item in
    let less : k < times_of item = omega (arith, c.loop-number-test.true, c.times-number-end.ensures) in (
      λ start told. c.happen.ensures.tells start (far.0 start told),
      λ start told. event_made g.I.Isa.kind c.args.image.now c.args.target c.args.self.now c.loop-number.self c.happen.new.self kept item k c.in-Some.e start less c.happen.ensures.events (sym (c.glance.ensures.sees c.args.target (run_of g.I.Isa.kind c.args.image.now c.loop-number.self start) (far.0 start told).shows) ∙ sym c.next_event.ensures.is ∙ c.in-Some.is) ∙ far.1 start told,
      omega (arith, far.2, c.happen.ensures.room),
      record { program = more.program ∙ kept.program; count = more.count ∙ kept.count; buffered = more.buffered ∙ kept.buffered },
    )

pub returns-in_default-clause-events : goal.returns-in_default-clause-events
returns-in_default-clause-events g c =
    λ start told.
    let far = c.loop-number.invariant in
    let none = only_none c.next_event.result c.in_default.not-Some in
    let rest = event_none g.I.Isa.kind c.args.image.now c.args.target c.args.self.now c.loop-number.self c.loop-number.self far.3 c.args.item (times_of c.args.item - c.loop-number.number) c.loop-number.number start (sym (c.glance.ensures.sees c.args.target (run_of g.I.Isa.kind c.args.image.now c.loop-number.self start) (far.0 start told).shows) ∙ sym c.next_event.ensures.is ∙ none) in
    sym (append-nil c.loop-number.self.events) ∙ ap (λ l. c.loop-number.self.events ++ l) (sym rest) ∙ far.1 start told

pub returns-clause-events : goal.returns-clause-events
returns-clause-events g c =
    λ start told.
    let far = c.loop-number.invariant in
    let done : times_of c.args.item - c.loop-number.number ≡ 0 = omega (arith, c.loop-number-test.false, c.times-number-end.ensures) in
    sym (append-nil c.loop-number.self.events) ∙ ap (λ n. c.loop-number.self.events ++ item_events (seen_in g.I.Isa.kind c.args.image.now c.args.self.now) c.args.target c.args.item n c.loop-number.number (run_of g.I.Isa.kind c.args.image.now c.loop-number.self start)) (sym done) ∙ far.1 start told
