use Rattle.std.proofs.Common.{◌≡◌, ◌+◌, ◌≤◌, ◌++◌, length, ap, sym, ◌∙◌, append-nil, drop, drop_of_length-le, get_or, arith, List}
use Rattle.std.specs.List.{sum_by}
use Rattle.std.proofs.lemmas.List.{at_drop_more}
use Rattle.std.proofs.lemmas.List.Sums.{sum_by-cons}
use Rattle.ax_sched.specs.declared.plan.Item.{Item}
use Rattle.ax_sched.specs.declared.plan.Item.TheVariants.{Step}
use Rattle.ax_sched.specs.Events.{events_of}
use Rattle.ax_sched.specs.Plan.{times_of}
use Rattle.ax_run.specs.Machine.{run_of, seen_in}
use Rattle.ax_run.proofs.Plans.{item_made}
use Rattle.ax_run.proofs.machine.Machine.perform_image.Goals as goal

pub loop-item-preserved : goal.loop-item-preserved
loop-item-preserved g c =
    let far = c.loop-item.invariant in
    let kept = far.3 in
    let more = c.repeat.ensures.kept in
    let items = c.args.items.now in
    let i = c.loop-item.item-index in
    let item = get_or items i (Step 0 0) in
    let was = c.loop-item.self in
    let sums : sum_by times_of (drop i items) ≡ times_of item + sum_by times_of (drop (i + 1) items) = at_drop_more (λ (l : List Item). sum_by times_of l) items i (Step 0 0) c.loop-item-test.true ∙ sum_by-cons times_of item (drop (i + 1) items) in
    let room = far.2 in
    let left = c.repeat.ensures.room in (
      λ start told. c.repeat.ensures.tells start (far.0 start told),
      λ start told. item_made g.I.Isa.kind c.args.image.now c.args.target c.args.self.now was c.repeat.new.self kept item (drop (i + 1) items) start (c.repeat.ensures.events start (far.0 start told))
          ∙ sym (at_drop_more (λ (l : List Item). was.events ++ events_of (seen_in g.I.Isa.kind c.args.image.now c.args.self.now) c.args.target l (run_of g.I.Isa.kind c.args.image.now was start)) items i (Step 0 0) c.loop-item-test.true) ∙ far.1 start told,
      omega (arith, sums, room, left),
      record { program = more.program ∙ kept.program; count = more.count ∙ kept.count; buffered = more.buffered ∙ kept.buffered },
    )

pub returns : goal.returns
returns g c =
    let far = c.loop-item.invariant in
    let was = c.loop-item.self in
    let items = c.args.items.now in
    let past : length items ≤ c.loop-item.item-index = (let over = c.loop-item-test.false in omega (arith, over)) in
    record {
      tells = far.0;
      events = λ start told.
          sym (append-nil was.events)
          ∙ ap (λ l. was.events ++ events_of (seen_in g.I.Isa.kind c.args.image.now c.args.self.now) c.args.target l (run_of g.I.Isa.kind c.args.image.now was start)) (sym (drop_of_length-le items past))
          ∙ far.1 start told;
      kept = far.3;
    }
