use Rattle.std.proofs.Common.{rules, ◌≡◌, ap, sym, ◌∙◌}
use Rattle.ax_target.specs.Targets.{is_buffered}
use Rattle.ax_sched.specs.Events.{chosen, cycle_event}
use Rattle.ax_sched.proofs.EventsLemmas.{cyclic_at}
use Rattle.ax_sched.proofs.plan.Item.chosen.Goals as goal

pub returns-in-Round-clause-is : goal.returns-in-Round-clause-is
returns-in-Round-clause-is c =
    let said : c.next.result ≡ cycle_event (is_buffered c.args.target) c.args.g.now.processors c.args.g.now.number = search rules in
    said ∙ cyclic_at (is_buffered c.args.target) c.args.g.now.processors c.args.g.now.number c.requires ∙ ap (λ i. chosen c.args.target i c.args.g.now) (sym c.in-Round.is)
