use Rattle.std.proofs.Common.{◌≡◌, ◌≤◌, [], drop, map}
use Rattle.ax_sched.specs.Reading.{items_from}
use Rattle.ax_sched.proofs.schedule.items.Given as goal

abbrev pub invariant-loop-line : goal.invariant-loop-line
invariant-loop-line l = record {
  few : l.events ≤ 1000000;
  read : items_from l.processors l.items.items l.events (map (λ x. (x.0, x.1.now)) (drop l.line-index l.lines)) ≡ items_from l.processors [] 0 (map (λ x. (x.0, x.1.now)) l.lines);
}
