use Rattle.std.proofs.Common.{◌≡◌, ◌+◌, ◌-◌, ◌++◌}
use Rattle.ax_isa.specs.Run.{Machine}
use Rattle.ax_sched.specs.Events.{item_events}
use Rattle.ax_sched.specs.Plan.{times_of}
use Rattle.ax_run.specs.Machine.{GoesOn, Kept, Tells, run_of, seen_in}
use Rattle.ax_run.proofs.machine.Machine.repeat.Given as goal

abbrev pub invariant-loop-number : goal.invariant-loop-number
invariant-loop-number g l =
    GoesOn g.I.Isa.kind l.image l.fn.self l.self
    × ((start : Machine) → Tells g.I.Isa.kind l.image start l.fn.self → l.self.events ++ item_events (seen_in g.I.Isa.kind l.image l.fn.self) l.target l.item (times_of l.item - l.number) l.number (run_of g.I.Isa.kind l.image l.self start) ≡ l.fn.self.events ++ item_events (seen_in g.I.Isa.kind l.image l.fn.self) l.target l.item (times_of l.item) 0 (run_of g.I.Isa.kind l.image l.fn.self start))
    × (l.self.room + l.number ≡ l.fn.self.room)
    × Kept l.fn.self l.self
