use Rattle.std.proofs.Common.{◌≡◌, ◌≤◌, ◌++◌, drop}
use Rattle.std.specs.List.{sum_by}
use Rattle.ax_isa.specs.Run.{Machine}
use Rattle.ax_sched.specs.Events.{events_of}
use Rattle.ax_sched.specs.Plan.{times_of}
use Rattle.ax_run.specs.Machine.{GoesOn, Kept, Tells, run_of, seen_in}
use Rattle.ax_run.proofs.machine.Machine.perform_image.Given as goal

abbrev pub invariant-loop-item : goal.invariant-loop-item
invariant-loop-item g l =
    GoesOn g.I.Isa.kind l.image l.fn.self l.self
    × ((start : Machine) → Tells g.I.Isa.kind l.image start l.fn.self → l.self.events ++ events_of (seen_in g.I.Isa.kind l.image l.fn.self) l.target (drop l.item-index l.items) (run_of g.I.Isa.kind l.image l.self start) ≡ l.fn.self.events ++ events_of (seen_in g.I.Isa.kind l.image l.fn.self) l.target l.items (run_of g.I.Isa.kind l.image l.fn.self start))
    × (sum_by times_of (drop l.item-index l.items) ≤ l.self.room)
    × Kept l.fn.self l.self
