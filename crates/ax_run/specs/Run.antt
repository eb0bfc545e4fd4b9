-- *The run is the printed code's run*: what a run tells of the machine run of its image over the events of its plan.
pub use Rattle.ax_run.specs.RunState.{RunState}
use Rattle.std.specs.Prelude.{◌≡◌, ◌≤◌, Bool, true, false, List, [], length}
use Rattle.std.specs.List.{sum_by}
use Rattle.ax_words.specs.declared.event.Event.{Event}
use Rattle.ax_isa.specs.declared.images.Image.{Image}
use Rattle.ax_isa.specs.Run.{Machine}
use Rattle.ax_isa.specs.Steps.{Kind}
use Rattle.ax_lowered.specs.declared.lowered.Code.{Code}
use Rattle.ax_lowered.specs.Code.{IsInstrOf, image_of, kind_of}
use Rattle.ax_source_run.specs.SourceState.{SourceProgram}
use Rattle.ax_sched.specs.declared.plan.Plan.{Plan}
use Rattle.ax_sched.specs.Plan.{IsPlan, times_of}
use Rattle.ax_agree.specs.Lowers.{explanation, machine_begins, machine_run}
use Rattle.ax_run.specs.Machine.{MayRun, Shows, Tells}
use Rattle.ax_run.specs.Plans.{plan_events}

-- the run of a code of a program over a plan
pub record IsOf (code : Code) (program : SourceProgram) (plan : Plan) (r : RunState) : Type 0 where
  pub code_is : r.code ≡ code
  pub program_is : r.program ≡ program
  pub plan_is : r.plan ≡ plan

-- the events so far: none, or all
abbrev pub so_far : Bool → List Event → List Event
so_far false events = []
so_far true events = events

module _ {I : Type 0} (kind : Kind I) (image : Image I) (r : RunState) where
  -- the events of its plan
  abbrev pub events_of_plan : List Event
  events_of_plan = plan_events kind image r.program r.plan

  -- what an ended run of an image tells
  pub record HasRunOf : Type 0 where
    pub machine_schedule : r.machine.events ≡ events_of_plan
    pub source_schedule : r.machine.sources ≡ explanation kind image r.program r.plan.entries events_of_plan
    pub shows : Shows r.machine (machine_run kind image r.program r.plan.entries events_of_plan)

  -- what every run of an image keeps
  pub record IsSoundRunOf (valid : I → Type 0) : Type 0 where
    pub runs : MayRun kind valid image r.machine
    pub program : r.machine.program ≡ r.program
    pub plan : IsPlan (length r.program.source.functions) r.plan
    pub count : length r.machine.processors ≡ length r.plan.entries
    pub events : r.machine.events ≡ so_far r.ended events_of_plan
    pub tells : Tells kind image (machine_begins kind image r.program r.plan.entries) r.machine
    pub room : r.ended ≡ false → sum_by times_of r.plan.items ≤ r.machine.room

-- WHAT AN ENDED RUN TELLS: the events, the source events that explain them, and the state after them
abbrev pub HasRun : RunState → Type 0
HasRun r = HasRunOf (kind_of r.code) (image_of r.code) r

abbrev pub IsSoundRun : RunState → Type 0
IsSoundRun r = IsSoundRunOf (kind_of r.code) (image_of r.code) r (IsInstrOf r.code)

-- a reader's answer is that of each state which the run shows
abbrev pub Reads : {A : Type 0} → RunState → (Machine → A) → A → Type 0
Reads r read answer = (m : Machine) → Shows r.machine m → answer ≡ read m
