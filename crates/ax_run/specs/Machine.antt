-- When a machine shows a state of the machine run, and when what it wrote down tells the run of an image from a start.
pub use Rattle.ax_run.specs.MachineState.{MachineState, IsReady, natives_in, retired_in}
use Rattle.std.specs.Prelude.{◌≡◌, ℕ, ◌+◌, ◌-◌, ◌<◌, false, Some, List, [], ◌∷◌, ◌++◌, length, option_to_list, slice_get, slice_index_or, slice_set}
use Rattle.ax_words.specs.declared.event.Event.{Event}
use Rattle.ax_words.specs.declared.event.Event.TheVariants.{Step}
use Rattle.ax_store.specs.declared.entry.Entry.{Entry}
use Rattle.ax_store.specs.Storage.{at_place, drained, flushed}
use Rattle.ax_store.specs.Store.{storage_of}
use Rattle.ax_store.specs.StoreState.{StoreState}
use Rattle.ax_isa.specs.declared.cpu.Cpu.{Cpu}
use Rattle.ax_isa.specs.declared.images.Image.{Image}
use Rattle.ax_tags.specs.declared.tags.Role.TheVariants.{None as Outside}
use Rattle.ax_isa.specs.declared.cpu.Status.TheVariants.{Ended}
use Rattle.ax_isa.specs.declared.shown.Shown.{Shown}
use Rattle.ax_isa.specs.Past.{Noted, Past, drain_list, noted}
use Rattle.ax_isa.specs.Processor.{Processor, processor_of}
use Rattle.ax_isa.specs.Run.{Machine, drain_events, explain, first_drain, flushing, outputs_of, run, tag_at}
use Rattle.ax_isa.specs.Stepping.{IsStepAt}
use Rattle.ax_isa.specs.Steps.{Kind, waits}
use Rattle.ax_isa.specs.Tells.{given_of}
use Rattle.ax_agree.specs.Agree.{is_native_entry}
use Rattle.ax_agree.specs.Library.{image_setting}
use Rattle.ax_sched.specs.declared.plan.Item.{Item}
use Rattle.ax_sched.specs.Events.{Seen, events_of}
use Rattle.ax_target.specs.declared.target.Target.{Target}
use Rattle.ax_run.specs.Plans.{seen_by}

-- past the last processor there is one that has ended
abbrev pub idle : Cpu
idle = record { regs = []; compared = (0, 0); half = false; place = 0; status = Ended; role = Outside }

abbrev pub cpu_in : MachineState → ℕ → Cpu
cpu_in r q = slice_index_or r.processors q idle

abbrev pub processor_in : MachineState → ℕ → Processor
processor_in r q = processor_of (cpu_in r q)

-- the notes of the past have no part in what a machine shows
pub record Shows (r : MachineState) (m : Machine) : Type 0 where
  pub processors : (q : ℕ) → q < length r.processors → processor_in r q ≡ m.processors q
  pub storage : storage_of r.store ≡ m.noted.storage
  pub outputs : r.outputs ≡ m.outputs
  pub retired : (q : ℕ) → q < length r.processors → retired_in r q ≡ m.retired q

-- its storage, whatever the notes of the past
abbrev pub noted_in : MachineState → Past → Noted
noted_in r past = noted (storage_of r.store) past

-- what stays
pub record Kept (old new : MachineState) : Type 0 where
  pub program : new.program ≡ old.program
  pub count : length new.processors ≡ length old.processors
  pub buffered : new.store.buffered ≡ old.store.buffered

-- with this storage
abbrev pub stored : StoreState → MachineState → MachineState
stored s r = record r { store = s }

-- an event that changes no processor, as a Step of one that isn't running, is written down
abbrev pub passed : Event → MachineState → MachineState
passed e r = record r { events = r.events ++ e ∷ []; room = r.room - 1 }

-- a Step with what it shows is
abbrev pub counted : ℕ → Shown → MachineState → MachineState
counted p shown r =
    record r {
      retired = slice_set r.retired p (retired_in r p + 1);
      outputs = r.outputs ++ outputs_of p shown.outcome.output;
      sources = r.sources ++ option_to_list shown.gives;
      events = r.events ++ Step p ∷ [];
      room = r.room - 1;
    }

-- stores of processor p went to memory, and those to native objects are source events
pub record Sent (old new : MachineState) : Type 0 where
  pub buffered : new.store.buffered ≡ old.store.buffered
  pub rest : new ≡ record old { store = new.store; natives = new.natives; sources = new.sources }

-- the oldest
pub record SentFirst (p : ℕ) (old new : MachineState) : Type 0 where
  pub sent : Sent old new
  pub storage : storage_of new.store ≡ drained p (storage_of old.store)
  pub sources : new.sources ≡ old.sources ++ first_drain (is_native_entry old.program) p ((storage_of old.store).waiting p)

-- all
pub record SentAll (p : ℕ) (old new : MachineState) : Type 0 where
  pub sent : Sent old new
  pub storage : storage_of new.store ≡ flushed p (storage_of old.store)
  pub sources : new.sources ≡ old.sources ++ drain_events (is_native_entry old.program) p ((storage_of old.store).waiting p)

module _ {I : Type 0} (kind : Kind I) (image : Image I) where
  -- the run that a machine tells from a start, and what directives see of it
  abbrev pub run_of : MachineState → Machine → Machine
  run_of r start = run (image_setting kind image) r.events start

  abbrev pub seen_in : MachineState → Seen Machine
  seen_in r = seen_by (image_setting kind image) (length r.processors)

  -- A MACHINE TELLS THE RUN of an image over its events from a start, and the source events that explain it
  pub record Tells (start : Machine) (r : MachineState) : Type 0 where
    pub sources : r.sources ≡ explain (image_setting kind image) given_of (tag_at image.tags) (is_native_entry r.program) r.events start
    pub shows : Shows r (run_of r start)

  -- through a call it goes on telling the run of whatever start it told
  abbrev pub GoesOn : MachineState → MachineState → Type 0
  GoesOn old new = (start : Machine) → Tells start old → Tells start new

  -- the own stores that the next step of processor p first sends to memory
  abbrev pub sent_at : ℕ → MachineState → Past → List Entry
  sent_at p r past = waits (flushing (image_setting kind image) p (processor_in r p) (noted_in r past)) p (noted_in r past)

  -- they are sent, and the step then finds that none is to be sent
  pub record Readied (p : ℕ) (old new : MachineState) : Type 0 where
    pub sent : Sent old new
    pub storage : (past : Past) → storage_of new.store ≡ (drain_list (sent_at p old past) p (noted_in old past)).storage
    pub sources : (past : Past) → new.sources ≡ old.sources ++ drain_events (is_native_entry old.program) p (sent_at p old past)
    pub none : (past : Past) → sent_at p new past ≡ []

  -- a step of processor p and of the storage, written down
  pub record Advanced (p : ℕ) (old new : MachineState) : Type 0 where
    pub shown : Shown
    pub cells : p < length old.retired
    pub step : IsStepAt kind image.code image.tags p (processor_in old p) (processor_in new p) old.store new.store shown
    pub others : (q : ℕ) → processor_in new q ≡ at_place (processor_in old) p (processor_in new p) q
    pub count : length new.processors ≡ length old.processors
    pub rest : new ≡ counted p shown (record old { processors = new.processors; store = new.store; natives = new.natives })

-- an image may run on a machine: its instructions are in their ranges, and its stores wait where the machine has buffers
pub record MayRun {I : Type 0} (kind : Kind I) (valid : I → Type 0) (image : Image I) (r : MachineState) : Type 0 where
  pub instructions : (j : ℕ) (i : I) → slice_get image.code j ≡ Some i → valid i
  pub buffered : r.store.buffered ≡ kind.buffered

-- through the events of directives on a target it tells the run on
pub record Performed {I : Type 0} (kind : Kind I) (image : Image I) (items : List Item) (target : Target) (old new : MachineState) : Type 0 where
  pub tells : GoesOn kind image old new
  pub events : (start : Machine) → Tells kind image start old → new.events ≡ old.events ++ events_of (seen_in kind image old) target items (run_of kind image old start)
  pub kept : Kept old new
