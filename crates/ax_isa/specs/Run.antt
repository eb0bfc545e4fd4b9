-- *Machine run* and *Explanation*: the run of an image over a list of events, and the source events that its tags give.
use Rattle.std.specs.Prelude.{ℕ, zero, suc, ◌+◌, Bool, true, false, if◌then◌else◌, nat_eq, List, [], ◌∷◌, ◌++◌, Option, Some, None, slice_get, slice_index_or, map}
use Rattle.ax_words.specs.declared.source.SourceEvent.{SourceEvent}
use Rattle.ax_words.specs.declared.source.SourceEvent.TheVariants.{Act, Look, Miss, Drain as Drains}
use Rattle.ax_words.specs.declared.source.SourceStatus.{SourceStatus}
use Rattle.ax_words.specs.declared.source.SourceStatus.TheVariants.{Running as Runs, Ended as Ends, Trapped as Traps}
use Rattle.ax_store.specs.declared.entry.Entry.{Entry}
use Rattle.ax_store.specs.Storage.{at_place}
use Rattle.ax_map.specs.Map.{frame_base, in_regions, stack_offset}
use Rattle.ax_tags.specs.declared.tags.Role.TheVariants.{None as Outside}
use Rattle.ax_isa.specs.declared.cpu.Status.{Status}
use Rattle.ax_isa.specs.declared.cpu.Status.TheVariants.{Running, Ended, Trapped, Stuck}
use Rattle.ax_isa.specs.declared.effects.Outcome.{Outcome}
use Rattle.ax_words.specs.declared.event.Event.{Event}
use Rattle.ax_words.specs.declared.event.Event.TheVariants.{Step, Drain, Drop}
use Rattle.ax_tags.specs.declared.tags.Tag.{Tag}
use Rattle.ax_tags.specs.declared.tags.Tag.TheVariants.{Silent}
use Rattle.ax_isa.specs.Past.{Noted, drain, drain_list, drop_link, start_past}
use Rattle.ax_isa.specs.Processor.{Processor}
use Rattle.ax_isa.specs.Steps.{Kind, stuck, waits, flushes}
use Rattle.ax_isa.specs.Tells.{Given, Nothing, An_act, A_look, A_miss, Library, Done, is_excused, told_stuck, done_by}

-- the machine's word for what a processor of the source machine is doing; none is Stuck
abbrev pub machine_status : SourceStatus → Status
machine_status Runs = Running
machine_status Ends = Ended
machine_status Traps = Trapped

-- what a run is of
pub record Setting (I : Type 0) : Type 0 where
  pub kind : Kind I
  pub code : List I
  pub tags : ℕ → Tag
  pub library : Library

-- places count from 1
abbrev pub at_code : {I : Type 0} → List I → ℕ → Option I
at_code code zero = None
at_code code (suc place) = slice_get code place

pub record Machine : Type 0 where
  pub processors : ℕ → Processor
  pub noted : Noted
  pub outputs : List (ℕ × ℕ)
  -- the Steps that each processor made while it was running
  pub retired : ℕ → ℕ

abbrev pub outputs_of : ℕ → Option ℕ → List (ℕ × ℕ)
outputs_of p None = []
outputs_of p (Some n) = (p, n) ∷ []

abbrev pub after_step : ℕ → Done → Machine → Machine
after_step p d m = record { processors = at_place m.processors p d.processor; noted = d.noted; outputs = m.outputs ++ outputs_of p d.outcome.output; retired = at_place m.retired p (m.retired p + 1) }

abbrev pub with_noted : Noted → Machine → Machine
with_noted n m = record m { noted = n }

abbrev pub events_of : ℕ → Given → List SourceEvent
events_of p Nothing = []
events_of p An_act = Act p ∷ []
events_of p A_look = Look p ∷ []
events_of p A_miss = Miss p ∷ []

-- a store that counts gives a Drain when it goes to memory
abbrev pub drain_event : (Entry → Bool) → ℕ → Entry → List SourceEvent
drain_event counts p e = if counts e then Drains p ∷ [] else []

abbrev pub drain_events : (Entry → Bool) → ℕ → List Entry → List SourceEvent
drain_events counts p [] = []
drain_events counts p (e ∷ es) = drain_event counts p e ++ drain_events counts p es

abbrev pub first_drain : (Entry → Bool) → ℕ → List Entry → List SourceEvent
first_drain counts p [] = []
first_drain counts p (e ∷ es) = drain_event counts p e

-- steps of a processor in a row that gave no Act and have no excuse
abbrev pub idle_after : Given → Bool → ℕ → ℕ
idle_after An_act excused n = 0
idle_after Nothing true n = 0
idle_after Nothing false n = n + 1
idle_after A_look true n = 0
idle_after A_look false n = n + 1
idle_after A_miss true n = 0
idle_after A_miss false n = n + 1

-- the steps of a processor since its last excused one
abbrev pub since_after : Bool → ℕ → ℕ
since_after true n = 0
since_after false n = n + 1

-- a place without an instruction has no tag, and gives nothing
abbrev pub tag_or : Option Tag → Tag
tag_or None = Silent
tag_or (Some t) = t

abbrev pub tag_at : List Tag → ℕ → Tag
tag_at tags place = tag_or (at_code tags place)

module _ {I : Type 0} (x : Setting I) where
  abbrev pub step_at : Option I → ℕ → Processor → Noted → Done
  step_at None p c n = told_stuck (x.tags c.place) c (stuck c n)
  step_at (Some i) p c n = done_by x.library x.kind.buffered (x.tags c.place) p (x.kind.effect_of i c) c n

  -- one step of a running processor, which finds its buffer empty where it flushes
  abbrev pub step : ℕ → Processor → Noted → Done
  step p c n = step_at (at_code x.code c.place) p c n

  abbrev pub flushes_at : Option I → ℕ → Processor → Noted → Bool
  flushes_at None p c n = false
  flushes_at (Some i) p c n = flushes p (x.kind.effect_of i c) c n.storage

  -- does the step flush
  abbrev pub flushing : ℕ → Processor → Noted → Bool
  flushing p c n = flushes_at (at_code x.code c.place) p c n

  -- the own stores that it sends to memory first
  abbrev pub sent : ℕ → Machine → List Entry
  sent p m = waits (flushing p (m.processors p) m.noted) p m.noted

  abbrev pub ready : ℕ → Machine → Machine
  ready p m = with_noted (drain_list (sent p m) p m.noted) m

  abbrev pub done : ℕ → Machine → Done
  done p m = step p (m.processors p) (ready p m).noted

  abbrev pub step_if : Status → ℕ → Machine → Machine
  step_if Running p m = after_step p (done p m) (ready p m)
  step_if Ended p m = m
  step_if Trapped p m = m
  step_if Stuck p m = m

  abbrev pub happens : Event → Machine → Machine
  happens (Step p) m = step_if (m.processors p).status p m
  happens (Drain p) m = with_noted (drain p m.noted) m
  happens (Drop p) m = with_noted (drop_link p m.noted) m

  abbrev pub run : List Event → Machine → Machine
  run [] m = m
  run (e ∷ es) m = run es (happens e m)

  -- the source events of a run, by the tag of each place, as tags are read, and the stores that count
  module _ (given : Tag → ℕ → Processor → Outcome → Given) (tags : ℕ → Tag) (counts : Entry → Bool) where
    abbrev pub gives : ℕ → Machine → Given
    gives p m = given (tags (m.processors p).place) (done p m).bytes (m.processors p) (done p m).outcome

    abbrev pub events_if : Status → ℕ → Machine → List SourceEvent
    events_if Running p m = drain_events counts p (sent p m) ++ events_of p (gives p m)
    events_if Ended p m = []
    events_if Trapped p m = []
    events_if Stuck p m = []

    abbrev pub explained : Event → Machine → List SourceEvent
    explained (Step p) m = events_if (m.processors p).status p m
    explained (Drain p) m = first_drain counts p (m.noted.storage.waiting p)
    explained (Drop p) m = []

    abbrev pub explain : List Event → Machine → List SourceEvent
    explain [] m = []
    explain (e ∷ es) m = explained e m ++ explain es (happens e m)

    abbrev pub idle_if : Status → ℕ → Machine → (ℕ → ℕ) → ℕ → ℕ
    idle_if Running p m idle = at_place idle p (idle_after (gives p m) (is_excused (done p m)) (idle p))
    idle_if Ended p m idle = idle
    idle_if Trapped p m idle = idle
    idle_if Stuck p m idle = idle

    abbrev pub idle_next : Event → Machine → (ℕ → ℕ) → ℕ → ℕ
    idle_next (Step p) m idle = idle_if (m.processors p).status p m idle
    idle_next (Drain p) m idle = idle
    idle_next (Drop p) m idle = idle

    abbrev pub idle_run : List Event → Machine → (ℕ → ℕ) → ℕ → ℕ
    idle_run [] m idle = idle
    idle_run (e ∷ es) m idle = idle_run es (happens e m) (idle_next e m idle)

  abbrev pub since_if : Status → ℕ → Machine → (ℕ → ℕ) → ℕ → ℕ
  since_if Running p m since = at_place since p (since_after (is_excused (done p m)) (since p))
  since_if Ended p m since = since
  since_if Trapped p m since = since
  since_if Stuck p m since = since

  abbrev pub since_next : Event → Machine → (ℕ → ℕ) → ℕ → ℕ
  since_next (Step p) m since = since_if (m.processors p).status p m since
  since_next (Drain p) m since = since
  since_next (Drop p) m since = since

  abbrev pub since_run : List Event → Machine → (ℕ → ℕ) → ℕ → ℕ
  since_run [] m since = since
  since_run (e ∷ es) m since = since_run es (happens e m) (since_next e m since)

abbrev pub start_regs : ℕ → ℕ → ℕ → ℕ
start_regs stack p r = if nat_eq r stack then frame_base p + stack_offset else 0

abbrev pub start_with : ℕ → ℕ → ℕ → Status → Processor
start_with stack p place status = record { regs = start_regs stack p; compared = (0, 0); half = false; place = place; status = status; role = Outside }

-- a processor begins at the first place of its entry; there is none past the last entry
abbrev pub start_processor : ℕ → ℕ → Option ℕ → Processor
start_processor stack p None = start_with stack p 0 Ended
start_processor stack p (Some place) = start_with stack p place Running

-- the globals lie up to `end`, and hold these bytes
abbrev pub start_noted : ℕ → List ℕ → (ℕ → ℕ) → Noted
start_noted end frames initial = record { storage = record { inside = in_regions end frames; mem = initial; waiting = λ p. []; linked = λ p. None }; past = start_past }

-- the state in which an image's run begins: processor p at the p-th entry, the number of a function
abbrev pub machine_start : ℕ → List ℕ → List ℕ → List ℕ → ℕ → (ℕ → ℕ) → Machine
machine_start stack places frames entries end initial =
    record {
      processors = λ p. start_processor stack p (slice_get (map (λ f. slice_index_or places f 0) entries) p);
      noted = start_noted end (map (λ f. slice_index_or frames f 0) entries) initial;
      outputs = [];
      retired = λ p. 0;
    }

-- a setting, by its parts
abbrev pub setting_of : {I : Type 0} → Kind I → List I → List Tag → Library → Setting I
setting_of kind code tags library = record { kind = kind; code = code; tags = tag_at tags; library = library }

-- the step that a running processor makes, whatever waits in its buffer
abbrev pub made_by : {I : Type 0} → Setting I → ℕ → Processor → Noted → Done
made_by x p c n = step x p c (drain_list (waits (flushing x p c n) p n) p n)
