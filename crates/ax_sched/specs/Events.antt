-- The events that directives make.
use Rattle.std.specs.Prelude.{ℕ, zero, suc, ◌+◌, ◌*◌, ◌/◌, ◌%◌, ◌^◌, ◌==◌, nat_lt, Bool, false, not, ◌&&◌, ◌||◌, if◌then◌else◌, List, [], ◌∷◌, ◌++◌, length, Option, Some, None, slice_index_or}
use Rattle.std.specs.List.{flat_map, range_with_len}
use Rattle.ax_words.specs.declared.event.Event.{Event}
use Rattle.ax_words.specs.declared.event.Event.TheVariants as event
use Rattle.ax_target.specs.declared.target.Target.{Target}
use Rattle.ax_target.specs.Targets.{is_buffered, has_pairs}
use Rattle.ax_sched.specs.declared.plan.Item.{Item}
use Rattle.ax_sched.specs.declared.plan.Item.TheVariants.{Step, Drain, Drop, Link, Round, Random}
use Rattle.ax_sched.specs.declared.glance.Glance.{Glance}
use Rattle.ax_sched.specs.Mix.{mix}
use Rattle.ax_sched.specs.Plan.{times_of}

-- the processor of an event
abbrev pub event_processor : Event → ℕ
event_processor (event.Step p) = p
event_processor (event.Drain p) = p
event_processor (event.Drop p) = p

-- Step p, and with buffers two Drain p behind it
abbrev pub turn : Bool → ℕ → List Event
turn buffered p = event.Step p ∷ (if buffered then event.Drain p ∷ event.Drain p ∷ [] else [])

-- the turns of so many processors, from processor 0 on
abbrev pub cycle : Bool → ℕ → List Event
cycle buffered processors = flat_map (turn buffered) (range_with_len 0 processors)

-- event k of a cycle, which begins anew behind its end
abbrev pub cyclic : Bool → ℕ → ℕ → Event
cyclic buffered processors k = slice_index_or (cycle buffered processors) (k % length (cycle buffered processors)) (event.Step 0)

-- an event of processor p that is drawn by k, one of 16 numbers
abbrev pub drawn_event : Target → ℕ → ℕ → Event
drawn_event target p k = if is_buffered target && nat_lt k 4 then event.Drain p else if has_pairs target && k == 0 then event.Drop p else event.Step p

-- the event that a number of the generator draws
abbrev pub random_event : Target → ℕ → ℕ → Event
random_event target processors r = drawn_event target (r % processors) (r / 2 ^ 32 % 16)

-- ---- directives
-- the event that a directive chooses on a target, by what it sees of the run
abbrev pub chosen : Target → Item → Glance → Event
chosen target (Step p n) g = event.Step p
chosen target (Drain p n) g = event.Drain p
chosen target (Drop p n) g = event.Drop p
chosen target (Link p n) g = event.Step p
chosen target (Round n) g = cyclic (is_buffered target) g.processors g.number
chosen target (Random seed n) g = random_event target g.processors (mix seed g.number)

-- what it waits for is there
abbrev pub is_met : Item → Glance → Bool
is_met (Link p n) g = slice_index_or g.linked p false
is_met _ g = false

-- it has events left, and after none of them was there what it waits for
abbrev pub goes_on : Item → Glance → Bool
goes_on item g = nat_lt g.number (times_of item) && (g.number == 0 || not (is_met item g))

abbrev pub next_event : Target → Item → Glance → Option Event
next_event target item g = if goes_on item g then Some (chosen target item g) else None

-- ---- *Events of a plan*
-- a run as directives see it: the Glance before an event, by its number in the directive, and what follows on an event
pub record Seen (M : Type 0) : Type 0 where
  pub glance : M → ℕ → Glance
  pub after : M → Event → M

module _ {M : Type 0} (run : Seen M) (target : Target) where
  abbrev pub behind : List Event → M → M
  behind [] m = m
  behind (e ∷ es) m = behind es (run.after m e)

  -- the event and those that follow it
  abbrev pub and_then : Option Event → (Event → List Event) → List Event
  and_then None rest = []
  and_then (Some e) rest = e ∷ rest e

  -- the events of a directive from its k-th on, at most so many
  abbrev pub item_events : Item → ℕ → ℕ → M → List Event
  item_events item zero k m = []
  item_events item (suc left) k m = and_then (next_event target item (run.glance m k)) (λ e. item_events item left (k + 1) (run.after m e))

  -- THE EVENTS OF DIRECTIVES, one after the other
  abbrev pub events_of : List Item → M → List Event
  events_of [] m = []
  events_of (item ∷ items) m = item_events item (times_of item) 0 m ++ events_of items (behind (item_events item (times_of item) 0 m) m)

-- The event of a cycle in a place, as code finds it.
abbrev pub cycle_event : Bool → ℕ → ℕ → Event
cycle_event buffered processors k = if buffered then (if k % (3 * processors) % 3 == 0 then event.Step (k % (3 * processors) / 3) else event.Drain (k % (3 * processors) / 3)) else event.Step (k % processors)
