-- The events of directives, one by one, as a machine makes them.
use Rattle.std.proofs.Common.{◌≡◌, ℕ, zero, suc, ◌+◌, ◌-◌, ◌<◌, ◌≤◌, Bool, true, false, List, [], ◌∷◌, ◌++◌, length, Some, None, refl, sym, ap, ◌∙◌, append_assoc, slice_index_or, slice_set, arith}
use Rattle.std.specs.Prelude.{◌≢◌, ◌&&◌, ◌||◌, ◌==◌, not, nat_lt, is_some, if◌then◌else◌}
use Rattle.std.specs.List.{range_with_len}
use Rattle.std.proofs.lemmas.Bool.{false≢true}
use Rattle.std.proofs.lemmas.Bool.Decides.{nat_tests}
use Rattle.std.proofs.lemmas.Grind.{common_steps}
use Rattle.std.proofs.lemmas.List.FromFn.{get_or-map-range_with_len}
use Rattle.ax_words.specs.declared.event.Event.{Event}
use Rattle.ax_isa.specs.declared.cpu.Status.{Status}
use Rattle.ax_isa.specs.declared.cpu.Status.TheVariants.{Running, Ended, Trapped, Stuck}
use Rattle.ax_isa.specs.Run.{Machine, Setting, happens, run}
use Rattle.ax_isa.specs.declared.images.Image.{Image}
use Rattle.ax_isa.specs.Steps.{Kind}
use Rattle.ax_agree.specs.Library.{image_setting}
use Rattle.ax_target.specs.declared.target.Target.{Target}
use Rattle.ax_sched.specs.declared.glance.Glance.{Glance}
use Rattle.ax_sched.specs.declared.plan.Item.{Item}
use Rattle.ax_sched.specs.declared.plan.Item.TheVariants.{Step, Drain, Drop, Link, Round, Random}
use Rattle.ax_sched.specs.Events.{Seen, and_then, behind, chosen, events_of, goes_on, is_met, item_events, next_event}
use Rattle.ax_sched.specs.Plan.{IsWithin, times_of}
use Rattle.ax_run.specs.Machine.{Kept, MachineState, run_of, seen_in}
use Rattle.ax_run.specs.Plans.{glance_of, is_running, of_each, seen_by}
use Rattle.ax_run.proofs.Telling.{run_more}

-- ---- whether a processor is running
pub running_is : (s : Status) → true ≡ is_running s → s ≡ Running
running_is Running e = refl
running_is Ended e = absurd (false≢true (sym e))
running_is Trapped e = absurd (false≢true (sym e))
running_is Stuck e = absurd (false≢true (sym e))

pub running_not : (s : Status) → false ≡ is_running s → s ≢ Running
running_not s e is = false≢true (e ∙ ap is_running is)

-- ---- what a directive chooses by
chosen_same : (target : Target) (i : Item) (g h : Glance) → g.number ≡ h.number → g.processors ≡ h.processors → chosen target i g ≡ chosen target i h
chosen_same target (Step p n) g h number processors = refl
chosen_same target (Drain p n) g h number processors = refl
chosen_same target (Drop p n) g h number processors = refl
chosen_same target (Link p n) g h number processors = refl
chosen_same target (Round n) g h number processors = ap (λ k. chosen target (Round n) (record g { number = k })) number ∙ ap (λ k. chosen target (Round n) (record h { processors = k })) processors
chosen_same target (Random seed n) g h number processors = ap (λ k. chosen target (Random seed n) (record g { number = k })) number ∙ ap (λ k. chosen target (Random seed n) (record h { processors = k })) processors

-- its event's number, how many processors there are, and whether that is there for which it waits
pub next_same : (target : Target) (i : Item) (g h : Glance) → g.number ≡ h.number → g.processors ≡ h.processors → is_met i g ≡ is_met i h → next_event target i g ≡ next_event target i h
next_same target i g h number processors met =
    ap (λ k. if nat_lt k (times_of i) && (k == 0 || not (is_met i g)) then Some (chosen target i g) else None) number
    ∙ ap (λ b. if nat_lt h.number (times_of i) && (h.number == 0 || not b) then Some (chosen target i g) else None) met
    ∙ ap (λ e. if goes_on i h then Some e else None) (chosen_same target i g h number processors)

-- of one that waits for a processor's reservation, that processor's
pub met_same : (i : Item) (g h : Glance) (n : ℕ) → IsWithin n i → ((p : ℕ) → p < n → slice_index_or g.linked p false ≡ slice_index_or h.linked p false) → is_met i g ≡ is_met i h
met_same (Link p k) g h n within same = same p within
met_same (Step p k) g h n within same = refl
met_same (Drain p k) g h n within same = refl
met_same (Drop p k) g h n within same = refl
met_same (Round k) g h n within same = refl
met_same (Random seed k) g h n within same = refl

-- ---- an array's element for each processor
pub each_at : (n p : ℕ) (f : ℕ → Bool) → p < n → n ≤ 8 → slice_index_or (of_each n f) p false ≡ f p
each_at n p f less few =
    let test : nat_lt p n ≡ true = grind (arith, nat_tests) in
    get_or-map-range_with_len (λ q. nat_lt q n && f q) 0 8 p p false (omega (arith, less, few)) (omega arith) ∙ ap (λ b. b && f p) test

pub set_each : (xs : List Bool) (n : ℕ) (b : Bool) (f : ℕ → Bool) → n < length xs → b ≡ f n → ((q : ℕ) → q < n → slice_index_or xs q false ≡ f q) → (q : ℕ) → q < n + 1 → slice_index_or (slice_set xs n b) q false ≡ f q
set_each xs n b f room is before q less = by (Rattle.std.specs.Prelude.nat_eq q n) refl
  where
    set_one : slice_index_or (slice_set xs n b) q false ≡ (if Rattle.std.specs.Prelude.nat_eq q n then b else slice_index_or xs q false)
    set_one = grind (arith, common_steps, nat_tests)

    by : (t : Bool) → Rattle.std.specs.Prelude.nat_eq q n ≡ t → slice_index_or (slice_set xs n b) q false ≡ f q
    by true e = (let same : n ≡ q = grind (arith, nat_tests) in set_one ∙ ap (λ t. if t then b else slice_index_or xs q false) e ∙ is ∙ ap f same)
    by false e = (let other : q < n = grind (arith, nat_tests) in set_one ∙ ap (λ t. if t then b else slice_index_or xs q false) e ∙ before q other)

-- ---- the events of a directive
module _ {I : Type 0} (target : Target) (x : Setting I) (n : ℕ) where
  abbrev seen : Seen Machine
  seen = seen_by x n

  pub none_left : (item : Item) (left k : ℕ) (m : Machine) → next_event target item (glance_of n m k) ≡ None → item_events seen target item left k m ≡ []
  none_left item zero k m is = refl
  none_left item (suc left) k m is = ap (λ o. and_then seen target o (λ e. item_events seen target item left (k + 1) (happens x e m))) is

  pub one_more : (item : Item) (left k : ℕ) (m : Machine) (e : Event) → k < left → next_event target item (glance_of n m k) ≡ Some e → item_events seen target item (left - k) k m ≡ e ∷ item_events seen target item (left - (k + 1)) (k + 1) (happens x e m)
  one_more item left k m e less is =
      let next : left - k ≡ suc (left - (k + 1)) = omega (arith, less) in
      ap (λ j. item_events seen target item j k m) next ∙ ap (λ o. and_then seen target o (λ y. item_events seen target item (left - (k + 1)) (k + 1) (happens x y m))) is

  behind_is : (es : List Event) (m : Machine) → behind seen target es m ≡ run x es m
  behind_is [] m = refl
  behind_is (e ∷ es) m = behind_is es (happens x e m)

  run_all : (es fs : List Event) (m : Machine) → run x (es ++ fs) m ≡ run x fs (run x es m)
  run_all [] fs m = refl
  run_all (e ∷ es) fs m = run_all es fs (happens x e m)

  -- a directive's events, and then those of the others
  pub events_more : (item : Item) (items : List Item) (was : List Event) (start : Machine)
      → (let es = item_events seen target item (times_of item) 0 (run x was start) in was ++ (es ++ events_of seen target items (run x (was ++ es) start)) ≡ was ++ events_of seen target (item ∷ items) (run x was start))
  events_more item items was start =
      let es = item_events seen target item (times_of item) 0 (run x was start) in
      ap (λ m. was ++ (es ++ events_of seen target items m)) (run_all was es start ∙ sym (behind_is es (run x was start)))

-- ---- the machine goes on
module _ {I : Type 0} (kind : Kind I) (image : Image I) (target : Target) (old now new : MachineState) (kept : Kept old now) where
  abbrev x : Setting I
  x = image_setting kind image

  abbrev seen_old : Seen Machine
  seen_old = seen_in kind image old

  abbrev told : MachineState → Machine → Machine
  told r start = run_of kind image r start

  run_on : (start : Machine) (es : List Event) → new.events ≡ es → told new start ≡ run x es start
  run_on start es e = ap (λ l. run x l start) e

  -- one event more of a directive
  pub event_made : (item : Item) (number : ℕ) (e : Event) (start : Machine) → number < times_of item → new.events ≡ now.events ++ e ∷ [] → next_event target item (glance_of (length now.processors) (told now start) number) ≡ Some e
      → new.events ++ item_events seen_old target item (times_of item - (number + 1)) (number + 1) (told new start) ≡ now.events ++ item_events seen_old target item (times_of item - number) number (told now start)
  event_made item number e start less events is =
      let n = length old.processors in
      let m = run x now.events start in
      let rest = times_of item - (number + 1) in
      let next : next_event target item (glance_of n m number) ≡ Some e = ap (λ c. next_event target item (glance_of c m number)) (sym kept.count) ∙ is in
      ap (λ y. new.events ++ item_events seen_old target item rest (number + 1) y) (run_on start (now.events ++ e ∷ []) events ∙ run_more x now.events e start)
      ∙ ap (λ l. l ++ item_events seen_old target item rest (number + 1) (happens x e m)) events
      ∙ append_assoc now.events (e ∷ []) (item_events seen_old target item rest (number + 1) (happens x e m))
      ∙ ap (λ l. now.events ++ l) (sym (one_more target x n item (times_of item) number m e less next))

  -- none more
  pub event_none : (item : Item) (left number : ℕ) (start : Machine) → next_event target item (glance_of (length now.processors) (told now start) number) ≡ None → item_events seen_old target item left number (told now start) ≡ []
  event_none item left number start is =
      none_left target x (length old.processors) item left number (told now start) (ap (λ c. next_event target item (glance_of c (told now start) number)) (sym kept.count) ∙ is)

  -- the events of a directive more
  pub item_made : (item : Item) (items : List Item) (start : Machine) → new.events ≡ now.events ++ item_events (seen_in kind image now) target item (times_of item) 0 (told now start)
      → new.events ++ events_of seen_old target items (told new start) ≡ now.events ++ events_of seen_old target (item ∷ items) (told now start)
  item_made item items start events =
      let n = length old.processors in
      let es = item_events seen_old target item (times_of item) 0 (told now start) in
      let made : new.events ≡ now.events ++ es = events ∙ ap (λ c. now.events ++ item_events (seen_by x c) target item (times_of item) 0 (told now start)) kept.count in
      ap (λ m. new.events ++ events_of seen_old target items m) (run_on start (now.events ++ es) made)
      ∙ ap (λ l. l ++ events_of seen_old target items (run x (now.events ++ es) start)) made
      ∙ append_assoc now.events es (events_of seen_old target items (run x (now.events ++ es) start))
      ∙ events_more target x n item items now.events start
