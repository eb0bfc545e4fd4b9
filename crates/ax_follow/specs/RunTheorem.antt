-- THE RUN THEOREM: what a machine run has to do with the run of what its code means.
use Rattle.std.specs.Prelude.{◌≡◌, ◌≢◌, ℕ, ◌+◌, ◌*◌, ◌≤◌, true, false, List, []}
use Rattle.ax_words.specs.declared.source.SourceEvent.{SourceEvent}
use Rattle.ax_words.specs.declared.source.SourceStatus.TheVariants.{Running as Runs}
use Rattle.ax_words.specs.declared.event.Event.{Event}
use Rattle.ax_isa.specs.declared.cpu.Status.TheVariants.{Running}
use Rattle.ax_isa.specs.Run.{Machine, Setting, done, drain_events, explain, gives, idle_run, run, sent, since_after, since_run}
use Rattle.ax_isa.specs.Tells.{Nothing, A_miss, given_of, is_excused}
use Rattle.ax_follow.specs.Bounds.{AllInBounds}
use Rattle.ax_follow.specs.Contract.{Fair, Meaning, Possible, Reading, Whole, above_run, gives_of, machine_status, meant_run, outcome_of, source_events}

module _ {I P W : Type 0} (x : Setting I) (l : Meaning P W) (v : Reading) where
  -- how a run begins
  pub record Begins (m : Machine) (s : Whole P W) : Type 0 where
    pub status : (p : ℕ) → (m.processors p).status ≡ machine_status (l.status (s.processors p))
    pub place : (p : ℕ) → (m.processors p).status ≡ Running → (m.processors p).place ≡ l.begins (s.processors p)
    pub matches : (p : ℕ) → (m.processors p).status ≡ Running → l.matches p (m.processors p) m.noted (s.processors p)
    pub sees : l.sees m.noted s.world
    pub waiting : (p : ℕ) → m.noted.storage.waiting p ≡ []
    pub outputs : m.outputs ≡ s.outputs
    pub bounds : v.words ≡ true → AllInBounds m

  -- after any list of events
  pub record Agreed (m : Machine) (s : Whole P W) (idle : ℕ → ℕ) : Type 0 where
    pub outputs : m.outputs ≡ s.outputs
    pub status : (p : ℕ) → (m.processors p).status ≡ machine_status (l.status (s.processors p))
    pub sees : l.sees m.noted s.world
    pub fair : (p : ℕ) → Fair p (m.noted.storage.waiting p)
    pub flat : x.kind.buffered ≡ false → (p : ℕ) → m.noted.storage.waiting p ≡ []
    pub few : (p : ℕ) → idle p ≤ v.most + v.most

  -- the step that a running processor makes next; s is the state above after the drains of that step
  pub record Made (m : Machine) (s : Whole P W) (since : ℕ → ℕ) (p : ℕ) : Type 0 where
    -- an event is made in the code of the instruction at which the processor above stands
    pub owned : gives x v.given v.marks v.counts p m ≢ Nothing → v.owner (m.processors p).place ≡ l.number (s.processors p)
    pub missed : gives x v.given v.marks v.counts p m ≡ A_miss → (done x p m).lost ≡ true
    -- its public tag gives what it gives above
    pub tells : (done x p m).gives ≡ gives_of l (outcome_of l (gives x v.given v.marks v.counts p m) p (s.processors p) s.world)
    -- it can be, and where it is excused above there was an excused step not long ago
    pub excused : gives x v.given v.marks v.counts p m ≢ Nothing → Possible (outcome_of l (gives x v.given v.marks v.counts p m) p (s.processors p) s.world) (λ t. t.excused ≡ true → since_after (is_excused (done x p m)) (since p) ≤ v.most + 1)

  -- what holds of each state that the meaning can reach from s0
  abbrev pub AllFit : Whole P W → Type 0
  AllFit s0 = (es : List SourceEvent) (p : ℕ) → l.status ((meant_run l es s0).processors p) ≡ Runs → l.fits p ((meant_run l es s0).processors p) (meant_run l es s0).world

  abbrev pub meant_after : List Event → Machine → Whole P W → Whole P W
  meant_after es m0 s0 = meant_run l (explain x v.given v.marks v.counts es m0) s0

  pub record RunsInStep : Type 0 where
    -- after every list of events the machine agrees with the meaning under the explanation by the marks, and nobody idles
    pub agrees : (s0 : Whole P W) (m0 : Machine) → Begins m0 s0 → AllFit s0 → (es : List Event) → Agreed (run x es m0) (meant_after es m0 s0) (idle_run x v.given v.marks v.counts es m0 (λ p. 0))
    -- each event is made where it should be; misses are caused
    pub makes :
        (s0 : Whole P W) (m0 : Machine) → Begins m0 s0 → AllFit s0 → (es : List Event) (p : ℕ) → ((run x es m0).processors p).status ≡ Running
        → Made (run x es m0) (meant_run l (drain_events v.counts p (sent x p (run x es m0))) (meant_after es m0 s0)) (since_run x es m0 (λ q. 0)) p
    -- the explanation by the public tags is what the run above gives
    pub explains : (s0 : Whole P W) (m0 : Machine) → Begins m0 s0 → AllFit s0 → (es : List Event) → explain x given_of x.tags v.public es m0 ≡ source_events l (explain x v.given v.marks v.counts es m0) s0
    -- the idle steps by the public tags, from the idle events of the run above
    pub counts :
        (s0 : Whole P W) (m0 : Machine) → Begins m0 s0 → AllFit s0 → (es : List Event) (p : ℕ)
        → idle_run x given_of x.tags v.public es m0 (λ q. 0) p ≤ (v.most + v.most + 1) * above_run l (explain x v.given v.marks v.counts es m0) s0 (λ q. 0) p + idle_run x v.given v.marks v.counts es m0 (λ q. 0) p + (v.most + 1)
