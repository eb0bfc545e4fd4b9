-- The contract of a piece of code: through every list of own steps, of own stores that go to memory and of changes by others it keeps in step with what the code means.
use Rattle.std.specs.Prelude.{◌≡◌, ◌≢◌, ℕ, ◌+◌, ◌/◌, ◌<◌, ◌≤◌, Bool, true, false, ◌||◌, List, [], ◌∷◌, ◌++◌, Option, Some, None, ◌⊎◌, if◌then◌else◌}
use Rattle.ax_words.specs.declared.source.SourceEvent.{SourceEvent}
use Rattle.ax_words.specs.declared.source.SourceEvent.TheVariants.{Act, Look, Miss, Drain}
use Rattle.ax_words.specs.declared.source.SourceStatus.{SourceStatus}
use Rattle.ax_words.specs.declared.source.SourceStatus.TheVariants.{Running as Runs, Ended as Ends, Trapped as Traps}
use Rattle.ax_store.specs.declared.entry.Entry.{Entry}
use Rattle.ax_store.specs.declared.entry.Reservation.{Reservation}
use Rattle.ax_map.specs.Map.{covers, frame_base, frame_end, frames_start}
use Rattle.ax_store.specs.Storage.{Storage, at_place}
use Rattle.ax_isa.specs.declared.cpu.Status.TheVariants.{Running}
use Rattle.ax_isa.specs.declared.effects.Outcome.{Outcome}
use Rattle.ax_tags.specs.declared.tags.Tag.{Tag}
use Rattle.ax_isa.specs.Past.{Note, Noted, drain, drop_link}
use Rattle.ax_isa.specs.Processor.{Processor}
use Rattle.ax_isa.specs.Tells.{Given, Nothing, An_act, A_look, A_miss, Done, is_excused}
pub use Rattle.ax_isa.specs.Run.{machine_status}
use Rattle.ax_follow.specs.Bounds.{Bounded, InBounds}
use Rattle.ax_isa.specs.Run.{Setting, step, flushing, events_of, idle_after, outputs_of}

-- what an event of a processor leaves: the processor, what all share, and an output; which source event it gives, and whether it is a caused failure or a busy test there
pub record Did (P W : Type 0) : Type 0 where
  pub processor : P
  pub world : W
  pub output : Option ℕ
  pub gives : Given
  pub excused : Bool

-- what code means to those above it: P is a processor there, W what all processors share, with the stores that wait
pub record Meaning (P W : Type 0) : Type 1 where
  pub status : P → SourceStatus
  -- what an event of processor p does, where it can be
  pub chosen : Given → ℕ → P → W → Option (Did P W)
  -- what it leaves that the oldest store of p goes to memory, and whether it is a source event
  pub drained : ℕ → W → W
  pub drain_gives : ℕ → W → Bool
  -- a storage with its notes shows what all share
  pub sees : Noted → W → Type 0
  -- the number of the instruction at which a processor stands, and the place where its code begins
  pub number : P → ℕ
  pub begins : P → ℕ
  -- a machine's processor that stands there has this one's numbers
  pub matches : ℕ → Processor → Noted → P → Type 0
  -- what holds of processor p in each state that can be reached
  pub fits : ℕ → P → W → Type 0

-- what the proof alone knows of an image
pub record Reading : Type 0 where
  -- which step makes an instruction's event
  pub marks : ℕ → Tag
  -- how a mark is read: without roles, where those above have them
  pub given : Tag → ℕ → Processor → Outcome → Given
  -- the number of the instruction whose code stands at a place
  pub owner : ℕ → ℕ
  -- the stores of which those above know, and those that are source events
  pub counts : Entry → Bool
  pub public : Entry → Bool
  -- so many idle steps in a row at most, in the code of one instruction
  pub most : ℕ
  -- are registers known to hold words, and memory bytes
  pub words : Bool

-- the addresses of p's frame, and those that p may write: its frame, and all below the frames
abbrev pub IsOwn : ℕ → ℕ → Type 0
IsOwn p a = (frame_base p ≤ a) × (a < frame_end p)

abbrev pub MayWrite : ℕ → ℕ → Type 0
MayWrite p a = (a < frames_start) ⊎ IsOwn p a

-- a store reaches only what p may write
pub record FairEntry (p : ℕ) (e : Entry) : Type 0 where
  pub bytes : (b : ℕ) → covers e.address e.bytes b ≡ true → MayWrite p b

abbrev pub Fair : ℕ → List Entry → Type 0
Fair p [] = Unit {0}
Fair p (e ∷ es) = FairEntry p e × Fair p es

-- the reservation is gone, or it and the 64 bytes that it covers are as they were
abbrev pub KeepsLink : ℕ → Storage → Storage → Type 0
KeepsLink p old new =
    (new.linked p ≡ None) ⊎ ((new.linked p ≡ old.linked p) × ((r : Reservation) (b : ℕ) → old.linked p ≡ Some r → r.address / 64 ≡ b / 64 → new.mem b ≡ old.mem b))

-- what others leave of a note: each byte is as it was, or was touched
pub record Later (old new : Note) (before after : ℕ → ℕ) : Type 0 where
  pub read : new.read ≡ old.read
  pub number : new.number ≡ old.number
  pub reached : (b : ℕ) → ((after b ≡ before b) × (new.touched b ≡ old.touched b)) ⊎ (new.touched b ≡ true)

-- what a change by others leaves as it was
pub record ByOthers (p : ℕ) (old new : Noted) : Type 0 where
  pub inside : new.storage.inside ≡ old.storage.inside
  pub waiting : new.storage.waiting p ≡ old.storage.waiting p
  pub own : (a : ℕ) → IsOwn p a → new.storage.mem a ≡ old.storage.mem a
  pub linked : KeepsLink p old.storage new.storage
  -- a reservation that others end is noted
  pub last : new.past.last p ≡ old.past.last p
  pub lost : (r : Reservation) → old.past.last p ≡ Some r → (old.storage.linked p ≡ Some r) ⊎ (old.past.lost p ≡ true) → (new.storage.linked p ≡ Some r) ⊎ (new.past.lost p ≡ true)
  -- and so is a write to what p read
  pub kept : Later (old.past.kept p) (new.past.kept p) old.storage.mem new.storage.mem
  pub next : Later (old.past.next p) (new.past.next p) old.storage.mem new.storage.mem
  pub called : new.past.called p ≡ old.past.called p

-- what an own step leaves as it was
pub record ByOwn (p : ℕ) (old new : Noted) : Type 0 where
  pub fair : Fair p (new.storage.waiting p)
  pub others : (a : ℕ) → ¬ MayWrite p a → new.storage.mem a ≡ old.storage.mem a

pub data Happening : Type 0 where
  Own : Happening
  Drained : Happening
  Other : (new : Noted) → Happening

abbrev pub done_after : Given → Bool → Bool
done_after Nothing acted = acted
done_after An_act acted = true
done_after A_look acted = acted
done_after A_miss acted = true

-- how far the code of an instruction is: whether its event has been, whether it had an excused step, and its idle steps in a row
pub record Stage : Type 0 where
  pub acted : Bool
  pub rested : Bool
  pub idle : ℕ

abbrev pub stage_start : Stage
stage_start = record { acted = false; rested = false; idle = 0 }

abbrev pub stage_after : Given → Bool → Stage → Stage
stage_after g excused j = record { acted = done_after g j.acted; rested = j.rested || excused; idle = idle_after g excused j.idle }

abbrev pub Possible : {P W : Type 0} → Option (Did P W) → (Did P W → Type 0) → Type 0
Possible None Q = ⊥
Possible (Some t) Q = Q t

-- nothing changes above
abbrev pub outcome_of : {P W : Type 0} → Meaning P W → Given → ℕ → P → W → Option (Did P W)
outcome_of l Nothing p s w = Some (record { processor = s; world = w; output = None; gives = Nothing; excused = false })
outcome_of l An_act p s w = l.chosen An_act p s w
outcome_of l A_look p s w = l.chosen A_look p s w
outcome_of l A_miss p s w = l.chosen A_miss p s w

module _ {P W : Type 0} (l : Meaning P W) (v : Reading) where
  -- an own step that gives g, and does t above
  pub record OwnStep (Then : Stage → P → Processor → Noted → Type 0) (p : ℕ) (j : Stage) (s : P) (c : Processor) (n : Noted) (d : Done) (g : Given) (t : Did P W) : Type 0 where
    -- one event for each instruction, in its code
    pub once : g ≢ Nothing → j.acted ≡ false
    pub owned : g ≢ Nothing → v.owner c.place ≡ l.number s
    -- the processor stays in this code, until the event has been and it goes where the processor above goes
    pub stays : (v.owner d.processor.place ≡ v.owner c.place) ⊎ ((done_after g j.acted ≡ true) × (d.processor.place ≡ l.begins t.processor))
    pub shows : l.sees d.noted t.world
    pub touches : ByOwn p n d.noted
    -- the public tag gives what the event gives
    pub tells : d.gives ≡ t.gives
    -- a miss is a pair store that others or a Drop made fail
    pub missed : g ≡ A_miss → d.lost ≡ true
    -- what is excused above has an excuse in this code
    pub excused : g ≢ Nothing → t.excused ≡ true → (j.rested || is_excused d) ≡ true
    pub few : idle_after g (is_excused d) j.idle ≤ v.most
    pub output : d.outcome.output ≡ t.output
    pub status : d.processor.status ≡ machine_status (l.status t.processor)
    pub goes : d.processor.status ≡ Running → Then (stage_after g (is_excused d) j) t.processor d.processor d.noted

  module _ {I : Type 0} (x : Setting I) where
    -- once it has acted, and stands where the next instruction's code begins, the numbers match
    abbrev pub Through : ℕ → Stage → P → Processor → Noted → Type 0
    Through p j s c n = j.acted ≡ true → c.place ≡ l.begins s → l.matches p c n s

    abbrev pub given : Processor → Done → Given
    given c d = v.given (v.marks c.place) d.bytes c d.outcome

    -- what is known before an own step
    pub record Steppable (p : ℕ) (j : Stage) (s : P) (c : Processor) (n : Noted) (w : W) : Type 0 where
      pub sees : l.sees n w
      pub fits : l.fits p s w
      pub fair : Fair p (n.storage.waiting p)
      pub flat : x.kind.buffered ≡ false → n.storage.waiting p ≡ []
      pub empty : flushing x p c n ≡ true → n.storage.waiting p ≡ []
      pub running : c.status ≡ Running
      pub runs : l.status s ≡ Runs
      pub inner : j.acted ≡ true → c.place ≢ l.begins s
      pub bounds : v.words ≡ true → InBounds c n

    abbrev pub Steps : (Stage → P → Processor → Noted → Type 0) → ℕ → Stage → P → Processor → Noted → W → Done → Type 0
    Steps Then p j s c n w d = Possible (outcome_of l (given c d) p s w) (λ t. OwnStep Then p j s c n d (given c d) t)

    abbrev pub InStep : ℕ → List Happening → Stage → P → Processor → Noted → Type 0
    InStep p [] j s c n = Through p j s c n
    InStep p (Own ∷ hs) j s c n = Through p j s c n × ((w : W) → Steppable p j s c n w → Steps (λ i t d new. InStep p hs i t d new) p j s c n w (step x p c n))
    InStep p (Drained ∷ hs) j s c n = Through p j s c n × (x.kind.buffered ≡ true → InStep p hs j s c (drain p n))
    InStep p (Other new ∷ hs) j s c n = Through p j s c n × (ByOthers p n new → InStep p hs j s c new)

    -- THE CONTRACT: wherever a processor stands at the beginning of an instruction's code with its numbers, this code keeps in step, whatever happens
    pub record Follows : Type 0 where
      pub follows :
          (p : ℕ) (s : P) (c : Processor) (n : Noted) (w : W) → l.status s ≡ Runs → c.place ≡ l.begins s → l.matches p c n s → l.sees n w → l.fits p s w
          → (hs : List Happening) → InStep p hs stage_start s c n

    -- what all share, as a storage shows it, looks at no reservation, and follows the stores that go to memory
    pub record Lawful : Type 0 where
      pub bounded : v.words ≡ true → Bounded x
      pub dropped : (p : ℕ) (n : Noted) (w : W) → l.sees n w → l.sees (drop_link p n) w
      pub drains :
          x.kind.buffered ≡ true → (p : ℕ) (n : Noted) (w : W) (e : Entry) (es : List Entry) → n.storage.waiting p ≡ e ∷ es → FairEntry p e → v.counts e ≡ true → l.sees n w
          → l.sees (drain p n) (l.drained p w) × (v.public e ≡ l.drain_gives p w)
      pub hides : x.kind.buffered ≡ true → (p : ℕ) (n : Noted) (w : W) (e : Entry) (es : List Entry) → n.storage.waiting p ≡ e ∷ es → FairEntry p e → v.counts e ≡ false → l.sees n w → l.sees (drain p n) w × (v.public e ≡ false)

-- a whole state above
pub record Whole (P W : Type 0) : Type 0 where
  pub processors : ℕ → P
  pub world : W
  pub outputs : List (ℕ × ℕ)

abbrev pub after_did : {P W : Type 0} → ℕ → Option (Did P W) → Whole P W → Whole P W
after_did p None s = s
after_did p (Some t) s = record { processors = at_place s.processors p t.processor; world = t.world; outputs = s.outputs ++ outputs_of p t.output }

module _ {P W : Type 0} (l : Meaning P W) where
  abbrev pub meant_if : SourceStatus → Given → ℕ → Whole P W → Whole P W
  meant_if Runs g p s = after_did p (outcome_of l g p (s.processors p) s.world) s
  meant_if Ends g p s = s
  meant_if Traps g p s = s

  abbrev pub meant : SourceEvent → Whole P W → Whole P W
  meant (Act p) s = meant_if (l.status (s.processors p)) An_act p s
  meant (Look p) s = meant_if (l.status (s.processors p)) A_look p s
  meant (Miss p) s = meant_if (l.status (s.processors p)) A_miss p s
  meant (Drain p) s = record { processors = s.processors; world = l.drained p s.world; outputs = s.outputs }

  abbrev pub meant_run : List SourceEvent → Whole P W → Whole P W
  meant_run [] s = s
  meant_run (e ∷ es) s = meant_run es (meant e s)

  -- the source events of a run above
  abbrev pub gives_of : Option (Did P W) → Given
  gives_of None = Nothing
  gives_of (Some t) = t.gives

  abbrev pub source_if : SourceStatus → Given → ℕ → Whole P W → List SourceEvent
  source_if Runs g p s = events_of p (gives_of (outcome_of l g p (s.processors p) s.world))
  source_if Ends g p s = []
  source_if Traps g p s = []

  abbrev pub source_of : SourceEvent → Whole P W → List SourceEvent
  source_of (Act p) s = source_if (l.status (s.processors p)) An_act p s
  source_of (Look p) s = source_if (l.status (s.processors p)) A_look p s
  source_of (Miss p) s = source_if (l.status (s.processors p)) A_miss p s
  source_of (Drain p) s = if l.drain_gives p s.world then Drain p ∷ [] else []

  abbrev pub source_events : List SourceEvent → Whole P W → List SourceEvent
  source_events [] s = []
  source_events (e ∷ es) s = source_of e s ++ source_events es (meant e s)

  -- the events of a processor above in a row that gave no Act and have no excuse
  abbrev pub above_by : Option (Did P W) → ℕ → ℕ
  above_by None n = n
  above_by (Some t) n = idle_after t.gives t.excused n

  abbrev pub above_if : SourceStatus → Given → ℕ → Whole P W → (ℕ → ℕ) → ℕ → ℕ
  above_if Runs g p s f = at_place f p (above_by (outcome_of l g p (s.processors p) s.world) (f p))
  above_if Ends g p s f = f
  above_if Traps g p s f = f

  abbrev pub above_next : SourceEvent → Whole P W → (ℕ → ℕ) → ℕ → ℕ
  above_next (Act p) s f = above_if (l.status (s.processors p)) An_act p s f
  above_next (Look p) s f = above_if (l.status (s.processors p)) A_look p s f
  above_next (Miss p) s f = above_if (l.status (s.processors p)) A_miss p s f
  above_next (Drain p) s f = f

  abbrev pub above_run : List SourceEvent → Whole P W → (ℕ → ℕ) → ℕ → ℕ
  above_run [] s f = f
  above_run (e ∷ es) s f = above_run es (meant e s) (above_next e s f)
