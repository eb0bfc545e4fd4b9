-- Code that follows one meaning follows another in which events do the same and of which more is known: the contract looks at no drains.
use Rattle.std.proofs.Common.{◌≡◌, ℕ, Bool, List, [], ◌∷◌, Option, Some, None, refl, sym, ap, ◌∙◌, subst}
use Rattle.std.specs.Prelude.{◌++◌, if◌then◌else◌}
use Rattle.ax_words.specs.declared.source.SourceEvent.{SourceEvent}
use Rattle.ax_words.specs.declared.source.SourceEvent.TheVariants.{Act, Look, Miss, Drain}
use Rattle.ax_words.specs.declared.source.SourceStatus.{SourceStatus}
use Rattle.ax_words.specs.declared.source.SourceStatus.TheVariants.{Running as Runs, Ended as Ends, Trapped as Traps}
use Rattle.ax_isa.specs.Past.{Noted, drain}
use Rattle.ax_isa.specs.Processor.{Processor}
use Rattle.ax_isa.specs.Run.{Setting, events_of, step}
use Rattle.ax_isa.specs.Tells.{Given, Nothing, An_act, A_look, A_miss, Done}
use Rattle.ax_follow.specs.Contract.{Did, Drained, Follows, Happening, InStep, Meaning, Other, Own, OwnStep, Possible, Reading, Stage, Steppable, Through, Whole, after_did, gives_of, meant, meant_if, meant_run, outcome_of, source_events, source_if, source_of, stage_start}

-- of another meaning: what happens by events, which drains are source events, when numbers match, what is known
pub record Alike {P W : Type 0} (l : Meaning P W) (chosen : Given → ℕ → P → W → Option (Did P W)) (matches : ℕ → Processor → Noted → P → Type 0) (fits : ℕ → P → W → Type 0) : Type 0 where
  pub same : (g : Given) (p : ℕ) (s : P) (w : W) → chosen g p s w ≡ l.chosen g p s w
  pub to : (p : ℕ) (c : Processor) (n : Noted) (s : P) → matches p c n s → l.matches p c n s
  pub from : (p : ℕ) (c : Processor) (n : Noted) (s : P) → l.matches p c n s → matches p c n s
  pub know : (p : ℕ) (s : P) (w : W) → fits p s w → l.fits p s w

module _ {I P W : Type 0} (x : Setting I) (v : Reading) (l : Meaning P W) (chosen : Given → ℕ → P → W → Option (Did P W)) (drain_gives : ℕ → W → Bool) (matches : ℕ → Processor → Noted → P → Type 0) (fits : ℕ → P → W → Type 0) (alike : Alike l chosen matches fits) where
  abbrev other : Meaning P W
  other = record l { chosen = chosen; drain_gives = drain_gives; matches = matches; fits = fits }

  outcome_is : (g : Given) (p : ℕ) (s : P) (w : W) → outcome_of l g p s w ≡ outcome_of other g p s w
  outcome_is Nothing p s w = refl
  outcome_is An_act p s w = sym (alike.same An_act p s w)
  outcome_is A_look p s w = sym (alike.same A_look p s w)
  outcome_is A_miss p s w = sym (alike.same A_miss p s w)

  own_step : (F G : Stage → P → Processor → Noted → Type 0) → ((j : Stage) (s : P) (c : Processor) (n : Noted) → F j s c n → G j s c n)
      → (p : ℕ) (j : Stage) (s : P) (c : Processor) (n : Noted) (d : Done) (g : Given) (o : Option (Did P W)) → Possible o (λ t. OwnStep l v F p j s c n d g t) → Possible o (λ t. OwnStep other v G p j s c n d g t)
  own_step F G f p j s c n d g None h = h
  own_step F G f p j s c n d g (Some t) h =
      record { once = h.once; owned = h.owned; stays = h.stays; shows = h.shows; touches = h.touches; tells = h.tells; missed = h.missed; excused = h.excused; few = h.few; output = h.output; status = h.status; goes = λ e. f _ _ _ _ (h.goes e) }

  through : (p : ℕ) (j : Stage) (s : P) (c : Processor) (n : Noted) → Through l v x p j s c n → Through other v x p j s c n
  through p j s c n h = λ acted at. alike.from p c n s (h acted at)

  in_step : (p : ℕ) (hs : List Happening) (j : Stage) (s : P) (c : Processor) (n : Noted) → InStep l v x p hs j s c n → InStep other v x p hs j s c n
  in_step p [] j s c n h = through p j s c n h
  in_step p (Own ∷ hs) j s c n h = (
    through p j s c n h.0,
    λ w may.
        let d = step x p c n in
        let g = v.given (v.marks c.place) d.bytes c d.outcome in
        let before : Steppable l v x p j s c n w = record { sees = may.sees; fits = alike.know p s w may.fits; fair = may.fair; flat = may.flat; empty = may.empty; running = may.running; runs = may.runs; inner = may.inner; bounds = may.bounds } in
        subst (λ o. Possible o (λ t. OwnStep other v (λ i t d new. InStep other v x p hs i t d new) p j s c n d g t)) (outcome_is g p s w)
        (own_step (λ i t d new. InStep l v x p hs i t d new) (λ i t d new. InStep other v x p hs i t d new) (λ i t d new y. in_step p hs i t d new y) p j s c n d g (outcome_of l g p s w) (h.1 w before)),
  )
  in_step p (Drained ∷ hs) j s c n h = (through p j s c n h.0, λ on. in_step p hs j s c (drain p n) (h.1 on))
  in_step p (Other new ∷ hs) j s c n h = (through p j s c n h.0, λ by. in_step p hs j s c new (h.1 by))

  pub follows_other : Follows l v x → Follows other v x
  follows_other h = record { follows = λ p s c n w runs at matched sees fit hs. in_step p hs stage_start s c n (h.follows p s c n w runs at (alike.to p c n s matched) sees (alike.know p s w fit) hs) }

-- ---- runs above, by which drains are source events
module _ {P W : Type 0} (l : Meaning P W) (drain_gives : ℕ → W → Bool) where
  abbrev drains_so : Meaning P W
  drains_so = record l { drain_gives = drain_gives }

  outcome_so : (g : Given) (p : ℕ) (s : P) (w : W) → outcome_of l g p s w ≡ outcome_of drains_so g p s w
  outcome_so Nothing p s w = refl
  outcome_so An_act p s w = refl
  outcome_so A_look p s w = refl
  outcome_so A_miss p s w = refl

  meant_if_so : (t : SourceStatus) (g : Given) (p : ℕ) (s : Whole P W) → meant_if l t g p s ≡ meant_if drains_so t g p s
  meant_if_so Runs g p s = ap (λ o. after_did p o s) (outcome_so g p (s.processors p) s.world)
  meant_if_so Ends g p s = refl
  meant_if_so Traps g p s = refl

  meant_so : (e : SourceEvent) (s : Whole P W) → meant l e s ≡ meant drains_so e s
  meant_so (Act p) s = meant_if_so (l.status (s.processors p)) An_act p s
  meant_so (Look p) s = meant_if_so (l.status (s.processors p)) A_look p s
  meant_so (Miss p) s = meant_if_so (l.status (s.processors p)) A_miss p s
  meant_so (Drain p) s = refl

  -- the same states are reached
  pub meant_run_so : (es : List SourceEvent) (s : Whole P W) → meant_run l es s ≡ meant_run drains_so es s
  meant_run_so [] s = refl
  meant_run_so (e ∷ es) s = meant_run_so es (meant l e s) ∙ ap (meant_run drains_so es) (meant_so e s)

  gives_so : (o : Option (Did P W)) → gives_of l o ≡ gives_of drains_so o
  gives_so None = refl
  gives_so (Some t) = refl

  source_if_so : (t : SourceStatus) (g : Given) (p : ℕ) (s : Whole P W) → source_if l t g p s ≡ source_if drains_so t g p s
  source_if_so Runs g p s = ap (events_of p) (gives_so (outcome_of l g p (s.processors p) s.world) ∙ ap (gives_of drains_so) (outcome_so g p (s.processors p) s.world))
  source_if_so Ends g p s = refl
  source_if_so Traps g p s = refl

  source_so : (e : SourceEvent) (s : Whole P W) → ((p : ℕ) → l.drain_gives p s.world ≡ drain_gives p s.world) → source_of l e s ≡ source_of drains_so e s
  source_so (Act p) s h = source_if_so (l.status (s.processors p)) An_act p s
  source_so (Look p) s h = source_if_so (l.status (s.processors p)) A_look p s
  source_so (Miss p) s h = source_if_so (l.status (s.processors p)) A_miss p s
  source_so (Drain p) s h = ap (λ b. if b then Drain p ∷ [] else []) (h p)

  -- and so are the source events, where the same drains are some in all states that are reached
  pub source_events_so : (es : List SourceEvent) (s : Whole P W) → ((before : List SourceEvent) (p : ℕ) → l.drain_gives p (meant_run l before s).world ≡ drain_gives p (meant_run l before s).world) → source_events l es s ≡ source_events drains_so es s
  source_events_so [] s h = refl
  source_events_so (e ∷ es) s h =
      ap (λ first. first ++ source_events l es (meant l e s)) (source_so e s (h []))
      ∙ (ap (λ rest. source_of drains_so e s ++ rest) (source_events_so es (meant l e s) (λ before p. h (e ∷ before) p)) ∙ ap (λ t. source_of drains_so e s ++ source_events drains_so es t) (meant_so e s))
