-- From an invariant of code to its contract.
use Rattle.std.proofs.Common.{◌≡◌, ℕ, ◌+◌, ◌≤◌, Bool, true, false, List, [], ◌∷◌, Option, Some, None, refl, sym, ap, ◌∙◌, subst, inr, arith}
use Rattle.std.specs.Prelude.{if◌then◌else◌, ◌⊎◌, ◌||◌}
use Rattle.std.proofs.lemmas.Bool.{false≢true}
use Rattle.ax_words.specs.declared.source.SourceStatus.TheVariants.{Running as Runs}
use Rattle.ax_isa.specs.declared.cpu.Status.TheVariants.{Running}
use Rattle.ax_isa.specs.declared.effects.Effect.{Effect}
use Rattle.ax_tags.specs.declared.tags.Tag.{Tag}
use Rattle.ax_isa.specs.Past.{Noted, drain}
use Rattle.ax_isa.specs.Processor.{Processor}
use Rattle.ax_isa.specs.Steps.{effected, possible, stuck}
use Rattle.ax_isa.specs.Tells.{Given, Nothing, An_act, A_miss, Done, is_excused, told, told_stuck, done_by}
use Rattle.ax_isa.specs.Run.{Setting, at_code, step_at, step, idle_after}
use Rattle.ax_follow.specs.Contract.{Meaning, Did, Reading, machine_status, MayWrite, Fair, ByOthers, ByOwn, Happening, Own, Drained, Other, Stage, stage_start, stage_after, Possible, outcome_of, OwnStep, Through, Steps, Steppable, InStep, Follows}

-- a step after which less has to hold
pub own_map :
    {P W : Type 0} (l : Meaning P W) (v : Reading) (F G : Stage → P → Processor → Noted → Type 0) → ((j : Stage) (s : P) (c : Processor) (n : Noted) → F j s c n → G j s c n)
    → (p : ℕ) (j : Stage) (s : P) (c : Processor) (n : Noted) (d : Done) (g : Given) (o : Option (Did P W)) → Possible o (λ t. OwnStep l v F p j s c n d g t) → Possible o (λ t. OwnStep l v G p j s c n d g t)
own_map l v F G f p j s c n d g None h = h
own_map l v F G f p j s c n d g (Some t) h =
    record { once = h.once; owned = h.owned; stays = h.stays; shows = h.shows; touches = h.touches; tells = h.tells; missed = h.missed; excused = h.excused; few = h.few; output = h.output; status = h.status; goes = λ e. f _ _ _ _ (h.goes e) }

or_right : (a b : Bool) → b ≡ true → (a || b) ≡ true
or_right true b h = refl
or_right false b h = h

module _ {I P W : Type 0} (x : Setting I) (l : Meaning P W) (v : Reading) where
  -- what an invariant of the code has to show
  pub record Holds (p : ℕ) (Inv : Stage → P → Processor → Noted → Type 0) : Type 0 where
    pub through : (j : Stage) (s : P) (c : Processor) (n : Noted) → Inv j s c n → Through l v x p j s c n
    pub own : (j : Stage) (s : P) (c : Processor) (n : Noted) (w : W) → Inv j s c n → Steppable l v x p j s c n w → Steps l v x Inv p j s c n w (step x p c n)
    pub drains : (j : Stage) (s : P) (c : Processor) (n : Noted) → x.kind.buffered ≡ true → Inv j s c n → Inv j s c (drain p n)
    pub others : (j : Stage) (s : P) (c : Processor) (n new : Noted) → ByOthers p n new → Inv j s c n → Inv j s c new

  -- an invariant of the code gives the contract
  pub in_step : (p : ℕ) (Inv : Stage → P → Processor → Noted → Type 0) → Holds p Inv → (hs : List Happening) (j : Stage) (s : P) (c : Processor) (n : Noted) → Inv j s c n → InStep l v x p hs j s c n
  in_step p Inv h [] j s c n i = h.through j s c n i
  in_step p Inv h (Own ∷ hs) j s c n i = (h.through j s c n i, λ w may. own_map l v Inv _ (λ k t d new y. in_step p Inv h hs k t d new y) p j s c n _ _ _ (h.own j s c n w i may))
  in_step p Inv h (Drained ∷ hs) j s c n i = (h.through j s c n i, λ on. in_step p Inv h hs j s c (drain p n) (h.drains j s c n on i))
  in_step p Inv h (Other new ∷ hs) j s c n i = (h.through j s c n i, λ b. in_step p Inv h hs j s c new (h.others j s c n new b i))

  -- what an instruction's step leaves, with the public tag of its place
  abbrev pub leaves : ℕ → Effect → Processor → Noted → Done
  leaves p e c n = told x.library (x.tags c.place) p e c n (effected x.kind.buffered p e c n)

  -- the step of an instruction that stands there, with its mark
  pub fetch : (Next : Stage → P → Processor → Noted → Type 0) (p : ℕ) (i : I) (t : Tag) (e : Effect) (j : Stage) (s : P) (c : Processor) (n : Noted) (w : W) → at_code x.code c.place ≡ Some i → v.marks c.place ≡ t → x.kind.effect_of i c ≡ e → possible p e c n.storage ≡ true
      → (let d = leaves p e c n in let g = v.given t d.bytes c d.outcome in Possible (outcome_of l g p s w) (λ u. OwnStep l v Next p j s c n d g u))
      → Steps l v x Next p j s c n w (step x p c n)
  fetch Next p i t e j s c n w at mark is may h =
      let F : Done → Tag → Type 0 = λ d y. Possible (outcome_of l (v.given y d.bytes c d.outcome) p s w) (λ u. OwnStep l v Next p j s c n d (v.given y d.bytes c d.outcome) u) in
      let h0 : F (leaves p e c n) t = h in
      let h1 : F (done_by x.library x.kind.buffered (x.tags c.place) p e c n) t = subst (λ b. F (if b then leaves p e c n else told_stuck (x.tags c.place) c (stuck c n)) t) (sym may) h0 in
      let h2 : F (done_by x.library x.kind.buffered (x.tags c.place) p (x.kind.effect_of i c) c n) t = subst (λ y. F (done_by x.library x.kind.buffered (x.tags c.place) p y c n) t) (sym is) h1 in
      let h3 : F (step x p c n) t = subst (λ y. F (step_at x y p c n) t) (sym at) h2 in
      subst (λ y. F (step x p c n) y) (sym mark) h3

  -- a step without an event, of which those above see nothing
  pub record Calm (p : ℕ) (j : Stage) (s : P) (c : Processor) (n : Noted) (w : W) (d : Done) : Type 0 where
    pub stays : (v.owner d.processor.place ≡ v.owner c.place) ⊎ ((j.acted ≡ true) × (d.processor.place ≡ l.begins s))
    pub shows : l.sees d.noted w
    pub touches : ByOwn p n d.noted
    pub tells : d.gives ≡ Nothing
    pub few : idle_after Nothing (is_excused d) j.idle ≤ v.most
    pub output : d.outcome.output ≡ None
    pub status : d.processor.status ≡ machine_status (l.status s)

  pub calm_step : (Next : Stage → P → Processor → Noted → Type 0) (p : ℕ) (j : Stage) (s : P) (c : Processor) (n : Noted) (w : W) (d : Done) → Calm p j s c n w d → (d.processor.status ≡ Running → Next (stage_after Nothing (is_excused d) j) s d.processor d.noted)
      → OwnStep l v Next p j s c n d Nothing (record { processor = s; world = w; output = None; gives = Nothing; excused = false })
  calm_step Next p j s c n w d y next =
      record {
        once = λ g. absurd (g refl);
        owned = λ g. absurd (g refl);
        stays = y.stays;
        shows = y.shows;
        touches = y.touches;
        tells = y.tells;
        missed = λ g. absurd (let z : Nothing ≡ A_miss = g in cc);
        excused = λ g. absurd (g refl);
        few = y.few;
        output = y.output;
        status = y.status;
        goes = next;
      }

  -- the contract of one instruction's code
  pub record FollowsAt (number : ℕ) : Type 0 where
    pub follows :
        (p : ℕ) (s : P) (c : Processor) (n : Noted) (w : W) → l.number s ≡ number → l.status s ≡ Runs → c.place ≡ l.begins s → l.matches p c n s → l.sees n w → l.fits p s w
        → (hs : List Happening) → InStep l v x p hs stage_start s c n

  pub follows_all : ((number : ℕ) → FollowsAt number) → Follows l v x
  follows_all all = record { follows = λ p s c n w runs at matches sees fit hs. (all (l.number s)).follows p s c n w refl runs at matches sees fit hs }

  -- numbers that match stay so, whatever others do and whatever of the own stores goes to memory
  pub record Stable : Type 0 where
    pub others : (p : ℕ) (c : Processor) (n new : Noted) (s : P) → ByOthers p n new → l.matches p c n s → l.matches p c new s
    pub drains : (p : ℕ) (c : Processor) (n : Noted) (s : P) → x.kind.buffered ≡ true → l.matches p c n s → l.matches p c (drain p n) s

  -- one instruction: before its step, and after it
  data Once (p number : ℕ) : Stage → P → Processor → Noted → Type 0 where
    Before : {j : Stage} {s : P} {c : Processor} {n : Noted} → j.acted ≡ false → l.number s ≡ number → c.place ≡ l.begins s → l.matches p c n s → Once p number j s c n
    Behind : {j : Stage} {s : P} {c : Processor} {n : Noted} → j.acted ≡ true → c.place ≡ l.begins s → l.matches p c n s → Once p number j s c n

  -- what its step does: the event, and then the numbers match
  pub record Acting (p : ℕ) (s : P) (c : Processor) (n : Noted) (d : Done) (t : Did P W) : Type 0 where
    pub shows : l.sees d.noted t.world
    pub fair : Fair p (d.noted.storage.waiting p)
    pub others : (a : ℕ) → ¬ MayWrite p a → d.noted.storage.mem a ≡ n.storage.mem a
    pub tells : d.gives ≡ t.gives
    pub excuse : t.excused ≡ true → is_excused d ≡ true
    pub output : d.outcome.output ≡ t.output
    pub status : d.processor.status ≡ machine_status (l.status t.processor)
    pub goes : d.processor.place ≡ l.begins t.processor
    pub matches : l.matches p d.processor d.noted t.processor

  pub single : Stable → (number : ℕ) (i : I) (t : Tag)
      → ((s : P) → l.number s ≡ number → (at_code x.code (l.begins s) ≡ Some i) × (v.marks (l.begins s) ≡ t) × (v.owner (l.begins s) ≡ number))
      → ((p : ℕ) (j : Stage) (s : P) (c : Processor) (n : Noted) (w : W) → l.number s ≡ number → c.place ≡ l.begins s → l.matches p c n s → Steppable l v x p j s c n w
      → (let e = x.kind.effect_of i c in let d = leaves p e c n in (possible p e c n.storage ≡ true) × (v.given t d.bytes c d.outcome ≡ An_act) × Possible (l.chosen An_act p s w) (λ u. Acting p s c n d u)))
      → FollowsAt number
  single stable number i t has acts = record { follows = λ p s c n w is runs at matches sees fit hs. in_step p (Once p number) (holds p) hs stage_start s c n (Before refl is at matches) }
    where
      makes : (p : ℕ) (j : Stage) (s : P) (c : Processor) (n : Noted) (d : Done) (o : Option (Did P W)) → j.acted ≡ false → l.number s ≡ number → c.place ≡ l.begins s → Possible o (λ u. Acting p s c n d u) → Possible o (λ u. OwnStep l v (Once p number) p j s c n d An_act u)
      makes p j s c n d None before is at h = h
      makes p j s c n d (Some u) before is at h =
          record {
            once = λ g. before;
            owned = λ g. ap v.owner at ∙ (has s is).2 ∙ sym is;
            stays = inr (refl, h.goes);
            shows = h.shows;
            touches = record { fair = h.fair; others = h.others };
            tells = h.tells;
            missed = λ g. absurd (let z : An_act ≡ A_miss = g in cc);
            excused = λ g e. or_right j.rested (is_excused d) (h.excuse e);
            few = omega arith;
            output = h.output;
            status = h.status;
            goes = λ r. Behind refl h.goes h.matches;
          }

      own : (p : ℕ) (j : Stage) (s : P) (c : Processor) (n : Noted) (w : W) → Once p number j s c n → Steppable l v x p j s c n w → Steps l v x (Once p number) p j s c n w (step x p c n)
      own p j s c n w (Before before is at matches) may =
          let e = x.kind.effect_of i c in
          let d = leaves p e c n in
          let y = acts p j s c n w is at matches may in
          let F : Given → Type 0 = λ g. Possible (outcome_of l g p s w) (λ u. OwnStep l v (Once p number) p j s c n d g u) in
          fetch (Once p number) p i t e j s c n w (ap (at_code x.code) at ∙ (has s is).0) (ap v.marks at ∙ (has s is).1) refl y.0 (subst F (sym y.1) (makes p j s c n d (l.chosen An_act p s w) before is at y.2))
      own p j s c n w (Behind after at matches) may = absurd (may.inner after at)

      through : (p : ℕ) (j : Stage) (s : P) (c : Processor) (n : Noted) → Once p number j s c n → Through l v x p j s c n
      through p j s c n (Before before is at matches) after there = absurd (false≢true (sym before ∙ after))
      through p j s c n (Behind after at matches) acted there = matches

      drains : (p : ℕ) (j : Stage) (s : P) (c : Processor) (n : Noted) → x.kind.buffered ≡ true → Once p number j s c n → Once p number j s c (drain p n)
      drains p j s c n on (Before before is at matches) = Before before is at (stable.drains p c n s on matches)
      drains p j s c n on (Behind after at matches) = Behind after at (stable.drains p c n s on matches)

      others : (p : ℕ) (j : Stage) (s : P) (c : Processor) (n new : Noted) → ByOthers p n new → Once p number j s c n → Once p number j s c new
      others p j s c n new b (Before before is at matches) = Before before is at (stable.others p c n new s b matches)
      others p j s c n new b (Behind after at matches) = Behind after at (stable.others p c n new s b matches)

      holds : (p : ℕ) → Holds p (Once p number)
      holds p = record { through = through p; own = own p; drains = drains p; others = others p }

-- a step without an event adds at most one to the idle steps
pub idle_grows : (b : Bool) (n : ℕ) → idle_after Nothing b n ≤ n + 1
idle_grows true n = omega arith
idle_grows false n = omega arith
