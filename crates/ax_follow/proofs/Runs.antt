-- A machine run follows the meaning of its code, from the contract of the code.
use Rattle.std.proofs.Common.{◌≡◌, ℕ, ◌+◌, ◌*◌, ◌≤◌, Bool, true, false, List, [], ◌∷◌, ◌++◌, Option, Some, None, refl, sym, ap, ◌∙◌, subst, inl, inr, ⊎_elim, arith}
use Rattle.std.specs.Prelude.{◌⊎◌, ◌≢◌, ◌||◌, if◌then◌else◌}
use Rattle.std.proofs.lemmas.Bool.{cases_eq, false≢true}
use Rattle.std.proofs.lemmas.List.{append-nil, append_assoc}
use Rattle.ax_words.specs.declared.source.SourceEvent.{SourceEvent}
use Rattle.ax_words.specs.declared.source.SourceEvent.TheVariants.{Drain as Drains}
use Rattle.ax_words.specs.declared.source.SourceStatus.{SourceStatus}
use Rattle.ax_words.specs.declared.source.SourceStatus.TheVariants.{Running as Runs, Ended as Ends, Trapped as Traps}
use Rattle.ax_store.specs.declared.entry.Entry.{Entry}
use Rattle.ax_store.specs.Storage.{at_place}
use Rattle.ax_isa.specs.declared.cpu.Status.{Status}
use Rattle.ax_isa.specs.declared.cpu.Status.TheVariants.{Running, Ended, Trapped, Stuck}
use Rattle.ax_words.specs.declared.event.Event.{Event}
use Rattle.ax_words.specs.declared.event.Event.TheVariants.{Step, Drain, Drop}
use Rattle.ax_isa.specs.Past.{Noted, drain, drain_first, drain_list, drop_link}
use Rattle.ax_isa.specs.Processor.{Processor}
use Rattle.ax_isa.specs.Steps.{waits, effected, possible, stuck}
use Rattle.ax_isa.specs.Tells.{Given, Nothing, An_act, A_look, A_miss, given_of, Done, is_excused, told, told_stuck}
use Rattle.ax_isa.specs.Run.{Setting, Machine, outputs_of, after_step, with_noted, events_of, drain_event, drain_events, first_drain, idle_after, at_code, step_at, step, flushing, sent, ready, done, step_if, happens, run, gives, events_if, explained, explain, idle_if, idle_next, idle_run, since_after, since_if, since_next, since_run}
use Rattle.ax_follow.specs.Contract.{Did, Meaning, Reading, machine_status, Fair, ByOthers, ByOwn, Happening, Own, Drained, Other, done_after, Stage, stage_start, stage_after, Possible, outcome_of, OwnStep, Steppable, InStep, Follows, Lawful, Whole, after_did, meant_if, meant, meant_run, gives_of, source_if, source_of, source_events, above_by, above_if, above_next, above_run}
use Rattle.ax_follow.specs.RunTheorem.{Begins, Agreed, Made, AllFit, meant_after, RunsInStep}
use Rattle.ax_isa.proofs.Functions.{at_same, at_other}
use Rattle.ax_follow.specs.Bounds.{AllInBounds}
use Rattle.ax_follow.proofs.Bounds.{bounds_drain, bounds_step}
use Rattle.ax_follow.proofs.Quiet.{step_quiet, step_flat, others_from, by_drain, by_drop}

pub meant_run-append : {P W : Type 0} (l : Meaning P W) (es fs : List SourceEvent) (s : Whole P W) → meant_run l (es ++ fs) s ≡ meant_run l fs (meant_run l es s)
meant_run-append l [] fs s = refl
meant_run-append l (e ∷ es) fs s = meant_run-append l es fs (meant l e s)

source_events-append : {P W : Type 0} (l : Meaning P W) (es fs : List SourceEvent) (s : Whole P W) → source_events l (es ++ fs) s ≡ source_events l es s ++ source_events l fs (meant_run l es s)
source_events-append l [] fs s = refl
source_events-append l (e ∷ es) fs s =
    ap (λ ys. source_of l e s ++ ys) (source_events-append l es fs (meant l e s)) ∙ sym (append_assoc (source_of l e s) (source_events l es (meant l e s)) (source_events l fs (meant_run l (e ∷ es) s)))

-- a step gives what its tag gives
pub step_gives : {I : Type 0} (x : Setting I) (p : ℕ) (c : Processor) (n : Noted) → (step x p c n).gives ≡ given_of (x.tags c.place) (step x p c n).bytes c (step x p c n).outcome
step_gives {I = I} x p c n = at (at_code x.code c.place)
  where
    of : (i : I) (t : Bool)
        → (let d = if t then told x.library (x.tags c.place) p (x.kind.effect_of i c) c n (effected x.kind.buffered p (x.kind.effect_of i c) c n) else told_stuck (x.tags c.place) c (stuck c n) in d.gives ≡ given_of (x.tags c.place) d.bytes c d.outcome)
    of i true = refl
    of i false = refl

    at : (i : Option I) → (step_at x i p c n).gives ≡ given_of (x.tags c.place) (step_at x i p c n).bytes c (step_at x i p c n).outcome
    at None = refl
    at (Some i) = of i (possible p (x.kind.effect_of i c) c n.storage)

above_run-append : {P W : Type 0} (l : Meaning P W) (es fs : List SourceEvent) (s : Whole P W) (f : ℕ → ℕ) → above_run l (es ++ fs) s f ≡ above_run l fs (meant_run l es s) (above_run l es s f)
above_run-append l [] fs s f = refl
above_run-append l (e ∷ es) fs s f = above_run-append l es fs (meant l e s) (above_next l e s f)

-- COUNTS OF IDLE STEPS of one processor: by the public tags, of events above, by the marks, and since the last excused step
pub record Counted (most u f g h : ℕ) : Type 0 where
  pub below : u ≤ h
  pub few : u ≤ (most + most + 1) * f + g + (most + 1)

once_more : (k f : ℕ) → k * (f + 1) ≡ k * f + k
once_more k f = omega arith

-- the count by the tags stays below that since the last excused step
since_still : (g : Given) (e : Bool) (u h : ℕ) → u ≤ h → idle_after g e u ≤ since_after e h
since_still Nothing true u h x = omega arith
since_still Nothing false u h x = omega (arith, x)
since_still An_act true u h x = omega arith
since_still An_act false u h x = omega arith
since_still A_look true u h x = omega arith
since_still A_look false u h x = omega (arith, x)
since_still A_miss true u h x = omega arith
since_still A_miss false u h x = omega (arith, x)

-- a step without an event
counted_calm : (most : ℕ) (e : Bool) (u f g h : ℕ) → Counted most u f g h → Counted most (idle_after Nothing e u) f (idle_after Nothing e g) (since_after e h)
counted_calm most true u f g h c = record { below = since_still Nothing true u h c.below; few = omega arith }
counted_calm most false u f g h c = record { below = since_still Nothing false u h c.below; few = let x = c.few in omega (arith, x) }

-- a step with one
counted_event : (most : ℕ) (e ax : Bool) (b : Given) (u f g g' h : ℕ) → g ≤ most + most → Counted most u f g h → (ax ≡ true → since_after e h ≤ most + 1) → Counted most (idle_after b e u) (idle_after b ax f) g' (since_after e h)
counted_event most e ax b u f g g' h small c near = record { below = since_still b e u h c.below; few = go b e ax near (since_still b e u h c.below) }
  where
    more : u + 1 ≤ (most + most + 1) * (f + 1) + g' + (most + 1)
    more = let x = c.few in let z = once_more (most + most + 1) f in omega (arith, x, z, small)

    go : (b : Given) (e ax : Bool) → (ax ≡ true → since_after e h ≤ most + 1) → idle_after b e u ≤ since_after e h → idle_after b e u ≤ (most + most + 1) * idle_after b ax f + g' + (most + 1)
    go An_act e ax near low = omega arith
    go Nothing true ax near low = omega arith
    go Nothing false true near low = let x = near refl in omega (arith, x, low)
    go Nothing false false near low = more
    go A_look true ax near low = omega arith
    go A_look false true near low = let x = near refl in omega (arith, x, low)
    go A_look false false near low = more
    go A_miss true ax near low = omega arith
    go A_miss false true near low = let x = near refl in omega (arith, x, low)
    go A_miss false false near low = more

outputs_same : (p : ℕ) (xs ys : List (ℕ × ℕ)) (x y : Option ℕ) → xs ≡ ys → x ≡ y → xs ++ outputs_of p x ≡ ys ++ outputs_of p y
outputs_same p xs ys x y e f = cc

runs_of : (x : SourceStatus) → machine_status x ≡ Running → x ≡ Runs
runs_of Runs e = refl
runs_of Ends e = absurd (let f : Ended ≡ Running = e in cc)
runs_of Traps e = absurd (let f : Trapped ≡ Running = e in cc)

-- two counts of idle steps, after the same step
idle_step : (g : Given) (c : Bool) (x n m : ℕ) → x ≤ n + m → idle_after g c x ≤ idle_after g c n + m
idle_step Nothing true x n m h = omega arith
idle_step Nothing false x n m h = omega arith
idle_step An_act c x n m h = omega arith
idle_step A_look true x n m h = omega arith
idle_step A_look false x n m h = omega arith
idle_step A_miss true x n m h = omega arith
idle_step A_miss false x n m h = omega arith

idle_still : (g : Given) (c : Bool) (x n : ℕ) → x ≤ n → idle_after g c x ≤ idle_after g c n
idle_still Nothing true x n h = omega arith
idle_still Nothing false x n h = omega arith
idle_still An_act c x n h = omega arith
idle_still A_look true x n h = omega arith
idle_still A_look false x n h = omega arith
idle_still A_miss true x n h = omega arith
idle_still A_miss false x n h = omega arith

excused_by : (d : Done) → d.lost ≡ true → is_excused d ≡ true
excused_by d h = ap (λ t. t || d.overtaken || d.busy) h

-- once the instruction's event has been, all idle steps are of its code
idle_since : (g : Given) (d : Done) (acted : Bool) (x n : ℕ) → (g ≡ A_miss → d.lost ≡ true) → (acted ≡ true → x ≤ n) → done_after g acted ≡ true → idle_after g (is_excused d) x ≤ idle_after g (is_excused d) n
idle_since Nothing d acted x n missed since h = idle_still Nothing (is_excused d) x n (since h)
idle_since An_act d acted x n missed since h = omega arith
idle_since A_look d acted x n missed since h = idle_still A_look (is_excused d) x n (since h)
idle_since A_miss d acted x n missed since h = subst (λ b. idle_after A_miss b x ≤ idle_after A_miss b n) (sym (excused_by d (missed refl))) (omega arith)

-- steps since the last excused one, of this code before its event
rested_after : (g : Given) (e acted rested : Bool) (h n : ℕ) → (rested ≡ true → acted ≡ false → h ≤ n) → (rested || e) ≡ true → done_after g acted ≡ false → since_after e h ≤ idle_after g e n
rested_after Nothing true acted rested h n x r a = omega arith
rested_after Nothing false acted true h n x r a = let y = x refl a in omega (arith, y)
rested_after Nothing false acted false h n x r a = absurd (false≢true r)
rested_after An_act e acted rested h n x r a = absurd (false≢true (sym a))
rested_after A_look true acted rested h n x r a = omega arith
rested_after A_look false acted true h n x r a = let y = x refl a in omega (arith, y)
rested_after A_look false acted false h n x r a = absurd (false≢true r)
rested_after A_miss e acted rested h n x r a = absurd (false≢true (sym a))

-- the last of them at the event
rested_at : (e rested : Bool) (h n most : ℕ) → (rested ≡ true → h ≤ n) → n ≤ most → (rested || e) ≡ true → since_after e h ≤ most + 1
rested_at true rested h n most x few r = omega arith
rested_at false true h n most x few r = let y = x refl in omega (arith, y, few)
rested_at false false h n most x few r = absurd (false≢true r)

-- what a whole state becomes by an outcome for p
record After {P W : Type 0} (p : ℕ) (s new : Whole P W) (t : Did P W) : Type 0 where
  processor : new.processors p ≡ t.processor
  processors : (q : ℕ) → (q ≡ p → ⊥) → new.processors q ≡ s.processors q
  world : new.world ≡ t.world
  outputs : new.outputs ≡ s.outputs ++ outputs_of p t.output

did_after : {P W : Type 0} (p : ℕ) (s : Whole P W) (t : Did P W) → After p s (after_did p (Some t) s) t
did_after p s t = record { processor = at_same s.processors p t.processor; processors = λ q ne. at_other s.processors p t.processor q ne; world = refl; outputs = refl }

calm_after : {P W : Type 0} (p : ℕ) (s : Whole P W) → After p s s (record { processor = s.processors p; world = s.world; output = None; gives = Nothing; excused = false })
calm_after p s = record { processor = refl; processors = λ q ne. refl; world = refl; outputs = sym (append-nil s.outputs) }

-- drains leave the processors
pub drains_leave : {P W : Type 0} (l : Meaning P W) (counts : Entry → Bool) (p : ℕ) (es : List Entry) (s : Whole P W) → (meant_run l (drain_events counts p es) s).processors ≡ s.processors
drains_leave {P = P} {W = W} l counts p [] s = refl
drains_leave {P = P} {W = W} l counts p (e ∷ es) s =
    ap (λ (y : Whole P W). y.processors) (meant_run-append l (drain_event counts p e) (drain_events counts p es) s) ∙ drains_leave l counts p es (meant_run l (drain_event counts p e) s) ∙ go (counts e)
  where
    go : (t : Bool) → (meant_run l (if t then Drains p ∷ [] else []) s).processors ≡ s.processors
    go true = refl
    go false = refl

-- what waits when the oldest has gone to memory
drained_waiting : (p : ℕ) (e : Entry) (es : List Entry) (n : Noted) → n.storage.waiting p ≡ e ∷ es → (drain p n).storage.waiting p ≡ es
drained_waiting p e es n h = ap (λ ys. (drain_first p ys n).storage.waiting p) h ∙ at_same n.storage.waiting p es

pub drained_all : (p : ℕ) (es : List Entry) (n : Noted) → n.storage.waiting p ≡ es → (drain_list es p n).storage.waiting p ≡ []
drained_all p [] n h = h
drained_all p (e ∷ es) n h = drained_all p es (drain p n) (drained_waiting p e es n h)

module _ {I P W : Type 0} (x : Setting I) (l : Meaning P W) (v : Reading) where
  -- a processor stands in the code of one instruction, before or after its event
  record Inside (p : ℕ) (c : Processor) (n : Noted) (s : P) (g h : ℕ) : Type 0 where
    stage : Stage
    -- idle steps in a row: since this code began, and in all
    small : stage.idle ≤ v.most
    count : g ≤ stage.idle + v.most
    since : stage.acted ≡ true → g ≤ stage.idle
    rested : stage.rested ≡ true → stage.acted ≡ false → h ≤ stage.idle
    follows : (hs : List Happening) → InStep l v x p hs stage s c n

  record Stands (p : ℕ) (c : Processor) (n : Noted) (s : P) (g h : ℕ) : Type 0 where
    status : c.status ≡ machine_status (l.status s)
    inside : c.status ≡ Running → Inside p c n s g h

  module _ (s0 : Whole P W) where
    record Related (m : Machine) (s : Whole P W) (g h : ℕ → ℕ) : Type 0 where
      stands : (p : ℕ) → Stands p (m.processors p) m.noted (s.processors p) (g p) (h p)
      bounded : (p : ℕ) → g p ≤ v.most + v.most
      fair : (p : ℕ) → Fair p (m.noted.storage.waiting p)
      flat : x.kind.buffered ≡ false → (p : ℕ) → m.noted.storage.waiting p ≡ []
      sees : l.sees m.noted s.world
      outputs : m.outputs ≡ s.outputs
      -- this state is one of a run
      reached : (es : List SourceEvent) × (meant_run l es s0 ≡ s)
      words : v.words ≡ true → AllInBounds m

    further : (es : List SourceEvent) (s : Whole P W) → (fs : List SourceEvent) × (meant_run l fs s0 ≡ s) → (fs : List SourceEvent) × (meant_run l fs s0 ≡ meant_run l es s)
    further es s r = (r.0 ++ es, meant_run-append l r.0 es s0 ∙ ap (meant_run l es) r.1)

    agrees : (m : Machine) (s : Whole P W) (g h : ℕ → ℕ) → Related m s g h → Agreed x l v m s g
    agrees m s g h r = record { outputs = r.outputs; status = λ p. (r.stands p).status; sees = r.sees; fair = r.fair; flat = r.flat; few = r.bounded }

    inside_others : (p : ℕ) (c : Processor) (n new : Noted) (s : P) (g h : ℕ) → ByOthers p n new → Inside p c n s g h → Inside p c new s g h
    inside_others p c n new s g h b i = record { stage = i.stage; small = i.small; count = i.count; since = i.since; rested = i.rested; follows = λ hs. (i.follows (Other new ∷ hs)).1 b }

    stands_others : (p : ℕ) (c : Processor) (n new : Noted) (s : P) (g h : ℕ) → ByOthers p n new → Stands p c n s g h → Stands p c new s g h
    stands_others p c n new s g h b i = record { status = i.status; inside = λ e. inside_others p c n new s g h b (i.inside e) }

    inside_drained : (p : ℕ) (c : Processor) (n : Noted) (s : P) (g h : ℕ) → x.kind.buffered ≡ true → Inside p c n s g h → Inside p c (drain p n) s g h
    inside_drained p c n s g h on i = record { stage = i.stage; small = i.small; count = i.count; since = i.since; rested = i.rested; follows = λ hs. (i.follows (Drained ∷ hs)).1 on }

    stands_drained : (p : ℕ) (c : Processor) (n : Noted) (s : P) (g h : ℕ) → x.kind.buffered ≡ true → Stands p c n s g h → Stands p c (drain p n) s g h
    stands_drained p c n s g h on i = record { status = i.status; inside = λ e. inside_drained p c n s g h on (i.inside e) }

    fair_others : (q : ℕ) (old new : Noted) → ByOthers q old new → Fair q (old.storage.waiting q) → Fair q (new.storage.waiting q)
    fair_others q old new b f = subst (λ es. Fair q es) (sym b.waiting) f

    module _ (all : Follows l v x) (law : Lawful l v x) (fits : (es : List SourceEvent) (p : ℕ) → l.status ((meant_run l es s0).processors p) ≡ Runs → l.fits p ((meant_run l es s0).processors p) (meant_run l es s0).world) where
      drop_related : (m : Machine) (s : Whole P W) (g h : ℕ → ℕ) → Related m s g h → (p : ℕ) → Related (with_noted (drop_link p m.noted) m) s g h
      drop_related m s g h r p =
          record {
            stands = λ q. stands_others q (m.processors q) m.noted (drop_link p m.noted) (s.processors q) (g q) (h q) (by_drop p q m.noted) (r.stands q);
            bounded = r.bounded;
            fair = r.fair;
            flat = r.flat;
            sees = law.dropped p m.noted s.world r.sees;
            outputs = r.outputs;
            reached = r.reached;
            words = λ e. record { regs = (r.words e).regs; bytes = (r.words e).bytes };
          }

      -- only a buffered machine has stores that wait
      on : (m : Machine) (s : Whole P W) (g h : ℕ → ℕ) → Related m s g h → (p : ℕ) (e : Entry) (es : List Entry) → m.noted.storage.waiting p ≡ e ∷ es → x.kind.buffered ≡ true
      on m s g h r p e es is = go x.kind.buffered refl
        where
          go : (t : Bool) → x.kind.buffered ≡ t → t ≡ true
          go true plain = refl
          go false plain = absurd (let f : [] ≡ e ∷ es = sym (r.flat plain p) ∙ is in cc)

      -- p's oldest store goes to memory
      drain_related : (m : Machine) (s : Whole P W) (g h : ℕ → ℕ) → Related m s g h → (p : ℕ) → Related (with_noted (drain p m.noted) m) (meant_run l (first_drain v.counts p (m.noted.storage.waiting p)) s) g h
      drain_related m s g h r p = go (m.noted.storage.waiting p) refl
        where
          others : (es : List Entry) → m.noted.storage.waiting p ≡ es → (q : ℕ) → (p ≡ q → ⊥) → ByOthers q m.noted (drain p m.noted)
          others es e q ne = by_drain p q (m.noted.storage.waiting p) m.noted ne (r.fair p)

          stands : (es : List Entry) → m.noted.storage.waiting p ≡ es → x.kind.buffered ≡ true → (q : ℕ) → Stands q (m.processors q) (drain p m.noted) (s.processors q) (g q) (h q)
          stands es e buffers q =
              ⊎_elim (λ same. let F : ℕ → Type 0 = λ y. Stands y (m.processors y) (drain p m.noted) (s.processors y) (g y) (h y) in subst F same (stands_drained p (m.processors p) m.noted (s.processors p) (g p) (h p) buffers (r.stands p))) (λ ne. stands_others q (m.processors q) m.noted (drain p m.noted) (s.processors q) (g q) (h q) (others es e q ne) (r.stands q)) (cases_eq p q)

          tail : (e : Entry) (es : List Entry) → m.noted.storage.waiting p ≡ e ∷ es → Fair p ((drain p m.noted).storage.waiting p)
          tail e es is = subst (λ ys. Fair p ys) (sym (drained_waiting p e es m.noted is)) (subst (λ ys. Fair p ys) is (r.fair p)).1

          fair : (e : Entry) (es : List Entry) → m.noted.storage.waiting p ≡ e ∷ es → (q : ℕ) → Fair q ((drain p m.noted).storage.waiting q)
          fair e es is q =
              ⊎_elim (λ same. let F : ℕ → Type 0 = λ y. Fair y ((drain p m.noted).storage.waiting y) in subst F same (tail e es is)) (λ ne. fair_others q m.noted (drain p m.noted) (others (e ∷ es) is q ne) (r.fair q)) (cases_eq p q)

          flat : (e : Entry) (es : List Entry) → m.noted.storage.waiting p ≡ e ∷ es → x.kind.buffered ≡ false → (q : ℕ) → (drain p m.noted).storage.waiting q ≡ []
          flat e es is plain q = absurd (let f : [] ≡ e ∷ es = sym (r.flat plain p) ∙ is in cc)

          counted : (e : Entry) (es : List Entry) → m.noted.storage.waiting p ≡ e ∷ es → (t : Bool) → v.counts e ≡ t → Related (with_noted (drain p m.noted) m) (meant_run l (if t then Drains p ∷ [] else []) s) g h
          counted e es is true c =
              record {
                stands = stands (e ∷ es) is (on m s g h r p e es is);
                bounded = r.bounded;
                fair = fair e es is;
                flat = flat e es is;
                sees = (law.drains (on m s g h r p e es is) p m.noted s.world e es is (subst (λ ys. Fair p ys) is (r.fair p)).0 c r.sees).0;
                outputs = r.outputs;
                reached = further (Drains p ∷ []) s r.reached;
                words = λ f. bounds_drain p m (r.words f);
              }
          counted e es is false c =
              record {
                stands = stands (e ∷ es) is (on m s g h r p e es is);
                bounded = r.bounded;
                fair = fair e es is;
                flat = flat e es is;
                sees = (law.hides (on m s g h r p e es is) p m.noted s.world e es is (subst (λ ys. Fair p ys) is (r.fair p)).0 c r.sees).0;
                outputs = r.outputs;
                reached = r.reached;
                words = λ f. bounds_drain p m (r.words f);
              }

          go : (es : List Entry) → m.noted.storage.waiting p ≡ es → Related (with_noted (drain p m.noted) m) (meant_run l (first_drain v.counts p es) s) g h
          go [] is = subst (λ ys. Related (with_noted (drain_first p ys m.noted) m) s g h) (sym is) r
          go (e ∷ es) is = counted e es is (v.counts e) refl

      -- all of them
      drains_related : (es : List Entry) (p : ℕ) (m : Machine) (s : Whole P W) (g h : ℕ → ℕ) → m.noted.storage.waiting p ≡ es → Related m s g h → Related (with_noted (drain_list es p m.noted) m) (meant_run l (drain_events v.counts p es) s) g h
      drains_related [] p m s g h is r = r
      drains_related (e ∷ es) p m s g h is r =
          let one : Related (with_noted (drain p m.noted) m) (meant_run l (drain_event v.counts p e) s) g h = subst (λ ys. Related (with_noted (drain p m.noted) m) (meant_run l (first_drain v.counts p ys) s) g h) is (drain_related m s g h r p) in
          subst (λ y. Related (with_noted (drain_list (e ∷ es) p m.noted) m) y g h) (sym (meant_run-append l (drain_event v.counts p e) (drain_events v.counts p es) s)) (drains_related es p (with_noted (drain p m.noted) m) _ g h (drained_waiting p e es m.noted is) one)

      begin : (p : ℕ) (c : Processor) (n : Noted) (s : P) (w : W) (g h : ℕ) → g ≤ v.most → l.status s ≡ Runs → c.place ≡ l.begins s → l.matches p c n s → l.sees n w → l.fits p s w → Inside p c n s g h
      begin p c n s w g h few runs at matches sees fit =
          record { stage = stage_start; small = omega arith; count = omega (arith, few); since = λ e. absurd (false≢true e); rested = λ e. absurd (false≢true e); follows = all.follows p s c n w runs at matches sees fit }

      -- where the code of an instruction is through, the next one's begins
      enter : (p : ℕ) (c : Processor) (n : Noted) (s : P) (w : W) (g h : ℕ) → l.status s ≡ Runs → l.sees n w → l.fits p s w → Inside p c n s g h → (i : Inside p c n s g h) × (i.stage.acted ≡ true → c.place ≢ l.begins s)
      unfolding begin
      enter p c n s w g h runs sees fit i = go i.stage.acted refl (cases_eq c.place (l.begins s))
        where
          go : (b : Bool) → i.stage.acted ≡ b → (c.place ≡ l.begins s) ⊎ (c.place ≡ l.begins s → ⊥) → (j : Inside p c n s g h) × (j.stage.acted ≡ true → c.place ≢ l.begins s)
          go true e (inl at) = (begin p c n s w g h (let a = i.since e in let b = i.small in omega (arith, a, b)) runs at (i.follows [] e at) sees fit, λ f. absurd (false≢true f))
          go true e (inr ne) = (i, λ f. ne)
          go false e y = (i, λ f. absurd (false≢true (sym e ∙ f)))

      module _ (m : Machine) (s : Whole P W) (g h : ℕ → ℕ) (r : Related m s g h) (p : ℕ) (running : (m.processors p).status ≡ Running) (empty : flushing x p (m.processors p) m.noted ≡ true → m.noted.storage.waiting p ≡ []) where
        abbrev d : Done
        d = step x p (m.processors p) m.noted

        abbrev gv : Given
        gv = v.given (v.marks (m.processors p).place) d.bytes (m.processors p) d.outcome

        abbrev ex : Bool
        ex = is_excused d

        abbrev Mine : Stage → Did P W → List Happening → Type 0
        Mine j t hs = OwnStep l v (λ i u e new. InStep l v x p hs i u e new) p j (s.processors p) (m.processors p) m.noted d gv t

        -- what the step shows, and how it stands after it
        record Stepped (s1 : Whole P W) : Type 0 where
          related : Related (after_step p d m) s1 (at_place g p (idle_after gv ex (g p))) (at_place h p (since_after ex (h p)))
          owned : gv ≢ Nothing → v.owner (m.processors p).place ≡ l.number (s.processors p)
          missed : gv ≡ A_miss → d.lost ≡ true
          tells : d.gives ≡ gives_of l (outcome_of l gv p (s.processors p) s.world)
          excused : gv ≢ Nothing → Possible (outcome_of l gv p (s.processors p) s.world) (λ t. t.excused ≡ true → since_after ex (h p) ≤ v.most + 1)

        runs : l.status (s.processors p) ≡ Runs
        runs = runs_of _ (sym (r.stands p).status ∙ running)

        others : (q : ℕ) → (p ≡ q → ⊥) → ByOwn p m.noted d.noted → ByOthers q m.noted d.noted
        others q ne own = others_from p q m.noted d.noted ne (step_quiet x p q (m.processors p) m.noted ne) own.others

        fair_after : ByOwn p m.noted d.noted → (q : ℕ) → Fair q (d.noted.storage.waiting q)
        fair_after own q =
            ⊎_elim (λ same. let F : ℕ → Type 0 = λ y. Fair y (d.noted.storage.waiting y) in subst F same own.fair) (λ ne. fair_others q m.noted d.noted (others q ne own) (r.fair q)) (cases_eq p q)

        flat_after : ByOwn p m.noted d.noted → x.kind.buffered ≡ false → (q : ℕ) → d.noted.storage.waiting q ≡ []
        flat_after own plain q =
            ⊎_elim (λ same. let F : ℕ → Type 0 = λ y. d.noted.storage.waiting y ≡ [] in subst F same (step_flat x p (m.processors p) m.noted plain (r.flat plain p))) (λ ne. (others q ne own).waiting ∙ r.flat plain q) (cases_eq p q)

        abbrev g1 : ℕ
        g1 = idle_after gv ex (g p)

        abbrev h1 : ℕ
        h1 = since_after ex (h p)

        after_own : (i : Inside p (m.processors p) m.noted (s.processors p) (g p) (h p)) (s1 : Whole P W) (t : Did P W) → After p s s1 t → (es : List SourceEvent) × (meant_run l es s0 ≡ s1) → outcome_of l gv p (s.processors p) s.world ≡ Some t → ((hs : List Happening) → Mine i.stage t hs) → Stepped s1
        after_own i s1 t after reached is own =
            let y = own [] in
            let count : g1 ≤ idle_after gv ex i.stage.idle + v.most = idle_step gv ex (g p) i.stage.idle v.most i.count in
            let few : idle_after gv ex i.stage.idle ≤ v.most = y.few in
            let mine : Stands p d.processor d.noted t.processor g1 h1 = record {
              status = y.status;
              inside = λ f. record {
                stage = stage_after gv ex i.stage;
                small = few;
                count = count;
                since = λ e. idle_since gv d i.stage.acted (g p) i.stage.idle y.missed i.since e;
                rested = λ e a. rested_after gv ex i.stage.acted i.stage.rested (h p) i.stage.idle i.rested e a;
                follows = λ hs. (own hs).goes f;
              };
            } in
            record {
              related = record {
                stands = λ q. go q mine y.touches (cases_eq q p);
                bounded = λ q. ⊎_elim (λ same. subst (λ u. at_place g p g1 u ≤ v.most + v.most) (sym same) (subst (λ z. z ≤ v.most + v.most) (sym (at_same g p g1)) (omega (arith, count, few)))) (λ ne. subst (λ z. z ≤ v.most + v.most) (sym (at_other g p g1 q ne)) (r.bounded q)) (cases_eq q p);
                fair = fair_after y.touches;
                flat = flat_after y.touches;
                sees = subst (λ w. l.sees d.noted w) (sym after.world) y.shows;
                outputs = outputs_same p m.outputs s.outputs d.outcome.output t.output r.outputs y.output ∙ sym after.outputs;
                reached = reached;
                words = λ e. bounds_step x (law.bounded e) p m running (r.words e);
              };
              owned = y.owned;
              missed = y.missed;
              tells = y.tells ∙ sym (ap (gives_of l) is);
              excused = λ some. subst (λ o. Possible o (λ u. u.excused ≡ true → h1 ≤ v.most + 1)) (sym is) (λ e. rested_at ex i.stage.rested (h p) i.stage.idle v.most (λ f. i.rested f (y.once some)) i.small (y.excused some e));
            }
          where
            go : (q : ℕ) → Stands p d.processor d.noted t.processor g1 h1 → ByOwn p m.noted d.noted → (q ≡ p) ⊎ (q ≡ p → ⊥) → Stands q (at_place m.processors p d.processor q) d.noted (s1.processors q) (at_place g p g1 q) (at_place h p h1 q)
            go q mine touches (inl same) =
                let F : ℕ → Type 0 = λ y. Stands y (at_place m.processors p d.processor y) d.noted (s1.processors y) (at_place g p g1 y) (at_place h p h1 y) in
                subst F (sym same)
                (subst (λ z. Stands p (at_place m.processors p d.processor p) d.noted (s1.processors p) (at_place g p g1 p) z) (sym (at_same h p h1)) (subst (λ z. Stands p (at_place m.processors p d.processor p) d.noted (s1.processors p) z h1) (sym (at_same g p g1)) (subst (λ c. Stands p c d.noted (s1.processors p) g1 h1) (sym (at_same m.processors p d.processor)) (subst (λ u. Stands p d.processor d.noted u g1 h1) (sym after.processor) mine))))
            go q mine touches (inr ne) =
                let k = stands_others q (m.processors q) m.noted d.noted (s.processors q) (g q) (h q) (others q (λ e. ne (sym e)) touches) (r.stands q) in
                subst (λ z. Stands q (at_place m.processors p d.processor q) d.noted (s1.processors q) (at_place g p g1 q) z) (sym (at_other h p h1 q ne)) (subst (λ z. Stands q (at_place m.processors p d.processor q) d.noted (s1.processors q) z (h q)) (sym (at_other g p g1 q ne)) (subst (λ c. Stands q c d.noted (s1.processors q) (g q) (h q)) (sym (at_other m.processors p d.processor q ne)) (subst (λ u. Stands q (m.processors q) d.noted u (g q) (h q)) (sym (after.processors q ne)) k)))

        -- the own step, whatever it gives
        own_step : (i : Inside p (m.processors p) m.noted (s.processors p) (g p) (h p)) → l.fits p (s.processors p) s.world → (i.stage.acted ≡ true → (m.processors p).place ≢ l.begins (s.processors p)) → Stepped (meant_run l (events_of p gv) s)
        unfolding after_own
        own_step i fit ne = go gv refl (outcome_of l gv p (s.processors p) s.world) refl (λ hs. (i.follows (Own ∷ hs)).1 s.world may)
          where
            may : Steppable l v x p i.stage (s.processors p) (m.processors p) m.noted s.world
            may = record { sees = r.sees; fits = fit; fair = r.fair p; flat = λ plain. r.flat plain p; empty = empty; running = running; runs = runs; inner = ne; bounds = λ e. record { regs = (r.words e).regs p running; bytes = (r.words e).bytes } }

            -- what the step gives is what the contract speaks of
            same : (y : Given) → gv ≡ y → (t : Did P W) → outcome_of l gv p (s.processors p) s.world ≡ Some t → meant_if l (l.status (s.processors p)) y p s ≡ after_did p (Some t) s
            same y e t is =
                ap (λ z. meant_if l z y p s) runs ∙ ap (λ z. after_did p (outcome_of l z p (s.processors p) s.world) s) (sym e) ∙ ap (λ z. after_did p z s) is

            acts : (y : Given) → gv ≡ y → meant_run l (events_of p y) s ≡ meant_if l (l.status (s.processors p)) y p s → (t : Did P W) → outcome_of l gv p (s.processors p) s.world ≡ Some t → ((hs : List Happening) → Mine i.stage t hs) → Stepped (meant_run l (events_of p gv) s)
            acts y e single t is own =
                let run_is : meant_run l (events_of p gv) s ≡ after_did p (Some t) s = ap (λ z. meant_run l (events_of p z) s) e ∙ single ∙ same y e t is in
                let reached = further (events_of p gv) s r.reached in
                subst (λ z. Stepped z) (sym run_is) (after_own i (after_did p (Some t) s) t (did_after p s t) (reached.0, reached.1 ∙ run_is) is own)

            calm : gv ≡ Nothing → (t : Did P W) → outcome_of l gv p (s.processors p) s.world ≡ Some t → ((hs : List Happening) → Mine i.stage t hs) → Stepped (meant_run l (events_of p gv) s)
            calm e t is own =
                let u : Did P W = record { processor = s.processors p; world = s.world; output = None; gives = Nothing; excused = false } in
                let same : u ≡ t = (let a : Some u ≡ Some t = ap (λ y. outcome_of l y p (s.processors p) s.world) (sym e) ∙ is in cc) in
                subst (λ y. Stepped (meant_run l (events_of p y) s)) (sym e) (after_own i s t (subst (λ y. After p s s y) same (calm_after p s)) r.reached is own)

            go : (y : Given) → gv ≡ y → (o : Option (Did P W)) → outcome_of l gv p (s.processors p) s.world ≡ o → ((hs : List Happening) → Possible o (λ t. Mine i.stage t hs)) → Stepped (meant_run l (events_of p gv) s)
            go y e None is own = absurd (own [])
            go Nothing e (Some t) is own = calm e t is own
            go An_act e (Some t) is own = acts An_act e refl t is own
            go A_look e (Some t) is own = acts A_look e refl t is own
            go A_miss e (Some t) is own = acts A_miss e refl t is own

      module _ (m : Machine) (s : Whole P W) (g h : ℕ → ℕ) (r : Related m s g h) (p : ℕ) where
        -- the state above after the drains of p's next step
        abbrev flushed : Whole P W
        flushed = meant_run l (drain_events v.counts p (sent x p m)) s

        ready_related : Related (ready x p m) flushed g h
        ready_related = go (flushing x p (m.processors p) m.noted)
          where
            go : (t : Bool) → Related (with_noted (drain_list (waits t p m.noted) p m.noted) m) (meant_run l (drain_events v.counts p (waits t p m.noted)) s) g h
            go true = drains_related (m.noted.storage.waiting p) p m s g h refl r
            go false = r

        ready_empty : flushing x p (m.processors p) (ready x p m).noted ≡ true → (ready x p m).noted.storage.waiting p ≡ []
        ready_empty = go (flushing x p (m.processors p) m.noted) refl
          where
            go : (t : Bool) → flushing x p (m.processors p) m.noted ≡ t → flushing x p (m.processors p) (drain_list (waits t p m.noted) p m.noted) ≡ true → (drain_list (waits t p m.noted) p m.noted).storage.waiting p ≡ []
            go true e f = drained_all p (m.noted.storage.waiting p) m.noted refl
            go false e f = absurd (false≢true (sym e ∙ f))

        own_stepped : (running : (m.processors p).status ≡ Running) → Stepped (ready x p m) flushed g h ready_related p running ready_empty (meant_run l (events_of p (gives x v.given v.marks v.counts p m)) flushed)
        own_stepped running =
            let q = ready_related in
            let runs : l.status (flushed.processors p) ≡ Runs = runs_of _ (sym (q.stands p).status ∙ running) in
            let fit0 = fits q.reached.0 p (ap (λ (y : Whole P W). l.status (y.processors p)) q.reached.1 ∙ runs) in
            let fit : l.fits p (flushed.processors p) flushed.world = subst (λ (y : Whole P W). l.fits p (y.processors p) y.world) q.reached.1 fit0 in
            let i = enter p (m.processors p) (ready x p m).noted (flushed.processors p) flushed.world (g p) (h p) runs q.sees fit ((q.stands p).inside running) in
            own_step (ready x p m) flushed g h q p running ready_empty i.0 fit i.1

        made : (m.processors p).status ≡ Running → Made x l v m flushed h p
        made running = let y = own_stepped running in record { owned = y.owned; missed = y.missed; tells = y.tells; excused = y.excused }

        step_related : Related (happens x (Step p) m) (meant_run l (explained x v.given v.marks v.counts (Step p) m) s) (idle_next x v.given v.marks v.counts (Step p) m g) (since_next x (Step p) m h)
        step_related = go (m.processors p).status refl
          where
            running : (m.processors p).status ≡ Running → Related (step_if x Running p m) (meant_run l (events_if x v.given v.marks v.counts Running p m) s) (idle_if x v.given v.marks v.counts Running p m g) (since_if x Running p m h)
            running e =
                subst (λ y. Related (step_if x Running p m) y (idle_if x v.given v.marks v.counts Running p m g) (since_if x Running p m h)) (sym (meant_run-append l (drain_events v.counts p (sent x p m)) (events_of p (gives x v.given v.marks v.counts p m)) s)) (own_stepped e).related

            go : (y : Status) → (m.processors p).status ≡ y → Related (step_if x y p m) (meant_run l (events_if x v.given v.marks v.counts y p m) s) (idle_if x v.given v.marks v.counts y p m g) (since_if x y p m h)
            go Running e = running e
            go Ended e = r
            go Trapped e = r
            go Stuck e = r

      happens_related : (e : Event) (m : Machine) (s : Whole P W) (g h : ℕ → ℕ) → Related m s g h → Related (happens x e m) (meant_run l (explained x v.given v.marks v.counts e m) s) (idle_next x v.given v.marks v.counts e m g) (since_next x e m h)
      happens_related (Step p) m s g h r = step_related m s g h r p
      happens_related (Drain p) m s g h r = drain_related m s g h r p
      happens_related (Drop p) m s g h r = drop_related m s g h r p

      run_related : (es : List Event) (m : Machine) (s : Whole P W) (g h : ℕ → ℕ) → Related m s g h → Related (run x es m) (meant_run l (explain x v.given v.marks v.counts es m) s) (idle_run x v.given v.marks v.counts es m g) (since_run x es m h)
      run_related [] m s g h r = r
      run_related (e ∷ es) m s g h r =
          subst (λ y. Related (run x (e ∷ es) m) y (idle_run x v.given v.marks v.counts (e ∷ es) m g) (since_run x (e ∷ es) m h)) (sym (meant_run-append l (explained x v.given v.marks v.counts e m) (explain x v.given v.marks v.counts es (happens x e m)) s)) (run_related es (happens x e m) _ (idle_next x v.given v.marks v.counts e m g) (since_next x e m h) (happens_related e m s g h r))

      begins_related : (m : Machine) → Begins x l v m s0 → Related m s0 (λ p. 0) (λ p. 0)
      begins_related m b =
          record {
            stands = λ p. record { status = b.status p; inside = λ e. begin p (m.processors p) m.noted (s0.processors p) s0.world 0 0 (omega arith) (runs p e) (b.place p e) (b.matches p e) b.sees (fits [] p (runs p e)) };
            bounded = λ p. omega arith;
            fair = λ p. subst (λ es. Fair p es) (sym (b.waiting p)) tt;
            flat = λ plain p. b.waiting p;
            sees = b.sees;
            outputs = b.outputs;
            reached = ([], refl);
            words = b.bounds;
          }
        where
          runs : (p : ℕ) → (m.processors p).status ≡ Running → l.status (s0.processors p) ≡ Runs
          runs p e = runs_of _ (sym (b.status p) ∙ e)

      -- THE TIE: the events of the public tags are those that the events of the marks give above
      first_tied : (m : Machine) (s : Whole P W) (g h : ℕ → ℕ) → Related m s g h → (p : ℕ) → first_drain v.public p (m.noted.storage.waiting p) ≡ source_events l (first_drain v.counts p (m.noted.storage.waiting p)) s
      first_tied m s g h r p = go (m.noted.storage.waiting p) refl
        where
          counted : (e : Entry) (es : List Entry) → m.noted.storage.waiting p ≡ e ∷ es → (t : Bool) → v.counts e ≡ t → drain_event v.public p e ≡ source_events l (if t then Drains p ∷ [] else []) s
          counted e es is true c = ap (λ t. if t then Drains p ∷ [] else []) (law.drains (on m s g h r p e es is) p m.noted s.world e es is (subst (λ ys. Fair p ys) is (r.fair p)).0 c r.sees).1 ∙ sym (append-nil (if l.drain_gives p s.world then Drains p ∷ [] else []))
          counted e es is false c = ap (λ t. if t then Drains p ∷ [] else []) (law.hides (on m s g h r p e es is) p m.noted s.world e es is (subst (λ ys. Fair p ys) is (r.fair p)).0 c r.sees).1

          go : (es : List Entry) → m.noted.storage.waiting p ≡ es → first_drain v.public p es ≡ source_events l (first_drain v.counts p es) s
          go [] is = refl
          go (e ∷ es) is = counted e es is (v.counts e) refl

      drains_tied : (es : List Entry) (p : ℕ) (m : Machine) (s : Whole P W) (g h : ℕ → ℕ) → m.noted.storage.waiting p ≡ es → Related m s g h → drain_events v.public p es ≡ source_events l (drain_events v.counts p es) s
      drains_tied [] p m s g h is r = refl
      drains_tied (e ∷ es) p m s g h is r =
          let one : drain_event v.public p e ≡ source_events l (drain_event v.counts p e) s = subst (λ ys. first_drain v.public p ys ≡ source_events l (first_drain v.counts p ys) s) is (first_tied m s g h r p) in
          let next : Related (with_noted (drain p m.noted) m) (meant_run l (drain_event v.counts p e) s) g h = subst (λ ys. Related (with_noted (drain p m.noted) m) (meant_run l (first_drain v.counts p ys) s) g h) is (drain_related m s g h r p) in
          let rest = drains_tied es p (with_noted (drain p m.noted) m) _ g h (drained_waiting p e es m.noted is) next in
          ap (λ ys. ys ++ drain_events v.public p es) one ∙ ap (λ ys. source_events l (drain_event v.counts p e) s ++ ys) rest ∙ sym (source_events-append l (drain_event v.counts p e) (drain_events v.counts p es) s)

      event_tied : (p : ℕ) (y : Given) (s : Whole P W) → l.status (s.processors p) ≡ Runs → events_of p (gives_of l (outcome_of l y p (s.processors p) s.world)) ≡ source_events l (events_of p y) s
      event_tied p Nothing s run = refl
      event_tied p An_act s run = sym (append-nil (source_if l (l.status (s.processors p)) An_act p s) ∙ ap (λ z. source_if l z An_act p s) run)
      event_tied p A_look s run = sym (append-nil (source_if l (l.status (s.processors p)) A_look p s) ∙ ap (λ z. source_if l z A_look p s) run)
      event_tied p A_miss s run = sym (append-nil (source_if l (l.status (s.processors p)) A_miss p s) ∙ ap (λ z. source_if l z A_miss p s) run)

      step_tied : (m : Machine) (s : Whole P W) (g h : ℕ → ℕ) → Related m s g h → (p : ℕ) → explained x given_of x.tags v.public (Step p) m ≡ source_events l (explained x v.given v.marks v.counts (Step p) m) s
      step_tied m s g h r p = go (m.processors p).status refl
        where
          sent_tied : (t : Bool) → drain_events v.public p (waits t p m.noted) ≡ source_events l (drain_events v.counts p (waits t p m.noted)) s
          sent_tied true = drains_tied (m.noted.storage.waiting p) p m s g h refl r
          sent_tied false = refl

          running : (m.processors p).status ≡ Running → events_if x given_of x.tags v.public Running p m ≡ source_events l (events_if x v.given v.marks v.counts Running p m) s
          running e =
              let after = flushed m s g h r p in
              let k = made m s g h r p e in
              let runs : l.status (after.processors p) ≡ Runs = runs_of _ (sym ((ready_related m s g h r p).stands p).status ∙ e) in
              let own : events_of p (gives x given_of x.tags v.public p m) ≡ source_events l (events_of p (gives x v.given v.marks v.counts p m)) after = ap (events_of p) (sym (step_gives x p (m.processors p) (ready x p m).noted) ∙ k.tells) ∙ event_tied p (gives x v.given v.marks v.counts p m) after runs in
              ap (λ ys. ys ++ events_of p (gives x given_of x.tags v.public p m)) (sent_tied (flushing x p (m.processors p) m.noted)) ∙ ap (λ ys. source_events l (drain_events v.counts p (sent x p m)) s ++ ys) own ∙ sym (source_events-append l (drain_events v.counts p (sent x p m)) (events_of p (gives x v.given v.marks v.counts p m)) s)

          go : (y : Status) → (m.processors p).status ≡ y → events_if x given_of x.tags v.public y p m ≡ source_events l (events_if x v.given v.marks v.counts y p m) s
          go Running e = running e
          go Ended e = refl
          go Trapped e = refl
          go Stuck e = refl

      happens_tied : (e : Event) (m : Machine) (s : Whole P W) (g h : ℕ → ℕ) → Related m s g h → explained x given_of x.tags v.public e m ≡ source_events l (explained x v.given v.marks v.counts e m) s
      happens_tied (Step p) m s g h r = step_tied m s g h r p
      happens_tied (Drain p) m s g h r = first_tied m s g h r p
      happens_tied (Drop p) m s g h r = refl

      run_tied : (es : List Event) (m : Machine) (s : Whole P W) (g h : ℕ → ℕ) → Related m s g h → explain x given_of x.tags v.public es m ≡ source_events l (explain x v.given v.marks v.counts es m) s
      run_tied [] m s g h r = refl
      run_tied (e ∷ es) m s g h r =
          ap (λ ys. ys ++ explain x given_of x.tags v.public es (happens x e m)) (happens_tied e m s g h r)
          ∙ ap (λ ys. source_events l (explained x v.given v.marks v.counts e m) s ++ ys) (run_tied es (happens x e m) _ _ _ (happens_related e m s g h r))
          ∙ sym (source_events-append l (explained x v.given v.marks v.counts e m) (explain x v.given v.marks v.counts es (happens x e m)) s)

      -- THE COUNT BY THE PUBLIC TAGS, from that of events above
      abbrev Counts : (ℕ → ℕ) → (ℕ → ℕ) → (ℕ → ℕ) → (ℕ → ℕ) → Type 0
      Counts u f g h = (p : ℕ) → Counted v.most (u p) (f p) (g p) (h p)

      drains_count : (p : ℕ) (es : List Entry) (s : Whole P W) (f : ℕ → ℕ) → above_run l (drain_events v.counts p es) s f ≡ f
      drains_count p [] s f = refl
      drains_count p (e ∷ es) s f = above_run-append l (drain_event v.counts p e) (drain_events v.counts p es) s f ∙ drains_count p es _ _ ∙ go (v.counts e)
        where
          go : (t : Bool) → above_run l (if t then Drains p ∷ [] else []) s f ≡ f
          go true = refl
          go false = refl

      step_count : (m : Machine) (s : Whole P W) (u f g h : ℕ → ℕ) → Related m s g h → Counts u f g h → (p : ℕ)
          → Counts (idle_next x given_of x.tags v.public (Step p) m u) (above_run l (explained x v.given v.marks v.counts (Step p) m) s f) (idle_next x v.given v.marks v.counts (Step p) m g) (since_next x (Step p) m h)
      step_count m s u f g h r c p = go (m.processors p).status refl
        where
          running : (m.processors p).status ≡ Running → Counts (idle_if x given_of x.tags v.public Running p m u) (above_run l (events_if x v.given v.marks v.counts Running p m) s f) (idle_if x v.given v.marks v.counts Running p m g) (since_if x Running p m h)
          running run =
              let after = flushed m s g h r p in
              let k = made m s g h r p run in
              let runs : l.status (after.processors p) ≡ Runs = runs_of _ (sym ((ready_related m s g h r p).stands p).status ∙ run) in
              let d = done x p m in
              let e = is_excused d in
              let y = gives x v.given v.marks v.counts p m in
              let tag : gives x given_of x.tags v.public p m ≡ gives_of l (outcome_of l y p (after.processors p) after.world) = sym (step_gives x p (m.processors p) (ready x p m).noted) ∙ k.tells in
              let above : above_run l (events_if x v.given v.marks v.counts Running p m) s f ≡ above_run l (events_of p y) after f =
              above_run-append l (drain_events v.counts p (sent x p m)) (events_of p y) s f ∙ ap (λ q. above_run l (events_of p y) after q) (drains_count p (sent x p m) s f) in
              let one = own y e after runs k.excused in
              subst (λ z. Counts (at_place u p (idle_after z e (u p))) (above_run l (events_if x v.given v.marks v.counts Running p m) s f) (at_place g p (idle_after y e (g p))) (at_place h p (since_after e (h p)))) (sym tag)
              (subst (λ z. Counts (at_place u p (idle_after (gives_of l (outcome_of l y p (after.processors p) after.world)) e (u p))) z (at_place g p (idle_after y e (g p))) (at_place h p (since_after e (h p)))) (sym above) one)
            where
              mine : (u1 f1 g1 h1 : ℕ) (F : ℕ → ℕ) → ((q : ℕ) → F q ≡ at_place f p f1 q) → Counted v.most u1 f1 g1 h1 → (q : ℕ) → (q ≡ p) ⊎ (q ≡ p → ⊥) → Counted v.most (at_place u p u1 q) (F q) (at_place g p g1 q) (at_place h p h1 q)
              mine u1 f1 g1 h1 F is k q (inl same) =
                  let G : ℕ → Type 0 = λ z. Counted v.most (at_place u p u1 z) (at_place f p f1 z) (at_place g p g1 z) (at_place h p h1 z) in
                  subst (λ z. Counted v.most (at_place u p u1 q) z (at_place g p g1 q) (at_place h p h1 q)) (sym (is q)) (subst G (sym same) (subst (λ z. Counted v.most z (at_place f p f1 p) (at_place g p g1 p) (at_place h p h1 p)) (sym (at_same u p u1))
                  (subst (λ z. Counted v.most u1 z (at_place g p g1 p) (at_place h p h1 p)) (sym (at_same f p f1)) (subst (λ z. Counted v.most u1 f1 z (at_place h p h1 p)) (sym (at_same g p g1)) (subst (λ z. Counted v.most u1 f1 g1 z) (sym (at_same h p h1)) k)))))
              mine u1 f1 g1 h1 F is k q (inr ne) =
                  subst (λ z. Counted v.most (at_place u p u1 q) z (at_place g p g1 q) (at_place h p h1 q)) (sym (is q)) (subst (λ z. Counted v.most z (at_place f p f1 q) (at_place g p g1 q) (at_place h p h1 q)) (sym (at_other u p u1 q ne))
                  (subst (λ z. Counted v.most (u q) z (at_place g p g1 q) (at_place h p h1 q)) (sym (at_other f p f1 q ne)) (subst (λ z. Counted v.most (u q) (f q) z (at_place h p h1 q)) (sym (at_other g p g1 q ne)) (subst (λ z. Counted v.most (u q) (f q) (g q) z) (sym (at_other h p h1 q ne)) (c q)))))

              same_place : (q : ℕ) → f q ≡ at_place f p (f p) q
              same_place q = ⊎_elim (λ same. ap f same ∙ sym (subst (λ z. at_place f p (f p) z ≡ f p) (sym same) (at_same f p (f p)))) (λ ne. sym (at_other f p (f p) q ne)) (cases_eq q p)

              acted : (o : Option (Did P W)) (F : ℕ → ℕ) → ((q : ℕ) → F q ≡ at_place f p (above_by l o (f p)) q) → (e : Bool) → Possible o (λ t. t.excused ≡ true → since_after e (h p) ≤ v.most + 1) → (g1 q : ℕ)
                  → Counted v.most (at_place u p (idle_after (gives_of l o) e (u p)) q) (F q) (at_place g p g1 q) (at_place h p (since_after e (h p)) q)
              acted None F is e near g1 q = absurd near
              acted (Some t) F is e near g1 q = mine (idle_after t.gives e (u p)) (idle_after t.gives t.excused (f p)) g1 (since_after e (h p)) F is (counted_event v.most e t.excused t.gives (u p) (f p) (g p) g1 (h p) (r.bounded p) (c p) near) q (cases_eq q p)

              own : (y : Given) (e : Bool) (after : Whole P W) → l.status (after.processors p) ≡ Runs → (y ≢ Nothing → Possible (outcome_of l y p (after.processors p) after.world) (λ t. t.excused ≡ true → since_after e (h p) ≤ v.most + 1)) → (q : ℕ)
                  → Counted v.most (at_place u p (idle_after (gives_of l (outcome_of l y p (after.processors p) after.world)) e (u p)) q) (above_run l (events_of p y) after f q) (at_place g p (idle_after y e (g p)) q) (at_place h p (since_after e (h p)) q)
              own Nothing e after run near q = mine (idle_after Nothing e (u p)) (f p) (idle_after Nothing e (g p)) (since_after e (h p)) f same_place (counted_calm v.most e (u p) (f p) (g p) (h p) (c p)) q (cases_eq q p)
              own An_act e after run near q = acted (outcome_of l An_act p (after.processors p) after.world) (above_if l (l.status (after.processors p)) An_act p after f) (λ i. ap (λ z. above_if l z An_act p after f i) run) e (near (λ z. let w : An_act ≡ Nothing = z in cc)) (idle_after An_act e (g p)) q
              own A_look e after run near q = acted (outcome_of l A_look p (after.processors p) after.world) (above_if l (l.status (after.processors p)) A_look p after f) (λ i. ap (λ z. above_if l z A_look p after f i) run) e (near (λ z. let w : A_look ≡ Nothing = z in cc)) (idle_after A_look e (g p)) q
              own A_miss e after run near q = acted (outcome_of l A_miss p (after.processors p) after.world) (above_if l (l.status (after.processors p)) A_miss p after f) (λ i. ap (λ z. above_if l z A_miss p after f i) run) e (near (λ z. let w : A_miss ≡ Nothing = z in cc)) (idle_after A_miss e (g p)) q

          go : (y : Status) → (m.processors p).status ≡ y → Counts (idle_if x given_of x.tags v.public y p m u) (above_run l (events_if x v.given v.marks v.counts y p m) s f) (idle_if x v.given v.marks v.counts y p m g) (since_if x y p m h)
          go Running e = running e
          go Ended e = c
          go Trapped e = c
          go Stuck e = c

      first_count : (p : ℕ) (es : List Entry) (s : Whole P W) (f : ℕ → ℕ) → above_run l (first_drain v.counts p es) s f ≡ f
      first_count p [] s f = refl
      first_count p (e ∷ es) s f = go (v.counts e)
        where
          go : (t : Bool) → above_run l (if t then Drains p ∷ [] else []) s f ≡ f
          go true = refl
          go false = refl

      happens_count : (e : Event) (m : Machine) (s : Whole P W) (u f g h : ℕ → ℕ) → Related m s g h → Counts u f g h
          → Counts (idle_next x given_of x.tags v.public e m u) (above_run l (explained x v.given v.marks v.counts e m) s f) (idle_next x v.given v.marks v.counts e m g) (since_next x e m h)
      happens_count (Step p) m s u f g h r c = step_count m s u f g h r c p
      happens_count (Drain p) m s u f g h r c = subst (λ z. Counts u z g h) (sym (first_count p (m.noted.storage.waiting p) s f)) c
      happens_count (Drop p) m s u f g h r c = c

      run_count : (es : List Event) (m : Machine) (s : Whole P W) (u f g h : ℕ → ℕ) → Related m s g h → Counts u f g h
          → Counts (idle_run x given_of x.tags v.public es m u) (above_run l (explain x v.given v.marks v.counts es m) s f) (idle_run x v.given v.marks v.counts es m g) (since_run x es m h)
      run_count [] m s u f g h r c = c
      run_count (e ∷ es) m s u f g h r c =
          subst (λ z. Counts (idle_run x given_of x.tags v.public (e ∷ es) m u) z (idle_run x v.given v.marks v.counts (e ∷ es) m g) (since_run x (e ∷ es) m h)) (sym (above_run-append l (explained x v.given v.marks v.counts e m) (explain x v.given v.marks v.counts es (happens x e m)) s f))
          (run_count es (happens x e m) _ _ _ _ _ (happens_related e m s g h r) (happens_count e m s u f g h r c))

  -- THE THEOREM: after every list of events the machine agrees with the meaning under the explanation by the marks, and nobody idles
  pub run_follows : Follows l v x → Lawful l v x → (s0 : Whole P W) (m0 : Machine) → Begins x l v m0 s0 → AllFit x l v s0 → (es : List Event) → Agreed x l v (run x es m0) (meant_after x l v es m0 s0) (idle_run x v.given v.marks v.counts es m0 (λ p. 0))
  run_follows all law s0 m0 b fits es = agrees s0 _ _ _ _ (run_related s0 all law fits es m0 s0 (λ p. 0) (λ p. 0) (begins_related s0 all law fits m0 b))

  -- and each event is made where it should be; misses are caused
  pub run_made :
      Follows l v x → Lawful l v x → (s0 : Whole P W) (m0 : Machine) → Begins x l v m0 s0 → AllFit x l v s0 → (es : List Event) (p : ℕ) → ((run x es m0).processors p).status ≡ Running
      → Made x l v (run x es m0) (meant_run l (drain_events v.counts p (sent x p (run x es m0))) (meant_after x l v es m0 s0)) (since_run x es m0 (λ q. 0)) p
  run_made all law s0 m0 b fits es p running = made s0 all law fits _ _ _ _ (run_related s0 all law fits es m0 s0 (λ q. 0) (λ q. 0) (begins_related s0 all law fits m0 b)) p running

  -- the explanation by the public tags is what the run above gives
  pub run_explained : Follows l v x → Lawful l v x → (s0 : Whole P W) (m0 : Machine) → Begins x l v m0 s0 → AllFit x l v s0 → (es : List Event) → explain x given_of x.tags v.public es m0 ≡ source_events l (explain x v.given v.marks v.counts es m0) s0
  run_explained all law s0 m0 b fits es = run_tied s0 all law fits es m0 s0 (λ p. 0) (λ p. 0) (begins_related s0 all law fits m0 b)

  -- the idle steps by the public tags, from the idle events of the run above
  pub run_counted : Follows l v x → Lawful l v x → (s0 : Whole P W) (m0 : Machine) → Begins x l v m0 s0 → AllFit x l v s0 → (es : List Event) (p : ℕ)
      → idle_run x given_of x.tags v.public es m0 (λ q. 0) p ≤ (v.most + v.most + 1) * above_run l (explain x v.given v.marks v.counts es m0) s0 (λ q. 0) p + idle_run x v.given v.marks v.counts es m0 (λ q. 0) p + (v.most + 1)
  run_counted all law s0 m0 b fits es p =
      (run_count s0 all law fits es m0 s0 (λ q. 0) (λ q. 0) (λ q. 0) (λ q. 0) (begins_related s0 all law fits m0 b) (λ q. record { below = omega arith; few = omega arith }) p).few

  -- all of it
  pub runs_in_step : Follows l v x → Lawful l v x → RunsInStep x l v
  runs_in_step all law =
      record {
        agrees = λ s0 m0 b fits es. run_follows all law s0 m0 b fits es;
        makes = λ s0 m0 b fits es p running. run_made all law s0 m0 b fits es p running;
        explains = λ s0 m0 b fits es. run_explained all law s0 m0 b fits es;
        counts = λ s0 m0 b fits es p. run_counted all law s0 m0 b fits es p;
      }
