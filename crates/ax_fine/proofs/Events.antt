-- Each event of the fine machine keeps the two machines near, and so does each list of events.
use Rattle.std.proofs.Common.{◌≡◌, ℕ, zero, suc, ◌+◌, ◌%◌, ◌^◌, ◌<◌, ◌≤◌, Bool, true, false, ◌&&◌, ◌⊎◌, inl, inr, List, [], ◌∷◌, ◌++◌, Option, Some, None, refl, sym, ap, ◌∙◌, subst, arith, slice_get, option_map, append-nil}
use Rattle.std.specs.Prelude.{if◌then◌else◌, nat_eq}
use Rattle.std.proofs.lemmas.Bool.{and_parts, false≢true}
use Rattle.std.proofs.lemmas.Bool.Decides.{nat_tests}
use Rattle.std.proofs.lemmas.Option.{none-some, same_Some}
use Rattle.ax_words.specs.declared.mark.Op.{Op}
use Rattle.ax_words.specs.declared.mark.Op.TheVariants as op
use Rattle.ax_words.specs.declared.order.Order.{Order}
use Rattle.ax_words.specs.declared.source.SourceEvent.{SourceEvent}
use Rattle.ax_words.specs.declared.source.SourceEvent.TheVariants.{Act, Look, Miss, Drain}
use Rattle.ax_words.specs.declared.source.SourceStatus.{SourceStatus}
use Rattle.ax_words.specs.declared.source.SourceStatus.TheVariants.{Running, Ended, Trapped}
use Rattle.ax_words.specs.declared.width.Width.{Width}
use Rattle.ax_words.specs.Width.{bytes_of}
use Rattle.ax_tags.specs.declared.tags.Tag.{Tag}
use Rattle.ax_tags.specs.declared.tags.Tag.TheVariants as tag
use Rattle.ax_store.specs.declared.entry.Entry.{Entry}
use Rattle.ax_store.specs.Bytes.{all_inside, number_at}
use Rattle.ax_store.specs.Storage.{at_place}
use Rattle.ax_source_run.specs.SourceAccess.{put_at}
use Rattle.ax_source_run.specs.SourceState.{PendingStore}
use Rattle.ax_isa.specs.Run as isa
use Rattle.ax_isa.specs.Run.{events_of}
use Rattle.ax_isa.specs.Tells.{Given, Nothing, An_act, A_look, A_miss}
use Rattle.ax_follow.specs.Contract.{Did, Meaning, Whole, after_did, gives_of, meant, meant_if, meant_run, outcome_of, source_events, source_if, source_of}
use Rattle.ax_mid.specs.declared.code.Line.{Line}
use Rattle.ax_mid.specs.declared.code.MidGlobal.{MidGlobal}
use Rattle.ax_mid.specs.declared.instruction.MidInst.{MidInst}
use Rattle.ax_mid.specs.declared.instruction.MidInst.TheVariants as mid
use Rattle.ax_mid.specs.Machine as machine
use Rattle.ax_mid.specs.Machine.{MidState, act_by, act_if, act_step, argument, atomic_at, atomic_step, if_true, is_exchange, is_fence, label_at, line_at, mid_event, mid_run, miss_with, missed_by, missed_if, number_at_spot, private_step, put_all, quiet_by, quiet_if, quiet_step, read_all, results_of, seen_by, seen_if, shared_step, spot, stepped}
use Rattle.ax_mid.specs.Processor.{MidDeed, MidProcessor, goes_on}
use Rattle.ax_mid.specs.Spots.{Spot, Own, Element, Nowhere, is_own, spot_of}
use Rattle.ax_expand.specs.Shared.{Shared, shared_wrote, with_pending}
use Rattle.ax_fine.specs.Fine.{Fit, Program, asks, asks_by, asks_if, chosen_by, chosen_if, did_atomic, fine, is_quiet, is_some, plain_by, settle}
use Rattle.ax_fine.specs.Near.{AreLabelsSilent, ArePlaced, AreStores, CanAct, FineRunsFit, FineRunsInStep, Framed, HasRoom, IsDeed, IsMeant, IsNear, IsSmall, IsSmallInst, Near, ResultsFit, Spells, address_of, bare, marked, on_bytes, one_step}
use Rattle.ax_fine.specs.OnBytes.{AreWords, Asks, IsObject, looks, misses, results_with}
use Rattle.ax_fine.proofs.Acts.{IsDone, IsElement, element_is, line_acts, own_first, own_store, private_chosen}
use Rattle.ax_fine.proofs.Ahead as ahead
use Rattle.ax_fine.proofs.Small.{Below, argument_small, put_all_below, put_none, read_below, results_small, step_small, step_status}
use Rattle.ax_fine.proofs.World.{Shows, below, wrote_shows}

eq_of : (a b : ℕ) → nat_eq a b ≡ true → a ≡ b
eq_of a b h = grind (arith, nat_tests, h)

eq_true : (a b : ℕ) → a ≡ b → nat_eq a b ≡ true
eq_true a b h = grind (arith, nat_tests, h)

place_same : {A : Type 0} (f : ℕ → A) (p : ℕ) (v : A) → put_at f p v p ≡ v
place_same f p v = ap (λ (t : Bool). if t then v else f p) (eq_true p p refl)

-- of each processor, where that of p alone changes in both
put_both : {A B : Type 0} (P : ℕ → A → B → Type 0) (f : ℕ → A) (g : ℕ → B) (p : ℕ) (a : A) (b : B) → P p a b → ((q : ℕ) → nat_eq q p ≡ false → P q (f q) (g q)) → (q : ℕ) → P q (put_at f p a q) (at_place g p b q)
put_both P f g p a b here others q = by (nat_eq q p) refl
  where
    by : (t : Bool) → nat_eq q p ≡ t → P q (if t then a else f q) (if t then b else g q)
    by true e = subst (λ (k : ℕ). P k a b) (sym (eq_of q p e)) here
    by false e = others q e

put_one : {A B : Type 0} (P : ℕ → A → B → Type 0) (f : ℕ → A) (g : ℕ → B) (p : ℕ) (b : B) → P p (f p) b → ((q : ℕ) → P q (f q) (g q)) → (q : ℕ) → P q (f q) (at_place g p b q)
put_one P f g p b here others q = by (nat_eq q p) refl
  where
    by : (t : Bool) → nat_eq q p ≡ t → P q (f q) (if t then b else g q)
    by true e = subst (λ (k : ℕ). P k (f k) b) (sym (eq_of q p e)) here
    by false e = others q

outputs_same : (p : ℕ) (o : Option ℕ) → isa.outputs_of p o ≡ machine.outputs_of p o
outputs_same p None = refl
outputs_same p (Some n) = refl

module _ {R : Type 0} (x : Framed R) (most : ℕ) (inside : ℕ → Bool) (places : ℕ → ℕ) (fit : ResultsFit) (labels : AreLabelsSilent x.code) (fits : (p j : ℕ) (line : Line R) → slice_get x.code.lines j ≡ Some line → IsSmallInst (x.base p) line.inst) (placed : ArePlaced x.code.globals inside) where
  abbrev m : Program R Shared
  m = on_bytes x

  abbrev l : Meaning MidProcessor Shared
  l = fine (on_bytes x) places

  run_append : (xs ys : List SourceEvent) (s : MidState) → one_step x most (xs ++ ys) s ≡ one_step x most ys (one_step x most xs s)
  run_append [] ys s = refl
  run_append (e ∷ xs) ys s = run_append xs ys (mid_event x.key x.target x.code x.base most e s)

  module _ (p : ℕ) where
    abbrev quiet : MidProcessor → Option MidProcessor
    quiet s = quiet_step x.key x.target x.code (x.base p) s

    abbrev runs : MidProcessor → MidProcessor
    runs s = machine.advance x.key x.target x.code (x.base p) most s

    abbrev act : MidProcessor → (ℕ → ℕ → ℕ) → Option MidDeed
    act s numbers = act_step x.key x.target x.code (x.base p) s numbers

    -- ---- the line of a processor
    record SilentLine (b y : MidProcessor) : Type 0 where
      line : Line R
      at : slice_get x.code.lines b.place ≡ Some line
      is : line.tag ≡ tag.Silent
      steps : private_step x.key x.target x.code (x.base p) line.inst b ≡ Some y

    silent_line : (b y : MidProcessor) (o : Option (Line R)) → slice_get x.code.lines b.place ≡ o → quiet_if x.key x.target x.code (x.base p) o b ≡ Some y → SilentLine b y
    silent_line b y None at e = absurd (none-some y e)
    silent_line b y (Some line) at e = by line.tag refl e
      where
        by : (t : Tag) → line.tag ≡ t → quiet_by x.key x.target x.code (x.base p) t line.inst b ≡ Some y → SilentLine b y
        by tag.Silent is h = record { line = line; at = at; is = is; steps = h }
        by _ is h = absurd (none-some y h)

    record EventLine (e : MidProcessor) (numbers : ℕ → ℕ → ℕ) : Type 0 where
      line : Line R
      at : slice_get x.code.lines e.place ≡ Some line
      is : line.tag ≡ tag.Act
      deed : MidDeed
      does : stepped x.key x.target x.code (x.base p) (private_step x.key x.target x.code (x.base p) line.inst e) (shared_step x.key x.target x.code (x.base p) line.inst e numbers) numbers ≡ Some deed
      acts : act e numbers ≡ Some deed
      quiet_none : quiet e ≡ None

    event_line : (e : MidProcessor) (numbers : ℕ → ℕ → ℕ) (o : Option (Line R)) → slice_get x.code.lines e.place ≡ o → IsDeed x most (act_if x.key x.target x.code (x.base p) o e numbers) → EventLine e numbers
    event_line e numbers None at h = absurd h
    event_line e numbers (Some line) at h = by line.tag refl h
      where
        found : line.tag ≡ tag.Act → (o : Option MidDeed) → stepped x.key x.target x.code (x.base p) (private_step x.key x.target x.code (x.base p) line.inst e) (shared_step x.key x.target x.code (x.base p) line.inst e numbers) numbers ≡ o → IsDeed x most o → EventLine e numbers
        found is None does d = absurd d
        found is (Some deed) does d = record {
          line = line;
          at = at;
          is = is;
          deed = deed;
          does = does;
          acts = ap (λ (o : Option (Line R)). act_if x.key x.target x.code (x.base p) o e numbers) at ∙ (ap (λ (t : Tag). act_by x.key x.target x.code (x.base p) t line.inst e numbers) is ∙ does);
          quiet_none = ap (λ (o : Option (Line R)). quiet_if x.key x.target x.code (x.base p) o e) at ∙ ap (λ (t : Tag). quiet_by x.key x.target x.code (x.base p) t line.inst e) is;
        }

        by : (t : Tag) → line.tag ≡ t → IsDeed x most (act_by x.key x.target x.code (x.base p) t line.inst e numbers) → EventLine e numbers
        by tag.Act is d = found is (stepped x.key x.target x.code (x.base p) (private_step x.key x.target x.code (x.base p) line.inst e) (shared_step x.key x.target x.code (x.base p) line.inst e numbers) numbers) refl d
        by _ is d = absurd d

    event_at : (e : MidProcessor) (numbers : ℕ → ℕ → ℕ) → IsDeed x most (act e numbers) → EventLine e numbers
    event_at e numbers h = event_line e numbers (slice_get x.code.lines e.place) refl h

    -- what silent lines leave as it is
    kept : (a : MidProcessor) → runs a ≡ marked a.seen a.pending (runs a)
    kept a = ahead.runs_marked x.key x.target x.code (x.base p) a.seen a.pending most a

    seen_kept : (a : MidProcessor) → (runs a).seen ≡ a.seen
    seen_kept a = ap (λ (z : MidProcessor). z.seen) (kept a)

    pending_kept : (a : MidProcessor) → (runs a).pending ≡ a.pending
    pending_kept a = ap (λ (z : MidProcessor). z.pending) (kept a)

    -- a processor that has done its event, and its fine one, which has passed the labels behind it
    pub near_after : (d : MidProcessor) (numbers : ℕ → ℕ → ℕ) (t : MidProcessor) → t.status ≡ d.status → IsSmall d → (d.status ≡ Running → t ≡ ahead.settled x.code (bare d)) → (d.status ≡ Running → IsDeed x most (act (runs d) numbers)) → IsNear x most p d t
    near_after d numbers t status small stands can = record {
      status = status;
      small = λ r. subst IsSmall (sym (stands r)) (record { regs = small.regs; frame = small.frame });
      way = λ r. let ends = (event_at (runs d) numbers (can r)).quiet_none in
          let bare_runs : runs (bare d) ≡ marked d.seen [] (runs d) = ahead.runs_marked x.key x.target x.code (x.base p) d.seen [] most d in
          let none : quiet (runs (bare d)) ≡ None = ap quiet bare_runs ∙ (ahead.quiet_marked x.key x.target x.code (x.base p) d.seen [] (runs d) ∙ ap (option_map (marked d.seen [])) ends) in
          ap runs (stands r) ∙ (ahead.settles x.key x.target x.code (x.base p) labels most (bare d) none ∙ (bare_runs ∙ ap (λ (o : Option ℕ). marked o [] (runs d)) (sym (seen_kept d))));
      settled = λ r. subst (λ (z : MidProcessor). settle x.code.lines z.place ≡ z.place) (sym (stands r)) (ahead.settle_twice x.code.lines d.place);
    }

    module _ (w : Whole MidProcessor Shared) (s : MidState) (near : Near x most inside w s) (can : (events : List SourceEvent) → CanAct x most (one_step x most events s)) (running : (s.processors p).status ≡ Running) where
      abbrev a : MidProcessor
      a = s.processors p

      abbrev b : MidProcessor
      b = w.processors p

      abbrev e : MidProcessor
      e = runs a

      here : IsNear x most p a b
      here = near.processors p

      line : EventLine e s.numbers
      line = event_at e s.numbers (can [] p running)

      shows : Shows x.code.globals inside placed w.world s.numbers
      shows = record { mapped = near.spells.mapped; small = near.spells.small; spelled = near.spells.spelled }

      ends : quiet (runs b) ≡ None
      ends = ap quiet (here.way running) ∙ (ahead.quiet_marked x.key x.target x.code (x.base p) e.seen [] e ∙ ap (option_map (marked e.seen [])) line.quiet_none)

      -- it has come to the line of its event
      come : quiet b ≡ None → b ≡ bare e
      come none = sym (ahead.stays x.key x.target x.code (x.base p) most b none) ∙ here.way running

      small_e : quiet b ≡ None → IsSmall e
      small_e none = let small = subst IsSmall (come none) (here.small running) in record { regs = small.regs; frame = small.frame }

      mine : AreStores x.code.globals (w.world.pending p) e.pending
      mine = subst (λ (sts : List PendingStore). AreStores x.code.globals (w.world.pending p) sts) (sym (pending_kept a)) (near.spells.waiting p)

      abbrev chosen : Given → Option (Did MidProcessor Shared)
      chosen g = chosen_if m (slice_get x.code.lines b.place) g p b w.world

      abbrev LeadsBy : Option (Did MidProcessor Shared) → Type 0
      LeadsBy o = Near x most inside (after_did p o w) (one_step x most (events_of p (gives_of l o)) s)

      -- ---- a silent line
      module _ (y : MidProcessor) (is : quiet b ≡ Some y) where
        silent : SilentLine b y
        silent = silent_line b y (slice_get x.code.lines b.place) refl is

        abbrev on : MidProcessor
        on = ahead.settled x.code y

        near_on : IsNear x most p a on
        near_on =
            let kept = step_small x.key x.target x.code (x.base p) silent.line.inst b y silent.steps (fits p b.place silent.line silent.at) (here.small running) in
            let leads = ahead.leads_on x.key x.target x.code (x.base p) most b y is ends in
            record {
              status = step_status x.key x.target x.code (x.base p) silent.line.inst b y silent.steps ∙ here.status;
              small = λ r. record { regs = kept.regs; frame = kept.frame };
              way = λ r. ahead.settles x.key x.target x.code (x.base p) labels most y (ap quiet leads ∙ ends) ∙ (leads ∙ here.way r);
              settled = λ r. ahead.settle_twice x.code.lines y.place;
            }

        chosen_at : (g : Given) → chosen g ≡ chosen_by m g true p silent.line.inst b w.world
        chosen_at g = ap (λ (o : Option (Line R)). chosen_if m o g p b w.world) silent.at ∙ ap (λ (t : Tag). chosen_by m g (is_quiet t) p silent.line.inst b w.world) silent.is

        acts_silent : chosen An_act ≡ Some (record { processor = on; world = w.world; output = None; gives = Nothing; excused = false })
        acts_silent = chosen_at An_act ∙ private_chosen x inside fit placed p An_act true silent.line.inst b y w.world silent.steps

        looks_silent : chosen A_look ≡ None
        looks_silent = chosen_at A_look ∙ private_chosen x inside fit placed p A_look true silent.line.inst b y w.world silent.steps

        misses_silent : chosen A_miss ≡ None
        misses_silent = chosen_at A_miss ∙ private_chosen x inside fit placed p A_miss true silent.line.inst b y w.world silent.steps

        near_silent : Near x most inside (after_did p (Some (record { processor = on; world = w.world; output = None; gives = Nothing; excused = false })) w) s
        near_silent = record {
          outputs = append-nil w.outputs ∙ near.outputs;
          spells = near.spells;
          processors = put_one (IsNear x most) s.processors w.processors p on near_on near.processors;
        }

      -- ---- the line of the event
      module _ (none : quiet b ≡ None) where
        chosen_here : (g : Given) → chosen g ≡ chosen_by m g false p line.line.inst (bare e) w.world
        chosen_here g =
            ap (λ (c : MidProcessor). chosen_if m (slice_get x.code.lines c.place) g p c w.world) (come none)
            ∙ (ap (λ (o : Option (Line R)). chosen_if m o g p (bare e) w.world) line.at ∙ ap (λ (t : Tag). chosen_by m g (is_quiet t) p line.line.inst (bare e) w.world) line.is)

        -- states after both have changed the processor
        near_both :
            (d : MidDeed) (t : Did MidProcessor Shared) → t.output ≡ d.output → Shows x.code.globals inside placed t.world d.numbers → AreStores x.code.globals (t.world.pending p) d.processor.pending → ((q : ℕ) → nat_eq q p ≡ false → t.world.pending q ≡ w.world.pending q)
            → IsNear x most p d.processor t.processor → Near x most inside (after_did p (Some t) w) (machine.after p (Some d) s)
        near_both d t output shown own others one = record {
          outputs = ap (λ (o : Option ℕ). w.outputs ++ isa.outputs_of p o) output ∙ (ap (λ (out : List (ℕ × ℕ)). w.outputs ++ out) (outputs_same p d.output) ∙ ap (λ (outs : List (ℕ × ℕ)). outs ++ machine.outputs_of p d.output) near.outputs);
          spells = record {
            mapped = shown.mapped;
            small = shown.small;
            spelled = shown.spelled;
            waiting = pending;
          };
          processors = put_both (IsNear x most) s.processors w.processors p d.processor t.processor one (λ q h. near.processors q);
        }
          where
            pending : (q : ℕ) → AreStores x.code.globals (t.world.pending q) (put_at s.processors p d.processor q).pending
            pending q = by (nat_eq q p) refl
              where
                by : (c : Bool) → nat_eq q p ≡ c → AreStores x.code.globals (t.world.pending q) (if c then d.processor else s.processors q).pending
                by true h = subst (λ (k : ℕ). AreStores x.code.globals (t.world.pending k) d.processor.pending) (sym (eq_of q p h)) own
                by false h = subst (λ (es : List Entry). AreStores x.code.globals es (s.processors q).pending) (sym (others q h)) (near.spells.waiting q)

        -- the next event of p can be
        can_next : (event : SourceEvent) (d : MidProcessor) (numbers : ℕ → ℕ → ℕ) (next : MidState) → one_step x most (event ∷ []) s ≡ next → next.numbers ≡ numbers → next.processors p ≡ d → d.status ≡ Running → IsDeed x most (act (runs d) numbers)
        can_next event d numbers next is ns ps r =
            subst (λ (f : ℕ → ℕ → ℕ). IsDeed x most (act (runs d) f)) ns
            (subst (λ (c : MidProcessor). IsDeed x most (act (runs c) next.numbers)) ps (subst (CanAct x most) is (can (event ∷ [])) p (ap (λ (c : MidProcessor). c.status) ps ∙ r)))

        -- ---- an Act
        acted_here : one_step x most (Act p ∷ []) s ≡ machine.after p (Some line.deed) s
        acted_here =
            ap (λ (st : SourceStatus). machine.happens x.key x.target x.code x.base most (Act p) st s) running
            ∙ ap (λ (o : Option MidDeed). machine.after p o s) line.acts

        near_act : Near x most inside (after_did p (chosen An_act) w) (one_step x most (events_of p (gives_of l (chosen An_act))) s)
        near_act =
            let done = line_acts x inside fit placed p e (small_e none) w.world s.numbers shows mine line.line.inst (private_step x.key x.target x.code (x.base p) line.line.inst e) refl line.deed line.does (fits p e.place line.line line.at) in
            let t = done.0 in
            let is = done.2 in
            let d = line.deed in
            let one = near_after d.processor d.numbers t.processor is.status is.small is.stands (can_next (Act p) d.processor d.numbers (machine.after p (Some d) s) acted_here refl (place_same s.processors p d.processor)) in
            let both = near_both d t is.output is.shows is.mine is.others one in
            subst (λ (o : Option (Did MidProcessor Shared)). Near x most inside (after_did p o w) (one_step x most (events_of p (gives_of l o)) s)) (sym (chosen_here An_act ∙ done.1))
            (subst (λ (g : Given). Near x most inside (after_did p (Some t) w) (one_step x most (events_of p g) s)) (sym is.gives)
            (subst (λ (n : MidState). Near x most inside (after_did p (Some t) w) n) (sym acted_here) both))

        -- ---- a Look
        record IsLook (i : MidInst R) : Type 0 where
          number : ℕ
          fine_one : chosen_by m A_look false p i (bare e) w.world ≡ Some (record { processor = marked (Some number) [] e; world = w.world; output = None; gives = A_look; excused = false })
          one : seen_by x.key x.target x.code (x.base p) i e s.numbers ≡ Some number

        spelled_at : (g i q n : ℕ) → IsElement x.code.globals g i q n → number_at w.world.mem q n ≡ s.numbers g i
        spelled_at g i q n el = ap (λ (c : ℕ). number_at w.world.mem c n) el.address ∙ (ap (number_at w.world.mem (address_of el.global i)) el.bytes ∙ shows.spelled g i el.global el.there el.within)

        some_bytes : (k : ℕ) (g : MidGlobal) → slice_get x.code.globals k ≡ Some g → 1 ≤ g.bytes
        some_bytes k g there = (placed.sizes k g there).0

        look_atomic :
            (o : Op) (width : Width) (order : Order) (weak : Bool) (address : R) (args results : List R) (d : MidDeed) → shared_step x.key x.target x.code (x.base p) (mid.Atomic o width order weak address args results) e s.numbers ≡ Some d
            → (t : Bool) → (weak && is_exchange o) ≡ t → (chosen_by m A_look false p (mid.Atomic o width order weak address args results) (bare e) w.world ≡ None) ⊎ IsLook (mid.Atomic o width order weak address args results)
        unfolding chosen_by seen_by shared_step
        look_atomic o width order weak address args results d does false h =
            inl (ap (λ (t : Bool). did_atomic m false A_look results (bare e) (if t then Some (looks x.target o width order (e.regs (x.key address)) w.world) else None)) h)
        look_atomic op.Cmpxchg width order weak address args results d does true h = inr (by (spot x.key x.target x.code (x.base p) e address (bytes_of width)) refl does)
          where
            q : ℕ
            q = e.regs (x.key address)

            by : (sp : Spot) → spot x.key x.target x.code (x.base p) e address (bytes_of width) ≡ sp → atomic_at x.key x.target x.code (x.base p) sp op.Cmpxchg width order args results e s.numbers ≡ Some d → IsLook (mid.Atomic op.Cmpxchg width order weak address args results)
            by (Own offset) at is = absurd (none-some d is)
            by Nowhere at is = absurd (none-some d is)
            by (Element g i) at is = record {
              number = number_at w.world.mem (e.regs (x.key address)) (bytes_of width);
              fine_one = ap (λ (t : Bool). did_atomic m false A_look results (bare e) (if t then Some (looks x.target op.Cmpxchg width order (e.regs (x.key address)) w.world) else None)) h
                  ∙ ap (λ (regs : ℕ → ℕ). Some (record { processor = record (bare e) { regs = regs; seen = Some (number_at w.world.mem (e.regs (x.key address)) (bytes_of width)) }; world = w.world; output = None; gives = A_look; excused = false })) (put_none x.key results e.regs);
              one = ap (λ (t : Bool). if_true x.key x.target x.code (x.base p) t (number_at_spot x.key x.target x.code (x.base p) (spot x.key x.target x.code (x.base p) e address (bytes_of width)) s.numbers)) h
                  ∙ (ap (λ (sp : Spot). number_at_spot x.key x.target x.code (x.base p) sp s.numbers) at
                  ∙ ap Some (sym (spelled_at g i (e.regs (x.key address)) (bytes_of width) (element_is x.code.globals (x.base p) (e.regs (x.key address)) (bytes_of width) g i some_bytes at).1)));
            }
        look_atomic op.Load width order weak address args results d does true h = absurd (false≢true (and_parts weak false h).1)
        look_atomic op.Store width order weak address args results d does true h = absurd (false≢true (and_parts weak false h).1)
        look_atomic (op.Rmw o) width order weak address args results d does true h = absurd (false≢true (and_parts weak false h).1)
        look_atomic op.Fence width order weak address args results d does true h = absurd (false≢true (and_parts weak false h).1)

        look_of : (i : MidInst R) (d : MidDeed) → stepped x.key x.target x.code (x.base p) (private_step x.key x.target x.code (x.base p) i e) (shared_step x.key x.target x.code (x.base p) i e s.numbers) s.numbers ≡ Some d
            → (chosen_by m A_look false p i (bare e) w.world ≡ None) ⊎ IsLook i
        unfolding chosen_by private_step
        look_of (mid.Atomic o width order weak address args results) d does = look_atomic o width order weak address args results d does (weak && is_exchange o) refl
        look_of (mid.Load to address n) d does = inl (by (is_own (x.base p) (e.regs (x.key address)) n))
          where
            by : (t : Bool) → (if t then plain_by m A_look false p (mid.Load to address n) (bare e) w.world else did_atomic m false A_look (to ∷ []) (bare e) None) ≡ None
            by true = refl
            by false = refl
        look_of (mid.Store address from n) d does = inl (by (is_own (x.base p) (e.regs (x.key address)) n))
          where
            by : (t : Bool) → (if t then plain_by m A_look false p (mid.Store address from n) (bare e) w.world else did_atomic m false A_look [] (bare e) None) ≡ None
            by true = refl
            by false = refl
        look_of i d does = inl refl

        looked_here : (n : ℕ) → seen_by x.key x.target x.code (x.base p) line.line.inst e s.numbers ≡ Some n → one_step x most (Look p ∷ []) s ≡ machine.looked p (Some n) s
        looked_here n is =
            ap (λ (st : SourceStatus). machine.happens x.key x.target x.code x.base most (Look p) st s) running
            ∙ (ap (λ (o : Option (Line R)). machine.looked p (seen_if x.key x.target x.code (x.base p) o e s.numbers) s) line.at ∙ ap (λ (o : Option ℕ). machine.looked p o s) is)

        near_looked : (n : ℕ) → IsNear x most p (record a { seen = Some n }) (marked (Some n) [] e)
        near_looked n =
            let small = small_e none in
            record {
              status = sym (ap (λ (z : MidProcessor). z.status) (come none)) ∙ here.status;
              small = λ r. record { regs = small.regs; frame = small.frame };
              way = λ r. ahead.runs_marked x.key x.target x.code (x.base p) (Some n) [] most e
                  ∙ (ap (marked (Some n) []) (ahead.stays x.key x.target x.code (x.base p) most e line.quiet_none) ∙ sym (ap bare (ahead.runs_marked x.key x.target x.code (x.base p) (Some n) a.pending most a)));
              settled = λ r. subst (λ (z : MidProcessor). settle x.code.lines z.place ≡ z.place) (come none) (here.settled running);
            }

        near_look : Near x most inside (after_did p (chosen A_look) w) (one_step x most (events_of p (gives_of l (chosen A_look))) s)
        near_look = by (look_of line.line.inst line.deed line.does)
          where
            by : (chosen_by m A_look false p line.line.inst (bare e) w.world ≡ None) ⊎ IsLook line.line.inst → LeadsBy (chosen A_look)
            by (inl none_there) = subst LeadsBy (sym (chosen_here A_look ∙ none_there)) near
            by (inr k) =
                let t : Did MidProcessor Shared = record { processor = marked (Some k.number) [] e; world = w.world; output = None; gives = A_look; excused = false } in
                subst LeadsBy (sym (chosen_here A_look ∙ k.fine_one))
                (subst (λ (n : MidState). Near x most inside (after_did p (Some t) w) n) (sym (looked_here k.number k.one)) (record {
                  outputs = append-nil w.outputs ∙ near.outputs;
                  spells = record { mapped = near.spells.mapped; small = near.spells.small; spelled = near.spells.spelled; waiting = λ q. looked_pending k.number q };
                  processors = put_both (IsNear x most) s.processors w.processors p (record a { seen = Some k.number }) (marked (Some k.number) [] e) (near_looked k.number) (λ q h. near.processors q);
                }))
              where
                looked_pending : (n q : ℕ) → AreStores x.code.globals (w.world.pending q) (put_at s.processors p (record a { seen = Some n }) q).pending
                looked_pending n q = go (nat_eq q p) refl
                  where
                    go : (c : Bool) → nat_eq q p ≡ c → AreStores x.code.globals (w.world.pending q) (if c then record a { seen = Some n } else s.processors q).pending
                    go true h = subst (λ (z : ℕ). AreStores x.code.globals (w.world.pending z) a.pending) (sym (eq_of q p h)) (near.spells.waiting p)
                    go false h = near.spells.waiting q

        -- ---- a Miss
        record IsMiss (i : MidInst R) : Type 0 where
          left : MidProcessor
          fine_one : chosen_by m A_miss false p i (bare e) w.world ≡ Some (record { processor = ahead.settled x.code (bare left); world = w.world; output = None; gives = A_miss; excused = false })
          one : missed_by x.key x.target x.code (x.base p) i e ≡ Some left
          pending : left.pending ≡ e.pending
          small : IsSmall left
          status : left.status ≡ e.status

        -- a miss answers with the expected number
        abbrev miss_results : Width → List R → List ℕ
        miss_results width args = results_of op.Cmpxchg width (argument width (read_all x.key args e.regs) 0) false

        abbrev missed_one : Width → List R → List R → MidProcessor
        missed_one width args results = record e { place = e.place + 1; regs = put_all x.key results (miss_results width args) e.regs; seen = None }

        miss_go :
            (o : Op) (width : Width) (order : Order) (weak : Bool) (address : R) (args results : List R) (c : Bool)
            → chosen_by m A_miss false p (mid.Atomic o width order weak address args results) (bare e) w.world ≡ did_atomic m false A_miss results (bare e) (if c then Some (results_with (miss_results width args) w.world) else None)
            → missed_by x.key x.target x.code (x.base p) (mid.Atomic o width order weak address args results) e ≡ if_true x.key x.target x.code (x.base p) c (Some (missed_one width args results))
            → (chosen_by m A_miss false p (mid.Atomic o width order weak address args results) (bare e) w.world ≡ None) ⊎ IsMiss (mid.Atomic o width order weak address args results)
        miss_go o width order weak address args results false f g = inl f
        miss_go o width order weak address args results true f g =
            let small = small_e none in
            let less = argument_small width (read_all x.key args e.regs) 0 (read_below x.key args e.regs (2 ^ 64) small.regs) in
            inr (record {
              left = missed_one width args results;
              fine_one = f;
              one = g;
              pending = refl;
              small = record { regs = put_all_below x.key results (miss_results width args) e.regs (2 ^ 64) small.regs (results_small op.Cmpxchg width (argument width (read_all x.key args e.regs) 0) false less); frame = small.frame };
              status = refl;
            })

        miss_atomic :
            (o : Op) (width : Width) (order : Order) (weak : Bool) (address : R) (args results : List R) → (t : Bool) → (weak && is_exchange o) ≡ t → (saw : Option ℕ) → e.seen ≡ saw
            → (chosen_by m A_miss false p (mid.Atomic o width order weak address args results) (bare e) w.world ≡ None) ⊎ IsMiss (mid.Atomic o width order weak address args results)
        unfolding chosen_by missed_by
        miss_atomic o width order weak address args results false h saw is = inl (ap (λ (t : Bool). did_atomic m false A_miss results (bare e) (if t then misses x.target o width order (read_all x.key args e.regs) e.seen w.world else None)) h)
        miss_atomic o width order weak address args results true h None is =
            inl (ap (λ (t : Bool). did_atomic m false A_miss results (bare e) (if t then misses x.target o width order (read_all x.key args e.regs) e.seen w.world else None)) h
            ∙ ap (λ (c : Option ℕ). did_atomic m false A_miss results (bare e) (misses x.target o width order (read_all x.key args e.regs) c w.world)) is)
        miss_atomic o width order weak address args results true h (Some n) is =
            miss_go o width order weak address args results (nat_eq (argument width (read_all x.key args e.regs) 0) n)
            (ap (λ (t : Bool). did_atomic m false A_miss results (bare e) (if t then misses x.target o width order (read_all x.key args e.regs) e.seen w.world else None)) h
            ∙ ap (λ (c : Option ℕ). did_atomic m false A_miss results (bare e) (misses x.target o width order (read_all x.key args e.regs) c w.world)) is)
            (ap (λ (t : Bool). if_true x.key x.target x.code (x.base p) t (miss_with x.key x.target x.code (x.base p) width results (read_all x.key args e.regs) e.seen e)) h
            ∙ ap (λ (c : Option ℕ). miss_with x.key x.target x.code (x.base p) width results (read_all x.key args e.regs) c e) is)

        miss_of : (i : MidInst R) → (chosen_by m A_miss false p i (bare e) w.world ≡ None) ⊎ IsMiss i
        unfolding chosen_by
        miss_of (mid.Atomic o width order weak address args results) = miss_atomic o width order weak address args results (weak && is_exchange o) refl e.seen refl
        miss_of (mid.Load to address n) = inl (by (is_own (x.base p) (e.regs (x.key address)) n))
          where
            by : (t : Bool) → (if t then plain_by m A_miss false p (mid.Load to address n) (bare e) w.world else did_atomic m false A_miss (to ∷ []) (bare e) None) ≡ None
            by true = refl
            by false = refl
        miss_of (mid.Store address from n) = inl (by (is_own (x.base p) (e.regs (x.key address)) n))
          where
            by : (t : Bool) → (if t then plain_by m A_miss false p (mid.Store address from n) (bare e) w.world else did_atomic m false A_miss [] (bare e) None) ≡ None
            by true = refl
            by false = refl
        miss_of i = inl refl

        missed_here : (left : MidProcessor) → missed_by x.key x.target x.code (x.base p) line.line.inst e ≡ Some left → one_step x most (Miss p ∷ []) s ≡ machine.with_processor p (Some left) s
        missed_here left is =
            ap (λ (st : SourceStatus). machine.happens x.key x.target x.code x.base most (Miss p) st s) running
            ∙ (ap (λ (o : Option (Line R)). machine.with_processor p (missed_if x.key x.target x.code (x.base p) o e) s) line.at ∙ ap (λ (o : Option MidProcessor). machine.with_processor p o s) is)

        near_miss : Near x most inside (after_did p (chosen A_miss) w) (one_step x most (events_of p (gives_of l (chosen A_miss))) s)
        near_miss = by (miss_of line.line.inst)
          where
            by : (chosen_by m A_miss false p line.line.inst (bare e) w.world ≡ None) ⊎ IsMiss line.line.inst → LeadsBy (chosen A_miss)
            by (inl none_there) = subst LeadsBy (sym (chosen_here A_miss ∙ none_there)) near
            by (inr k) =
                let t : Did MidProcessor Shared = record { processor = ahead.settled x.code (bare k.left); world = w.world; output = None; gives = A_miss; excused = false } in
                let one = near_after k.left s.numbers t.processor refl k.small (λ r. refl) (can_next (Miss p) k.left s.numbers (machine.with_processor p (Some k.left) s) (missed_here k.left k.one) refl (place_same s.processors p k.left)) in
                subst LeadsBy (sym (chosen_here A_miss ∙ k.fine_one))
                (subst (λ (n : MidState). Near x most inside (after_did p (Some t) w) n) (sym (missed_here k.left k.one)) (record {
                  outputs = append-nil w.outputs ∙ near.outputs;
                  spells = record { mapped = near.spells.mapped; small = near.spells.small; spelled = near.spells.spelled; waiting = λ q. missed_pending k q };
                  processors = put_both (IsNear x most) s.processors w.processors p k.left t.processor one (λ q h. near.processors q);
                }))
              where
                missed_pending : (k : IsMiss line.line.inst) (q : ℕ) → AreStores x.code.globals (w.world.pending q) (put_at s.processors p k.left q).pending
                missed_pending k q = go (nat_eq q p) refl
                  where
                    go : (c : Bool) → nat_eq q p ≡ c → AreStores x.code.globals (w.world.pending q) (if c then k.left else s.processors q).pending
                    go true h = subst (λ (z : ℕ). AreStores x.code.globals (w.world.pending z) k.left.pending) (sym (eq_of q p h)) (subst (λ (sts : List PendingStore). AreStores x.code.globals (w.world.pending p) sts) (sym k.pending) mine)
                    go false h = near.spells.waiting q

      -- ---- a running processor's event
      abbrev Leads : Given → Type 0
      Leads g = Near x most inside (after_did p (chosen g) w) (one_step x most (events_of p (gives_of l (chosen g))) s)

      act_by_line : (o : Option MidProcessor) → quiet b ≡ o → Leads An_act
      act_by_line None none = near_act none
      act_by_line (Some y) is = subst LeadsBy (sym (acts_silent y is)) (near_silent y is)

      look_by_line : (o : Option MidProcessor) → quiet b ≡ o → Leads A_look
      look_by_line None none = near_look none
      look_by_line (Some y) is = subst LeadsBy (sym (looks_silent y is)) near

      miss_by_line : (o : Option MidProcessor) → quiet b ≡ o → Leads A_miss
      miss_by_line None none = near_miss none
      miss_by_line (Some y) is = subst LeadsBy (sym (misses_silent y is)) near

      -- ---- what its code asks
      object_at : (g i q n : ℕ) → IsElement x.code.globals g i q n → IsObject q n w.world
      object_at g i q n el = record {
        aligned = ap (λ (c : ℕ). c % n) el.address ∙ (ap (λ (k : ℕ). address_of el.global i % k) el.bytes ∙ placed.aligned g i el.global el.there el.within el.native);
        shared = subst (λ (c : ℕ). c + n ≤ 2 ^ 24) (sym el.address) (subst (λ (k : ℕ). address_of el.global i + k ≤ 2 ^ 24) (sym el.bytes) (below x.code.globals inside placed g i el.global el.there el.within));
        inside = ap (λ (f : ℕ → Bool). all_inside f q n) near.spells.mapped
            ∙ (ap (λ (c : ℕ). all_inside inside c n) el.address ∙ (ap (all_inside inside (address_of el.global i)) el.bytes ∙ placed.mapped g i el.global el.there el.within));
        words = subst AreWords (sym near.spells.mapped) placed.words;
        small = near.spells.small;
      }

      no_label : (i : Line R) → slice_get x.code.lines b.place ≡ Some i → is_some (label_at (λ r. 0) i.inst) ≡ true → ⊥
      no_label i at is = ahead.at_no_label x.code.lines b.place i at (here.settled running) is

      -- a line that touches registers and the frame alone
      private_asks : (c : MidProcessor) (i : MidInst R) (y : MidProcessor) → private_step x.key x.target x.code (x.base p) i c ≡ Some y → (is_some (label_at (λ r. 0) i) ≡ true → ⊥) → asks_by m p i c w.world
      unfolding private_step
      private_asks c (mid.Atomic o width order weak address args results) y is none = absurd (none-some y is)
      private_asks c (mid.Label n) y is none = absurd (none refl)
      private_asks c (mid.Load to address n) y is none =
          subst (λ (t : Bool). asks_if m t ((m.load n).fits (c.regs (x.key address)) [] w.world)) (sym (own_first x inside fit placed p (is_own (x.base p) (c.regs (x.key address)) n) (c.regs (x.key address)) n refl c (spot x.key x.target x.code (x.base p) c address n) refl (x.key to) y is)) tt
      private_asks c (mid.Store address from n) y is none =
          subst (λ (t : Bool). asks_if m t ((m.store n).fits (c.regs (x.key address)) (c.regs (x.key from) ∷ []) w.world)) (sym (own_store x inside fit placed p (is_own (x.base p) (c.regs (x.key address)) n) (c.regs (x.key address)) n refl c (spot x.key x.target x.code (x.base p) c address n) refl (c.regs (x.key from)) y is)) tt
      private_asks c _ y is none = tt

      -- the line of an event
      object_asks : (c : MidProcessor) (d : MidDeed) (i : MidInst R) → shared_step x.key x.target x.code (x.base p) i c s.numbers ≡ Some d → asks_by m p i c w.world
      unfolding shared_step
      object_asks c d (mid.Atomic o width order weak address args results) is = by (is_fence o) is
        where
          at_spot : (sp : Spot) → spot x.key x.target x.code (x.base p) c address (bytes_of width) ≡ sp → atomic_at x.key x.target x.code (x.base p) sp o width order args results c s.numbers ≡ Some d → IsObject (c.regs (x.key address)) (bytes_of width) w.world
          at_spot (Own offset) at h = absurd (none-some d h)
          at_spot Nowhere at h = absurd (none-some d h)
          at_spot (Element g i) at h = object_at g i (c.regs (x.key address)) (bytes_of width) (element_is x.code.globals (x.base p) (c.regs (x.key address)) (bytes_of width) g i (λ k y there. (placed.sizes k y there).0) at).1

          by : (t : Bool) → atomic_step x.key x.target x.code (x.base p) t (spot x.key x.target x.code (x.base p) c address (bytes_of width)) o width order args results c s.numbers ≡ Some d → Asks x.target o width order t (c.regs (x.key address)) w.world
          by true h = tt
          by false h = at_spot (spot x.key x.target x.code (x.base p) c address (bytes_of width)) refl h
      object_asks c d (mid.Load to address n) is = by (spot x.key x.target x.code (x.base p) c address n) refl is
        where
          by : (sp : Spot) → spot x.key x.target x.code (x.base p) c address n ≡ sp → machine.load_shared x.key x.target x.code (x.base p) sp to n c s.numbers ≡ Some d → asks_by m p (mid.Load to address n) c w.world
          by (Own offset) at h = absurd (none-some d h)
          by Nowhere at h = absurd (none-some d h)
          by (Element g i) at h =
              let el = element_is x.code.globals (x.base p) (c.regs (x.key address)) n g i (λ k y there. (placed.sizes k y there).0) at in
              subst (λ (t : Bool). asks_if m t (IsObject (c.regs (x.key address)) n w.world)) (sym el.0) (object_at g i (c.regs (x.key address)) n el.1)
      object_asks c d (mid.Store address from n) is = by (spot x.key x.target x.code (x.base p) c address n) refl is
        where
          by : (sp : Spot) → spot x.key x.target x.code (x.base p) c address n ≡ sp → machine.store_shared x.key x.target x.code (x.base p) sp (c.regs (x.key from)) n c s.numbers ≡ Some d → asks_by m p (mid.Store address from n) c w.world
          by (Own offset) at h = absurd (none-some d h)
          by Nowhere at h = absurd (none-some d h)
          by (Element g i) at h =
              let el = element_is x.code.globals (x.base p) (c.regs (x.key address)) n g i (λ k y there. (placed.sizes k y there).0) at in
              subst (λ (t : Bool). asks_if m t (IsObject (c.regs (x.key address)) n w.world)) (sym el.0) (object_at g i (c.regs (x.key address)) n el.1)
      object_asks c d (mid.Label n) is = absurd (none-some d is)
      object_asks c d _ is = tt

      event_asks : (c : MidProcessor) (i : MidInst R) (o : Option MidProcessor) → private_step x.key x.target x.code (x.base p) i c ≡ o → (d : MidDeed) → stepped x.key x.target x.code (x.base p) o (shared_step x.key x.target x.code (x.base p) i c s.numbers) s.numbers ≡ Some d → (is_some (label_at (λ r. 0) i) ≡ true → ⊥) → asks_by m p i c w.world
      event_asks c i (Some y) is d does none = private_asks c i y is none
      event_asks c i None is d does none = object_asks c d i does

      -- it asks of the registers alone
      asks_bare : (c : MidProcessor) (i : MidInst R) → asks_by m p i c w.world → asks_by m p i (bare c) w.world
      asks_bare c (mid.Atomic o width order weak address args results) h = h
      asks_bare c (mid.Load to address n) h = h
      asks_bare c (mid.Store address from n) h = h
      asks_bare c (mid.Label n) h = h
      asks_bare c _ h = tt

      asks_line : (o : Option MidProcessor) → quiet b ≡ o → asks m p (slice_get x.code.lines b.place) b w.world
      asks_line (Some y) is =
          let at = silent y is in
          subst (λ (o : Option (Line R)). asks m p o b w.world) (sym at.at) (private_asks b at.line.inst y at.steps (no_label at.line at.at))
      asks_line None none =
          let at : slice_get x.code.lines b.place ≡ Some line.line = ap (λ (c : MidProcessor). slice_get x.code.lines c.place) (come none) ∙ line.at in
          let asked = event_asks e line.line.inst (private_step x.key x.target x.code (x.base p) line.line.inst e) refl line.deed line.does (no_label line.line at) in
          subst (λ (o : Option (Line R)). asks m p o b w.world) (sym at) (subst (λ (c : MidProcessor). asks_by m p line.line.inst c w.world) (sym (come none)) (asks_bare e line.line.inst asked))

      -- ---- the registers of what comes next
      nothing_chosen : (i : MidInst R) (quiets : Bool) (c : MidProcessor) → chosen_by m Nothing quiets p i c w.world ≡ None
      unfolding chosen_by
      nothing_chosen (mid.Atomic o width order weak address args results) quiets c = refl
      nothing_chosen (mid.Load to address n) quiets c = by (is_own (x.base p) (c.regs (x.key address)) n)
        where
          by : (t : Bool) → (if t then plain_by m Nothing quiets p (mid.Load to address n) c w.world else did_atomic m quiets Nothing (to ∷ []) c None) ≡ None
          by true = refl
          by false = refl
      nothing_chosen (mid.Store address from n) quiets c = by (is_own (x.base p) (c.regs (x.key address)) n)
        where
          by : (t : Bool) → (if t then plain_by m Nothing quiets p (mid.Store address from n) c w.world else did_atomic m quiets Nothing [] c None) ≡ None
          by true = refl
          by false = refl
      nothing_chosen _ quiets c = refl

      nothing_if : (o : Option (Line R)) → chosen_if m o Nothing p b w.world ≡ None
      nothing_if None = refl
      nothing_if (Some i) = nothing_chosen i.inst (is_quiet i.tag) b

      abbrev Fits : Did MidProcessor Shared → Type 0
      Fits t = (r : ℕ) → t.processor.regs r < 2 ^ 64

      given_by : (o : Option (Did MidProcessor Shared)) (t u : Did MidProcessor Shared) → o ≡ Some u → Fits u → o ≡ Some t → Fits t
      given_by o t u is h e = subst Fits (same_Some u t (sym is ∙ e)) h

      given_none : (o : Option (Did MidProcessor Shared)) (t : Did MidProcessor Shared) → o ≡ None → o ≡ Some t → Fits t
      given_none o t is e = absurd (none-some t (sym is ∙ e))

      next_line : (o : Option MidProcessor) → quiet b ≡ o → (g : Given) (t : Did MidProcessor Shared) → chosen g ≡ Some t → Fits t
      next_line o is Nothing t there = given_none (chosen Nothing) t (nothing_if (slice_get x.code.lines b.place)) there
      next_line (Some y) is An_act t there = given_by (chosen An_act) t _ (acts_silent y is) ((near_on y is).small running).regs there
      next_line (Some y) is A_look t there = given_none (chosen A_look) t (looks_silent y is) there
      next_line (Some y) is A_miss t there = given_none (chosen A_miss) t (misses_silent y is) there
      next_line None none An_act t there =
          let done = line_acts x inside fit placed p e (small_e none) w.world s.numbers shows mine line.line.inst (private_step x.key x.target x.code (x.base p) line.line.inst e) refl line.deed line.does (fits p e.place line.line line.at) in
          given_by (chosen An_act) t done.0 (chosen_here none An_act ∙ done.1) (λ r. subst (λ (f : ℕ → ℕ). f r < 2 ^ 64) (sym done.2.regs) (done.2.small.regs r)) there
      next_line None none A_look t there = by (look_of none line.line.inst line.deed line.does)
        where
          by : (chosen_by m A_look false p line.line.inst (bare (runs (s.processors p))) w.world ≡ None) ⊎ IsLook none line.line.inst → Fits t
          by (inl none_there) = given_none (chosen A_look) t (chosen_here none A_look ∙ none_there) there
          by (inr k) = given_by (chosen A_look) t _ (chosen_here none A_look ∙ k.fine_one) (small_e none).regs there
      next_line None none A_miss t there = by (miss_of none line.line.inst)
        where
          by : (chosen_by m A_miss false p line.line.inst (bare (runs (s.processors p))) w.world ≡ None) ⊎ IsMiss none line.line.inst → Fits t
          by (inl none_there) = given_none (chosen A_miss) t (chosen_here none A_miss ∙ none_there) there
          by (inr k) = given_by (chosen A_miss) t _ (chosen_here none A_miss ∙ k.fine_one) k.small.regs there

      fit_here : ((c : ℕ) → x.lives p ≡ true → x.low p ≤ c → c < x.top p + 8 → inside c ≡ true) → Fit m p b w.world
      fit_here room = record {
        small = (here.small running).regs;
        bytes = (here.small running).frame;
        next = λ g t r is. next_line (quiet b) refl g t is r;
        asks = asks_line (quiet b) refl;
        room = λ c lives low high. ap (λ (f : ℕ → Bool). f c) near.spells.mapped ∙ room c lives low high;
      }

  -- ---- events
  module _ (w : Whole MidProcessor Shared) (s : MidState) (near : Near x most inside w s) (can : (events : List SourceEvent) → CanAct x most (one_step x most events s)) where
    abbrev StepBy : SourceStatus → Given → ℕ → Type 0
    StepBy st g p = Near x most inside (meant_if l st g p w) (one_step x most (source_if l st g p w) s)

    runs_too : (p : ℕ) (st : SourceStatus) → (w.processors p).status ≡ st → st ≡ Running → (s.processors p).status ≡ Running
    runs_too p st is e = sym (near.processors p).status ∙ (is ∙ e)

    act_event : (p : ℕ) (st : SourceStatus) → (w.processors p).status ≡ st → StepBy st An_act p
    act_event p Running is = act_by_line p w s near can (runs_too p Running is refl) (quiet p (w.processors p)) refl
    act_event p Ended is = near
    act_event p Trapped is = near

    look_event : (p : ℕ) (st : SourceStatus) → (w.processors p).status ≡ st → StepBy st A_look p
    look_event p Running is = look_by_line p w s near can (runs_too p Running is refl) (quiet p (w.processors p)) refl
    look_event p Ended is = near
    look_event p Trapped is = near

    miss_event : (p : ℕ) (st : SourceStatus) → (w.processors p).status ≡ st → StepBy st A_miss p
    miss_event p Running is = miss_by_line p w s near can (runs_too p Running is refl) (quiet p (w.processors p)) refl
    miss_event p Ended is = near
    miss_event p Trapped is = near

    -- the oldest store of p reaches its element
    drain_event : (p : ℕ) (es : List Entry) (sts : List PendingStore) → w.world.pending p ≡ es → (s.processors p).pending ≡ sts → AreStores x.code.globals es sts
        → Near x most inside (record { processors = w.processors; world = Rattle.ax_expand.specs.Shared.drain_of p es w.world; outputs = w.outputs }) (machine.drained p sts s)
    drain_event p [] [] ei si are = near
    drain_event p [] (st ∷ sts) ei si are = absurd are
    drain_event p (e ∷ es) [] ei si are = absurd are
    drain_event p (e ∷ es) (st ∷ sts) ei si are =
        let old = near.processors p in
        let c = s.processors p in
        let shown = wrote_shows x.code.globals inside placed (with_pending p es w.world) s.numbers (record { mapped = near.spells.mapped; small = near.spells.small; spelled = near.spells.spelled }) e st are.0 in
        record {
          outputs = near.outputs;
          spells = record { mapped = shown.mapped; small = shown.small; spelled = shown.spelled; waiting = λ q. waits q (nat_eq q p) refl };
          processors = λ q. by q (nat_eq q p) refl;
        }
      where
        way_same : (saw : Option ℕ) (stores : List PendingStore) (a : MidProcessor) → bare (runs p (marked a.seen stores a)) ≡ bare (runs p a)
        way_same saw stores a =
            ap bare (ahead.runs_marked x.key x.target x.code (x.base p) a.seen stores most a) ∙ ap (λ (o : Option ℕ). marked o [] (runs p a)) (sym (seen_kept p a))

        drained_near : IsNear x most p (record (s.processors p) { pending = sts }) (w.processors p)
        drained_near = record {
          status = (near.processors p).status;
          small = (near.processors p).small;
          way = λ r. (near.processors p).way r ∙ sym (way_same None sts (s.processors p));
          settled = (near.processors p).settled;
        }

        waits : (q : ℕ) (t : Bool) → nat_eq q p ≡ t → AreStores x.code.globals (if t then es else w.world.pending q) (if t then record (s.processors p) { pending = sts } else s.processors q).pending
        waits q true h = are.1
        waits q false h = near.spells.waiting q

        by : (q : ℕ) (t : Bool) → nat_eq q p ≡ t → IsNear x most q (if t then record (s.processors p) { pending = sts } else s.processors q) (w.processors q)
        by q true h = subst (λ (k : ℕ). IsNear x most k (record (s.processors p) { pending = sts }) (w.processors k)) (sym (eq_of q p h)) drained_near
        by q false h = near.processors q

    event_near : (event : SourceEvent) → Near x most inside (meant l event w) (one_step x most (source_of l event w) s)
    event_near (Act p) = act_event p (w.processors p).status refl
    event_near (Look p) = look_event p (w.processors p).status refl
    event_near (Miss p) = miss_event p (w.processors p).status refl
    event_near (Drain p) = drain_event p (w.world.pending p) (s.processors p).pending refl refl (near.spells.waiting p)

  can_after : (events : List SourceEvent) (w : Whole MidProcessor Shared) (s : MidState) → ((more : List SourceEvent) → CanAct x most (one_step x most more s)) → (more : List SourceEvent) → CanAct x most (one_step x most more (one_step x most (source_events l events w) s))
  can_after events w s can more = subst (CanAct x most) (run_append (source_events l events w) more s) (can (source_events l events w ++ more))

  pub runs_near : (events : List SourceEvent) (w : Whole MidProcessor Shared) (s : MidState) → Near x most inside w s → ((more : List SourceEvent) → CanAct x most (one_step x most more s)) → Near x most inside (meant_run l events w) (one_step x most (source_events l events w) s)
  runs_near [] w s near can = near
  runs_near (event ∷ events) w s near can =
      let these = source_of l event w in
      let next = one_step x most these s in
      subst (λ (n : MidState). Near x most inside (meant_run l events (meant l event w)) n) (sym (run_append these (source_events l events (meant l event w)) s))
      (runs_near events (meant l event w) next (event_near w s near can event) (λ more. subst (CanAct x most) (run_append these more s) (can (these ++ more))))

  -- ---- a processor that runs has run from the beginning
  ran_one : (p q : ℕ) (d : MidProcessor) (s : MidState) → (s.processors q).status ≡ Running → (t : Bool) → nat_eq p q ≡ t → (if t then d else s.processors p).status ≡ Running → (s.processors p).status ≡ Running
  ran_one p q d s running true e h = subst (λ (k : ℕ). (s.processors k).status ≡ Running) (sym (eq_of p q e)) running
  ran_one p q d s running false e h = h

  ran_after : (p q : ℕ) (o : Option MidDeed) (s : MidState) → (s.processors q).status ≡ Running → ((machine.after q o s).processors p).status ≡ Running → (s.processors p).status ≡ Running
  ran_after p q None s running h = h
  ran_after p q (Some d) s running h = ran_one p q d.processor s running (nat_eq p q) refl h

  ran_look : (p q : ℕ) (o : Option ℕ) (s : MidState) → (s.processors q).status ≡ Running → ((machine.looked q o s).processors p).status ≡ Running → (s.processors p).status ≡ Running
  ran_look p q None s running h = h
  ran_look p q (Some n) s running h = ran_one p q (record (s.processors q) { seen = Some n }) s running (nat_eq p q) refl h

  ran_miss : (p q : ℕ) (o : Option MidProcessor) (s : MidState) → (s.processors q).status ≡ Running → ((machine.with_processor q o s).processors p).status ≡ Running → (s.processors p).status ≡ Running
  ran_miss p q None s running h = h
  ran_miss p q (Some d) s running h = ran_one p q d s running (nat_eq p q) refl h

  ran_drain : (p q : ℕ) (sts : List PendingStore) (s : MidState) → ((machine.drained q sts s).processors p).status ≡ Running → (s.processors p).status ≡ Running
  ran_drain p q [] s h = h
  ran_drain p q (st ∷ sts) s h = by (nat_eq p q) refl h
    where
      by : (t : Bool) → nat_eq p q ≡ t → (if t then record (s.processors q) { pending = sts } else s.processors p).status ≡ Running → (s.processors p).status ≡ Running
      by true e r = subst (λ (k : ℕ). (s.processors k).status ≡ Running) (sym (eq_of p q e)) r
      by false e r = r

  ran_event : (p : ℕ) (event : SourceEvent) (s : MidState) → (st : SourceStatus) → (s.processors (machine.processor_of x.key x.target x.code x.base most event)).status ≡ st → ((machine.happens x.key x.target x.code x.base most event st s).processors p).status ≡ Running → (s.processors p).status ≡ Running
  ran_event p (Act q) s Running is h = ran_after p q (act_step x.key x.target x.code (x.base q) (machine.ready x.key x.target x.code x.base most q s) s.numbers) s is h
  ran_event p (Act q) s Ended is h = h
  ran_event p (Act q) s Trapped is h = h
  ran_event p (Look q) s Running is h = ran_look p q (seen_if x.key x.target x.code (x.base q) (line_at x.key x.target x.code (x.base q) (machine.ready x.key x.target x.code x.base most q s)) (machine.ready x.key x.target x.code x.base most q s) s.numbers) s is h
  ran_event p (Look q) s Ended is h = h
  ran_event p (Look q) s Trapped is h = h
  ran_event p (Miss q) s Running is h = ran_miss p q (missed_if x.key x.target x.code (x.base q) (line_at x.key x.target x.code (x.base q) (machine.ready x.key x.target x.code x.base most q s)) (machine.ready x.key x.target x.code x.base most q s)) s is h
  ran_event p (Miss q) s Ended is h = h
  ran_event p (Miss q) s Trapped is h = h
  ran_event p (Drain q) s st is h = ran_drain p q (s.processors q).pending s h

  ran_before : (p : ℕ) (events : List SourceEvent) (s : MidState) → ((one_step x most events s).processors p).status ≡ Running → (s.processors p).status ≡ Running
  ran_before p [] s h = h
  ran_before p (e ∷ events) s h = ran_event p e s (s.processors (machine.processor_of x.key x.target x.code x.base most e)).status refl (ran_before p events (mid_event x.key x.target x.code x.base most e s) h)

  pub runs_fit : (w : Whole MidProcessor Shared) (s : MidState) → HasRoom x inside s → Near x most inside w s → ((more : List SourceEvent) → CanAct x most (one_step x most more s)) → (events : List SourceEvent) (p : ℕ) → ((meant_run l events w).processors p).status ≡ Running → Fit m p ((meant_run l events w).processors p) (meant_run l events w).world
  runs_fit w s room near can events p runs_here =
      let v = meant_run l events w in
      let n = one_step x most (source_events l events w) s in
      let there = runs_near events w s near can in
      let running : (n.processors p).status ≡ Running = sym (there.processors p).status ∙ runs_here in
      fit_here p v n there (can_after events w s can) running (λ c lives low high. room p c (ran_before p (source_events l events w) s running) lives low high)

-- THE LAWS
pub fine_fits : {R : Type 0} → ResultsFit → FineRunsFit R
fine_fits fit x most inside places w s meant room near = runs_fit x most inside places fit meant.labels meant.small meant.placed w s room near meant.can

pub fine_in_step : {R : Type 0} → ResultsFit → FineRunsInStep R
fine_in_step fit x most inside places w s meant near events = runs_near x most inside places fit meant.labels meant.small meant.placed events w s near meant.can
