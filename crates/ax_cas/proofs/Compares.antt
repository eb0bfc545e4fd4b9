-- A compare loop with straight code round it meets the contract of an expansion: one event, and each exchange that fails is a caused failure.
use Rattle.std.proofs.Common.{◌≡◌, ℕ, zero, suc, ◌+◌, ◌-◌, ◌*◌, ◌/◌, ◌%◌, ◌^◌, ◌<◌, ◌≤◌, Bool, true, false, List, [], ◌∷◌, ◌++◌, length, Option, Some, None, mod-eq_of_lt, length-append, refl, sym, ap, ◌∙◌, subst, inl, inr, ⊎_elim, arith}
use Rattle.std.specs.Prelude.{◌≢◌, ◌⊎◌, ◌&&◌, ◌||◌, if◌then◌else◌, nat_eq}
use Rattle.std.proofs.lemmas.Bool.{eq-eqb, eqb-true, false≢true}
use Rattle.std.proofs.lemmas.Nat.{pow_pos}
use Rattle.ax_map.specs.Map.{covers}
use Rattle.ax_store.specs.declared.entry.Entry.{Entry}
use Rattle.ax_store.specs.Bytes.{byte_of, number_at, put}
use Rattle.ax_store.specs.Storage.{Storage, entry_of, load, newest, seen}
use Rattle.ax_store.proofs.Calls.{load_none}
use Rattle.ax_tags.specs.declared.tags.Role.TheVariants.{None as Outside}
use Rattle.ax_tags.specs.declared.tags.Tag.{Tag}
use Rattle.ax_tags.specs.declared.tags.Tag.TheVariants.{Silent, Stored}
use Rattle.ax_isa.specs.declared.effects.Change.{Change}
use Rattle.ax_isa.specs.declared.effects.Change.TheVariants.{Exchange, Update}
use Rattle.ax_isa.specs.declared.effects.Effect.{Effect}
use Rattle.ax_isa.specs.declared.effects.Effect.TheVariants.{Load, Locked}
use Rattle.ax_isa.specs.declared.effects.Rest.{Rest}
use Rattle.ax_isa.specs.Past.{Note, Noted, drain, found_other}
use Rattle.ax_isa.specs.Processor.{Processor}
use Rattle.ax_isa.specs.Run.{Setting, flushes_at, idle_after, step}
use Rattle.ax_isa.specs.Steps.{Effected, Kind, changed, exchanged, extended, flushes, go_to, go_with, is_changed, is_place, may_access, possible, replace, with_half}
use Rattle.ax_isa.specs.Tells.{Nothing, An_act, A_miss, Given, Library, Done, finding_in, gives_nothing, holder_after, is_excused, is_freeing, told, told_of, unless_over}
use Rattle.ax_isa.proofs.Functions.{at_same}
use Rattle.ax_follow.specs.Contract.{ByOthers, Did, Happening, InStep, Meaning, Own, OwnStep, Possible, Reading, Stage, Steppable, Steps, Through, Drained, Other, outcome_of, stage_after, stage_start}
use Rattle.ax_follow.proofs.Follow.{Holds, fetch, idle_grows, in_step, leaves}
use Rattle.ax_expand.specs.Continues.{GoesOn, IsContext}
use Rattle.ax_expand.specs.Expands.{Expands, reading_of}
use Rattle.ax_expand.specs.Operation.{Alone, Inner, Keeps, Operation, did_of, hushed}
use Rattle.ax_expand.specs.Private.{Spells, went}
use Rattle.ax_expand.specs.Standing.{HasAt, Here, setting_by, silently}
use Rattle.ax_expand.specs.World.{Lawful, Words, World}
use Rattle.ax_expand.proofs.Sights.{put_fair}
use Rattle.ax_expand.proofs.Single.{not_over}
use Rattle.ax_expand.proofs.Straight.{goes_place, has_first, has_rest, silent, silent_jump, silent_length, straight}
use Rattle.ax_expand.proofs.Telling.{failed_told, silent_told, wrote_told}
use Rattle.ax_expand.proofs.Views.{covered_at, spells_write}
use Rattle.ax_loops.specs.Moving.{Turns, nowhere}
use Rattle.ax_loops.specs.Replacing.{Replacement, Wrote}
use Rattle.ax_loops.proofs.Retry.{access_by}
use Rattle.ax_loops.proofs.Alone.{Piece, Waiting, around, begins_before, fits_before, is_around, meaning_of, number_before, waiting_drain, waiting_others, waiting_still}
use Rattle.ax_loops.proofs.Still.{Moved, Still, moved_still, moving, silent_frees, still_step, stored_frees, turned}
use Rattle.ax_loops.proofs.Tracked.{Tracks, kept_is, tracked_other, tracks_drain, tracks_others, tracks_read}
use Rattle.ax_loops.proofs.Walking.{Stretch, Walk, first_owner, walk_step, walked}
use Rattle.ax_cas.specs.Compares.{Compares, Exchanges, IsBack, IsDone, IsProbe, Leaves, Loads, Loop, Probes, Swaps, loop_code, loop_most, loop_size, probed}
use Rattle.ax_cas.specs.Rounds.{Reaches}
use Rattle.ax_cas.proofs.Ends.{ends, stays_behind, with_frame}

-- ---- zero over zero
-- the bytes of zero are zeros
zeros_at : (f : ℕ → ℕ) (a n : ℕ) → number_at f a n ≡ 0 → (i : ℕ) → i < n → f (a + i) ≡ 0
zeros_at f a zero e i lt = absurd (omega (arith, lt))
zeros_at f a (suc n) e zero lt = (let q : f a ≡ 0 = omega (arith, e) in ap f (let g : a + 0 ≡ a = omega arith in g) ∙ q)
zeros_at f a (suc n) e (suc i) lt = ap f (let g : a + suc i ≡ a + 1 + i = omega arith in g) ∙ zeros_at f (a + 1) n (omega (arith, e)) i (omega (arith, lt))

zero_cut : (k : ℕ) → 0 % 2 ^ k ≡ 0
zero_cut k = mod-eq_of_lt (pow_pos k)

zero_byte : (i : ℕ) → byte_of 0 i ≡ 0
zero_byte i = omega arith

-- so it leaves memory as it is
pub zero_over_zero : (inside : ℕ → Bool) (f : ℕ → ℕ) (a n : ℕ) → number_at f a n ≡ 0 → put inside a n ((entry_of a n 0).value) f ≡ f
zero_over_zero inside f a n e = λ d b. (at b) d
  where
    by : (b : ℕ) (t u : Bool) → covers a n b ≡ t → (if t && u then byte_of (0 % 2 ^ (8 * n)) (b - a) else f b) ≡ f b
    by b true true c =
        let z = covered_at a n b c in
        let low = z.0 in
        let high = z.1 in
        let here : f (a + (b - a)) ≡ 0 = zeros_at f a n e (b - a) (omega (arith, low, high)) in
        ap (λ v. byte_of v (b - a)) (zero_cut (8 * n)) ∙ zero_byte (b - a) ∙ sym here ∙ ap f (let g : a + (b - a) ≡ b = omega (arith, low) in g)
    by b true false c = refl
    by b false u c = refl

    at : (b : ℕ) → put inside a n (0 % 2 ^ (8 * n)) f b ≡ f b
    at b = by b (covers a n b) (inside b) refl

-- what a change leaves that leaves what it finds
record Unchanged (p a bytes : ℕ) (n : Noted) (v : Option ℕ) : Type 0 where
  pub inside : (replace p a bytes v n).storage.inside ≡ n.storage.inside
  pub mem : (replace p a bytes v n).storage.mem ≡ n.storage.mem
  pub waiting : (replace p a bytes v n).storage.waiting ≡ n.storage.waiting
  pub holder : (replace p a bytes v n).past.holder ≡ n.past.holder

unchanged : (p a bytes : ℕ) (n : Noted) (v : Option ℕ) → (v ≡ None) ⊎ ((number_at n.storage.mem a bytes ≡ 0) × (v ≡ Some 0)) → Unchanged p a bytes n v
unchanged p a bytes n v (inl e) = subst (Unchanged p a bytes n) (sym e) (record { inside = refl; mem = refl; waiting = refl; holder = refl })
unchanged p a bytes n v (inr e) = subst (Unchanged p a bytes n) (sym e.1) (record { inside = refl; mem = zero_over_zero n.storage.inside n.storage.mem a bytes e.0; waiting = refl; holder = refl })

-- what is tracked stays so where nothing has changed that p sees
tracks_same : (p a bytes number : ℕ) (note : Note) (old new : Storage) → new.inside ≡ old.inside → new.waiting ≡ old.waiting → new.mem ≡ old.mem → Tracks p a bytes number note old → Tracks p a bytes number note new
tracks_same p a bytes number note old new inside waiting mem h =
    record { read = h.read; is = h.is; tracks = λ i lt. ⊎_elim (λ e. inl (same (a + i) ∙ e)) (λ e. inr e) (h.tracks i lt) }
  where
    same : (b : ℕ) → seen p new b ≡ seen p old b
    same b = ap (λ f. newest (f b) (new.waiting p) b (new.mem b)) inside ∙ ap (λ f. newest (old.inside b) (f p) b (new.mem b)) waiting ∙ ap (λ f. newest (old.inside b) (old.waiting p) b (f b)) mem

-- an exchange goes on to the next place
exchanged_on : (bytes to high : ℕ) (rest : Rest) (change : Change) (old : ℕ) (c : Processor) → (let q = exchanged bytes to high rest change old c in (q.place ≡ c.place + 1) × (q.status ≡ c.status) × (q.role ≡ c.role))
exchanged_on bytes to high rest (Update op number) old c = (refl, refl, refl)
exchanged_on bytes to high rest (Exchange expected number true) old c = (refl, refl, refl)
exchanged_on bytes to high rest (Exchange expected number false) old c = (refl, refl, refl)

loop_length : {I : Type 0} (z : Loop I) → length (loop_code z) ≡ loop_size z
loop_length z =
    let tail = (z.exchange, Stored) ∷ (z.branch, Silent) ∷ silently z.after in
    let a = length-append (silently z.before) ((z.probe, Silent) ∷ (silently z.computation ++ tail)) in
    let b = length-append (silently z.computation) tail in
    let c = silent_length z.before in
    let d = silent_length z.computation in
    let e = silent_length z.after in
    omega (arith, a, b, c, d, e)

module _ {I W : Type 0} (k : Kind I) (world : World W) (laws : Lawful world) (keeps : ℕ → Bool) (o : Operation W) (r : Replacement W) (z : Loop I) (At : (ℕ → ℕ) → ℕ → Processor → Type 0) (h : Compares k keeps o r z At world) where
  module _ (code : List I) (tags : ℕ → Tag) (lib : Library) (u : Reading) (quiet : Bool) (own start : ℕ) (frames : ℕ → ℕ → ℕ) (words : Words lib) (few : loop_most z ≤ u.most) (has : HasAt (setting_by k code tags lib) (reading_of u) quiet own start (loop_code z)) (p : ℕ) where
    abbrev x : Setting I
    x = setting_by k code tags lib

    abbrev v : Reading
    v = reading_of u

    abbrev piece : Piece I W
    piece = record { setting = x; world = world; operation = o; keeps = keeps; quiet = quiet; frames = frames; start = start; end = start + loop_size z; number = own; reading = u; processor = p }

    abbrev l : Meaning Inner W
    l = meaning_of piece

    sound : (t : Inner) → IsContext (around piece t)
    sound t = is_around piece laws words t

    abbrev many : ℕ
    many = length z.computation

    -- where the probe stands, and where the computation begins
    abbrev middle : ℕ
    middle = start + length z.before

    abbrev first : ℕ
    first = middle + 1

    abbrev tail : List (I × Tag)
    tail = (z.exchange, Stored) ∷ (z.branch, Silent) ∷ silently z.after

    has_probe : HasAt x v quiet own middle ((z.probe, Silent) ∷ (silently z.computation ++ tail))
    has_probe =
        subst (λ m. HasAt x v quiet own (start + m) ((z.probe, Silent) ∷ (silently z.computation ++ tail))) (silent_length z.before) (has_rest x v quiet own start (silently z.before) ((z.probe, Silent) ∷ (silently z.computation ++ tail)) has)

    has_tail : HasAt x v quiet own (first + many) tail
    has_tail = subst (λ m. HasAt x v quiet own (first + m) tail) (silent_length z.computation) (has_rest x v quiet own first (silently z.computation) tail has_probe.1)

    -- what was found last
    record Found (t : Inner) (number : ℕ) (n : Noted) : Type 0 where
      pub small : number < 2 ^ (8 * r.bytes)
      pub tracks : Tracks p (r.address t.regs) r.bytes number (n.past.kept p) n.storage

    -- what is left of the computation
    abbrev computing : Inner → ℕ → Stretch I
    computing t number = record { setting = x; reading = v; quiet = quiet; number = own; processor = p; frame = frames p; first = (z.exchange, Stored); rest = (z.branch, Silent) ∷ silently z.after; stop = first + many; known = λ b. Exchanges k keeps o r z At t.regs number b }

    abbrev Ahead : Inner → ℕ → List I → Processor → Type 0
    Ahead t number is c = Walk (computing t number) is c

    ahead_from : (t : Inner) (number : ℕ) (c : Processor) → number < 2 ^ (8 * r.bytes) → At t.regs number c → c.place ≡ first → Ahead t number z.computation c
    ahead_from t number c small there at =
        let q = h.computes c t.regs number small there in
        record { private = with_frame piece laws words q.last; has = subst (λ m. HasAt x v quiet own m (silently z.computation ++ tail)) (sym at) has_probe.1; place = omega (arith, at); goes = q.goes (frames p); known = q.known }

    -- at the branch, where an exchange found another number
    record Failing (t : Inner) (found : ℕ) (c : Processor) : Type 0 where
      pub place : c.place ≡ first + many + 1
      pub back : IsBack k keeps o r z At t.regs found c

    -- in step from here on, whatever happens
    abbrev InStepOn : Stage → Inner → Processor → Noted → Type 0
    InStepOn j t c n = (hs : List Happening) → InStep l v x p hs j t c n

    data Inv : Stage → Inner → Processor → Noted → Type 0 where
      Probing : {j : Stage} {t : Inner} {c : Processor} {n : Noted} → Waiting piece j t c n → Probes k keeps o r z At t.regs c → c.place ≡ middle → j.idle ≤ length z.before → Inv j t c n
      Computing : {j : Stage} {t : Inner} {c : Processor} {n : Noted} (number : ℕ) (is : List I) → Waiting piece j t c n → Found t number n → Ahead t number is c → j.idle + length is ≤ length z.before + 1 + many → Inv j t c n
      Failed : {j : Stage} {t : Inner} {c : Processor} {n : Noted} (found : ℕ) → Waiting piece j t c n → Found t found n → Failing t found c → j.idle ≤ 0 → Inv j t c n
      Made : {j : Stage} {t : Inner} {c : Processor} {n : Noted} → InStepOn j t c n → Inv j t c n

    through : (j : Stage) (t : Inner) (c : Processor) (n : Noted) → Inv j t c n → Through l v x p j t c n
    through j t c n (Probing y q at idle) acted there = absurd (false≢true (sym y.acted ∙ acted))
    through j t c n (Computing number is y q a idle) acted there = absurd (false≢true (sym y.acted ∙ acted))
    through j t c n (Failed found y q a idle) acted there = absurd (false≢true (sym y.acted ∙ acted))
    through j t c n (Made on) acted there = on [] acted there

    found_others : (t : Inner) (number : ℕ) (n new : Noted) → ByOthers p n new → Found t number n → Found t number new
    found_others t number n new b q = record { small = q.small; tracks = tracks_others p (r.address t.regs) r.bytes number n new b q.tracks }

    others : (j : Stage) (t : Inner) (c : Processor) (n new : Noted) → ByOthers p n new → Inv j t c n → Inv j t c new
    others j t c n new b (Probing y q at idle) = Probing (waiting_others piece j t c n new b y) q at idle
    others j t c n new b (Computing number is y q a idle) = Computing number is (waiting_others piece j t c n new b y) (found_others t number n new b q) a idle
    others j t c n new b (Failed found y q a idle) = Failed found (waiting_others piece j t c n new b y) (found_others t found n new b q) a idle
    others j t c n new b (Made on) = Made (λ hs. (on (Other new ∷ hs)).1 b)

    found_drain : (t : Inner) (number : ℕ) (n : Noted) → Found t number n → Found t number (drain p n)
    found_drain t number n q = record { small = q.small; tracks = tracks_drain p (r.address t.regs) r.bytes number n q.tracks }

    drains : (j : Stage) (t : Inner) (c : Processor) (n : Noted) → k.buffered ≡ true → Inv j t c n → Inv j t c (drain p n)
    drains j t c n on (Probing y q at idle) = Probing (waiting_drain piece j t c n y) q at idle
    drains j t c n on (Computing number is y q a idle) = Computing number is (waiting_drain piece j t c n y) (found_drain t number n q) a idle
    drains j t c n on (Failed found y q a idle) = Failed found (waiting_drain piece j t c n y) (found_drain t found n q) a idle
    drains j t c n on (Made goes) = Made (λ hs. (goes (Drained ∷ hs)).1 on)

    abbrev Mine : Stage → Inner → Processor → Noted → W → Type 0
    Mine j t c n w = Steps l v x Inv p j t c n w (step x p c n)

    -- a step after which it is in step, whatever happens
    made_by : (j : Stage) (t : Inner) (c : Processor) (n : Noted) (d : Done) (g : Given) (s : Option (Did Inner W)) → ((hs : List Happening) → Possible s (λ q. OwnStep l v (λ i a b m. InStep l v x p hs i a b m) p j t c n d g q)) → Possible s (λ q. OwnStep l v Inv p j t c n d g q)
    made_by j t c n d g None f = f []
    made_by j t c n d g (Some q) f =
        let a = f [] in
        record { once = a.once; owned = a.owned; stays = a.stays; shows = a.shows; touches = a.touches; tells = a.tells; missed = a.missed; excused = a.excused; few = a.few; output = a.output; status = a.status; goes = λ run. Made (λ hs. (f hs).goes run) }

    made_step : (j : Stage) (t : Inner) (c : Processor) (n : Noted) (w : W) → InStepOn j t c n → Steppable l v x p j t c n w → Mine j t c n w
    made_step j t c n w on may = made_by j t c n _ _ _ (λ hs. (on (Own ∷ hs)).1 w may)

    -- registers alone have changed
    waiting_moved : (e : Effect) (j : Stage) (t : Inner) (c after : Processor) (n : Noted) (d : Done) → Moved lib (tags c.place) p e c after n d → d.gives ≡ Nothing → Waiting piece j t c n → Waiting piece (stage_after Nothing (is_excused d) j) t d.processor d.noted
    waiting_moved e j t c after n d moved gives y =
        waiting_still piece j (stage_after Nothing (is_excused d) j) t c n d refl (ap (λ m. m.role) moved.processor ∙ moved.role) (moved_still lib (tags c.place) p e c after n d moved gives) y

    found_moved : (e : Effect) (t : Inner) (number : ℕ) (c after : Processor) (n : Noted) (d : Done) → Moved lib (tags c.place) p e c after n d → d.gives ≡ Nothing → c.role ≡ Outside → Found t number n → Found t number d.noted
    found_moved e t number c after n d moved gives role q =
        let kept : d.noted.past.kept p ≡ n.past.kept p = ap (λ f. f p) (moved.kept role) ∙ at_same n.past.kept p (unless_over (gives_nothing d.gives) (n.past.kept p)) ∙ ap (λ g. unless_over (gives_nothing g) (n.past.kept p)) gives in
        record { small = q.small; tracks = subst (λ m. Tracks p (r.address t.regs) r.bytes number m d.noted.storage) (sym kept) (subst (λ st. Tracks p (r.address t.regs) r.bytes number (n.past.kept p) st) (sym moved.storage) q.tracks) }

    -- one instruction of the computation
    compute_step : (j : Stage) (t : Inner) (c : Processor) (n : Noted) (w : W) (number : ℕ) (i : I) (is : List I) → Waiting piece j t c n → Found t number n → Ahead t number (i ∷ is) c → j.idle + length (i ∷ is) ≤ length z.before + 1 + many → Steppable l v x p j t c n w → Mine j t c n w
    compute_step j t c n w number i is y q ahead idle may =
        let e = k.effect_of i c in
        let d = leaves x l v p e c n in
        let one = walk_step (computing t number) i is c n ahead in
        moving (around piece t) (sound t) Inv i one.after j c n w one.here y.role may one.moves (inl one.owner) (omega (arith, idle, few))
        (λ gives moved.
        let grows = idle_grows (is_excused d) j.idle in
        Computing number is (waiting_moved e j t c one.after n d moved gives y) (found_moved e t number c one.after n d moved gives y.role q) (one.walk d.processor moved.processor) (omega (arith, grows, idle)))

    -- back to the computation
    back_step : (j : Stage) (t : Inner) (c : Processor) (n : Noted) (w : W) (found : ℕ) → Waiting piece j t c n → Found t found n → Failing t found c → j.idle ≤ 0 → Steppable l v x p j t c n w → Mine j t c n w
    back_step j t c n w found y q a idle may =
        let here : Here x v quiet own c.place (z.branch, Silent) = subst (λ m. Here x v quiet own m (z.branch, Silent)) (sym a.place) has_tail.1.0 in
        let e = k.effect_of z.branch c in
        let d = leaves x l v p e c n in
        let small = has_probe.0.small in
        let to = go_to first c in
        let at : c.place ≡ first + (many + 1) = (let place = a.place in omega (arith, place)) in
        let moves = turned lib k.buffered (tags c.place) p c n e first (a.back.back first at here.small) small in
        let again = ahead_from t found to q.small (a.back.again first) refl in
        moving (around piece t) (sound t) Inv z.branch to j c n w here y.role may moves (inl (first_owner (computing t found) z.computation first again.has)) (omega (arith, idle, few))
        (λ gives moved.
        let grows = idle_grows (is_excused d) j.idle in
        Computing found z.computation (waiting_moved e j t c to n d moved gives y) (found_moved e t found c to n d moved gives y.role q) (subst (λ m. Ahead t found z.computation m) (sym moved.processor) again) (omega (arith, grows, idle)))

    -- ---- the probe
    module _ (j : Stage) (t : Inner) (c : Processor) (n : Noted) (w : W) (y : Waiting piece j t c n) (at : c.place ≡ middle) (idle : j.idle ≤ length z.before) (may : Steppable l v x p j t c n w) where
      abbrev a : ℕ
      a = r.address t.regs

      here : Here x v quiet own c.place (z.probe, Silent)
      here = subst (λ m. Here x v quiet own m (z.probe, Silent)) (sym at) has_probe.0

      fit : o.fits t.regs w
      fit = fits_before piece t w y.over may.fits

      can : (is_place (c.place + 1) && may_access a r.bytes n.storage) ≡ true
      can = access_by a r.bytes (c.place + 1) n (h.replaces.aligned t.regs w fit) (h.replaces.inside n t.regs w may.sees fit) here.small

      abbrev number : ℕ
      number = load p a r.bytes n.storage

      small : number < 2 ^ (8 * r.bytes)
      small = h.replaces.seen_small p n t.regs w may.sees fit

      abbrev Next : Processor → Type 0
      Next b = At t.regs number b

      -- it has read the number, and all that is shared is as it was
      read_by : (e : Effect) → k.effect_of z.probe c ≡ e → possible p e c n.storage ≡ true → (let d = leaves x l v p e c n in Still lib (tags c.place) p c n d → d.processor.role ≡ c.role → d.processor.place ≡ c.place + 1 → Next d.processor
          → Tracks p a r.bytes number (d.noted.past.kept p) d.noted.storage → Mine j t c n w)
      read_by e is ok still role place next tracks =
          let d = leaves x l v p e c n in
          let grows = idle_grows (is_excused d) j.idle in
          let walk = ahead_from t number d.processor small next (place ∙ ap (λ m. m + 1) at) in
          fetch x l v Inv p z.probe Silent e j t c n w here.code here.mark is ok
          (still_step (around piece t) (sound t) Inv j c n w d may (ap is_freeing here.tag ∙ silent_frees quiet) here.owner still (inl (first_owner (computing t number) z.computation d.processor.place walk.has)) (omega (arith, grows, idle, few))
          (Computing number z.computation (waiting_still piece j (stage_after Nothing (is_excused d) j) t c n d refl role still y) (record { small = small; tracks = tracks }) walk (omega (arith, grows, idle))))

      gives_none : (e : Effect) → (leaves x l v p e c n).gives ≡ Nothing
      gives_none e = (let d = leaves x l v p e c n in silent_told quiet (tags c.place) c d.bytes d.outcome here.tag y.role)

      -- a plain load
      loads : (to : ℕ) (rest : Rest) (ends_half : Bool) → (let e = Load to a r.bytes rest ends_half in k.effect_of z.probe c ≡ e → Next (probed e number c) → Mine j t c n w)
      loads to rest ends_half is next =
          let e : Effect = Load to a r.bytes rest ends_half in
          let d = leaves x l v p e c n in
          let gives = gives_none e in
          let still : Still lib (tags c.place) p c n d = record { inside = refl; mem = refl; waiting = refl; holder = refl; output = refl; status = refl; gives = gives } in
          read_by e is can still refl refl next
          (subst (λ m. Tracks p a r.bytes number m n.storage) (sym (kept_is n.past.kept p d.gives c.role e (seen p n.storage) (n.past.kept p) (n.past.next p) gives y.role)) (tracks_read p a r.bytes (n.past.kept p) n.storage))

      -- a swap that leaves what it finds
      swaps : (to high : ℕ) (rest : Rest) (change : Change) → Leaves r.bytes change → (let e = Locked to high a r.bytes rest change in k.effect_of z.probe c ≡ e → Next (probed e number c) → Mine j t c n w)
      swaps to high rest change leaves_it is next =
          let e : Effect = Locked to high a r.bytes rest change in
          let d = leaves x l v p e c n in
          let gives = gives_none e in
          let empty : n.storage.waiting p ≡ [] = may.empty (ap (λ i. flushes_at x i p c n) here.code ∙ ap (λ q. flushes p q c n.storage) is ∙ can) in
          let old = number_at n.storage.mem a r.bytes in
          let same : number ≡ old = load_none p a r.bytes n.storage empty in
          let new = changed r.bytes change old in
          let kept = unchanged p a r.bytes n new (leaves_it old) in
          let on = exchanged_on r.bytes to high rest change old c in
          let left : Noted = replace p a r.bytes new n in
          let still : Still lib (tags c.place) p c n d = record {
            inside = kept.inside;
            mem = kept.mem;
            waiting = kept.waiting;
            holder = ap (holder_after lib p (is_freeing (tags c.place)) n.storage.mem left.storage.mem) kept.holder;
            output = refl;
            status = on.1;
            gives = gives;
          } in
          read_by e is can still on.2 on.0 (subst (λ m. At t.regs number (exchanged r.bytes to high rest change m c)) same next)
          (tracks_same p a r.bytes number (d.noted.past.kept p) n.storage left.storage kept.inside kept.waiting kept.mem
          (subst (λ m. Tracks p a r.bytes number m n.storage) (sym (kept_is left.past.kept p d.gives c.role e (seen p n.storage) (left.past.kept p) (left.past.next p) gives y.role)) (tracks_read p a r.bytes (left.past.kept p) n.storage)))

      probe_by : {b size : ℕ} {e : Effect} → IsProbe b size e → b ≡ a → size ≡ r.bytes → k.effect_of z.probe c ≡ e → Next (probed e number c) → Mine j t c n w
      probe_by (Loads {a = b} {bytes = size} {to = to} {rest = rest} {ends_half = ends_half}) e f is next =
          loads to rest ends_half (is ∙ ap (λ m. Load to m size rest ends_half) e ∙ ap (λ m. Load to a m rest ends_half) f)
          (subst (λ m. Next (probed (Load to a m rest ends_half) number c)) f (subst (λ m. Next (probed (Load to m size rest ends_half) number c)) e next))
      probe_by (Swaps {a = b} {bytes = size} {to = to} {high = high} {rest = rest} {change = change} leaves_it) e f is next =
          swaps to high rest change (subst (λ m. Leaves m change) f leaves_it) (is ∙ ap (λ m. Locked to high m size rest change) e ∙ ap (λ m. Locked to high a m rest change) f)
          (subst (λ m. Next (probed (Locked to high a m rest change) number c)) f (subst (λ m. Next (probed (Locked to high m size rest change) number c)) e next))

      probe_step : Probes k keeps o r z At t.regs c → Mine j t c n w
      probe_step q = probe_by (q.probes w fit) refl refl (q.is w fit) (q.found number small)

    -- ---- the exchange
    module _ (j : Stage) (t : Inner) (c : Processor) (n : Noted) (w : W) (number : ℕ) (y : Waiting piece j t c n) (q : Found t number n) (ahead : Ahead t number [] c) (may : Steppable l v x p j t c n w) where
      abbrev place_of : ℕ
      place_of = r.address t.regs

      here_now : Here x v quiet own c.place (z.exchange, Stored)
      here_now = ahead.has.0

      fits_now : o.fits t.regs w
      fits_now = fits_before piece t w y.over may.fits

      ready : Exchanges k keeps o r z At t.regs number c
      ready = walked (computing t number) c ahead

      abbrev change_now : Change
      change_now = Exchange ready.expected ready.new ready.compares

      abbrev effect_now : Effect
      effect_now = Locked ready.to ready.high place_of r.bytes ready.rest change_now

      effect_is : k.effect_of z.exchange c ≡ effect_now
      effect_is = ready.is w fits_now

      possible_now : possible p effect_now c n.storage ≡ true
      possible_now = access_by place_of r.bytes (c.place + 1) n (h.replaces.aligned t.regs w fits_now) (h.replaces.inside n t.regs w may.sees fits_now) here_now.small

      -- no own store waits
      empty_now : n.storage.waiting p ≡ []
      empty_now = may.empty (ap (λ i. flushes_at x i p c n) here_now.code ∙ ap (λ e. flushes p e c n.storage) effect_is ∙ possible_now)

      abbrev old : ℕ
      old = number_at n.storage.mem place_of r.bytes

      found_is : old ≡ r.finds t.regs w
      found_is = h.replaces.found n t.regs w may.sees fits_now

      found_small : old < 2 ^ (8 * r.bytes)
      found_small = subst (λ m. m < 2 ^ (8 * r.bytes)) (sym found_is) (h.replaces.small t.regs w fits_now)

      abbrev new_if : Bool → Option ℕ
      new_if b = if b then Some ready.new else None

      abbrev after_by : ℕ → Processor
      after_by m = exchanged r.bytes ready.to ready.high ready.rest change_now m c

      abbrev left_if : Bool → Effected
      left_if b = record { processor = after_by old; noted = replace p place_of r.bytes (new_if b) n; outcome = record { stored = Some (is_changed (new_if b)); loaded = Some old; output = None } }

      abbrev done_if : Bool → Done
      done_if b = told lib (tags c.place) p effect_now c n (left_if b)

      abbrev Leads : Bool → Given → Type 0
      Leads b g = Possible (outcome_of l g p t w) (λ s. OwnStep l v Inv p j t c n (done_if b) g s)

      went_on : (m : ℕ) → (let b = after_by m in (b.place ≡ c.place + 1) × (b.status ≡ c.status) × (b.role ≡ c.role))
      went_on m = exchanged_on r.bytes ready.to ready.high ready.rest change_now m c

      at_exchange : c.place ≡ first + many
      at_exchange = (let e = ahead.place in omega (arith, e))

      at_branch : (m : ℕ) → (after_by m).place ≡ first + many + 1
      at_branch m = (let e = (went_on m).0 in let at = at_exchange in omega (arith, e, at))

      owner_next : v.owner (after_by old).place ≡ own
      owner_next = ap v.owner (at_branch old) ∙ has_tail.1.0.owner

      frees : is_freeing (tags c.place) ≡ false
      frees = ap is_freeing here_now.tag ∙ stored_frees quiet

      -- over the branch, and on to the end
      abbrev above : ℕ → Inner
      above m = record { regs = r.gives t.regs m; seen = None; over = true }

      goes_on : GoesOn (around piece (above number)) true 0 (with_frame piece laws words (after_by number))
      goes_on =
          let b = after_by number in
          let context = around piece (above number) in
          let at = at_branch number in
          let place : b.place + 1 ≡ first + many + 2 = omega (arith, at) in
          let has_after = has_tail.1.1 in
          let stands : HasAt x v quiet own (b.place + 1) (silently z.after) = subst (λ m. HasAt x v quiet own m (silently z.after)) (sym (ap (λ m. m + 1) at)) has_after in
          let ending : b.place + 1 + length z.after ≡ start + loop_size z = omega (arith, place) in
          let branch : Here x v quiet own b.place (z.branch, Silent) = subst (λ m. Here x v quiet own m (z.branch, Silent)) (sym at) has_tail.1.0 in
          let role = (went_on number).2 ∙ y.role in
          let next : GoesOn context true (0 + 1) (with_frame piece laws words (go_to (b.place + 1) b)) = ends piece laws words (above number) (go_to (b.place + 1) b) z.after (0 + 1) refl role stands ending (omega (arith, few)) ready.done.puts in
          let stays = stays_behind piece laws words (above number) (b.place + 1) z.after refl stands ending in
          let before : true ≡ true → b.place ≢ start + loop_size z = λ e f. omega (arith, at, f) in
          ⊎_elim (λ jump. silent_jump context (sound (above number)) true 0 z.branch (b.place + 1) (with_frame piece laws words b) branch role jump branch.small (omega (arith, few)) before stays next)
          (λ nop. silent context (sound (above number)) true 0 z.branch (with_frame piece laws words b) (with_frame piece laws words (go_to (b.place + 1) b)) branch role (ap (λ e. went nowhere e (with_frame piece laws words b)) nop.0) (omega (arith, few)) before stays next)
          (ready.done.on branch.small)

      wrote : nat_eq old (ready.expected % 2 ^ (8 * r.bytes)) ≡ true → Leads true An_act
      wrote b =
          let d = done_if true in
          let same : old ≡ number = eqb-true old (ready.expected % 2 ^ (8 * r.bytes)) b ∙ ready.is_expected in
          let number_is : number ≡ r.finds t.regs w = sym same ∙ found_is in
          let entry = entry_of place_of r.bytes ready.new in
          let entry_is : entry ≡ entry_of place_of r.bytes (r.leaves t.regs (r.finds t.regs w)) =
          ap (λ m. (let e : Entry = record { address = place_of; bytes = r.bytes; value = m } in e)) (ready.is_new w fits_now) ∙ ap (λ m. entry_of place_of r.bytes (r.leaves t.regs m)) number_is in
          let below = h.replaces.below t.regs w fits_now in
          let written : Wrote lib p entry n d.noted = record { inside = refl; mem = refl; waiting = refl; holder = λ word. ap (λ f. holder_after lib p f n.storage.mem d.noted.storage.mem n.past.holder word) frees } in
          let did : Did Inner W = record { processor = above (r.finds t.regs w); world = r.after t.regs w; output = None; gives = hushed quiet An_act; excused = false } in
          let chosen_is : l.chosen An_act p t w ≡ Some did = ap (λ (f : Bool). if f then None else did_of quiet An_act (o.happens An_act p t.regs t.seen w)) y.over ∙ ap (did_of quiet An_act) (h.replaces.happens p n t.regs t.seen w may.sees empty_now fits_now) in
          let on : InStepOn (stage_after An_act (is_excused d) j) (above number) (after_by number) d.noted = goes_on (stage_after An_act (is_excused d) j) d.noted refl (omega arith) (spells_write p entry n (frames p) below y.frame) in
          let now : OwnStep l v Inv p j t c n d An_act did = record {
            once = λ g. y.acted;
            owned = λ g. here_now.owner ∙ sym (number_before piece t y.over);
            stays = inl (owner_next ∙ sym here_now.owner);
            shows = h.replaces.shows lib p n d.noted t.regs w may.sees fits_now (subst (λ m. Wrote lib p m n d.noted) entry_is written);
            touches = record { fair = may.fair; others = put_fair p n.storage.inside place_of r.bytes entry.value n.storage.mem below };
            tells = wrote_told quiet (tags c.place) c d.bytes d.outcome refl here_now.tag y.role;
            missed = λ g. absurd (let f : An_act ≡ A_miss = g in cc);
            excused = λ g f. absurd (false≢true f);
            few = omega arith;
            output = refl;
            status = (went_on old).1 ∙ may.running;
            goes = λ run. Made (subst (λ m. InStepOn (stage_after An_act (is_excused d) j) (above m) d.processor d.noted) number_is (subst (λ m. InStepOn (stage_after An_act (is_excused d) j) (above number) (after_by m) d.noted) (sym same) on));
          } in
          subst (λ f. Possible f (λ s. OwnStep l v Inv p j t c n d An_act s)) (sym chosen_is) now

      failed : nat_eq old (ready.expected % 2 ^ (8 * r.bytes)) ≡ false → Leads false Nothing
      failed b =
          let d = done_if false in
          let differs : nat_eq old number ≡ false = ap (nat_eq old) (sym ready.is_expected) ∙ b in
          let apart : old ≢ number = λ e. false≢true (sym differs ∙ eq-eqb old number e) in
          let sees_old : load p place_of r.bytes n.storage ≡ old = load_none p place_of r.bytes n.storage empty_now in
          let overtaken : d.overtaken ≡ true = ap (λ m. found_other p n (finding_in m effect_now (tags c.place) (n.past.called p))) y.role ∙ tracked_other p place_of r.bytes number n q.tracks (ap (λ m. nat_eq m number) sees_old ∙ differs) in
          let excused : is_excused d ≡ true = ap (λ f. f || d.busy) overtaken in
          let count : idle_after Nothing (is_excused d) j.idle ≡ 0 = ap (λ f. idle_after Nothing f j.idle) excused in
          let gives : d.gives ≡ Nothing = failed_told quiet (tags c.place) c d.bytes d.outcome refl here_now.tag y.role in
          let still : Still lib (tags c.place) p c n d = record { inside = refl; mem = refl; waiting = refl; holder = refl; output = refl; status = (went_on old).1; gives = gives } in
          let tracks : Tracks p place_of r.bytes (load p place_of r.bytes n.storage) (d.noted.past.kept p) n.storage =
          subst (λ m. Tracks p place_of r.bytes (load p place_of r.bytes n.storage) m n.storage) (sym (kept_is n.past.kept p d.gives c.role effect_now (seen p n.storage) (n.past.kept p) (n.past.next p) gives y.role)) (tracks_read p place_of r.bytes (n.past.kept p) n.storage) in
          still_step (around piece t) (sound t) Inv j c n w d may frees here_now.owner still (inl owner_next) (omega (arith, count))
          (Failed old (waiting_still piece j (stage_after Nothing (is_excused d) j) t c n d refl (went_on old).2 still y)
          (record { small = found_small; tracks = subst (λ m. Tracks p place_of r.bytes m (d.noted.past.kept p) n.storage) sees_old tracks }) (record { place = at_branch old; back = ready.back old found_small apart }) (omega (arith, count)))

      leads : (b : Bool) → nat_eq old (ready.expected % 2 ^ (8 * r.bytes)) ≡ b → Leads b (told_of Stored (done_if b).bytes c (done_if b).outcome)
      leads true b = wrote b
      leads false b = failed b

      exchange_step : Mine j t c n w
      exchange_step = fetch x l v Inv p z.exchange Stored effect_now j t c n w here_now.code here_now.mark effect_is possible_now (leads (nat_eq old (ready.expected % 2 ^ (8 * r.bytes))) refl)

    own_step : (j : Stage) (t : Inner) (c : Processor) (n : Noted) (w : W) → Inv j t c n → Steppable l v x p j t c n w → Mine j t c n w
    own_step j t c n w (Probing y q at idle) may = probe_step j t c n w y at idle may q
    own_step j t c n w (Computing number [] y q a idle) may = exchange_step j t c n w number y q a may
    own_step j t c n w (Computing number (i ∷ is) y q a idle) may = compute_step j t c n w number i is y q a idle may
    own_step j t c n w (Failed found y q a idle) may = back_step j t c n w found y q a idle may
    own_step j t c n w (Made on) may = made_step j t c n w on may

    holds_inv : Holds x l v p Inv
    holds_inv = record { through = through; own = own_step; drains = drains; others = others }

    entered : (t : Inner) (c : Processor) (n : Noted) → l.number t ≡ own → c.place ≡ l.begins t → Alone keeps frames p c n t → (hs : List Happening) → InStep l v x p hs stage_start t c n
    entered t c n is at m hs =
        let over = not_over own t.over is in
        let b = h.begins c t.regs m.regs in
        let there : c.place ≡ start = at ∙ begins_before piece t over in
        let y = with_frame piece laws words c in
        let last = with_frame piece laws words b.last in
        let goes = b.goes (frames p) in
        let mid = goes_place k nowhere z.before y last goes in
        let place : b.last.place ≡ middle = mid.0 ∙ ap (λ m. m + length z.before) there in
        let stand = subst (λ q. HasAt x v quiet own q (silently z.before)) (sym there) (has_first x v quiet own start (silently z.before) ((z.probe, Silent) ∷ (silently z.computation ++ tail)) has) in
        let next : GoesOn (around piece t) false (0 + length z.before) last = λ j q acted low spells gs. in_step x l v p Inv holds_inv gs j t b.last q (Probing (record { acted = acted; over = over; role = mid.1 ∙ m.role; frame = spells }) b.known place (omega (arith, low))) in
        straight (around piece t) (sound t) false z.before 0 y last stand m.role goes (omega (arith, few)) (λ q lo hi f. absurd (false≢true f)) (inl (ap v.owner place ∙ has_probe.0.owner)) next stage_start n refl (omega arith) m.frame hs

  -- A COMPARE LOOP with code round it is an expansion
  pub compares : Expands k world (loop_most z) keeps (loop_size z) (λ start. loop_code z) o
  compares =
      record {
        length_is = λ start. loop_length z;
        some = omega arith;
        follows = λ code tags lib u quiet own start frames words few has. record { follows = λ p t c n is runs at m hs. entered code tags lib u quiet own start frames words few has p t c n is at m hs };
      }
