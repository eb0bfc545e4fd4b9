-- A compare loop meets the contract of an expansion: one event, and each exchange that fails is a caused failure.
use Rattle.std.proofs.Common.{◌≡◌, ℕ, ◌+◌, ◌*◌, ◌%◌, ◌^◌, ◌<◌, ◌≤◌, Bool, true, false, List, [], ◌∷◌, ◌++◌, length, Some, None, refl, sym, ap, ◌∙◌, subst, inl, inr, arith}
use Rattle.std.specs.Prelude.{◌≢◌, ◌||◌, if◌then◌else◌, nat_eq, Option}
use Rattle.std.proofs.lemmas.Bool.{eq-eqb, false≢true}
use Rattle.std.proofs.lemmas.Bool.Decides.{nat_tests}
use Rattle.ax_store.specs.Bytes.{number_at}
use Rattle.ax_store.specs.Storage.{entry_of, load, seen}
use Rattle.ax_store.proofs.Calls.{load_none}
use Rattle.ax_tags.specs.declared.tags.Role.TheVariants.{None as Outside}
use Rattle.ax_tags.specs.declared.tags.Tag.{Tag}
use Rattle.ax_tags.specs.declared.tags.Tag.TheVariants.{Silent, Stored}
use Rattle.ax_isa.specs.declared.effects.Change.{Change}
use Rattle.ax_isa.specs.declared.effects.Change.TheVariants.{Exchange}
use Rattle.ax_isa.specs.declared.effects.Effect.{Effect}
use Rattle.ax_isa.specs.declared.effects.Effect.TheVariants.{Load, Locked}
use Rattle.ax_isa.specs.declared.effects.Rest.{Rest}
use Rattle.ax_isa.specs.Past.{Noted, drain, found_other}
use Rattle.ax_isa.specs.Processor.{Processor}
use Rattle.ax_isa.specs.Run.{Setting, flushes_at, idle_after, step}
use Rattle.ax_isa.specs.Steps.{Effected, Kind, exchanged, extended, flushes, go_to, is_changed, possible, replace}
use Rattle.ax_isa.specs.Tells.{Nothing, An_act, A_miss, Given, Library, Done, finding_in, gives_nothing, holder_after, is_excused, is_freeing, told, told_of, unless_over}
use Rattle.ax_isa.proofs.Functions.{at_same, at_other}
use Rattle.ax_follow.specs.Contract.{ByOthers, Did, Happening, InStep, Meaning, OwnStep, Possible, Reading, Stage, Steppable, Steps, Through, outcome_of, stage_after, stage_start}
use Rattle.ax_follow.proofs.Follow.{Holds, fetch, idle_grows, in_step, leaves}
use Rattle.ax_expand.specs.Continues.{IsContext}
use Rattle.ax_expand.specs.Expands.{Expands, reading_of}
use Rattle.ax_expand.specs.Operation.{Alone, Inner, Keeps, Operation, did_of, hushed}
use Rattle.ax_expand.specs.Private.{Spells}
use Rattle.ax_expand.specs.Standing.{HasAt, Here, setting_by, silently}
use Rattle.ax_expand.specs.World.{Lawful, Words, World}
use Rattle.ax_expand.proofs.Sights.{put_fair}
use Rattle.ax_expand.proofs.Single.{not_over}
use Rattle.ax_expand.proofs.Telling.{failed_told, silent_told, wrote_told}
use Rattle.ax_expand.proofs.Views.{spells_drain, spells_others, spells_write}
use Rattle.ax_loops.specs.Compare.{Checks, Compares, CompareLoop, Exchanges, IsBack, IsDone, compare_code, compare_most, compare_size}
use Rattle.ax_loops.specs.Replacing.{Replacement, Wrote}
use Rattle.ax_loops.proofs.Retry.{access_by}
use Rattle.ax_loops.proofs.Alone.{Piece, Waiting, around, begins_before, begins_behind, fits_before, is_around, meaning_of, number_before, waiting_drain, waiting_others, waiting_still}
use Rattle.ax_loops.proofs.Still.{Moved, Still, moved_still, moving, silent_frees, still_spells, still_step, stored_frees, turned}
use Rattle.ax_loops.proofs.Tracked.{Tracks, kept_is, tracked_other, tracks_drain, tracks_others, tracks_read}
use Rattle.ax_loops.proofs.Walking.{Stretch, Walk, first_owner, walk_step, walked}

equal_is : (m n : ℕ) → nat_eq m n ≡ true → m ≡ n
equal_is m n h = grind (arith, nat_tests, h)

other_is : (m n : ℕ) → nat_eq m n ≡ false → m ≢ n
other_is m n h = λ e. false≢true (sym h ∙ eq-eqb m n e)

-- an exchange goes on to the next place
exchanged_on : (bytes to high : ℕ) (rest : Rest) (expected number old : ℕ) (compares : Bool) (c : Processor)
    → (let q = exchanged bytes to high rest (Exchange expected number compares) old c in (q.place ≡ c.place + 1) × (q.status ≡ c.status) × (q.role ≡ c.role))
exchanged_on bytes to high rest expected number old true c = (refl, refl, refl)
exchanged_on bytes to high rest expected number old false c = (refl, refl, refl)

loop_size : {I : Type 0} (is js : List I) (i j : I × Tag) → length (silently is ++ i ∷ (silently js ++ j ∷ [])) ≡ length is + length js + 2
loop_size [] [] i j = refl
loop_size [] (a ∷ js) i j = (let e = loop_size [] js i j in omega (arith, e))
loop_size (a ∷ is) js i j = (let e = loop_size is js i j in omega (arith, e))

module _ {I W : Type 0} (k : Kind I) (world : World W) (laws : Lawful world) (keeps : ℕ → Bool) (o : Operation W) (r : Replacement W) (z : CompareLoop I) (h : Compares k keeps o r z world) where
  module _ (code : List I) (tags : ℕ → Tag) (lib : Library) (u : Reading) (quiet : Bool) (own start : ℕ) (frames : ℕ → ℕ → ℕ) (words : Words lib) (few : compare_most z ≤ u.most) (has : HasAt (setting_by k code tags lib) (reading_of u) quiet own start (compare_code z)) (p : ℕ) where
    abbrev x : Setting I
    x = setting_by k code tags lib

    abbrev v : Reading
    v = reading_of u

    abbrev end : ℕ
    end = start + compare_size z

    abbrev piece : Piece I W
    piece = record { setting = x; world = world; operation = o; keeps = keeps; quiet = quiet; frames = frames; start = start; end = end; number = own; reading = u; processor = p }

    abbrev l : Meaning Inner W
    l = meaning_of piece

    sound : (t : Inner) → IsContext (around piece t)
    sound t = is_around piece laws words t

    abbrev many : ℕ
    many = length z.computation

    abbrev checks : ℕ
    checks = length z.checks

    abbrev last : List (I × Tag)
    last = (z.branch, Silent) ∷ []

    abbrev tail : List (I × Tag)
    tail = (z.exchange, Stored) ∷ (silently z.checks ++ last)

    -- what was found last
    record Found (t : Inner) (number : ℕ) (n : Noted) : Type 0 where
      pub small : number < 2 ^ (8 * r.bytes)
      pub tracks : Tracks p (r.address t.regs) r.bytes number (n.past.kept p) n.storage

    -- what is left of the computation, and of the checks
    abbrev computing : Inner → ℕ → Stretch I
    computing t number =
        record { setting = x; reading = v; quiet = quiet; number = own; processor = p; frame = frames p; first = (z.exchange, Stored); rest = silently z.checks ++ last; stop = start + 1 + many; known = λ b. Exchanges k keeps o r z t.regs number b }

    abbrev checking_for : (Processor → Type 0) → Stretch I
    checking_for Then = record { setting = x; reading = v; quiet = quiet; number = own; processor = p; frame = frames p; first = (z.branch, Silent); rest = []; stop = start + (many + checks + 2); known = Then }

    abbrev Ahead : Inner → ℕ → List I → Processor → Type 0
    Ahead t number is c = Walk (computing t number) is c

    abbrev Checking : (Processor → Type 0) → List I → Processor → Type 0
    Checking Then is c = Walk (checking_for Then) is c

    abbrev Back : Inner → ℕ → Processor → Type 0
    Back t found c = IsBack k keeps o r z t.regs found c

    abbrev Ready : (ℕ → ℕ) → ℕ → Processor → Type 0
    Ready regs number c = IsDone k keeps o r z regs number c

    -- after its event, which found this number
    record Acted (regs : ℕ → ℕ) (number : ℕ) (j : Stage) (t : Inner) (c : Processor) (n : Noted) : Type 0 where
      pub acted : j.acted ≡ true
      pub over : t.over ≡ true
      pub gives : t.regs ≡ r.gives regs number
      pub role : c.role ≡ Outside
      pub frame : Spells p n (frames p)

    data Inv : Stage → Inner → Processor → Noted → Type 0 where
      Loading : {j : Stage} {t : Inner} {c : Processor} {n : Noted} → Waiting piece j t c n → Keeps z.holds c.regs t.regs → c.place ≡ start → j.idle ≤ 0 → Inv j t c n
      Computing : {j : Stage} {t : Inner} {c : Processor} {n : Noted} (number : ℕ) (is : List I) → Waiting piece j t c n → Found t number n → Ahead t number is c → j.idle + length is ≤ many + checks + 1 → Inv j t c n
      Failed : {j : Stage} {t : Inner} {c : Processor} {n : Noted} (found : ℕ) (is : List I) → Waiting piece j t c n → Found t found n → Checking (Back t found) is c → j.idle + length is ≤ checks → Inv j t c n
      Made : {j : Stage} {t : Inner} {c : Processor} {n : Noted} (regs : ℕ → ℕ) (number : ℕ) (is : List I) → Acted regs number j t c n → Checking (Ready regs number) is c → j.idle + length is ≤ checks → Inv j t c n
      Passed : {j : Stage} {t : Inner} {c : Processor} {n : Noted} → j.acted ≡ true → c.place ≡ l.begins t → Alone keeps frames p c n t → Inv j t c n

    through : (j : Stage) (t : Inner) (c : Processor) (n : Noted) → Inv j t c n → Through l v x p j t c n
    through j t c n (Loading y holds at idle) acted there = absurd (false≢true (sym y.acted ∙ acted))
    through j t c n (Computing number is y q a idle) acted there = absurd (false≢true (sym y.acted ∙ acted))
    through j t c n (Failed found is y q a idle) acted there = absurd (false≢true (sym y.acted ∙ acted))
    through j t c n (Made regs number is y walk idle) acted there = absurd (let e = begins_behind piece t y.over in let at = walk.place in omega (arith, at, there, e))
    through j t c n (Passed a at m) acted there = m

    found_others : (t : Inner) (number : ℕ) (n new : Noted) → ByOthers p n new → Found t number n → Found t number new
    found_others t number n new b q = record { small = q.small; tracks = tracks_others p (r.address t.regs) r.bytes number n new b q.tracks }

    others : (j : Stage) (t : Inner) (c : Processor) (n new : Noted) → ByOthers p n new → Inv j t c n → Inv j t c new
    others j t c n new b (Loading y holds at idle) = Loading (waiting_others piece j t c n new b y) holds at idle
    others j t c n new b (Computing number is y q a idle) = Computing number is (waiting_others piece j t c n new b y) (found_others t number n new b q) a idle
    others j t c n new b (Failed found is y q a idle) = Failed found is (waiting_others piece j t c n new b y) (found_others t found n new b q) a idle
    others j t c n new b (Made regs number is y walk idle) = Made regs number is (record { acted = y.acted; over = y.over; gives = y.gives; role = y.role; frame = spells_others p n new (frames p) b y.frame }) walk idle
    others j t c n new b (Passed a at m) = Passed a at (record { regs = m.regs; role = m.role; frame = spells_others p n new (frames p) b m.frame })

    found_drain : (t : Inner) (number : ℕ) (n : Noted) → Found t number n → Found t number (drain p n)
    found_drain t number n q = record { small = q.small; tracks = tracks_drain p (r.address t.regs) r.bytes number n q.tracks }

    drains : (j : Stage) (t : Inner) (c : Processor) (n : Noted) → k.buffered ≡ true → Inv j t c n → Inv j t c (drain p n)
    drains j t c n on (Loading y holds at idle) = Loading (waiting_drain piece j t c n y) holds at idle
    drains j t c n on (Computing number is y q a idle) = Computing number is (waiting_drain piece j t c n y) (found_drain t number n q) a idle
    drains j t c n on (Failed found is y q a idle) = Failed found is (waiting_drain piece j t c n y) (found_drain t found n q) a idle
    drains j t c n on (Made regs number is y walk idle) = Made regs number is (record { acted = y.acted; over = y.over; gives = y.gives; role = y.role; frame = spells_drain p n (frames p) y.frame }) walk idle
    drains j t c n on (Passed a at m) = Passed a at (record { regs = m.regs; role = m.role; frame = spells_drain p n (frames p) m.frame })

    abbrev Mine : Stage → Inner → Processor → Noted → W → Type 0
    Mine j t c n w = Steps l v x Inv p j t c n w (step x p c n)

    -- registers alone have changed
    waiting_moved : (e : Effect) (j : Stage) (t : Inner) (c after : Processor) (n : Noted) (d : Done) → Moved lib (tags c.place) p e c after n d → d.gives ≡ Nothing → Waiting piece j t c n → Waiting piece (stage_after Nothing (is_excused d) j) t d.processor d.noted
    waiting_moved e j t c after n d moved gives y =
        waiting_still piece j (stage_after Nothing (is_excused d) j) t c n d refl (ap (λ m. m.role) moved.processor ∙ moved.role) (moved_still lib (tags c.place) p e c after n d moved gives) y

    found_moved : (e : Effect) (t : Inner) (number : ℕ) (c after : Processor) (n : Noted) (d : Done) → Moved lib (tags c.place) p e c after n d → d.gives ≡ Nothing → c.role ≡ Outside → Found t number n → Found t number d.noted
    found_moved e t number c after n d moved gives role q =
        let kept : d.noted.past.kept p ≡ n.past.kept p = ap (λ f. f p) (moved.kept role) ∙ at_same n.past.kept p (unless_over (gives_nothing d.gives) (n.past.kept p)) ∙ ap (λ g. unless_over (gives_nothing g) (n.past.kept p)) gives in
        record { small = q.small; tracks = subst (λ m. Tracks p (r.address t.regs) r.bytes number m d.noted.storage) (sym kept) (subst (λ st. Tracks p (r.address t.regs) r.bytes number (n.past.kept p) st) (sym moved.storage) q.tracks) }

    ahead_from : (t : Inner) (number : ℕ) (c : Processor) → number < 2 ^ (8 * r.bytes) → Keeps z.holds c.regs t.regs → c.regs z.old ≡ extended r.bytes z.loaded 0 number → c.place ≡ start + 1 → Ahead t number z.computation c
    ahead_from t number c small holds old at =
        let q = h.computes (record { cpu = c; frame = frames p }) t.regs number small holds old in
        record { private = q.private; has = subst (λ m. HasAt x v quiet own m (silently z.computation ++ tail)) (sym at) has.1; place = omega (arith, at); goes = q.goes; known = q.exchanges }

    load_step : (j : Stage) (t : Inner) (c : Processor) (n : Noted) (w : W) → Waiting piece j t c n → Keeps z.holds c.regs t.regs → c.place ≡ start → j.idle ≤ 0 → Steppable l v x p j t c n w → Mine j t c n w
    load_step j t c n w y holds at idle may =
        let fit = fits_before piece t w y.over may.fits in
        let a = r.address t.regs in
        let e0 : Effect = Load z.old a r.bytes z.loaded false in
        let d = leaves x l v p e0 c n in
        let here : Here x v quiet own c.place (z.load, Silent) = subst (λ q. Here x v quiet own q (z.load, Silent)) (sym at) has.0 in
        let number = load p a r.bytes n.storage in
        let small = h.replaces.seen_small p n t.regs w may.sees fit in
        let gives : d.gives ≡ Nothing = silent_told quiet (tags c.place) c d.bytes d.outcome here.tag y.role in
        let got : d.processor.regs z.old ≡ extended r.bytes z.loaded 0 number = at_same c.regs z.old (extended r.bytes z.loaded (c.regs z.old) number) ∙ h.fills (c.regs z.old) number in
        let holds' : Keeps z.holds d.processor.regs t.regs = λ q is. at_other c.regs z.old (extended r.bytes z.loaded (c.regs z.old) number) q (h.kept q is).1 ∙ holds q is in
        let walk = ahead_from t number d.processor small holds' got (ap (λ q. q + 1) at) in
        let still : Still lib (tags c.place) p c n d = record { inside = refl; mem = refl; waiting = refl; holder = refl; output = refl; status = refl; gives = gives } in
        let grows = idle_grows (is_excused d) j.idle in
        fetch x l v Inv p z.load Silent e0 j t c n w here.code here.mark (h.loads c t.regs w fit holds) (access_by a r.bytes (c.place + 1) n (h.replaces.aligned t.regs w fit) (h.replaces.inside n t.regs w may.sees fit) here.small)
        (still_step (around piece t) (sound t) Inv j c n w d may (ap is_freeing here.tag ∙ silent_frees quiet) here.owner still
        (inl (first_owner (computing t number) z.computation d.processor.place walk.has)) (omega (arith, grows, idle, few))
        (Computing number z.computation (waiting_still piece j (stage_after Nothing (is_excused d) j) t c n d refl refl still y)
        (record { small = small; tracks = subst (λ m. Tracks p a r.bytes number m n.storage) (sym (kept_is n.past.kept p d.gives c.role e0 (seen p n.storage) (n.past.kept p) (n.past.next p) gives y.role)) (tracks_read p a r.bytes (n.past.kept p) n.storage) })
        walk (omega (arith, grows, idle))))

    -- one instruction of the computation
    compute_step : (j : Stage) (t : Inner) (c : Processor) (n : Noted) (w : W) (number : ℕ) (i : I) (is : List I) → Waiting piece j t c n → Found t number n → Ahead t number (i ∷ is) c → j.idle + length (i ∷ is) ≤ many + checks + 1 → Steppable l v x p j t c n w → Mine j t c n w
    compute_step j t c n w number i is y q ahead idle may =
        let e = k.effect_of i c in
        let d = leaves x l v p e c n in
        let one = walk_step (computing t number) i is c n ahead in
        moving (around piece t) (sound t) Inv i one.after j c n w one.here y.role may one.moves (inl one.owner) (omega (arith, idle, few))
        (λ gives moved.
        let grows = idle_grows (is_excused d) j.idle in
        Computing number is (waiting_moved e j t c one.after n d moved gives y) (found_moved e t number c one.after n d moved gives y.role q) (one.walk d.processor moved.processor) (omega (arith, grows, idle)))

    -- one of the checks, after an exchange that failed, and after one that stored
    failed_step : (j : Stage) (t : Inner) (c : Processor) (n : Noted) (w : W) (found : ℕ) (i : I) (is : List I) → Waiting piece j t c n → Found t found n → Checking (Back t found) (i ∷ is) c → j.idle + length (i ∷ is) ≤ checks → Steppable l v x p j t c n w → Mine j t c n w
    failed_step j t c n w found i is y q walk idle may =
        let e = k.effect_of i c in
        let d = leaves x l v p e c n in
        let one = walk_step (checking_for (Back t found)) i is c n walk in
        moving (around piece t) (sound t) Inv i one.after j c n w one.here y.role may one.moves (inl one.owner) (omega (arith, idle, few))
        (λ gives moved.
        let grows = idle_grows (is_excused d) j.idle in
        Failed found is (waiting_moved e j t c one.after n d moved gives y) (found_moved e t found c one.after n d moved gives y.role q) (one.walk d.processor moved.processor) (omega (arith, grows, idle)))

    made_step : (j : Stage) (t : Inner) (c : Processor) (n : Noted) (w : W) (regs : ℕ → ℕ) (number : ℕ) (i : I) (is : List I) → Acted regs number j t c n → Checking (Ready regs number) (i ∷ is) c → j.idle + length (i ∷ is) ≤ checks → Steppable l v x p j t c n w → Mine j t c n w
    made_step j t c n w regs number i is y walk idle may =
        let e = k.effect_of i c in
        let d = leaves x l v p e c n in
        let one = walk_step (checking_for (Ready regs number)) i is c n walk in
        moving (around piece t) (sound t) Inv i one.after j c n w one.here y.role may one.moves (inl one.owner) (omega (arith, idle, few))
        (λ gives moved.
        let grows = idle_grows (is_excused d) j.idle in
        let still = moved_still lib (tags c.place) p e c one.after n d moved gives in
        Made regs number is (record { acted = y.acted; over = y.over; gives = y.gives; role = ap (λ m. m.role) moved.processor ∙ moved.role ∙ y.role; frame = still_spells lib (tags c.place) p c n d (frames p) still y.frame })
        (one.walk d.processor moved.processor) (omega (arith, grows, idle)))

    -- back to the computation
    back_step : (j : Stage) (t : Inner) (c : Processor) (n : Noted) (w : W) (found : ℕ) → Waiting piece j t c n → Found t found n → Checking (Back t found) [] c → j.idle + 0 ≤ checks → Steppable l v x p j t c n w → Mine j t c n w
    back_step j t c n w found y q walk idle may =
        let here = walk.has.0 in
        let at : c.place ≡ start + (many + checks + 2) = (let e = walk.place in omega (arith, e)) in
        let b = walked (checking_for (Back t found)) c walk in
        let e = k.effect_of z.branch c in
        let d = leaves x l v p e c n in
        let small = has.0.small in
        let to = go_to (start + 1) c in
        let moves = turned lib k.buffered (tags c.place) p c n e (start + 1) (b.back start at here.small) small in
        let again = ahead_from t found to q.small b.holds b.old refl in
        moving (around piece t) (sound t) Inv z.branch to j c n w here y.role may moves
        (inl (first_owner (computing t found) z.computation (start + 1) again.has)) (omega (arith, idle, few))
        (λ gives moved.
        let grows = idle_grows (is_excused d) j.idle in
        Computing found z.computation (waiting_moved e j t c to n d moved gives y) (found_moved e t found c to n d moved gives y.role q)
        (subst (λ m. Ahead t found z.computation m) (sym moved.processor) again) (omega (arith, grows, idle)))

    -- on
    on_step : (j : Stage) (t : Inner) (c : Processor) (n : Noted) (w : W) (regs : ℕ → ℕ) (number : ℕ) → Acted regs number j t c n → Checking (Ready regs number) [] c → j.idle + 0 ≤ checks → Steppable l v x p j t c n w → Mine j t c n w
    on_step j t c n w regs number y walk idle may =
        let here = walk.has.0 in
        let at : c.place ≡ start + (many + checks + 2) = (let e = walk.place in omega (arith, e)) in
        let b = walked (checking_for (Ready regs number)) c walk in
        let e = k.effect_of z.branch c in
        let d = leaves x l v p e c n in
        let to = go_to (c.place + 1) c in
        let moves = turned lib k.buffered (tags c.place) p c n e (c.place + 1) (b.on here.small) here.small in
        let begins = begins_behind piece t y.over in
        let there : c.place + 1 ≡ l.begins t = omega (arith, at, begins) in
        moving (around piece t) (sound t) Inv z.branch to j c n w here y.role may moves (inr (y.acted, there)) (omega (arith, idle, few))
        (λ gives moved.
        let now = moved.processor in
        let still = moved_still lib (tags c.place) p e c to n d moved gives in
        Passed y.acted (ap (λ g. g.place) now ∙ there)
        (record { regs = λ q is. ap (λ g. g.regs q) now ∙ b.gives q is ∙ ap (λ f. f q) (sym y.gives); role = ap (λ g. g.role) now ∙ y.role; frame = still_spells lib (tags c.place) p c n d (frames p) still y.frame }))

    -- ---- the exchange
    module _ (j : Stage) (t : Inner) (c : Processor) (n : Noted) (w : W) (number : ℕ) (y : Waiting piece j t c n) (q : Found t number n) (ahead : Ahead t number [] c) (may : Steppable l v x p j t c n w) where
      abbrev a : ℕ
      a = r.address t.regs

      here : Here x v quiet own c.place (z.exchange, Stored)
      here = ahead.has.0

      fit : o.fits t.regs w
      fit = fits_before piece t w y.over may.fits

      ready : Exchanges k keeps o r z t.regs number c
      ready = walked (computing t number) c ahead

      abbrev change : Change
      change = Exchange ready.expected (r.leaves t.regs number) z.compares

      abbrev e0 : Effect
      e0 = Locked z.old z.high (r.address t.regs) r.bytes z.rest (Exchange ready.expected (r.leaves t.regs number) z.compares)

      effect_is : k.effect_of z.exchange c ≡ e0
      effect_is = ready.exchanges w fit

      access : possible p e0 c n.storage ≡ true
      access = access_by a r.bytes (c.place + 1) n (h.replaces.aligned t.regs w fit) (h.replaces.inside n t.regs w may.sees fit) here.small

      -- no own store waits
      empty : n.storage.waiting p ≡ []
      empty = may.empty (ap (λ i. flushes_at x i p c n) here.code ∙ ap (λ e. flushes p e c n.storage) effect_is ∙ access)

      abbrev old : ℕ
      old = number_at n.storage.mem (r.address t.regs) r.bytes

      found_is : old ≡ r.finds t.regs w
      found_is = h.replaces.found n t.regs w may.sees fit

      found_small : old < 2 ^ (8 * r.bytes)
      found_small = subst (λ m. m < 2 ^ (8 * r.bytes)) (sym found_is) (h.replaces.small t.regs w fit)

      abbrev new_if : Bool → Option ℕ
      new_if b = if b then Some (r.leaves t.regs number) else None

      abbrev after : Processor
      after = exchanged r.bytes z.old z.high z.rest change old c

      abbrev left_if : Bool → Effected
      left_if b = record { processor = after; noted = replace p (r.address t.regs) r.bytes (new_if b) n; outcome = record { stored = Some (is_changed (new_if b)); loaded = Some old; output = None } }

      abbrev done_if : Bool → Done
      done_if b = told lib (tags c.place) p e0 c n (left_if b)

      abbrev Leads : Bool → Given → Type 0
      Leads b g = Possible (outcome_of l g p t w) (λ s. OwnStep l v Inv p j t c n (done_if b) g s)

      went_on : (after.place ≡ c.place + 1) × (after.status ≡ c.status) × (after.role ≡ c.role)
      went_on = exchanged_on r.bytes z.old z.high z.rest ready.expected (r.leaves t.regs number) old z.compares c

      has_checks : HasAt x v quiet own (c.place + 1) (silently z.checks ++ last)
      has_checks = ahead.has.1

      -- the checks begin
      checking : (Then : Processor → Type 0) → Checks k keeps o r z (record { cpu = after; frame = frames p }) Then → Checking Then z.checks after
      checking Then b =
          record {
            private = b.private;
            has = subst (λ m. HasAt x v quiet own m (silently z.checks ++ last)) (sym went_on.0) has_checks;
            place = (let at = went_on.0 in let place = ahead.place in omega (arith, at, place));
            goes = b.goes;
            known = b.next;
          }

      owner_next : v.owner after.place ≡ own
      owner_next = first_owner (checking_for (λ b. Unit {0})) z.checks after.place (subst (λ m. HasAt x v quiet own m (silently z.checks ++ last)) (sym went_on.0) has_checks)

      frees : is_freeing (tags c.place) ≡ false
      frees = ap is_freeing here.tag ∙ stored_frees quiet

      wrote : nat_eq old (ready.expected % 2 ^ (8 * r.bytes)) ≡ true → Leads true An_act
      wrote b =
          let d = done_if true in
          let same : old ≡ number = equal_is old (ready.expected % 2 ^ (8 * r.bytes)) b ∙ ready.is_expected in
          let number_is : number ≡ r.finds t.regs w = sym same ∙ found_is in
          let entry = entry_of a r.bytes (r.leaves t.regs number) in
          let below = h.replaces.below t.regs w fit in
          let written : Wrote lib p entry n d.noted = record { inside = refl; mem = refl; waiting = refl; holder = λ word. ap (λ f. holder_after lib p f n.storage.mem d.noted.storage.mem n.past.holder word) frees } in
          let above : Inner = record { regs = r.gives t.regs (r.finds t.regs w); seen = None; over = true } in
          let did : Did Inner W = record { processor = above; world = r.after t.regs w; output = None; gives = hushed quiet An_act; excused = false } in
          let chosen_is : l.chosen An_act p t w ≡ Some did = ap (λ (f : Bool). if f then None else did_of quiet An_act (o.happens An_act p t.regs t.seen w)) y.over ∙ ap (did_of quiet An_act) (h.replaces.happens p n t.regs t.seen w may.sees empty fit) in
          let checks_done = subst (λ m. Checks k keeps o r z (record { cpu = exchanged r.bytes z.old z.high z.rest change m c; frame = frames p }) (Ready t.regs number)) (sym same) (ready.done (frames p)) in
          let now : OwnStep l v Inv p j t c n d An_act did = record {
            once = λ g. y.acted;
            owned = λ g. here.owner ∙ sym (number_before piece t y.over);
            stays = inl (owner_next ∙ sym here.owner);
            shows = h.replaces.shows lib p n d.noted t.regs w may.sees fit (subst (λ m. Wrote lib p (entry_of a r.bytes (r.leaves t.regs m)) n d.noted) number_is written);
            touches = record { fair = may.fair; others = put_fair p n.storage.inside a r.bytes entry.value n.storage.mem below };
            tells = wrote_told quiet (tags c.place) c d.bytes d.outcome refl here.tag y.role;
            missed = λ g. absurd (let f : An_act ≡ A_miss = g in cc);
            excused = λ g f. absurd (false≢true f);
            few = omega arith;
            output = refl;
            status = went_on.1 ∙ may.running;
            goes = λ run. Made t.regs number z.checks (record { acted = refl; over = refl; gives = ap (λ m. r.gives t.regs m) (sym number_is); role = went_on.2 ∙ y.role; frame = spells_write p entry n (frames p) below y.frame }) (checking (Ready t.regs number) checks_done) (omega arith);
          } in
          subst (λ f. Possible f (λ s. OwnStep l v Inv p j t c n d An_act s)) (sym chosen_is) now

      failed : nat_eq old (ready.expected % 2 ^ (8 * r.bytes)) ≡ false → Leads false Nothing
      failed b =
          let d = done_if false in
          let differs : nat_eq old number ≡ false = ap (nat_eq old) (sym ready.is_expected) ∙ b in
          let sees_old : load p a r.bytes n.storage ≡ old = load_none p a r.bytes n.storage empty in
          let overtaken : d.overtaken ≡ true = ap (λ m. found_other p n (finding_in m e0 (tags c.place) (n.past.called p))) y.role ∙ tracked_other p a r.bytes number n q.tracks (ap (λ m. nat_eq m number) sees_old ∙ differs) in
          let excused : is_excused d ≡ true = ap (λ f. f || d.busy) overtaken in
          let count : idle_after Nothing (is_excused d) j.idle ≡ 0 = ap (λ f. idle_after Nothing f j.idle) excused in
          let gives : d.gives ≡ Nothing = failed_told quiet (tags c.place) c d.bytes d.outcome refl here.tag y.role in
          let still : Still lib (tags c.place) p c n d = record { inside = refl; mem = refl; waiting = refl; holder = refl; output = refl; status = went_on.1; gives = gives } in
          let tracks : Tracks p a r.bytes (load p a r.bytes n.storage) (d.noted.past.kept p) n.storage =
          subst (λ m. Tracks p a r.bytes (load p a r.bytes n.storage) m n.storage) (sym (kept_is n.past.kept p d.gives c.role e0 (seen p n.storage) (n.past.kept p) (n.past.next p) gives y.role)) (tracks_read p a r.bytes (n.past.kept p) n.storage) in
          still_step (around piece t) (sound t) Inv j c n w d may frees here.owner still (inl owner_next) (omega (arith, count))
          (Failed old z.checks (waiting_still piece j (stage_after Nothing (is_excused d) j) t c n d refl went_on.2 still y)
          (record { small = found_small; tracks = subst (λ m. Tracks p a r.bytes m (d.noted.past.kept p) n.storage) sees_old tracks }) (checking (Back t old) (ready.back (frames p) old found_small (other_is old number differs))) (omega (arith, count)))

      leads : (b : Bool) → nat_eq old (ready.expected % 2 ^ (8 * r.bytes)) ≡ b → Leads b (told_of Stored (done_if b).bytes c (done_if b).outcome)
      leads true b = wrote b
      leads false b = failed b

      exchange_step : Mine j t c n w
      exchange_step = fetch x l v Inv p z.exchange Stored e0 j t c n w here.code here.mark effect_is access (leads (nat_eq old (ready.expected % 2 ^ (8 * r.bytes))) refl)

    own_step : (j : Stage) (t : Inner) (c : Processor) (n : Noted) (w : W) → Inv j t c n → Steppable l v x p j t c n w → Mine j t c n w
    own_step j t c n w (Loading y holds at idle) may = load_step j t c n w y holds at idle may
    own_step j t c n w (Computing number [] y q a idle) may = exchange_step j t c n w number y q a may
    own_step j t c n w (Computing number (i ∷ is) y q a idle) may = compute_step j t c n w number i is y q a idle may
    own_step j t c n w (Failed found [] y q a idle) may = back_step j t c n w found y q a idle may
    own_step j t c n w (Failed found (i ∷ is) y q a idle) may = failed_step j t c n w found i is y q a idle may
    own_step j t c n w (Made regs number [] y walk idle) may = on_step j t c n w regs number y walk idle may
    own_step j t c n w (Made regs number (i ∷ is) y walk idle) may = made_step j t c n w regs number i is y walk idle may
    own_step j t c n w (Passed acted at m) may = absurd (may.inner acted at)

    holds_inv : Holds x l v p Inv
    holds_inv = record { through = through; own = own_step; drains = drains; others = others }

    entered : (t : Inner) (c : Processor) (n : Noted) → l.number t ≡ own → c.place ≡ l.begins t → Alone keeps frames p c n t → (hs : List Happening) → InStep l v x p hs stage_start t c n
    entered t c n is at m hs =
        let over = not_over own t.over is in
        in_step x l v p Inv holds_inv hs stage_start t c n
        (Loading (record { acted = refl; over = over; role = m.role; frame = m.frame }) (λ q e. m.regs q (h.kept q e).0) (at ∙ begins_before piece t over) (omega arith))

  pub compare_expands : Expands k world (compare_most z) keeps (compare_size z) (λ start. compare_code z) o
  compare_expands =
      record {
        length_is = λ start. (let e = loop_size z.computation z.checks (z.exchange, Stored) (z.branch, Silent) in omega (arith, e));
        some = omega arith;
        follows = λ code tags lib u quiet own start frames words few has. record { follows = λ p t c n is runs at m hs. entered code tags lib u quiet own start frames words few has p t c n is at m hs };
      }
