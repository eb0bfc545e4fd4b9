-- A retry loop over 16 bytes meets its contract: one event, and each retry is excused.
use Rattle.std.proofs.Common.{◌≡◌, ℕ, zero, suc, ◌+◌, ◌*◌, ◌%◌, ◌^◌, ◌<◌, ◌≤◌, Bool, true, false, List, [], ◌∷◌, ◌++◌, length, Some, None, refl, sym, ap, ◌∙◌, subst, inl, inr, ⊎_elim, arith}
use Rattle.std.specs.Prelude.{if◌then◌else◌, ◌⊎◌, ◌&&◌, ◌||◌}
use Rattle.std.proofs.lemmas.Bool.{false≢true}
use Rattle.ax_store.specs.Bytes.{all_inside, number_at}
use Rattle.ax_store.specs.Storage.{entry_of, load, may_pair, newest}
use Rattle.ax_store.proofs.ReservationLemmas.{may_stands}
use Rattle.ax_tags.specs.declared.tags.Role.TheVariants.{None as Outside}
use Rattle.ax_tags.specs.declared.tags.Tag.{Tag}
use Rattle.ax_tags.specs.declared.tags.Tag.TheVariants.{Silent, Stored}
use Rattle.ax_isa.specs.declared.effects.Effect.{Effect}
use Rattle.ax_isa.specs.declared.effects.Effect.TheVariants.{LinkHalf, Load, PairStore}
use Rattle.ax_isa.specs.declared.effects.Rest.TheVariants.{Zeros}
use Rattle.ax_isa.specs.Past.{Noted, is_lost}
use Rattle.ax_isa.specs.Processor.{Processor}
use Rattle.ax_isa.specs.Steps.{Kind, paired}
use Rattle.ax_isa.specs.Tells.{Nothing, An_act, A_miss, Given, Library, Done, holder_after, is_excused, is_freeing, told, told_of}
use Rattle.ax_isa.specs.Run.{Setting, idle_after, step}
use Rattle.ax_isa.proofs.Functions.{at_same, at_other}
use Rattle.ax_follow.specs.Contract.{ByOthers, Did, Happening, InStep, Meaning, OwnStep, Possible, Reading, Stage, Steppable, Steps, Through, outcome_of, stage_after, stage_start}
use Rattle.ax_follow.proofs.Follow.{Holds, fetch, idle_grows, in_step, leaves}
use Rattle.ax_expand.specs.Continues.{Context, IsContext}
use Rattle.ax_expand.specs.Expands.{reading_of}
use Rattle.ax_expand.specs.Operation.{Inner, Keeps, Operation, did_of, hushed}
use Rattle.ax_expand.specs.Private.{Spells}
use Rattle.ax_expand.specs.Standing.{HasAt, Here, setting_by, silently}
use Rattle.ax_expand.specs.World.{Lawful, Words, World}
use Rattle.ax_expand.proofs.Sights.{put_fair}
use Rattle.ax_expand.proofs.Single.{not_over}
use Rattle.ax_expand.proofs.Telling.{failed_told, silent_told, wrote_told}
use Rattle.ax_expand.proofs.Views.{spells_others, spells_write}
use Rattle.ax_loops.specs.Moving.{nowhere}
use Rattle.ax_loops.specs.Replacing.{Replacement, Wrote}
use Rattle.ax_loops.specs.Ways.{Laid, Onward, Way}
use Rattle.ax_loops.specs.WideRetry.{AtStore, ExpandsWhole, HasBoth, IsAgain, IsOver, Whole, WideLoop, WideRetries, whole, wide_code, wide_size}
use Rattle.ax_loops.proofs.Reserved.{Reserved, failed_lost, reserved, reserved_others, reserved_own}
use Rattle.ax_loops.proofs.Retry.{access_by}
use Rattle.ax_loops.proofs.Alone.{Piece, Waiting, begins_before, begins_behind, fits_before, number_before, waiting_others, waiting_still}
use Rattle.ax_loops.proofs.Still.{Still, moved_still, moving, silent_frees, still_spells, still_step, stored_frees}
use Rattle.ax_loops.proofs.Ways.{Ground, here_at, onward_here, onward_moves, way_stays, in_code}
use Rattle.ax_loops.proofs.Exchange.{exchange_length, pair_at}

-- 16 bytes are two numbers of 8
joined : (x0 x1 x2 x3 x4 x5 x6 x7 t : ℕ) → x0 + 2 ^ 8 * (x1 + 2 ^ 8 * (x2 + 2 ^ 8 * (x3 + 2 ^ 8 * (x4 + 2 ^ 8 * (x5 + 2 ^ 8 * (x6 + 2 ^ 8 * (x7 + 2 ^ 8 * t)))))))
    ≡ x0 + 2 ^ 8 * (x1 + 2 ^ 8 * (x2 + 2 ^ 8 * (x3 + 2 ^ 8 * (x4 + 2 ^ 8 * (x5 + 2 ^ 8 * (x6 + 2 ^ 8 * (x7 + 2 ^ 8 * 0))))))) + 2 ^ 64 * t
joined x0 x1 x2 x3 x4 x5 x6 x7 t = omega arith

eight_on : (a : ℕ) → a + 1 + 1 + 1 + 1 + 1 + 1 + 1 + 1 ≡ a + 8
eight_on a = omega arith

pub halves_of : (f : ℕ → ℕ) (a : ℕ) → number_at f a 16 ≡ number_at f a 8 + 2 ^ 64 * number_at f (a + 8) 8
halves_of f a =
    joined (f a) (f (a + 1)) (f (a + 1 + 1)) (f (a + 1 + 1 + 1)) (f (a + 1 + 1 + 1 + 1)) (f (a + 1 + 1 + 1 + 1 + 1)) (f (a + 1 + 1 + 1 + 1 + 1 + 1)) (f (a + 1 + 1 + 1 + 1 + 1 + 1 + 1)) (number_at f (a + 1 + 1 + 1 + 1 + 1 + 1 + 1 + 1) 8)
    ∙ ap (λ q. number_at f a 8 + 2 ^ 64 * number_at f q 8) (eight_on a)

same_halves : (low high low' high' : ℕ) → low < 2 ^ 64 → low' < 2 ^ 64 → low + 2 ^ 64 * high ≡ low' + 2 ^ 64 * high' → low ≡ low'
same_halves low high low' high' s s' e = omega (arith, s, s', e)

and_right : (x y : Bool) → (x && y) ≡ true → y ≡ true
and_right true y h = h
and_right false y h = absurd (false≢true h)

rest_inside : (f : ℕ → Bool) (a n : ℕ) → all_inside f a (suc n) ≡ true → all_inside f (a + 1) n ≡ true
rest_inside f a n h = and_right (f a) (all_inside f (a + 1) n) h

high_inside : (f : ℕ → Bool) (a : ℕ) → all_inside f a 16 ≡ true → all_inside f (a + 8) 8 ≡ true
high_inside f a h =
    subst (λ q. all_inside f q 8 ≡ true) (eight_on a)
    (rest_inside f (a + 1 + 1 + 1 + 1 + 1 + 1 + 1) 8 (rest_inside f (a + 1 + 1 + 1 + 1 + 1 + 1) 9 (rest_inside f (a + 1 + 1 + 1 + 1 + 1) 10 (rest_inside f (a + 1 + 1 + 1 + 1) 11 (rest_inside f (a + 1 + 1 + 1) 12 (rest_inside f (a + 1 + 1) 13 (rest_inside f (a + 1) 14 (rest_inside f a 15 h))))))))

module _ {I W : Type 0} (k : Kind I) (world : World W) (laws : Lawful world) (keeps : ℕ → Bool) (o : Operation W) (r : Replacement W) (z : WideLoop I) (h : WideRetries k keeps o r z world) where
  module _ (code : List I) (tags : ℕ → Tag) (lib : Library) (u : Reading) (quiet : Bool) (own start : ℕ) (frames : ℕ → ℕ → ℕ) (words : Words lib) (few : z.most ≤ u.most) (has : HasAt (setting_by k code tags lib) (reading_of u) quiet own start (wide_code z)) (p : ℕ) where
    abbrev x : Setting I
    x = setting_by k code tags lib

    abbrev v : Reading
    v = reading_of u

    abbrev end : ℕ
    end = start + wide_size z

    abbrev piece : Piece I W
    piece = record { setting = x; world = world; operation = o; keeps = keeps; quiet = quiet; frames = frames; start = start; end = end; number = own; reading = u; processor = p }

    abbrev l : Meaning Inner W
    l = whole world o quiet keeps frames start end own

    abbrev around : Inner → Context I Inner W
    around t = record { setting = x; meaning = l; reading = u; world = world; processor = p; above = t; number = own; quiet = quiet; room = nowhere }

    sound : (t : Inner) → IsContext (around t)
    sound t = record { laws = laws; over = record { down = λ n w s. s; up = λ n w s. s }; words = words; mine = λ b f. absurd (false≢true f); roomy = λ w fit b f. absurd (false≢true f) }

    abbrev all : Laid I
    all = record { kind = k; code = wide_code z; start = start }

    abbrev ground : Ground I
    ground = record { setting = x; reading = v; quiet = quiet; number = own; processor = p }

    abbrev many : ℕ
    many = length z.between

    has_pair : Here x v quiet own (start + (many + 1)) (z.pair, Stored)
    has_pair =
        subst (λ q. Here x v quiet own q (z.pair, Stored)) (let e : start + 1 + many ≡ start + (many + 1) = omega arith in e)
        (here_at x v quiet own (start + 1) (silently z.between ++ (z.pair, Stored) ∷ silently z.behind) many (z.pair, Stored) has.1 (pair_at z.between (silently z.behind) (z.pair, Stored)))

    -- behind the linked load stands more of it
    first_owner : (is : List I) (place : ℕ) (j : I × Tag) (js : List (I × Tag)) → HasAt x v quiet own place (silently is ++ j ∷ js) → v.owner place ≡ own
    first_owner [] place j js q = q.0.owner
    first_owner (i ∷ is) place j js q = q.0.owner

    behind_link : v.owner (start + 1) ≡ own
    behind_link = first_owner z.between (start + 1) (z.pair, Stored) (silently z.behind) has.1

    -- the end of the code is a place
    room_at : (is : List (I × Tag)) (place : ℕ) → HasAt x v quiet own place is → place < 2 ^ 32 → place + length is < 2 ^ 32
    room_at [] place q small = omega (arith, small)
    room_at (i ∷ is) place q small = (let here = q.0.small in let e = room_at is (place + 1) q.1 here in omega (arith, e))

    room : end < 2 ^ 32
    room = (let here = has.0.small in let e = room_at (wide_code z) start has (let f : start < 2 ^ 32 = omega (arith, here) in f) in let f = exchange_length z.between z.behind (z.link, Silent) (z.pair, Stored) in omega (arith, e, f))

    abbrev Where : Bool → Processor → Type 0
    Where acted b = (b.place < 2 ^ 32) × ((v.owner b.place ≡ own) ⊎ ((acted ≡ true) × (b.place ≡ end)))

    where_through : (after : ℕ → ℕ) (b : Processor) → IsOver k keeps o r z start after b → Where true b
    where_through after b q = (subst (λ m. m < 2 ^ 32) (sym q.place) room, inr (refl, q.place))

    where_back : (acted : Bool) (regs : ℕ → ℕ) (b : Processor) → IsAgain k keeps o r z start regs b → Where acted b
    where_back acted regs b q = (subst (λ m. m < 2 ^ 32) (sym q.place) (let here = has.0.small in let e : start < 2 ^ 32 = omega (arith, here) in e), inl (ap v.owner q.place ∙ has.0.owner))

    where_pair : (acted : Bool) (regs : ℕ → ℕ) (number : ℕ) (b : Processor) → AtStore k keeps o r z start regs number b → Where acted b
    where_pair acted regs number b q = (subst (λ m. m < 2 ^ 32) (sym q.place) (let here = has_pair.small in let e : start + (many + 1) < 2 ^ 32 = omega (arith, here) in e), inl (ap v.owner q.place ∙ has_pair.owner))

    abbrev Out : (ℕ → ℕ) → ℕ → Processor → Type 0
    Out after steps c = Way all (λ b. IsOver k keeps o r z start after b) steps c

    abbrev Back : (ℕ → ℕ) → ℕ → Processor → Type 0
    Back regs steps c = Way all (λ b. IsAgain k keeps o r z start regs b) steps c

    abbrev Forth : (ℕ → ℕ) → ℕ → ℕ → Processor → Type 0
    Forth regs number steps c = Way all (λ b. AtStore k keeps o r z start regs number b) steps c

    out_stays : (after : ℕ → ℕ) (steps : ℕ) (c : Processor) → Out after steps c → Where true c
    out_stays after steps c q = way_stays all ground has (λ b. IsOver k keeps o r z start after b) true end (where_through after) steps c q

    back_stays : (acted : Bool) (regs : ℕ → ℕ) (steps : ℕ) (c : Processor) → Back regs steps c → Where acted c
    back_stays acted regs steps c q = way_stays all ground has (λ b. IsAgain k keeps o r z start regs b) acted end (where_back acted regs) steps c q

    forth_stays : (acted : Bool) (regs : ℕ → ℕ) (number steps : ℕ) (c : Processor) → Forth regs number steps c → Where acted c
    forth_stays acted regs number steps c q = way_stays all ground has (λ b. AtStore k keeps o r z start regs number b) acted end (where_pair acted regs number) steps c q

    record Found (t : Inner) (number : ℕ) (n : Noted) : Type 0 where
      pub aligned : r.address t.regs % 16 ≡ 0
      pub stands : Reserved p (r.address t.regs) 16 number n

    -- between the two steps of the linked load
    record Half (t : Inner) (low high : ℕ) (c : Processor) (n : Noted) : Type 0 where
      pub place : c.place ≡ start
      pub holds : Keeps z.holds c.regs t.regs
      pub half : c.half ≡ true
      pub low_is : c.regs z.low ≡ low
      pub small : low < 2 ^ 64
      pub found : Found t (low + 2 ^ 64 * high) n

    data Inv : Stage → Inner → Processor → Noted → Type 0 where
      Linking : {j : Stage} {t : Inner} {c : Processor} {n : Noted} → Waiting piece j t c n → IsAgain k keeps o r z start t.regs c → j.idle ≤ z.back → Inv j t c n
      Halved : {j : Stage} {t : Inner} {c : Processor} {n : Noted} (low high : ℕ) → Waiting piece j t c n → Half t low high c n → j.idle ≤ z.back + 1 → Inv j t c n
      Pairing : {j : Stage} {t : Inner} {c : Processor} {n : Noted} (number steps : ℕ) → Waiting piece j t c n → Found t number n → Forth t.regs number steps c → j.idle + steps ≤ z.most → Inv j t c n
      Returning : {j : Stage} {t : Inner} {c : Processor} {n : Noted} (steps : ℕ) → Waiting piece j t c n → Back t.regs steps c → j.idle + steps ≤ z.back → Inv j t c n
      Leaving : {j : Stage} {t : Inner} {c : Processor} {n : Noted} (steps : ℕ) → j.acted ≡ true → t.over ≡ true → c.role ≡ Outside → Spells p n (frames p) → Out t.regs steps c → j.idle + steps ≤ z.most → Inv j t c n

    leaving_through : (j : Stage) (t : Inner) (c : Processor) (n : Noted) (steps : ℕ) → t.over ≡ true → c.role ≡ Outside → Spells p n (frames p) → Out t.regs steps c → c.place ≡ l.begins t → Whole keeps frames p c n t
    leaving_through j t c n zero over role spells q there = record { alone = record { regs = q.gives; role = role; frame = spells }; half = q.half }
    leaving_through j t c n (suc steps) over role spells q there =
        absurd (let at = q.place in let inside = in_code (wide_code z) q.offset (q.instr, Silent) q.stands in let ends = begins_behind piece t over in let size = exchange_length z.between z.behind (z.link, Silent) (z.pair, Stored) in omega (arith, at, inside, ends, there, size))

    through : (j : Stage) (t : Inner) (c : Processor) (n : Noted) → Inv j t c n → Through l v x p j t c n
    through j t c n (Linking y b idle) acted there = absurd (false≢true (sym y.acted ∙ acted))
    through j t c n (Halved low high y f idle) acted there = absurd (false≢true (sym y.acted ∙ acted))
    through j t c n (Pairing number steps y f q idle) acted there = absurd (false≢true (sym y.acted ∙ acted))
    through j t c n (Returning steps y q idle) acted there = absurd (false≢true (sym y.acted ∙ acted))
    through j t c n (Leaving steps a over role spells q idle) acted there = leaving_through j t c n steps over role spells q there

    found_others : (t : Inner) (number : ℕ) (n new : Noted) → ByOthers p n new → Found t number n → Found t number new
    found_others t number n new b f = record { aligned = f.aligned; stands = reserved_others p (r.address t.regs) 16 number n new refl f.aligned b f.stands }

    others : (j : Stage) (t : Inner) (c : Processor) (n new : Noted) → ByOthers p n new → Inv j t c n → Inv j t c new
    others j t c n new b (Linking y q idle) = Linking (waiting_others piece j t c n new b y) q idle
    others j t c n new b (Halved low high y f idle) =
        Halved low high (waiting_others piece j t c n new b y) (record { place = f.place; holds = f.holds; half = f.half; low_is = f.low_is; small = f.small; found = found_others t (low + 2 ^ 64 * high) n new b f.found }) idle
    others j t c n new b (Pairing number steps y f q idle) = Pairing number steps (waiting_others piece j t c n new b y) (found_others t number n new b f) q idle
    others j t c n new b (Returning steps y q idle) = Returning steps (waiting_others piece j t c n new b y) q idle
    others j t c n new b (Leaving steps a over role spells q idle) = Leaving steps a over role (spells_others p n new (frames p) b spells) q idle

    abbrev Mine : Stage → Inner → Processor → Noted → W → Type 0
    Mine j t c n w = Steps l v x Inv p j t c n w (step x p c n)

    -- what the operation asks, of 16 bytes
    aligned_by : (regs : ℕ → ℕ) (w : W) → o.fits regs w → r.address regs % 16 ≡ 0
    aligned_by regs w fit = subst (λ b. r.address regs % b ≡ 0) h.wide (h.replaces.aligned regs w fit)

    inside_by : (n : Noted) (regs : ℕ → ℕ) (w : W) → world.sees n w → o.fits regs w → all_inside n.storage.inside (r.address regs) 16 ≡ true
    inside_by n regs w sees fit = subst (λ b. all_inside n.storage.inside (r.address regs) b ≡ true) h.wide (h.replaces.inside n regs w sees fit)

    found_by : (n : Noted) (regs : ℕ → ℕ) (w : W) → world.sees n w → o.fits regs w → number_at n.storage.mem (r.address regs) 16 ≡ r.finds regs w
    found_by n regs w sees fit = subst (λ b. number_at n.storage.mem (r.address regs) b ≡ r.finds regs w) h.wide (h.replaces.found n regs w sees fit)

    -- one instruction of a way
    way_step : {Then : Processor → Type 0} (j : Stage) (t : Inner) (c : Processor) (n : Noted) (w : W) (q : Onward all c Then) → Where j.acted q.after → c.role ≡ Outside → (j.acted ≡ true → t.over ≡ true) → j.idle + 1 ≤ z.most → Steppable l v x p j t c n w
        → (let d = leaves x l v p (k.effect_of q.instr c) c n in
        (d.processor ≡ q.after → d.processor.role ≡ c.role → d.noted.storage ≡ n.storage → d.noted.past.last ≡ n.past.last → d.noted.past.lost ≡ n.past.lost → Still lib (tags c.place) p c n d → Inv (stage_after Nothing (is_excused d) j) t d.processor d.noted)) → Mine j t c n w
    way_step j t c n w q there role over idle may next =
        let e = k.effect_of q.instr c in
        let d = leaves x l v p e c n in
        moving (around t) (sound t) Inv q.instr q.after j c n w (onward_here all ground has c q) role may (onward_moves all ground has c n q there.0)
        (⊎_elim (λ f. inl f) (λ f. inr (f.0, f.1 ∙ sym (begins_behind piece t (over f.0)))) there.1) (omega (arith, idle, few))
        (λ gives moved. next moved.processor (ap (λ m. m.role) moved.processor ∙ moved.role) moved.storage moved.last moved.lost (moved_still lib (tags c.place) p e c q.after n d moved gives))

    forth_step : (j : Stage) (t : Inner) (c : Processor) (n : Noted) (w : W) (number steps : ℕ) → Waiting piece j t c n → Found t number n → Forth t.regs number (suc steps) c → j.idle + suc steps ≤ z.most → Steppable l v x p j t c n w → Mine j t c n w
    forth_step j t c n w number steps y f q idle may =
        way_step j t c n w q (forth_stays j.acted t.regs number steps q.after q.next) y.role (λ a. absurd (false≢true (sym y.acted ∙ a))) (omega (arith, idle)) may
        (λ now role storage last lost still.
        let d = leaves x l v p (k.effect_of q.instr c) c n in
        let grows = idle_grows (is_excused d) j.idle in
        Pairing number steps (waiting_still piece j (stage_after Nothing (is_excused d) j) t c n d refl role still y)
        (record { aligned = f.aligned; stands = reserved_own p (r.address t.regs) 16 number n d.noted storage last lost f.stands })
        (subst (λ b. Forth t.regs number steps b) (sym now) q.next) (omega (arith, grows, idle)))

    back_step : (j : Stage) (t : Inner) (c : Processor) (n : Noted) (w : W) (steps : ℕ) → Waiting piece j t c n → Back t.regs (suc steps) c → j.idle + suc steps ≤ z.back → Steppable l v x p j t c n w → Mine j t c n w
    back_step j t c n w steps y q idle may =
        let less = h.few in
        way_step j t c n w q (back_stays j.acted t.regs steps q.after q.next) y.role (λ a. absurd (false≢true (sym y.acted ∙ a))) (omega (arith, idle, less)) may
        (λ now role storage last lost still.
        let d = leaves x l v p (k.effect_of q.instr c) c n in
        let grows = idle_grows (is_excused d) j.idle in
        Returning steps (waiting_still piece j (stage_after Nothing (is_excused d) j) t c n d refl role still y) (subst (λ b. Back t.regs steps b) (sym now) q.next) (omega (arith, grows, idle)))

    out_step : (j : Stage) (t : Inner) (c : Processor) (n : Noted) (w : W) (steps : ℕ) → j.acted ≡ true → t.over ≡ true → c.role ≡ Outside → Spells p n (frames p) → Out t.regs (suc steps) c → j.idle + suc steps ≤ z.most → Steppable l v x p j t c n w → Mine j t c n w
    out_step j t c n w steps acted over role spells q idle may =
        way_step j t c n w q (subst (λ b. Where b q.after) (sym acted) (out_stays t.regs steps q.after q.next)) role (λ a. over) (omega (arith, idle)) may
        (λ now same storage last lost still.
        let d = leaves x l v p (k.effect_of q.instr c) c n in
        let grows = idle_grows (is_excused d) j.idle in
        Leaving steps acted over (same ∙ role) (still_spells lib (tags c.place) p c n d (frames p) still spells) (subst (λ b. Out t.regs steps b) (sym now) q.next) (omega (arith, grows, idle)))

    -- the first half of the linked load
    half_step : (j : Stage) (t : Inner) (c : Processor) (n : Noted) (w : W) → Waiting piece j t c n → IsAgain k keeps o r z start t.regs c → j.idle ≤ z.back → Steppable l v x p j t c n w → Mine j t c n w
    half_step j t c n w y b idle may =
        let fit = fits_before piece t w y.over may.fits in
        let a = r.address t.regs in
        let e : Effect = LinkHalf z.low a in
        let d = leaves x l v p e c n in
        let low = number_at n.storage.mem a 8 in
        let high = number_at n.storage.mem (a + 8) 8 in
        let here : Here x v quiet own c.place (z.link, Silent) = subst (λ q. Here x v quiet own q (z.link, Silent)) (sym b.place) has.0 in
        let aligned = aligned_by t.regs w fit in
        let gives : d.gives ≡ Nothing = silent_told quiet (tags c.place) c d.bytes d.outcome here.tag y.role in
        let still : Still lib (tags c.place) p c n d = record { inside = refl; mem = refl; waiting = refl; holder = refl; output = refl; status = refl; gives = gives } in
        let grows = idle_grows (is_excused d) j.idle in
        let less = h.few in
        fetch x l v Inv p z.link Silent e j t c n w here.code here.mark (h.first c t.regs w fit b.holds b.half) (access_by a 16 0 n aligned (inside_by n t.regs w may.sees fit) (omega arith))
        (still_step (around t) (sound t) Inv j c n w d may (ap is_freeing here.tag ∙ silent_frees quiet) here.owner still (inl here.owner) (omega (arith, grows, idle, less, few))
        (Halved low high (waiting_still piece j (stage_after Nothing (is_excused d) j) t c n d refl refl still y)
        (record {
          place = b.place;
          holds = λ q is. at_other c.regs z.low low q (h.kept q is).1 ∙ b.holds q is;
          half = refl;
          low_is = at_same c.regs z.low low;
          small = (h.halves n t.regs w may.sees fit).0;
          found = record {
            aligned = aligned;
            stands = record {
              stays = λ stands. halves_of n.storage.mem a;
              last = at_same n.past.last p (Some (reserved a 16));
              alive = inl (at_same n.storage.linked p (Some (reserved a 16)));
            };
          };
        })
        (omega (arith, grows, idle))))

    -- what p sees is memory
    load_is : (a bytes : ℕ) (n : Noted) → n.storage.waiting p ≡ [] → load p a bytes n.storage ≡ number_at n.storage.mem a bytes
    load_is a bytes n empty = ap (λ es. number_at (λ b. newest (n.storage.inside b) es b (n.storage.mem b)) a bytes) empty

    -- the second half: where the reservation stands, both are of one number
    rest_step : (j : Stage) (t : Inner) (c : Processor) (n : Noted) (w : W) (low high : ℕ) → Waiting piece j t c n → Half t low high c n → j.idle ≤ z.back + 1 → Steppable l v x p j t c n w → Mine j t c n w
    rest_step j t c n w low high y b idle may =
        let fit = fits_before piece t w y.over may.fits in
        let a = r.address t.regs in
        let e : Effect = Load z.high (a + 8) 8 Zeros true in
        let d = leaves x l v p e c n in
        let got = number_at n.storage.mem (a + 8) 8 in
        let is : load p (a + 8) 8 n.storage ≡ got = load_is (a + 8) 8 n (may.flat h.unbuffered) in
        let here : Here x v quiet own c.place (z.link, Silent) = subst (λ q. Here x v quiet own q (z.link, Silent)) (sym b.place) has.0 in
        let aligned = b.found.aligned in
        let gives : d.gives ≡ Nothing = silent_told quiet (tags c.place) c d.bytes d.outcome here.tag y.role in
        let still : Still lib (tags c.place) p c n d = record { inside = refl; mem = refl; waiting = refl; holder = refl; output = refl; status = refl; gives = gives } in
        let grows = idle_grows (is_excused d) j.idle in
        let sizes = h.halves n t.regs w may.sees fit in
        let next : c.place + 1 ≡ start + 1 = ap (λ q. q + 1) b.place in
        let both : HasBoth k keeps o r z start t.regs low got d.processor = record {
          room = room;
          place = next;
          holds = λ q is. at_other c.regs z.high _ q (h.kept q is).2 ∙ b.holds q is;
          low_is = at_other c.regs z.high _ z.low h.apart ∙ b.low_is;
          high_is = at_same c.regs z.high _ ∙ is;
          low_small = b.small;
          high_small = sizes.1;
          half = refl;
        } in
        let to = h.computes start d.processor t.regs low got w fit both in
        let less = to.few in
        let more = to.leads.few in
        let stays : n.storage.linked p ≡ Some (reserved a 16) → number_at n.storage.mem a 16 ≡ low + 2 ^ 64 * got = λ stands.
        (let was = b.found.stands.stays stands in let parts = halves_of n.storage.mem a in let low_same = same_halves low high (number_at n.storage.mem a 8) got b.small sizes.0 (sym was ∙ parts) in parts ∙ ap (λ m. m + 2 ^ 64 * got) (sym low_same)) in
        fetch x l v Inv p z.link Silent e j t c n w here.code here.mark (h.second c t.regs w fit b.holds b.half) (access_by (a + 8) 8 (c.place + 1) n (omega (arith, aligned)) (high_inside n.storage.inside a (inside_by n t.regs w may.sees fit)) here.small)
        (still_step (around t) (sound t) Inv j c n w d may (ap is_freeing here.tag ∙ silent_frees quiet) here.owner still (inl (ap v.owner next ∙ behind_link)) (omega (arith, grows, idle, less, few))
        (Pairing (low + 2 ^ 64 * got) to.leads.steps (waiting_still piece j (stage_after Nothing (is_excused d) j) t c n d refl refl still y)
        (record { aligned = aligned; stands = record { stays = stays; last = b.found.stands.last; alive = b.found.stands.alive } })
        to.leads.way (omega (arith, grows, idle, less, more))))

    -- the pair store
    module _ (j : Stage) (t : Inner) (c : Processor) (n : Noted) (w : W) (number : ℕ) (y : Waiting piece j t c n) (f : Found t number n) (q : AtStore k keeps o r z start t.regs number c) (idle : j.idle + 0 ≤ z.most) (may : Steppable l v x p j t c n w) where
      abbrev a : ℕ
      a = r.address t.regs

      abbrev store : Effect
      store = PairStore z.failed a 16 (r.leaves t.regs number)

      -- what it leaves where it writes, or doesn't
      abbrev done_if : Bool → Done
      done_if b = told lib (tags c.place) p store c n (paired b p z.failed a 16 (r.leaves t.regs number) c n)

      abbrev Led : Bool → Given → Type 0
      Led b g = Possible (outcome_of l g p t w) (λ s. OwnStep l v Inv p j t c n (done_if b) g s)

      fit : o.fits t.regs w
      fit = fits_before piece t w y.over may.fits

      here : Here x v quiet own c.place (z.pair, Stored)
      here = subst (λ m. Here x v quiet own m (z.pair, Stored)) (sym q.place) has_pair

      frees : is_freeing (tags c.place) ≡ false
      frees = ap is_freeing here.tag ∙ stored_frees quiet

      wrote : may_pair p a 16 n.storage ≡ true → Led true An_act
      wrote b =
          let d = done_if true in
          let number_is : number ≡ r.finds t.regs w = sym (f.stands.stays (may_stands p a 16 n.storage b)) ∙ found_by n t.regs w may.sees fit in
          let entry = entry_of a 16 (r.leaves t.regs number) in
          let below = subst (λ m. a + m ≤ 16777216) h.wide (h.replaces.below t.regs w fit) in
          let written : Wrote lib p entry n d.noted = record { inside = refl; mem = refl; waiting = refl; holder = λ word. ap (λ m. holder_after lib p m n.storage.mem d.noted.storage.mem n.past.holder word) frees } in
          let above : Inner = record { regs = r.gives t.regs (r.finds t.regs w); seen = None; over = true } in
          let did : Did Inner W = record { processor = above; world = r.after t.regs w; output = None; gives = hushed quiet An_act; excused = false } in
          let chosen_is : l.chosen An_act p t w ≡ Some did = ap (λ (m : Bool). if m then None else did_of quiet An_act (o.happens An_act p t.regs t.seen w)) y.over ∙ ap (did_of quiet An_act) (h.replaces.happens p n t.regs t.seen w may.sees (may.flat h.unbuffered) fit) in
          let there = out_stays (r.gives t.regs number) q.done.steps d.processor q.done.way in
          let less = q.done.few in
          let now : OwnStep l v Inv p j t c n d An_act did = record {
            once = λ g. y.acted;
            owned = λ g. here.owner ∙ sym (number_before piece t y.over);
            stays = ⊎_elim (λ e. inl (e ∙ sym here.owner)) (λ e. inr e) there.1;
            shows = h.replaces.shows lib p n d.noted t.regs w may.sees fit (subst (λ m. Wrote lib p (entry_of a m (r.leaves t.regs (r.finds t.regs w))) n d.noted) (sym h.wide) (subst (λ m. Wrote lib p (entry_of a 16 (r.leaves t.regs m)) n d.noted) number_is written));
            touches = record { fair = may.fair; others = put_fair p n.storage.inside a 16 entry.value n.storage.mem below };
            tells = wrote_told quiet (tags c.place) c d.bytes d.outcome refl here.tag y.role;
            missed = λ g. absurd (let g' : An_act ≡ A_miss = g in cc);
            excused = λ g e. absurd (false≢true e);
            few = omega arith;
            output = refl;
            status = may.running;
            goes = λ run. Leaving q.done.steps refl refl y.role (spells_write p entry n (frames p) below y.frame) (subst (λ m. Out (r.gives t.regs m) q.done.steps d.processor) number_is q.done.way) (omega (arith, less));
          } in
          subst (λ m. Possible m (λ s. OwnStep l v Inv p j t c n d An_act s)) (sym chosen_is) now

      returns : may_pair p a 16 n.storage ≡ false → Led false Nothing
      returns b =
          let d = done_if false in
          let lost : is_lost p a 16 n ≡ true = failed_lost p a 16 number n b f.stands in
          let excused : is_excused d ≡ true = ap (λ m. (m || d.overtaken) || d.busy) lost in
          let count : idle_after Nothing (is_excused d) j.idle ≡ 0 = ap (λ m. idle_after Nothing m j.idle) excused in
          let there = back_stays j.acted t.regs q.fails.steps d.processor q.fails.way in
          let less = q.fails.few in
          let gives : d.gives ≡ Nothing = failed_told quiet (tags c.place) c d.bytes d.outcome refl here.tag y.role in
          let still : Still lib (tags c.place) p c n d = record { inside = refl; mem = refl; waiting = refl; holder = refl; output = refl; status = refl; gives = gives } in
          still_step (around t) (sound t) Inv j c n w d may frees here.owner still (⊎_elim (λ e. inl e) (λ e. absurd (false≢true (sym y.acted ∙ e.0))) there.1) (omega (arith, count))
          (Returning q.fails.steps (waiting_still piece j (stage_after Nothing (is_excused d) j) t c n d refl refl still y) q.fails.way (omega (arith, count, less)))

      pair_step : Mine j t c n w
      pair_step =
          fetch x l v Inv p z.pair Stored store j t c n w here.code here.mark (q.stores w fit) (access_by a 16 (c.place + 1) n f.aligned (inside_by n t.regs w may.sees fit) here.small) (go (may_pair p a 16 n.storage) refl)
        where
          go : (b : Bool) → may_pair p a 16 n.storage ≡ b → Led b (told_of Stored (done_if b).bytes c (done_if b).outcome)
          go true b = wrote b
          go false b = returns b

    own_step : (j : Stage) (t : Inner) (c : Processor) (n : Noted) (w : W) → Inv j t c n → Steppable l v x p j t c n w → Mine j t c n w
    own_step j t c n w (Linking y b idle) may = half_step j t c n w y b idle may
    own_step j t c n w (Halved low high y b idle) may = rest_step j t c n w low high y b idle may
    own_step j t c n w (Pairing number zero y f q idle) may = pair_step j t c n w number y f q idle may
    own_step j t c n w (Pairing number (suc steps) y f q idle) may = forth_step j t c n w number steps y f q idle may
    own_step j t c n w (Returning zero y q idle) may = half_step j t c n w y q (omega (arith, idle)) may
    own_step j t c n w (Returning (suc steps) y q idle) may = back_step j t c n w steps y q idle may
    own_step j t c n w (Leaving zero acted over role spells q idle) may = absurd (may.inner acted (q.place ∙ sym (begins_behind piece t over)))
    own_step j t c n w (Leaving (suc steps) acted over role spells q idle) may = out_step j t c n w steps acted over role spells q idle may

    holds : Holds x l v p Inv
    holds = record { through = through; own = own_step; drains = λ j t c n on i. absurd (false≢true (sym h.unbuffered ∙ on)); others = others }

    entered : (t : Inner) (c : Processor) (n : Noted) → l.number t ≡ own → c.place ≡ l.begins t → Whole keeps frames p c n t → (hs : List Happening) → InStep l v x p hs stage_start t c n
    entered t c n is at m hs =
        let over = not_over own t.over is in
        in_step x l v p Inv holds hs stage_start t c n
        (Linking (record { acted = refl; over = over; role = m.alone.role; frame = m.alone.frame }) (record { place = at ∙ begins_before piece t over; holds = λ q e. m.alone.regs q (h.kept q e).0; half = m.half }) (omega arith))

  pub wide_expands : ExpandsWhole k world z.most keeps (wide_size z) (λ start. wide_code z) o
  wide_expands =
      record {
        length_is = λ start. exchange_length z.between z.behind (z.link, Silent) (z.pair, Stored);
        some = omega arith;
        follows = λ code tags lib u quiet own start frames words few has. record { follows = λ p t c n is runs at m hs. entered code tags lib u quiet own start frames words few has p t c n is at m hs };
      }
