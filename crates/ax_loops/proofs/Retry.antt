-- A retry loop meets the contract of an expansion: one event, and each retry is excused.
use Rattle.std.proofs.Common.{◌≡◌, ℕ, ◌+◌, ◌*◌, ◌%◌, ◌^◌, ◌<◌, ◌≤◌, Bool, true, false, List, [], ◌∷◌, ◌++◌, length, Some, None, refl, sym, ap, ◌∙◌, subst, inl, inr, arith}
use Rattle.std.specs.Prelude.{◌&&◌, ◌||◌, if◌then◌else◌, nat_eq}
use Rattle.std.proofs.lemmas.Bool.{false≢true}
use Rattle.ax_store.specs.Bytes.{all_inside, number_at}
use Rattle.ax_store.specs.Storage.{at_place, entry_of, may_pair}
use Rattle.ax_store.proofs.ReservationLemmas.{may_stands}
use Rattle.ax_tags.specs.declared.tags.Tag.{Tag}
use Rattle.ax_tags.specs.declared.tags.Tag.TheVariants.{Silent, Stored}
use Rattle.ax_isa.specs.declared.effects.Effect.{Effect}
use Rattle.ax_isa.specs.declared.effects.Effect.TheVariants.{Link, PairStore}
use Rattle.ax_isa.specs.Past.{Noted, is_lost}
use Rattle.ax_isa.specs.Processor.{Processor}
use Rattle.ax_isa.specs.Steps.{Kind, extended, go_to, is_place, may_access, paired}
use Rattle.ax_isa.specs.Tells.{Nothing, An_act, A_miss, Given, Library, Done, holder_after, is_excused, is_freeing, told, told_of}
use Rattle.ax_isa.specs.Run.{Setting, idle_after, step}
use Rattle.ax_isa.proofs.Functions.{at_same, at_other}
use Rattle.ax_follow.specs.Contract.{ByOthers, Did, Happening, InStep, Meaning, OwnStep, Possible, Reading, Stage, Steppable, Steps, Through, outcome_of, stage_after, stage_start}
use Rattle.ax_follow.proofs.Follow.{Holds, fetch, idle_grows, in_step, leaves}
use Rattle.ax_expand.specs.Continues.{IsContext}
use Rattle.ax_expand.specs.Expands.{Expands, reading_of}
use Rattle.ax_expand.specs.Operation.{Alone, Inner, Keeps, Operation, did_of, hushed}
use Rattle.ax_expand.specs.Standing.{HasAt, Here, setting_by, silently}
use Rattle.ax_expand.specs.World.{Lawful, Words, World}
use Rattle.ax_expand.proofs.Sights.{put_fair}
use Rattle.ax_expand.proofs.Single.{alone_stable, not_over}
use Rattle.ax_expand.proofs.Straight.{has_rest, silent_length}
use Rattle.ax_expand.proofs.Telling.{failed_told, place_ok, silent_told, wrote_told}
use Rattle.ax_expand.proofs.Views.{spells_write}
use Rattle.ax_loops.specs.Replacing.{Replacement, Wrote}
use Rattle.ax_loops.specs.Retry.{Retries, RetryLoop, Stores, retry_code, retry_most, retry_size}
use Rattle.ax_loops.proofs.Reserved.{Reserved, failed_lost, reserved, reserved_others, reserved_own}
use Rattle.ax_loops.proofs.Alone.{Piece, Waiting, around, begins_before, begins_behind, fits_before, is_around, meaning_of, number_before, waiting_others, waiting_still}
use Rattle.ax_loops.proofs.Still.{Still, moved_still, moving, silent_frees, still_spells, still_step, stored_frees, turned}
use Rattle.ax_loops.proofs.Walking.{Stretch, Walk, first_owner, walk_step, walked}

pub access_by : (a bytes place : ℕ) (n : Noted) → a % bytes ≡ 0 → all_inside n.storage.inside a bytes ≡ true → place < 2 ^ 32 → (is_place place && may_access a bytes n.storage) ≡ true
access_by a bytes place n aligned inside small =
    ap (λ t. t && (nat_eq (a % bytes) 0 && all_inside n.storage.inside a bytes)) (place_ok place small) ∙ ap (λ t. nat_eq t 0 && all_inside n.storage.inside a bytes) aligned ∙ inside

silent_size : {I : Type 0} (is : List I) (i j : I × Tag) → length (silently is ++ i ∷ j ∷ []) ≡ length is + 2
silent_size [] i j = refl
silent_size (a ∷ is) i j = (let e = silent_size is i j in omega (arith, e))

module _ {I W : Type 0} (k : Kind I) (world : World W) (laws : Lawful world) (keeps : ℕ → Bool) (o : Operation W) (r : Replacement W) (z : RetryLoop I) (h : Retries k keeps o r z world) where
  module _ (code : List I) (tags : ℕ → Tag) (lib : Library) (u : Reading) (quiet : Bool) (own start : ℕ) (frames : ℕ → ℕ → ℕ) (words : Words lib) (few : retry_most z ≤ u.most) (has : HasAt (setting_by k code tags lib) (reading_of u) quiet own start (retry_code z)) (p : ℕ) where
    abbrev x : Setting I
    x = setting_by k code tags lib

    abbrev v : Reading
    v = reading_of u

    abbrev end : ℕ
    end = start + retry_size z

    abbrev piece : Piece I W
    piece = record { setting = x; world = world; operation = o; keeps = keeps; quiet = quiet; frames = frames; start = start; end = end; number = own; reading = u; processor = p }

    abbrev l : Meaning Inner W
    l = meaning_of piece

    sound : (t : Inner) → IsContext (around piece t)
    sound t = is_around piece laws words t

    abbrev many : ℕ
    many = length z.computation

    abbrev tail : List (I × Tag)
    tail = (z.pair, Stored) ∷ (z.branch, Silent) ∷ []

    has_tail : HasAt x v quiet own (start + 1 + many) tail
    has_tail = subst (λ q. HasAt x v quiet own q tail) (ap (λ q. start + 1 + q) (silent_length z.computation)) (has_rest x v quiet own (start + 1) (silently z.computation) tail has.1)

    has_branch : Here x v quiet own (start + many + 2) (z.branch, Silent)
    has_branch = subst (λ q. Here x v quiet own q (z.branch, Silent)) (let e : start + 1 + many + 1 ≡ start + many + 2 = omega arith in e) has_tail.1.0

    record Linked (t : Inner) (number : ℕ) (n : Noted) : Type 0 where
      pub aligned : r.address t.regs % r.bytes ≡ 0
      pub stands : Reserved p (r.address t.regs) r.bytes number n

    -- what is left of the computation
    abbrev computing : Inner → ℕ → Stretch I
    computing t number =
        record { setting = x; reading = v; quiet = quiet; number = own; processor = p; frame = frames p; first = (z.pair, Stored); rest = (z.branch, Silent) ∷ []; stop = start + 1 + many; known = λ b. Stores k keeps o r z t.regs number b }

    abbrev Ahead : Inner → ℕ → List I → Processor → Type 0
    Ahead t number is c = Walk (computing t number) is c

    data Inv : Stage → Inner → Processor → Noted → Type 0 where
      Linking : {j : Stage} {t : Inner} {c : Processor} {n : Noted} → Waiting piece j t c n → Keeps z.holds c.regs t.regs → c.place ≡ start → j.idle ≤ 1 → Inv j t c n
      Computing : {j : Stage} {t : Inner} {c : Processor} {n : Noted} (number : ℕ) (is : List I) → Waiting piece j t c n → Linked t number n → Ahead t number is c → j.idle + length is ≤ many + 2 → Inv j t c n
      Failed : {j : Stage} {t : Inner} {c : Processor} {n : Noted} → Waiting piece j t c n → Keeps z.holds c.regs t.regs → c.place ≡ start + many + 2 → j.idle ≤ 0 → c.regs z.failed ≡ 1 → Inv j t c n
      Made : {j : Stage} {t : Inner} {c : Processor} {n : Noted} → j.acted ≡ true → t.over ≡ true → c.place ≡ start + many + 2 → j.idle ≤ 0 → c.regs z.failed ≡ 0 → Alone keeps frames p c n t → Inv j t c n
      Passed : {j : Stage} {t : Inner} {c : Processor} {n : Noted} → j.acted ≡ true → c.place ≡ l.begins t → Alone keeps frames p c n t → Inv j t c n

    through : (j : Stage) (t : Inner) (c : Processor) (n : Noted) → Inv j t c n → Through l v x p j t c n
    through j t c n (Linking y reads at idle) acted there = absurd (false≢true (sym y.acted ∙ acted))
    through j t c n (Computing number is y q a idle) acted there = absurd (false≢true (sym y.acted ∙ acted))
    through j t c n (Failed y reads at idle f) acted there = absurd (false≢true (sym y.acted ∙ acted))
    through j t c n (Made a over at idle f m) acted there = absurd (let e = begins_behind piece t over in omega (arith, at, there, e))
    through j t c n (Passed a at m) acted there = m

    alone_others : (t : Inner) (c : Processor) (n new : Noted) → ByOthers p n new → Alone keeps frames p c n t → Alone keeps frames p c new t
    alone_others t c n new b m = (alone_stable x world o quiet keeps frames start end own p).others c n new t b m

    others : (j : Stage) (t : Inner) (c : Processor) (n new : Noted) → ByOthers p n new → Inv j t c n → Inv j t c new
    others j t c n new b (Linking y reads at idle) = Linking (waiting_others piece j t c n new b y) reads at idle
    others j t c n new b (Computing number is y q a idle) = Computing number is (waiting_others piece j t c n new b y) (record { aligned = q.aligned; stands = reserved_others p (r.address t.regs) r.bytes number n new h.replaces.width q.aligned b q.stands }) a idle
    others j t c n new b (Failed y reads at idle f) = Failed (waiting_others piece j t c n new b y) reads at idle f
    others j t c n new b (Made a over at idle f m) = Made a over at idle f (alone_others t c n new b m)
    others j t c n new b (Passed a at m) = Passed a at (alone_others t c n new b m)

    abbrev Mine : Stage → Inner → Processor → Noted → W → Type 0
    Mine j t c n w = Steps l v x Inv p j t c n w (step x p c n)

    -- the linked load
    link_step : (j : Stage) (t : Inner) (c : Processor) (n : Noted) (w : W) → Waiting piece j t c n → Keeps z.holds c.regs t.regs → c.place ≡ start → j.idle ≤ 1 → Steppable l v x p j t c n w → Mine j t c n w
    link_step j t c n w y reads at idle may =
        let fit = fits_before piece t w y.over may.fits in
        let a = r.address t.regs in
        let e0 : Effect = Link z.old a r.bytes z.rest in
        let d = leaves x l v p e0 c n in
        let here : Here x v quiet own c.place (z.link, Silent) = subst (λ q. Here x v quiet own q (z.link, Silent)) (sym at) has.0 in
        let number = number_at n.storage.mem a r.bytes in
        let aligned = h.replaces.aligned t.regs w fit in
        let found = h.replaces.found n t.regs w may.sees fit in
        let small : number < 2 ^ (8 * r.bytes) = subst (λ q. q < 2 ^ (8 * r.bytes)) (sym found) (h.replaces.small t.regs w fit) in
        let gives : d.gives ≡ Nothing = silent_told quiet (tags c.place) c d.bytes d.outcome here.tag y.role in
        let got : d.processor.regs z.old ≡ extended r.bytes z.rest 0 number = at_same c.regs z.old (extended r.bytes z.rest (c.regs z.old) number) ∙ h.fills (c.regs z.old) number in
        let reads' : Keeps z.holds d.processor.regs t.regs = λ q is. at_other c.regs z.old (extended r.bytes z.rest (c.regs z.old) number) q (h.kept q is).1 ∙ reads q is in
        let ahead = h.computes (record { cpu = d.processor; frame = frames p }) t.regs number small reads' got in
        let next : c.place + 1 ≡ start + 1 = ap (λ q. q + 1) at in
        let has' : HasAt x v quiet own (c.place + 1) (silently z.computation ++ tail) = subst (λ q. HasAt x v quiet own q (silently z.computation ++ tail)) (sym next) has.1 in
        let still : Still lib (tags c.place) p c n d = record { inside = refl; mem = refl; waiting = refl; holder = refl; output = refl; status = refl; gives = gives } in
        let walk : Ahead t number z.computation d.processor = record { private = ahead.private; has = has'; place = omega (arith, next); goes = ahead.goes; known = ahead.stores } in
        let grows = idle_grows (is_excused d) j.idle in
        fetch x l v Inv p z.link Silent e0 j t c n w here.code here.mark (h.links c t.regs w fit reads) (access_by a r.bytes (c.place + 1) n aligned (h.replaces.inside n t.regs w may.sees fit) here.small)
        (still_step (around piece t) (sound t) Inv j c n w d may (ap is_freeing here.tag ∙ silent_frees quiet) here.owner still (inl (first_owner (computing t number) z.computation d.processor.place walk.has)) (omega (arith, grows, idle, few))
        (Computing number z.computation (waiting_still piece j (stage_after Nothing (is_excused d) j) t c n d refl refl still y)
        (record {
          aligned = aligned;
          stands = record { stays = λ stands. refl; last = at_same n.past.last p (Some (reserved a r.bytes)); alive = inl (at_same n.storage.linked p (Some (reserved a r.bytes))) };
        })
        walk (omega (arith, grows, idle))))

    -- one instruction of the computation
    compute_step : (j : Stage) (t : Inner) (c : Processor) (n : Noted) (w : W) (number : ℕ) (i : I) (is : List I) → Waiting piece j t c n → Linked t number n → Ahead t number (i ∷ is) c → j.idle + length (i ∷ is) ≤ many + 2 → Steppable l v x p j t c n w → Mine j t c n w
    compute_step j t c n w number i is y q ahead idle may =
        let e = k.effect_of i c in
        let d = leaves x l v p e c n in
        let one = walk_step (computing t number) i is c n ahead in
        moving (around piece t) (sound t) Inv i one.after j c n w one.here y.role may one.moves (inl one.owner) (omega (arith, idle, few))
        (λ gives moved.
        let grows = idle_grows (is_excused d) j.idle in
        Computing number is
        (waiting_still piece j (stage_after Nothing (is_excused d) j) t c n d refl (ap (λ m. m.role) moved.processor ∙ moved.role) (moved_still lib (tags c.place) p e c one.after n d moved gives) y)
        (record { aligned = q.aligned; stands = reserved_own p (r.address t.regs) r.bytes number n d.noted moved.storage moved.last moved.lost q.stands })
        (one.walk d.processor moved.processor) (omega (arith, grows, idle)))

    -- what the pair store leaves where it writes, or doesn't
    abbrev effect : Inner → ℕ → Effect
    effect t number = PairStore z.failed (r.address t.regs) r.bytes (r.leaves t.regs number)

    abbrev done_if : Inner → ℕ → Processor → Noted → Bool → Done
    done_if t number c n b = told lib (tags c.place) p (effect t number) c n (paired b p z.failed (r.address t.regs) r.bytes (r.leaves t.regs number) c n)

    abbrev Leads : Stage → Inner → ℕ → Processor → Noted → W → Bool → Given → Type 0
    Leads j t number c n w b g = Possible (outcome_of l g p t w) (λ s. OwnStep l v Inv p j t c n (done_if t number c n b) g s)

    pair_step : (j : Stage) (t : Inner) (c : Processor) (n : Noted) (w : W) (number : ℕ) → Waiting piece j t c n → Linked t number n → Ahead t number [] c → j.idle + 0 ≤ many + 2 → Steppable l v x p j t c n w → Mine j t c n w
    pair_step j t c n w number y q ahead idle may =
        fetch x l v Inv p z.pair Stored (effect t number) j t c n w here.code here.mark (stores.stores w fit) (access_by a r.bytes (c.place + 1) n q.aligned (h.replaces.inside n t.regs w may.sees fit) here.small) (go (may_pair p a r.bytes n.storage) refl)
      where
        here : Here x v quiet own c.place (z.pair, Stored)
        here = ahead.has.0

        a : ℕ
        a = r.address t.regs

        fit : o.fits t.regs w
        fit = fits_before piece t w y.over may.fits

        stores : Stores k keeps o r z t.regs number c
        stores = walked (computing t number) c ahead

        next : c.place + 1 ≡ start + many + 2
        next = let e = ahead.place in omega (arith, e)

        owner_next : v.owner (c.place + 1) ≡ own
        owner_next = ahead.has.1.0.owner

        reads_failed : (b : ℕ) → Keeps z.holds (at_place c.regs z.failed b) t.regs
        reads_failed b = λ m is. at_other c.regs z.failed b m (h.kept m is).2 ∙ stores.holds m is

        wrote : may_pair p a r.bytes n.storage ≡ true → Leads j t number c n w true An_act
        wrote b =
            let d = done_if t number c n true in
            let stands : n.storage.linked p ≡ Some (reserved a r.bytes) = may_stands p a r.bytes n.storage b in
            let number_is : number ≡ r.finds t.regs w = sym (q.stands.stays stands) ∙ h.replaces.found n t.regs w may.sees fit in
            let entry = entry_of a r.bytes (r.leaves t.regs number) in
            let below = h.replaces.below t.regs w fit in
            let frees : is_freeing (tags c.place) ≡ false = ap is_freeing here.tag ∙ stored_frees quiet in
            let written : Wrote lib p entry n d.noted = record { inside = refl; mem = refl; waiting = refl; holder = λ word. ap (λ f. holder_after lib p f n.storage.mem d.noted.storage.mem n.past.holder word) frees } in
            let above : Inner = record { regs = r.gives t.regs (r.finds t.regs w); seen = None; over = true } in
            let did : Did Inner W = record { processor = above; world = r.after t.regs w; output = None; gives = hushed quiet An_act; excused = false } in
            let chosen_is : l.chosen An_act p t w ≡ Some did = ap (λ (f : Bool). if f then None else did_of quiet An_act (o.happens An_act p t.regs t.seen w)) y.over ∙ ap (did_of quiet An_act) (h.replaces.happens p n t.regs t.seen w may.sees (may.flat h.unbuffered) fit) in
            let now : OwnStep l v Inv p j t c n d An_act did = record {
              once = λ g. y.acted;
              owned = λ g. here.owner ∙ sym (number_before piece t y.over);
              stays = inl (owner_next ∙ sym here.owner);
              shows = h.replaces.shows lib p n d.noted t.regs w may.sees fit (subst (λ m. Wrote lib p (entry_of a r.bytes (r.leaves t.regs m)) n d.noted) number_is written);
              touches = record { fair = may.fair; others = put_fair p n.storage.inside a r.bytes entry.value n.storage.mem below };
              tells = wrote_told quiet (tags c.place) c d.bytes d.outcome refl here.tag y.role;
              missed = λ g. absurd (let f : An_act ≡ A_miss = g in cc);
              excused = λ g f. absurd (false≢true f);
              few = omega arith;
              output = refl;
              status = may.running;
              goes = λ run. Made refl refl next (omega arith) (at_same c.regs z.failed 0)
                  (record { regs = λ m is. stores.gives m is ∙ ap (λ f. r.gives t.regs f m) number_is; role = y.role; frame = spells_write p entry n (frames p) below y.frame });
            } in
            subst (λ f. Possible f (λ s. OwnStep l v Inv p j t c n d An_act s)) (sym chosen_is) now

        failed : may_pair p a r.bytes n.storage ≡ false → Leads j t number c n w false Nothing
        failed b =
            let d = done_if t number c n false in
            let lost : is_lost p a r.bytes n ≡ true = failed_lost p a r.bytes number n b q.stands in
            let excused : is_excused d ≡ true = ap (λ f. (f || d.overtaken) || d.busy) lost in
            let count : idle_after Nothing (is_excused d) j.idle ≡ 0 = ap (λ f. idle_after Nothing f j.idle) excused in
            let gives : d.gives ≡ Nothing = failed_told quiet (tags c.place) c d.bytes d.outcome refl here.tag y.role in
            let still : Still lib (tags c.place) p c n d = record { inside = refl; mem = refl; waiting = refl; holder = refl; output = refl; status = refl; gives = gives } in
            still_step (around piece t) (sound t) Inv j c n w d may (ap is_freeing here.tag ∙ stored_frees quiet) here.owner still (inl owner_next) (omega (arith, count))
            (Failed (waiting_still piece j (stage_after Nothing (is_excused d) j) t c n d refl refl still y) (reads_failed 1) next (omega (arith, count)) (at_same c.regs z.failed 1))

        go : (b : Bool) → may_pair p a r.bytes n.storage ≡ b → Leads j t number c n w b (told_of Stored (done_if t number c n b).bytes c (done_if t number c n b).outcome)
        go true b = wrote b
        go false b = failed b

    -- back where the pair store failed
    back_step : (j : Stage) (t : Inner) (c : Processor) (n : Noted) (w : W) → Waiting piece j t c n → Keeps z.holds c.regs t.regs → c.place ≡ start + many + 2 → j.idle ≤ 0 → c.regs z.failed ≡ 1 → Steppable l v x p j t c n w → Mine j t c n w
    back_step j t c n w y reads at idle f may =
        let here : Here x v quiet own c.place (z.branch, Silent) = subst (λ q. Here x v quiet own q (z.branch, Silent)) (sym at) has_branch in
        let e = k.effect_of z.branch c in
        let d = leaves x l v p e c n in
        let small = has.0.small in
        let moves = turned lib k.buffered (tags c.place) p c n e start (h.back c start at here.small f) (omega (arith, small)) in
        moving (around piece t) (sound t) Inv z.branch (go_to start c) j c n w here y.role may moves (inl has.0.owner) (omega (arith, idle, few))
        (λ gives moved.
        let grows = idle_grows (is_excused d) j.idle in
        let now = moved.processor in
        Linking (waiting_still piece j (stage_after Nothing (is_excused d) j) t c n d refl (ap (λ m. m.role) now) (moved_still lib (tags c.place) p e c (go_to start c) n d moved gives) y)
        (λ m is. ap (λ g. g.regs m) now ∙ reads m is) (ap (λ m. m.place) now) (omega (arith, grows, idle)))

    -- on where it wrote
    on_step : (j : Stage) (t : Inner) (c : Processor) (n : Noted) (w : W) → j.acted ≡ true → t.over ≡ true → c.place ≡ start + many + 2 → j.idle ≤ 0 → c.regs z.failed ≡ 0 → Alone keeps frames p c n t → Steppable l v x p j t c n w → Mine j t c n w
    on_step j t c n w acted over at idle f m may =
        let here : Here x v quiet own c.place (z.branch, Silent) = subst (λ q. Here x v quiet own q (z.branch, Silent)) (sym at) has_branch in
        let e = k.effect_of z.branch c in
        let d = leaves x l v p e c n in
        let moves = turned lib k.buffered (tags c.place) p c n e (c.place + 1) (h.on c here.small f) here.small in
        let begins = begins_behind piece t over in
        let there : c.place + 1 ≡ l.begins t = omega (arith, at, begins) in
        moving (around piece t) (sound t) Inv z.branch (go_to (c.place + 1) c) j c n w here m.role may moves (inr (acted, there)) (omega (arith, idle, few))
        (λ gives moved.
        let now = moved.processor in
        Passed acted (ap (λ g. g.place) now ∙ there)
        (record {
          regs = λ q is. ap (λ g. g.regs q) now ∙ m.regs q is;
          role = ap (λ g. g.role) now ∙ m.role;
          frame = still_spells lib (tags c.place) p c n d (frames p) (moved_still lib (tags c.place) p e c (go_to (c.place + 1) c) n d moved gives) m.frame;
        }))

    own_step : (j : Stage) (t : Inner) (c : Processor) (n : Noted) (w : W) → Inv j t c n → Steppable l v x p j t c n w → Mine j t c n w
    own_step j t c n w (Linking y reads at idle) may = link_step j t c n w y reads at idle may
    own_step j t c n w (Computing number [] y q a idle) may = pair_step j t c n w number y q a idle may
    own_step j t c n w (Computing number (i ∷ is) y q a idle) may = compute_step j t c n w number i is y q a idle may
    own_step j t c n w (Failed y reads at idle f) may = back_step j t c n w y reads at idle f may
    own_step j t c n w (Made acted over at idle f m) may = on_step j t c n w acted over at idle f m may
    own_step j t c n w (Passed acted at m) may = absurd (may.inner acted at)

    holds : Holds x l v p Inv
    holds = record { through = through; own = own_step; drains = λ j t c n on i. absurd (false≢true (sym h.unbuffered ∙ on)); others = others }

    entered : (t : Inner) (c : Processor) (n : Noted) → l.number t ≡ own → c.place ≡ l.begins t → Alone keeps frames p c n t → (hs : List Happening) → InStep l v x p hs stage_start t c n
    entered t c n is at m hs =
        let over = not_over own t.over is in
        in_step x l v p Inv holds hs stage_start t c n
        (Linking (record { acted = refl; over = over; role = m.role; frame = m.frame }) (λ q e. m.regs q (h.kept q e).0) (at ∙ begins_before piece t over) (omega arith))

  pub retry_expands : Expands k world (retry_most z) keeps (retry_size z) (λ start. retry_code z) o
  retry_expands =
      record {
        length_is = λ start. (let e = silent_size z.computation (z.pair, Stored) (z.branch, Silent) in omega (arith, e));
        some = omega arith;
        follows = λ code tags lib u quiet own start frames words few has. record { follows = λ p t c n is runs at m hs. entered code tags lib u quiet own start frames words few has p t c n is at m hs };
      }
