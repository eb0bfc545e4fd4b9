-- An exchange by a linked load and a pair store meets the contract of an expansion: one event, and each pair store that fails is excused.
use Rattle.std.proofs.Common.{◌≡◌, ℕ, zero, suc, ◌+◌, ◌*◌, ◌%◌, ◌^◌, ◌<◌, ◌≤◌, Bool, true, false, List, [], ◌∷◌, ◌++◌, length, Option, Some, None, refl, sym, ap, ◌∙◌, subst, inl, inr, ⊎_elim, arith}
use Rattle.std.specs.Prelude.{if◌then◌else◌, ◌≢◌, ◌⊎◌, ◌||◌, nat_eq, slice_get}
use Rattle.std.proofs.lemmas.Bool.{eq-eqb, eqb-true, false≢true}
use Rattle.ax_store.specs.Bytes.{number_at}
use Rattle.ax_store.specs.Storage.{entry_of, may_pair}
use Rattle.ax_store.proofs.ReservationLemmas.{may_stands}
use Rattle.ax_tags.specs.declared.tags.Role.TheVariants.{None as Outside}
use Rattle.ax_tags.specs.declared.tags.Tag.{Tag}
use Rattle.ax_tags.specs.declared.tags.Tag.TheVariants.{Silent, Linked, Stored, StoredOrMiss}
use Rattle.ax_isa.specs.declared.effects.Effect.{Effect}
use Rattle.ax_isa.specs.declared.effects.Effect.TheVariants.{Link, PairStore}
use Rattle.ax_isa.specs.declared.effects.Outcome.{Outcome}
use Rattle.ax_isa.specs.Past.{Noted}
use Rattle.ax_isa.specs.Processor.{Processor}
use Rattle.ax_isa.specs.Steps.{Kind, extended, go_with, paired}
use Rattle.ax_isa.specs.Tells.{Nothing, An_act, A_look, A_miss, Given, Library, Done, holder_after, is_excused, is_freeing, look_if, masked_by, told, told_of}
use Rattle.ax_isa.specs.Run.{Setting, idle_after, step}
use Rattle.ax_isa.proofs.Functions.{at_same, at_other}
use Rattle.ax_follow.specs.Contract.{ByOthers, ByOwn, Did, Happening, InStep, Meaning, OwnStep, Possible, Reading, Stage, Steppable, Steps, Through, done_after, outcome_of, stage_after, stage_start}
use Rattle.ax_follow.proofs.Follow.{Holds, fetch, idle_grows, in_step, leaves}
use Rattle.ax_expand.specs.Continues.{IsContext}
use Rattle.ax_expand.specs.Expands.{Expands, reading_of}
use Rattle.ax_expand.specs.OneInstruction.{Happens}
use Rattle.ax_expand.specs.Operation.{Alone, Deed, Inner, Operation, did_of, hushed}
use Rattle.ax_expand.specs.Private.{Spells}
use Rattle.ax_expand.specs.Standing.{HasAt, Here, hush, setting_by, silently}
use Rattle.ax_expand.specs.World.{Lawful, Words, World}
use Rattle.ax_expand.proofs.Sights.{put_fair}
use Rattle.ax_expand.proofs.Single.{not_over}
use Rattle.ax_expand.proofs.Straight.{silent_length}
use Rattle.ax_expand.proofs.Telling.{told_hushed}
use Rattle.ax_expand.proofs.Views.{spells_others, spells_write}
use Rattle.ax_loops.specs.Exchanging.{Exchange, Gives, Stores}
use Rattle.ax_loops.specs.PairExchange.{AtPair, Exchanges, Fails, HasLinked, IsBack, IsThrough, PairExchange, exchange_code, exchange_size, pair_mark}
use Rattle.ax_loops.specs.Replacing.{Wrote}
use Rattle.ax_loops.specs.Ways.{Laid, Onward, Way}
use Rattle.ax_loops.proofs.Reserved.{Reserved, failed_lost, reserved, reserved_others, reserved_own}
use Rattle.ax_loops.proofs.Retry.{access_by}
use Rattle.ax_loops.proofs.Alone.{Piece, Waiting, around, begins_before, begins_behind, fits_before, is_around, meaning_of, number_before, waiting_others, waiting_still}
use Rattle.ax_loops.proofs.Still.{Still, Unwritten, moved_still, moving, still_spells, still_step, unwritten_alike, unwritten_spells}
use Rattle.ax_loops.proofs.Ways.{Ground, here_at, onward_here, onward_moves, way_stays, in_code}

pub exchange_length : {I : Type 0} (is js : List I) (i j : I × Tag) → length (i ∷ (silently is ++ j ∷ silently js)) ≡ length is + length js + 2
exchange_length [] js i j = (let e = silent_length js in omega (arith, e))
exchange_length (a ∷ is) js i j = (let e = exchange_length is js i j in omega (arith, e))

-- the pair store stands behind what stands between
pub pair_at : {I : Type 0} (is : List I) (js : List (I × Tag)) (j : I × Tag) → slice_get (silently is ++ j ∷ js) (length is) ≡ Some j
pair_at [] js j = refl
pair_at (a ∷ is) js j = pair_at is js j

-- a mark that frees no lock
mark_frees : (quiet : Bool) (mark tag : Tag) → is_freeing mark ≡ false → tag ≡ hush quiet mark → is_freeing tag ≡ false
mark_frees true mark tag frees is = ap is_freeing is
mark_frees false mark tag frees is = ap is_freeing is ∙ frees

pair_frees : (weak : Bool) → is_freeing (pair_mark weak) ≡ false
pair_frees true = refl
pair_frees false = refl

-- what the mark of a pair store tells
pair_wrote : (weak : Bool) (bytes : ℕ) (c : Processor) (o : Outcome) → o.stored ≡ Some true → told_of (pair_mark weak) bytes c o ≡ An_act
pair_wrote true bytes c o e = ap (λ s. told_of StoredOrMiss bytes c (record { stored = s; loaded = o.loaded; output = o.output })) e
pair_wrote false bytes c o e = ap (λ s. told_of Stored bytes c (record { stored = s; loaded = o.loaded; output = o.output })) e

hushed_nothing : (quiet : Bool) → hushed quiet Nothing ≡ Nothing
hushed_nothing true = refl
hushed_nothing false = refl

look_grows : (excused : Bool) (n : ℕ) → idle_after A_look excused n ≤ n + 1
look_grows true n = omega arith
look_grows false n = omega arith

module _ {I W : Type 0} (k : Kind I) (world : World W) (laws : Lawful world) (keeps : ℕ → Bool) (o : Operation W) (r : Exchange W) (z : PairExchange I) (h : Exchanges k keeps o r z world) where
  module _ (code : List I) (tags : ℕ → Tag) (lib : Library) (u : Reading) (quiet : Bool) (own start : ℕ) (frames : ℕ → ℕ → ℕ) (words : Words lib) (few : z.most ≤ u.most) (has : HasAt (setting_by k code tags lib) (reading_of u) quiet own start (exchange_code z)) (p : ℕ) where
    abbrev x : Setting I
    x = setting_by k code tags lib

    abbrev v : Reading
    v = reading_of u

    abbrev end : ℕ
    end = start + exchange_size z

    abbrev piece : Piece I W
    piece = record { setting = x; world = world; operation = o; keeps = keeps; quiet = quiet; frames = frames; start = start; end = end; number = own; reading = u; processor = p }

    abbrev l : Meaning Inner W
    l = meaning_of piece

    sound : (t : Inner) → IsContext (around piece t)
    sound t = is_around piece laws words t

    abbrev all : Laid I
    all = record { kind = k; code = exchange_code z; start = start }

    abbrev ground : Ground I
    ground = record { setting = x; reading = v; quiet = quiet; number = own; processor = p }

    abbrev many : ℕ
    many = length z.between

    has_pair : Here x v quiet own (start + (many + 1)) (z.pair, pair_mark z.weak)
    has_pair =
        subst (λ q. Here x v quiet own q (z.pair, pair_mark z.weak)) (let e : start + 1 + many ≡ start + (many + 1) = omega arith in e)
        (here_at x v quiet own (start + 1) (silently z.between ++ (z.pair, pair_mark z.weak) ∷ silently z.behind) many (z.pair, pair_mark z.weak) has.1 (pair_at z.between (silently z.behind) (z.pair, pair_mark z.weak)))

    -- behind the linked load stands more of it
    first_owner : (is : List I) (place : ℕ) (j : I × Tag) (js : List (I × Tag)) → HasAt x v quiet own place (silently is ++ j ∷ js) → v.owner place ≡ own
    first_owner [] place j js q = q.0.owner
    first_owner (i ∷ is) place j js q = q.0.owner

    behind_link : v.owner (start + 1) ≡ own
    behind_link = first_owner z.between (start + 1) (z.pair, pair_mark z.weak) (silently z.behind) has.1

    -- the end of the code is a place
    room_at : (is : List (I × Tag)) (place : ℕ) → HasAt x v quiet own place is → place < 2 ^ 32 → place + length is < 2 ^ 32
    room_at [] place q small = omega (arith, small)
    room_at (i ∷ is) place q small = (let here = q.0.small in let e = room_at is (place + 1) q.1 here in omega (arith, e))

    room : end < 2 ^ 32
    room = (let here = has.0.small in let e = room_at (exchange_code z) start has (let f : start < 2 ^ 32 = omega (arith, here) in f) in let f = exchange_length z.between z.behind (z.link, Linked z.weak z.expected z.mask) (z.pair, pair_mark z.weak) in omega (arith, e, f))

    abbrev Where : Bool → Processor → Type 0
    Where acted b = (b.place < 2 ^ 32) × ((v.owner b.place ≡ own) ⊎ ((acted ≡ true) × (b.place ≡ end)))

    where_through : (after : ℕ → ℕ) (b : Processor) → IsThrough k keeps o r z start after b → Where true b
    where_through after b q = (subst (λ m. m < 2 ^ 32) (sym q.place) room, inr (refl, q.place))

    where_back : (acted : Bool) (regs : ℕ → ℕ) (b : Processor) → IsBack k keeps o r z start regs b → Where acted b
    where_back acted regs b q = (subst (λ m. m < 2 ^ 32) (sym q.place) (let here = has.0.small in let e : start < 2 ^ 32 = omega (arith, here) in e), inl (ap v.owner q.place ∙ has.0.owner))

    where_pair : (acted : Bool) (regs : ℕ → ℕ) (number : ℕ) (b : Processor) → AtPair k keeps o r z start regs number b → Where acted b
    where_pair acted regs number b q = (subst (λ m. m < 2 ^ 32) (sym q.place) (let here = has_pair.small in let e : start + (many + 1) < 2 ^ 32 = omega (arith, here) in e), inl (ap v.owner q.place ∙ has_pair.owner))

    abbrev Out : (ℕ → ℕ) → ℕ → Processor → Type 0
    Out after steps c = Way all (λ b. IsThrough k keeps o r z start after b) steps c

    abbrev Back : (ℕ → ℕ) → ℕ → Processor → Type 0
    Back regs steps c = Way all (λ b. IsBack k keeps o r z start regs b) steps c

    abbrev Forth : (ℕ → ℕ) → ℕ → ℕ → Processor → Type 0
    Forth regs number steps c = Way all (λ b. AtPair k keeps o r z start regs number b) steps c

    out_stays : (after : ℕ → ℕ) (steps : ℕ) (c : Processor) → Out after steps c → Where true c
    out_stays after steps c q = way_stays all ground has (λ b. IsThrough k keeps o r z start after b) true end (where_through after) steps c q

    back_stays : (acted : Bool) (regs : ℕ → ℕ) (steps : ℕ) (c : Processor) → Back regs steps c → Where acted c
    back_stays acted regs steps c q = way_stays all ground has (λ b. IsBack k keeps o r z start regs b) acted end (where_back acted regs) steps c q

    forth_stays : (acted : Bool) (regs : ℕ → ℕ) (number steps : ℕ) (c : Processor) → Forth regs number steps c → Where acted c
    forth_stays acted regs number steps c q = way_stays all ground has (λ b. AtPair k keeps o r z start regs number b) acted end (where_pair acted regs number) steps c q

    -- a word of this number was linked, in which the object has the expected one
    record Found (t : Inner) (number : ℕ) (n : Noted) : Type 0 where
      pub aligned : r.address t.regs % r.bytes ≡ 0
      pub stands : Reserved p (r.address t.regs) r.bytes number n
      pub same : r.part t.regs number ≡ r.expected t.regs
      pub seen : z.weak ≡ true → t.seen ≡ Some (r.expected t.regs)

    data Inv : Stage → Inner → Processor → Noted → Type 0 where
      Linking : {j : Stage} {t : Inner} {c : Processor} {n : Noted} → Waiting piece j t c n → IsBack k keeps o r z start t.regs c → j.idle ≤ z.back → Inv j t c n
      Pairing : {j : Stage} {t : Inner} {c : Processor} {n : Noted} (number steps : ℕ) → Waiting piece j t c n → Found t number n → Forth t.regs number steps c → j.idle + steps ≤ z.most → Inv j t c n
      Returning : {j : Stage} {t : Inner} {c : Processor} {n : Noted} (steps : ℕ) → Waiting piece j t c n → Back t.regs steps c → j.idle + steps ≤ z.back → Inv j t c n
      Leaving : {j : Stage} {t : Inner} {c : Processor} {n : Noted} (steps : ℕ) → j.acted ≡ true → t.over ≡ true → c.role ≡ Outside → Spells p n (frames p) → Out t.regs steps c → j.idle + steps ≤ z.most → Inv j t c n

    leaving_through : (j : Stage) (t : Inner) (c : Processor) (n : Noted) (steps : ℕ) → t.over ≡ true → c.role ≡ Outside → Spells p n (frames p) → Out t.regs steps c → c.place ≡ l.begins t → Alone keeps frames p c n t
    leaving_through j t c n zero over role spells q there = record { regs = q.gives; role = role; frame = spells }
    leaving_through j t c n (suc steps) over role spells q there =
        absurd (let at = q.place in let inside = in_code (exchange_code z) q.offset (q.instr, Silent) q.stands in let ends = begins_behind piece t over in let size = exchange_length z.between z.behind (z.link, Linked z.weak z.expected z.mask) (z.pair, pair_mark z.weak) in omega (arith, at, inside, ends, there, size))

    through : (j : Stage) (t : Inner) (c : Processor) (n : Noted) → Inv j t c n → Through l v x p j t c n
    through j t c n (Linking y b idle) acted there = absurd (false≢true (sym y.acted ∙ acted))
    through j t c n (Pairing number steps y f q idle) acted there = absurd (false≢true (sym y.acted ∙ acted))
    through j t c n (Returning steps y q idle) acted there = absurd (false≢true (sym y.acted ∙ acted))
    through j t c n (Leaving steps a over role spells q idle) acted there = leaving_through j t c n steps over role spells q there

    others : (j : Stage) (t : Inner) (c : Processor) (n new : Noted) → ByOthers p n new → Inv j t c n → Inv j t c new
    others j t c n new b (Linking y q idle) = Linking (waiting_others piece j t c n new b y) q idle
    others j t c n new b (Pairing number steps y f q idle) =
        Pairing number steps (waiting_others piece j t c n new b y) (record { aligned = f.aligned; stands = reserved_others p (r.address t.regs) r.bytes number n new h.exchange.width f.aligned b f.stands; same = f.same; seen = f.seen }) q idle
    others j t c n new b (Returning steps y q idle) = Returning steps (waiting_others piece j t c n new b y) q idle
    others j t c n new b (Leaving steps a over role spells q idle) = Leaving steps a over role (spells_others p n new (frames p) b spells) q idle

    abbrev Mine : Stage → Inner → Processor → Noted → W → Type 0
    Mine j t c n w = Steps l v x Inv p j t c n w (step x p c n)

    -- a processor above after an event
    abbrev above : Given → Deed W → Inner
    above g a = record { regs = a.regs; seen = a.seen; over = done_after g false }

    abbrev did : Given → Deed W → Did Inner W
    did g a = record { processor = above g a; world = a.world; output = a.output; gives = hushed quiet g; excused = a.excused }

    -- a step that has an event
    record Event (g : Given) (j : Stage) (t : Inner) (c : Processor) (n : Noted) (d : Done) (a : Deed W) : Type 0 where
      pub before : Waiting piece j t c n
      pub owner : v.owner c.place ≡ own
      pub stays : (v.owner d.processor.place ≡ own) ⊎ ((done_after g j.acted ≡ true) × (d.processor.place ≡ l.begins (above g a)))
      pub shows : world.sees d.noted a.world
      pub touches : ByOwn p n d.noted
      pub tells : d.gives ≡ hushed quiet g
      pub missed : g ≡ A_miss → d.lost ≡ true
      pub excused : a.excused ≡ false
      pub rare : idle_after g (is_excused d) j.idle ≤ v.most
      pub output : d.outcome.output ≡ None
      pub none : a.output ≡ None
      pub status : d.processor.status ≡ c.status
      pub next : Inv (stage_after g (is_excused d) j) (above g a) d.processor d.noted

    event_step : (g : Given) (j : Stage) (t : Inner) (c : Processor) (n : Noted) (w : W) (d : Done) (a : Deed W) → Steppable l v x p j t c n w → Event g j t c n d a → OwnStep l v Inv p j t c n d g (did g a)
    event_step g j t c n w d a may q =
        record {
          once = λ e. q.before.acted;
          owned = λ e. q.owner ∙ sym (number_before piece t q.before.over);
          stays = ⊎_elim (λ e. inl (e ∙ sym q.owner)) (λ e. inr e) q.stays;
          shows = q.shows;
          touches = q.touches;
          tells = q.tells;
          missed = q.missed;
          excused = λ e f. absurd (false≢true (sym q.excused ∙ f));
          few = q.rare;
          output = q.output ∙ sym q.none;
          status = q.status ∙ may.running;
          goes = λ run. q.next;
        }

    -- what the operation does there
    deeds : (g : Given) (j : Stage) (t : Inner) (c : Processor) (n : Noted) (w : W) (d : Done) (Q : Deed W → Type 0) (a : Option (Deed W)) → Steppable l v x p j t c n w → ((b : Deed W) → Q b → Event g j t c n d b) → Happens a Q
        → Possible (did_of quiet g a) (λ s. OwnStep l v Inv p j t c n d g s)
    deeds g j t c n w d Q None may f q = q
    deeds g j t c n w d Q (Some a) may f q = event_step g j t c n w d a may (f a q)

    unless_over : (b : Bool) (a : Option (Did Inner W)) (Q : Did Inner W → Type 0) → b ≡ false → Possible a Q → Possible (if b then None else a) Q
    unless_over true a Q e q = absurd (false≢true (sym e))
    unless_over false a Q e q = q

    -- the sights of a step that writes nothing
    same_shows : (place : ℕ) (n new : Noted) (w : W) → is_freeing (tags place) ≡ false → Unwritten lib (tags place) p n new → world.sees n w → world.sees new w
    same_shows place n new w frees q sees = laws.alike n new w (unwritten_alike lib (tags place) p n new words frees q) sees

    -- one instruction of a way
    way_step : {Then : Processor → Type 0} (j : Stage) (t : Inner) (c : Processor) (n : Noted) (w : W) (q : Onward all c Then) → Where j.acted q.after → c.role ≡ Outside → (j.acted ≡ true → t.over ≡ true) → j.idle + 1 ≤ z.most → Steppable l v x p j t c n w
        → (let d = leaves x l v p (k.effect_of q.instr c) c n in
        (d.processor ≡ q.after → d.processor.role ≡ c.role → d.noted.storage ≡ n.storage → d.noted.past.last ≡ n.past.last → d.noted.past.lost ≡ n.past.lost → Still lib (tags c.place) p c n d → Inv (stage_after Nothing (is_excused d) j) t d.processor d.noted)) → Mine j t c n w
    way_step j t c n w q there role over idle may next =
        let e = k.effect_of q.instr c in
        let d = leaves x l v p e c n in
        moving (around piece t) (sound t) Inv q.instr q.after j c n w (onward_here all ground has c q) role may (onward_moves all ground has c n q there.0)
        (⊎_elim (λ f. inl f) (λ f. inr (f.0, f.1 ∙ sym (begins_behind piece t (over f.0)))) there.1) (omega (arith, idle, few))
        (λ gives moved. next moved.processor (ap (λ m. m.role) moved.processor ∙ moved.role) moved.storage moved.last moved.lost (moved_still lib (tags c.place) p e c q.after n d moved gives))

    forth_step : (j : Stage) (t : Inner) (c : Processor) (n : Noted) (w : W) (number steps : ℕ) → Waiting piece j t c n → Found t number n → Forth t.regs number (suc steps) c → j.idle + suc steps ≤ z.most → Steppable l v x p j t c n w → Mine j t c n w
    forth_step j t c n w number steps y f q idle may =
        way_step j t c n w q (forth_stays j.acted t.regs number steps q.after q.next) y.role (λ a. absurd (false≢true (sym y.acted ∙ a))) (omega (arith, idle)) may
        (λ now role storage last lost still.
        let d = leaves x l v p (k.effect_of q.instr c) c n in
        let grows = idle_grows (is_excused d) j.idle in
        Pairing number steps (waiting_still piece j (stage_after Nothing (is_excused d) j) t c n d refl role still y)
        (record { aligned = f.aligned; stands = reserved_own p (r.address t.regs) r.bytes number n d.noted storage last lost f.stands; same = f.same; seen = f.seen })
        (subst (λ b. Forth t.regs number steps b) (sym now) q.next) (omega (arith, grows, idle)))

    back_step : (j : Stage) (t : Inner) (c : Processor) (n : Noted) (w : W) (steps : ℕ) → Waiting piece j t c n → Back t.regs (suc steps) c → j.idle + suc steps ≤ z.back → Steppable l v x p j t c n w → Mine j t c n w
    back_step j t c n w steps y q idle may =
        let less = h.few in
        way_step j t c n w q (back_stays j.acted t.regs steps q.after q.next) y.role (λ a. absurd (false≢true (sym y.acted ∙ a))) (omega (arith, idle, less)) may
        (λ now role storage last lost still.
        let d = leaves x l v p (k.effect_of q.instr c) c n in
        let grows = idle_grows (is_excused d) j.idle in
        Returning steps (waiting_still piece j (stage_after Nothing (is_excused d) j) t c n d refl role still y) (subst (λ b. Back t.regs steps b) (sym now) q.next) (omega (arith, grows, idle)))

    out_step : (j : Stage) (t : Inner) (c : Processor) (n : Noted) (w : W) (steps : ℕ) → j.acted ≡ true → t.over ≡ true → c.role ≡ Outside → Spells p n (frames p) → Out t.regs (suc steps) c → j.idle + suc steps ≤ z.most → Steppable l v x p j t c n w → Mine j t c n w
    out_step j t c n w steps acted over role spells q idle may =
        way_step j t c n w q (subst (λ b. Where b q.after) (sym acted) (out_stays t.regs steps q.after q.next)) role (λ a. over) (omega (arith, idle)) may
        (λ now same storage last lost still.
        let d = leaves x l v p (k.effect_of q.instr c) c n in
        let grows = idle_grows (is_excused d) j.idle in
        Leaving steps acted over (same ∙ role) (still_spells lib (tags c.place) p c n d (frames p) still spells) (subst (λ b. Out t.regs steps b) (sym now) q.next) (omega (arith, grows, idle)))

    -- the linked load
    module _ (j : Stage) (t : Inner) (c : Processor) (n : Noted) (w : W) (y : Waiting piece j t c n) (b : IsBack k keeps o r z start t.regs c) (idle : j.idle ≤ z.back) (may : Steppable l v x p j t c n w) where
      abbrev a : ℕ
      a = r.address t.regs

      abbrev number : ℕ
      number = number_at n.storage.mem a r.bytes

      abbrev link : Effect
      link = Link z.old a r.bytes z.rest

      abbrev d : Done
      d = leaves x l v p link c n

      abbrev mark : Tag
      mark = Linked z.weak z.expected z.mask

      -- the object in it, and what is expected of it
      abbrev part : ℕ
      part = r.part t.regs number

      abbrev expected : ℕ
      expected = r.expected t.regs

      fit : o.fits t.regs w
      fit = fits_before piece t w y.over may.fits

      here : Here x v quiet own c.place (z.link, mark)
      here = subst (λ q. Here x v quiet own q (z.link, mark)) (sym b.place) has.0

      link_found : number ≡ r.finds t.regs w
      link_found = h.exchange.found n t.regs w may.sees fit

      small : number < 2 ^ (8 * r.bytes)
      small = subst (λ q. q < 2 ^ (8 * r.bytes)) (sym link_found) (h.exchange.small t.regs w fit)

      linked : HasLinked k keeps o r z start t.regs number d.processor
      linked =
          record {
            room = room;
            place = ap (λ q. q + 1) b.place;
            holds = λ q is. at_other c.regs z.old (extended r.bytes z.rest (c.regs z.old) number) q (h.kept q is).1 ∙ b.holds q is;
            old = at_same c.regs z.old (extended r.bytes z.rest (c.regs z.old) number) ∙ h.fills (c.regs z.old) number;
            small = small;
          }

      frees : is_freeing (tags c.place) ≡ false
      frees = mark_frees quiet mark (tags c.place) refl here.tag

      unwritten : Unwritten lib (tags c.place) p n d.noted
      unwritten = record { inside = refl; mem = refl; waiting = refl; holder = refl }

      link_spells : Spells p d.noted (frames p)
      link_spells = unwritten_spells lib (tags c.place) p n d.noted (frames p) unwritten y.frame

      touches : ByOwn p n d.noted
      touches = record { fair = may.fair; others = λ m no. refl }

      tells_is : (g : Given) → told_of mark d.bytes c d.outcome ≡ g → d.gives ≡ hushed quiet g
      tells_is g e = told_hushed quiet mark (tags c.place) c d.bytes d.outcome here.tag y.role ∙ ap (hushed quiet) e

      -- the two numbers that its mark compares
      abbrev test : Bool
      test = nat_eq (masked_by z.mask r.bytes c number) (masked_by z.mask r.bytes c (c.regs z.expected))

      test_is : test ≡ nat_eq part expected
      test_is = h.compares c t.regs number w fit b.holds small

      apart : test ≡ false → part ≢ expected
      apart e same = false≢true (sym e ∙ test_is ∙ eq-eqb part expected same)

      equal : test ≡ true → part ≡ expected
      equal e = eqb-true part expected (sym test_is ∙ e)

      part_found : part ≡ r.part t.regs (r.finds t.regs w)
      part_found = ap (r.part t.regs) link_found

      abbrev Made : Given → Type 0
      Made g = Possible (outcome_of l g p t w) (λ s. OwnStep l v Inv p j t c n d g s)

      differing : test ≡ false → Made An_act
      differing e =
          let Q : Deed W → Type 0 = λ s. Gives s (r.gives t.regs (r.part t.regs (r.finds t.regs w)) false) × world.sees n s.world in
          let way = h.differs start d.processor t.regs number w fit linked (apart e) in
          let there = out_stays (r.gives t.regs part false) way.steps d.processor way.way in
          let less = way.few in
          unless_over t.over (did_of quiet An_act (o.happens An_act p t.regs t.seen w)) (λ s. OwnStep l v Inv p j t c n d An_act s) y.over
          (deeds An_act j t c n w d Q (o.happens An_act p t.regs t.seen w) may
          (λ s q. record {
            before = y;
            owner = here.owner;
            stays = there.1;
            shows = same_shows c.place n d.noted s.world frees unwritten q.1;
            touches = touches;
            tells = tells_is An_act (ap (λ m. if m then look_if z.weak else An_act) e);
            missed = λ f. absurd (let f' : An_act ≡ A_miss = f in cc);
            excused = q.0.excused;
            rare = omega arith;
            output = refl;
            none = q.0.output;
            status = refl;
            next = Leaving way.steps refl refl y.role link_spells (subst (λ m. Out m way.steps d.processor) (ap (λ m. r.gives t.regs m false) part_found ∙ sym q.0.regs) way.way) (omega (arith, less));
          })
          (h.exchange.differs p n t.regs t.seen w may.sees (may.flat h.unbuffered) fit (λ same. apart e (part_found ∙ same))))

      owner_next : v.owner d.processor.place ≡ own
      owner_next = ap v.owner (ap (λ q. q + 1) b.place) ∙ behind_link

      -- from there to the pair store
      abbrev Rests : Stage → Inner → Type 0
      Rests i s = Inv i s d.processor d.noted

      heads : (i : Stage) (s : Inner) → i.acted ≡ false → s.over ≡ false → s.regs ≡ t.regs → (z.weak ≡ true → s.seen ≡ Some expected) → i.idle ≤ j.idle + 1 → test ≡ true → Rests i s
      heads i s acted over regs seen grows e =
          let to = h.equals start d.processor t.regs number w fit linked (equal e) in
          let less = to.few in
          let more = to.leads.few in
          Pairing number to.leads.steps (record { acted = acted; over = over; role = y.role; frame = link_spells })
          (record {
            aligned = ap (λ f. r.address f % r.bytes) regs ∙ h.exchange.aligned t.regs w fit;
            stands = subst (λ f. Reserved p (r.address f) r.bytes number d.noted) (sym regs)
                (record {
                  stays = λ stands. refl;
                  last = at_same n.past.last p (Some (reserved a r.bytes));
                  alive = inl (at_same n.storage.linked p (Some (reserved a r.bytes)));
                });
            same = ap (λ f. r.part f number) regs ∙ equal e ∙ ap r.expected (sym regs);
            seen = λ f. seen f ∙ ap (λ m. Some (r.expected m)) (sym regs);
          })
          (subst (λ m. Forth m number to.leads.steps d.processor) (sym regs) to.leads.way) (omega (arith, grows, idle, less, more))

      to_few : test ≡ true → j.idle + 1 ≤ z.most
      to_few e = (let less = h.few in omega (arith, idle, less))

      looking : z.weak ≡ true → test ≡ true → Made A_look
      looking weak e =
          let Q : Deed W → Type 0 = λ s. (s.seen ≡ Some (r.part t.regs (r.finds t.regs w))) × (Gives s t.regs × world.sees n s.world) in
          let grows : idle_after A_look (is_excused d) j.idle ≤ j.idle + 1 = look_grows (is_excused d) j.idle in
          let less = to_few e in
          unless_over t.over (did_of quiet A_look (o.happens A_look p t.regs t.seen w)) (λ s. OwnStep l v Inv p j t c n d A_look s) y.over
          (deeds A_look j t c n w d Q (o.happens A_look p t.regs t.seen w) may
          (λ s q. record {
            before = y;
            owner = here.owner;
            stays = inl owner_next;
            shows = same_shows c.place n d.noted s.world frees unwritten q.1.1;
            touches = touches;
            tells = tells_is A_look (ap (λ m. if m then look_if z.weak else An_act) e ∙ ap look_if weak);
            missed = λ f. absurd (let f' : A_look ≡ A_miss = f in cc);
            excused = q.1.0.excused;
            rare = omega (arith, grows, less, few);
            output = refl;
            none = q.1.0.output;
            status = refl;
            next = heads (stage_after A_look (is_excused d) j) (above A_look s) y.acted refl q.1.0.regs (λ f. q.0 ∙ ap Some (sym part_found ∙ equal e)) grows e;
          })
          (h.exchange.looks weak p n t.regs t.seen w may.sees fit))

      going : z.weak ≡ false → test ≡ true → Made Nothing
      going weak e =
          let gives : d.gives ≡ Nothing = tells_is Nothing (ap (λ m. if m then look_if z.weak else An_act) e ∙ ap look_if weak) ∙ hushed_nothing quiet in
          let still : Still lib (tags c.place) p c n d = record { inside = refl; mem = refl; waiting = refl; holder = refl; output = refl; status = refl; gives = gives } in
          let grows = idle_grows (is_excused d) j.idle in
          let less = to_few e in
          still_step (around piece t) (sound t) Inv j c n w d may frees here.owner still (inl owner_next) (omega (arith, grows, less, few))
          (heads (stage_after Nothing (is_excused d) j) t y.acted y.over refl (λ f. absurd (false≢true (sym weak ∙ f))) grows e)

      link_step : Mine j t c n w
      link_step =
          fetch x l v Inv p z.link mark link j t c n w here.code here.mark (h.links c t.regs w fit b.holds) (access_by a r.bytes (c.place + 1) n (h.exchange.aligned t.regs w fit) (h.exchange.inside n t.regs w may.sees fit) here.small)
          (go test z.weak refl refl)
        where
          go : (e weak : Bool) → test ≡ e → z.weak ≡ weak → Made (if e then look_if weak else An_act)
          go true true e weak = looking weak e
          go true false e weak = going weak e
          go false weak e f = differing e

    -- the pair store
    module _ (j : Stage) (t : Inner) (c : Processor) (n : Noted) (w : W) (number : ℕ) (y : Waiting piece j t c n) (f : Found t number n) (q : AtPair k keeps o r z start t.regs number c) (idle : j.idle + 0 ≤ z.most) (may : Steppable l v x p j t c n w) where
      abbrev spot : ℕ
      spot = r.address t.regs

      abbrev sought : ℕ
      sought = r.expected t.regs

      abbrev stored : ℕ
      stored = r.leaves t.regs number

      abbrev store : Effect
      store = PairStore z.failed spot r.bytes stored

      -- what it leaves where it writes, or doesn't
      abbrev done_if : Bool → Done
      done_if b = told lib (tags c.place) p store c n (paired b p z.failed spot r.bytes stored c n)

      abbrev Led : Bool → Given → Type 0
      Led b g = Possible (outcome_of l g p t w) (λ s. OwnStep l v Inv p j t c n (done_if b) g s)

      pair_fit : o.fits t.regs w
      pair_fit = fits_before piece t w y.over may.fits

      pair_here : Here x v quiet own c.place (z.pair, pair_mark z.weak)
      pair_here = subst (λ m. Here x v quiet own m (z.pair, pair_mark z.weak)) (sym q.place) has_pair

      pair_freed : is_freeing (tags c.place) ≡ false
      pair_freed = mark_frees quiet (pair_mark z.weak) (tags c.place) (pair_frees z.weak) pair_here.tag

      pair_tells : (b : Bool) (g : Given) → told_of (pair_mark z.weak) (done_if b).bytes c (done_if b).outcome ≡ g → (done_if b).gives ≡ hushed quiet g
      pair_tells b g e = told_hushed quiet (pair_mark z.weak) (tags c.place) c (done_if b).bytes (done_if b).outcome pair_here.tag y.role ∙ ap (hushed quiet) e

      wrote : may_pair p spot r.bytes n.storage ≡ true → Led true An_act
      wrote b =
          let d = done_if true in
          let entry = entry_of spot r.bytes stored in
          let finds : r.finds t.regs w ≡ number = sym (h.exchange.found n t.regs w may.sees pair_fit) ∙ f.stands.stays (may_stands p spot r.bytes n.storage b) in
          let below = h.exchange.below t.regs w pair_fit in
          let Q : Deed W → Type 0 = λ s. Gives s (r.gives t.regs sought true) × ((lib : Library) (new : Noted) → Wrote lib p entry n new → world.sees new s.world) in
          let written : Wrote lib p entry n d.noted = record { inside = refl; mem = refl; waiting = refl; holder = λ word. ap (λ m. holder_after lib p m n.storage.mem d.noted.storage.mem n.past.holder word) pair_freed } in
          let there = out_stays (r.gives t.regs sought true) q.done.steps d.processor q.done.way in
          let less = q.done.few in
          unless_over t.over (did_of quiet An_act (o.happens An_act p t.regs t.seen w)) (λ s. OwnStep l v Inv p j t c n d An_act s) y.over
          (deeds An_act j t c n w d Q (o.happens An_act p t.regs t.seen w) may
          (λ s m. record {
            before = y;
            owner = pair_here.owner;
            stays = there.1;
            shows = m.1 lib d.noted written;
            touches = record { fair = may.fair; others = put_fair p n.storage.inside spot r.bytes entry.value n.storage.mem below };
            tells = pair_tells true An_act (pair_wrote z.weak d.bytes c d.outcome refl);
            missed = λ e. absurd (let e' : An_act ≡ A_miss = e in cc);
            excused = m.0.excused;
            rare = omega arith;
            output = refl;
            none = m.0.output;
            status = refl;
            next = Leaving q.done.steps refl refl y.role (spells_write p entry n (frames p) below y.frame) (subst (λ g. Out g q.done.steps d.processor) (sym m.0.regs) q.done.way) (omega (arith, less));
          })
          (subst (λ m. Happens (o.happens An_act p t.regs t.seen w) (λ s. Stores world r n p t.regs m s)) finds (h.exchange.stores p n t.regs t.seen w may.sees (may.flat h.unbuffered) pair_fit (ap (r.part t.regs) finds ∙ f.same))))

      pair_unwritten : Unwritten lib (tags c.place) p n (done_if false).noted
      pair_unwritten = record { inside = refl; mem = refl; waiting = refl; holder = refl }

      lost_is : may_pair p spot r.bytes n.storage ≡ false → (done_if false).lost ≡ true
      lost_is b = failed_lost p spot r.bytes number n b f.stands

      excused_is : may_pair p spot r.bytes n.storage ≡ false → is_excused (done_if false) ≡ true
      excused_is b = ap (λ m. (m || (done_if false).overtaken) || (done_if false).busy) (lost_is b)

      missed : z.weak ≡ true → may_pair p spot r.bytes n.storage ≡ false → Led false A_miss
      missed weak b =
          let d = done_if false in
          let way = subst (λ m. Fails k keeps o r z m start t.regs (go_with z.failed 1 c)) weak q.fails in
          let there = out_stays (r.gives t.regs sought false) way.steps d.processor way.way in
          let less = way.few in
          let count : idle_after A_miss (is_excused d) j.idle ≡ 0 = ap (λ m. idle_after A_miss m j.idle) (excused_is b) in
          let Q : Deed W → Type 0 = λ s. Gives s (r.gives t.regs sought false) × world.sees n s.world in
          unless_over t.over (did_of quiet A_miss (o.happens A_miss p t.regs t.seen w)) (λ s. OwnStep l v Inv p j t c n d A_miss s) y.over
          (deeds A_miss j t c n w d Q (o.happens A_miss p t.regs t.seen w) may
          (λ s m. record {
            before = y;
            owner = pair_here.owner;
            stays = there.1;
            shows = same_shows c.place n d.noted s.world pair_freed pair_unwritten m.1;
            touches = record { fair = may.fair; others = λ i no. refl };
            tells = pair_tells false A_miss (ap (λ m. told_of (pair_mark m) d.bytes c d.outcome) weak);
            missed = λ e. lost_is b;
            excused = m.0.excused;
            rare = omega (arith, count);
            output = refl;
            none = m.0.output;
            status = refl;
            next = Leaving way.steps refl refl y.role (unwritten_spells lib (tags c.place) p n d.noted (frames p) pair_unwritten y.frame) (subst (λ g. Out g way.steps d.processor) (sym m.0.regs) way.way) (omega (arith, less, count));
          })
          (subst (λ m. Happens (o.happens A_miss p t.regs m w) Q) (sym (f.seen weak)) (h.exchange.misses weak p n t.regs w may.sees pair_fit)))

      returns : z.weak ≡ false → may_pair p spot r.bytes n.storage ≡ false → Led false Nothing
      returns weak b =
          let d = done_if false in
          let way = subst (λ m. Fails k keeps o r z m start t.regs (go_with z.failed 1 c)) weak q.fails in
          let there = back_stays j.acted t.regs way.steps d.processor way.way in
          let less = way.few in
          let count : idle_after Nothing (is_excused d) j.idle ≡ 0 = ap (λ m. idle_after Nothing m j.idle) (excused_is b) in
          let gives : d.gives ≡ Nothing = pair_tells false Nothing (ap (λ m. told_of (pair_mark m) d.bytes c d.outcome) weak) ∙ hushed_nothing quiet in
          let still : Still lib (tags c.place) p c n d = record { inside = refl; mem = refl; waiting = refl; holder = refl; output = refl; status = refl; gives = gives } in
          still_step (around piece t) (sound t) Inv j c n w d may pair_freed pair_here.owner still (⊎_elim (λ e. inl e) (λ e. absurd (false≢true (sym y.acted ∙ e.0))) there.1) (omega (arith, count))
          (Returning way.steps (waiting_still piece j (stage_after Nothing (is_excused d) j) t c n d refl refl still y) way.way (omega (arith, count, less)))

      pair_step : Mine j t c n w
      pair_step =
          fetch x l v Inv p z.pair (pair_mark z.weak) store j t c n w pair_here.code pair_here.mark (q.stores w pair_fit) (access_by spot r.bytes (c.place + 1) n f.aligned (h.exchange.inside n t.regs w may.sees pair_fit) pair_here.small) (go z.weak (may_pair p spot r.bytes n.storage) refl refl)
        where
          go : (weak b : Bool) → z.weak ≡ weak → may_pair p spot r.bytes n.storage ≡ b → Led b (told_of (pair_mark weak) (done_if b).bytes c (done_if b).outcome)
          go true true e b = wrote b
          go false true e b = wrote b
          go true false e b = missed e b
          go false false e b = returns e b

    own_step : (j : Stage) (t : Inner) (c : Processor) (n : Noted) (w : W) → Inv j t c n → Steppable l v x p j t c n w → Mine j t c n w
    own_step j t c n w (Linking y b idle) may = link_step j t c n w y b idle may
    own_step j t c n w (Pairing number zero y f q idle) may = pair_step j t c n w number y f q idle may
    own_step j t c n w (Pairing number (suc steps) y f q idle) may = forth_step j t c n w number steps y f q idle may
    own_step j t c n w (Returning zero y q idle) may = link_step j t c n w y q (omega (arith, idle)) may
    own_step j t c n w (Returning (suc steps) y q idle) may = back_step j t c n w steps y q idle may
    own_step j t c n w (Leaving zero acted over role spells q idle) may = absurd (may.inner acted (q.place ∙ sym (begins_behind piece t over)))
    own_step j t c n w (Leaving (suc steps) acted over role spells q idle) may = out_step j t c n w steps acted over role spells q idle may

    holds : Holds x l v p Inv
    holds = record { through = through; own = own_step; drains = λ j t c n on i. absurd (false≢true (sym h.unbuffered ∙ on)); others = others }

    entered : (t : Inner) (c : Processor) (n : Noted) → l.number t ≡ own → c.place ≡ l.begins t → Alone keeps frames p c n t → (hs : List Happening) → InStep l v x p hs stage_start t c n
    entered t c n is at m hs =
        let over = not_over own t.over is in
        in_step x l v p Inv holds hs stage_start t c n
        (Linking (record { acted = refl; over = over; role = m.role; frame = m.frame }) (record { place = at ∙ begins_before piece t over; holds = λ q e. m.regs q (h.kept q e).0 }) (omega arith))

  pub exchange_expands : Expands k world z.most keeps (exchange_size z) (λ start. exchange_code z) o
  exchange_expands =
      record {
        length_is = λ start. exchange_length z.between z.behind (z.link, Linked z.weak z.expected z.mask) (z.pair, pair_mark z.weak);
        some = omega arith;
        follows = λ code tags lib u quiet own start frames words few has. record { follows = λ p t c n is runs at m hs. entered code tags lib u quiet own start frames words few has p t c n is at m hs };
      }
