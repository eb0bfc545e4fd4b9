-- One access with straight code round it meets the contract of an expansion.
use Rattle.std.proofs.Common.{◌≡◌, ℕ, ◌+◌, ◌*◌, ◌%◌, ◌<◌, ◌≤◌, ◌^◌, Bool, true, false, List, [], ◌∷◌, ◌++◌, length, Option, Some, None, length-append, refl, sym, ap, ◌∙◌, subst, inl, inr, arith}
use Rattle.std.specs.Prelude.{◌&&◌, ◌⊎◌, if◌then◌else◌, nat_eq}
use Rattle.std.proofs.lemmas.Bool.{false≢true}
use Rattle.ax_store.specs.Bytes.{number_at}
use Rattle.ax_store.specs.Storage.{at_place}
use Rattle.ax_tags.specs.declared.tags.Role.TheVariants.{None as Outside}
use Rattle.ax_tags.specs.declared.tags.Tag.{Tag}
use Rattle.ax_tags.specs.declared.tags.Tag.TheVariants.{Act}
use Rattle.ax_isa.specs.declared.effects.Change.TheVariants.{Exchange, Update}
use Rattle.ax_isa.specs.declared.effects.Effect.{Effect}
use Rattle.ax_isa.specs.declared.effects.Effect.TheVariants.{Set, Compare, Load, Store, Locked, Fence, Link, LinkHalf, PairStore, Jump, CallTo, Return, Output, Trap, Nop}
use Rattle.ax_isa.specs.Past.{Noted}
use Rattle.ax_isa.specs.Processor.{Processor}
use Rattle.ax_isa.specs.Run.{Setting, at_code, flushes_at}
use Rattle.ax_isa.specs.Steps.{Kind, effected, exchanged, extended, flushes, go_with, is_flushing, possible, taken, with_half}
use Rattle.ax_isa.specs.Tells.{An_act, Done, Library, told}
use Rattle.ax_follow.specs.Contract.{Did, Happening, InStep, Meaning, Possible, Reading, Stage, Steppable, stage_start}
use Rattle.ax_follow.proofs.Follow.{leaves}
use Rattle.ax_expand.specs.Accesses.{HasObject, OneAccess, regs_by, shared_by, shared_load}
use Rattle.ax_expand.specs.Bytes.{bytes_world}
use Rattle.ax_expand.specs.Continues.{GoesOn, StaysAt}
use Rattle.ax_expand.specs.Expands.{reading_of}
use Rattle.ax_expand.specs.OneInstruction.{Does, Happens}
use Rattle.ax_expand.specs.Operation.{Alone, Deed, Inner, Keeps, Operation, did_of}
use Rattle.ax_expand.specs.Private.{Spells}
use Rattle.ax_expand.specs.Shared.{Sees, Shared, is_shared, masked, shared_only}
use Rattle.ax_expand.specs.Standing.{HasAt, Here, setting_by, silently}
use Rattle.ax_expand.specs.World.{Words}
use Rattle.ax_expand.proofs.Accesses.{one_access, shared_loaded}
use Rattle.ax_expand.proofs.Bytes.{bytes_lawful}
use Rattle.ax_expand.proofs.Sights.{object_number}
use Rattle.ax_expand.proofs.Single.{not_over}
use Rattle.ax_expand.proofs.Straight.{goes_place, has_first, has_rest, silent_length, straight}
use Rattle.ax_expand.proofs.Telling.{act_hushed}
use Rattle.ax_emit.proofs.Acts.{Leads, event}
use Rattle.ax_loops.proofs.Alone.{Piece, around, begins_before, fits_before, is_around, meaning_of, number_before}
use Rattle.ax_cas.specs.Rounds.{Accesses, Acted, IsBelowFrames, IsRound, Rounds, Straight, accessed, straight_code, straight_most, straight_size}
use Rattle.ax_cas.proofs.Ends.{ends, stays_behind, with_frame}

-- masking twice is masking once
masked_again : (f : ℕ → ℕ) → masked (masked f) ≡ masked f
masked_again f = λ d b. (at b (is_shared b)) d
  where
    at : (b : ℕ) (t : Bool) → (if t then (if t then f b else 0) else 0) ≡ (if t then f b else 0)
    at b true = refl
    at b false = refl

pub below_frames : (n : Noted) (w : Shared) → Sees n.storage w → IsBelowFrames w
below_frames n w h = ap masked (sym h.mem) ∙ masked_again n.storage.mem ∙ h.mem

-- ---- one access, whatever processor makes it
abbrev all : ℕ → Bool
all q = true

-- the registers behind it hang on the registers before it alone
regs_only : (e : Effect) (p : ℕ) (c c0 : Processor) (w : Shared) → c.regs ≡ c0.regs → regs_by e p c w ≡ regs_by e p c0 w
regs_only (Load to a bytes rest ends) p c c0 w h = ap (λ (f : ℕ → ℕ). at_place f to (extended bytes rest (f to) (shared_load p a bytes w))) h
regs_only (Locked to high a bytes rest (Update op number)) p c c0 w h = ap (taken bytes to high rest (number_at w.mem a bytes)) h
regs_only (Locked to high a bytes rest (Exchange expected number false)) p c c0 w h = ap (taken bytes to high rest (number_at w.mem a bytes)) h
regs_only (Locked to high a bytes rest (Exchange expected number true)) p c c0 w h =
    (let old = number_at w.mem a bytes in ap (λ (f : ℕ → ℕ). if nat_eq old (expected % 2 ^ (8 * bytes)) then f else taken bytes to high rest old f) h)
regs_only _ p c c0 w h = h

module _ {I : Type 0} (k : Kind I) (i : I) (e : Effect) (c0 : Processor) where
  -- the instruction with this effect
  abbrev fixed : Kind I
  fixed = record k { effect_of = λ j c. e }

  abbrev access : Operation Shared
  access = record { happens = λ g p regs seen w. Some (record { regs = regs_by e p c0 w; seen = None; world = shared_by k.buffered e p w; output = None; excused = false }); fits = λ regs w. HasObject e w × (regs ≡ c0.regs) }

  is_access : OneAccess fixed all i access
  is_access =
      record {
        object = λ c t w same fit. fit.0;
        accesses = λ p c t w same fit plain flushed. (
            let there : c.regs ≡ t.regs = λ d q. (same q refl) d in
            record { regs = λ q a. ap (λ (f : ℕ → ℕ). f q) (regs_only e p c c0 w (there ∙ fit.1)); world = refl; output = refl; excused = refl });
      }

-- the processor behind it
module _ (lib : Library) (buffered : Bool) (tag : Tag) (p : ℕ) (c : Processor) (n : Noted) (w : Shared) (sees : Sees n.storage w) where
  abbrev behind : Effect → Processor
  behind e = (told lib tag p e c n (effected buffered p e c n)).processor

  accessed_is : (e : Effect) → HasObject e w → behind e ≡ accessed e p c w
  accessed_is (Load to a bytes rest ends) o = ap (λ v. with_half (if ends then false else c.half) (go_with to (extended bytes rest (c.regs to) v) c)) (shared_loaded p a bytes n w sees o.below)
  accessed_is (Store a bytes number) o = refl
  accessed_is (Locked to high a bytes rest change) o = ap (λ v. exchanged bytes to high rest change v c) (object_number n a bytes w sees o)
  accessed_is Fence o = refl
  accessed_is Nop o = refl
  accessed_is (Set to number) o = absurd o
  accessed_is (Compare left right) o = absurd o
  accessed_is (Link to a bytes rest) o = absurd o
  accessed_is (LinkHalf to a) o = absurd o
  accessed_is (PairStore to a bytes number) o = absurd o
  accessed_is (Jump place) o = absurd o
  accessed_is (CallTo place saved) o = absurd o
  accessed_is (Return back) o = absurd o
  accessed_is (Output number) o = absurd o
  accessed_is Trap o = absurd o

module _ {I : Type 0} (k : Kind I) (keeps : ℕ → Bool) (o : Operation Shared) (z : Straight I) (h : IsRound k keeps o z) where
  module _ (code : List I) (tags : ℕ → Tag) (lib : Library) (u : Reading) (quiet : Bool) (own start : ℕ) (frames : ℕ → ℕ → ℕ) (words : Words lib) (few : straight_most z ≤ u.most) (has : HasAt (setting_by k code tags lib) (reading_of u) quiet own start (straight_code z)) (p : ℕ) where
    abbrev x : Setting I
    x = setting_by k code tags lib

    abbrev v : Reading
    v = reading_of u

    abbrev piece : Piece I Shared
    piece = record { setting = x; world = bytes_world; operation = o; keeps = keeps; quiet = quiet; frames = frames; start = start; end = start + straight_size z; number = own; reading = u; processor = p }

    abbrev l : Meaning Inner Shared
    l = meaning_of piece

    abbrev middle : ℕ
    middle = start + length z.before

    has_access : HasAt x v quiet own middle ((z.access, Act) ∷ silently z.after)
    has_access = subst (λ m. HasAt x v quiet own (start + m) ((z.access, Act) ∷ silently z.after)) (silent_length z.before) (has_rest x v quiet own start (silently z.before) ((z.access, Act) ∷ silently z.after) has)

    -- at the access of an operation that is not over
    module _ (t : Inner) (before : t.over ≡ false) (c : Processor) (at : c.place ≡ middle) (role : c.role ≡ Outside) (a : Accesses k keeps o z t.regs c) where
      here : Here x v quiet own c.place (z.access, Act)
      here = subst (λ m. Here x v quiet own m (z.access, Act)) (sym at) has_access.0

      abbrev done : Noted → Done
      done n = leaves x l v p a.effect c n

      -- above happens what the access does
      module _ (j : Stage) (n : Noted) (w : Shared) (spells : Spells p n (frames p)) (may : Steppable l v x p j t c n w) where
        abbrev e : Effect
        e = a.effect

        fit : o.fits t.regs w
        fit = fits_before piece t w before may.fits

        is : k.effect_of z.access c ≡ e
        is = a.is w fit

        object : HasObject e w
        object = a.object w fit

        -- by the law of one access
        abbrev found : Deed Shared
        found = record { regs = regs_by e p c w; seen = None; world = shared_by k.buffered e p w; output = None; excused = false }

        one : (possible p e c n.storage ≡ true) × Does bytes_world k.buffered all p e c n found
        one =
            (one_access (fixed k z.access e c) all z.access (access k z.access e c) (is_access k z.access e c)).acts p c n (record { regs = c.regs; seen = None; over = false }) w
            (record {
              regs = λ q every. refl;
              role = role;
              small = here.small;
              running = may.running;
              sees = may.sees;
              fits = (object, refl);
              fair = may.fair;
              flat = may.flat;
              empty = λ f. may.empty (ap (λ i. flushes_at x i p c n) here.code ∙ ap (λ q. flushes p q c n.storage) is ∙ f);
            })

        does : Does bytes_world k.buffered all p e c n found
        does = one.1

        -- where it flushes no own store waits
        none : is_flushing e ≡ true → w.pending p ≡ []
        none f =
            let empty = may.empty (ap (λ i. flushes_at x i p c n) here.code ∙ ap (λ q. flushes p q c n.storage) is ∙ ap (λ b. b && possible p e c n.storage) f ∙ one.0) in
            sym (may.sees.pending p) ∙ ap shared_only empty

        last_is : (done n).processor ≡ accessed e p c w
        last_is = accessed_is lib k.buffered (tags c.place) p c n w may.sees e object

        place_is : (done n).processor.place ≡ middle + 1
        place_is = does.next ∙ ap (λ m. m + 1) at

        has_after : HasAt x v quiet own (middle + 1) (silently z.after)
        has_after = has_access.1

        abbrev above : Deed Shared → Inner
        above d = record { regs = d.regs; seen = d.seen; over = true }

        -- and the code behind goes on
        rest : (d : Deed Shared) → Acted k keeps o z p e c w d → (i : Stage) → i.acted ≡ true → i.idle ≤ 0 → (hs : List Happening) → InStep l v x p hs i (above d) (done n).processor (done n).noted
        rest d acted i is_acted idle hs =
            let c' = accessed e p c w in
            let there : c'.place ≡ middle + 1 = ap (λ q. q.place) (sym last_is) ∙ place_is in
            let goes = ends piece bytes_lawful words (above d) c' z.after 0 refl (ap (λ q. q.role) (sym last_is) ∙ does.role (tags c.place) ∙ role) (subst (λ m. HasAt x v quiet own m (silently z.after)) (sym there) has_after)
            (let q : c'.place + length z.after ≡ start + straight_size z = omega (arith, there) in q) (omega (arith, few)) acted.puts in
            subst (λ q. InStep l v x p hs i (above d) q (done n).noted) (sym last_is) (goes i (done n).noted is_acted idle (λ b mine. does.frame b mine ∙ spells b mine) hs)

        stays : (d : Deed Shared) → (v.owner (done n).processor.place ≡ own) ⊎ ((done n).processor.place ≡ l.begins (above d))
        stays d = go (stays_behind piece bytes_lawful words (above d) (middle + 1) z.after refl has_after (let q : middle + 1 + length z.after ≡ start + straight_size z = omega arith in q))
          where
            go : StaysAt (around piece (above d)) true (middle + 1) → (v.owner (done n).processor.place ≡ own) ⊎ ((done n).processor.place ≡ l.begins (above d))
            go (inl s) = inl (ap v.owner place_is ∙ s)
            go (inr s) = inr (place_is ∙ s.1)

        leads : (d : Option (Deed Shared)) → Happens d (λ b. Acted k keeps o z p e c w b) → Possible (did_of quiet An_act d) (λ b. Leads (around piece t) n (done n) b)
        leads None q = q
        leads (Some d) q =
            record {
              shows = subst (λ b. Sees (done n).noted.storage b) q.world (does.shows lib (tags c.place) words);
              fair = does.fair;
              others = does.others;
              tells = act_hushed quiet (tags c.place) c (done n).bytes (done n).outcome here.tag role;
              excuse = λ f. absurd (false≢true (sym q.excused ∙ f));
              output = does.output ∙ sym q.output;
              status = does.status ∙ may.running;
              stays = stays d;
              rest = λ runs i acted idle. rest d q i acted idle;
            }

        happens : (possible p (k.effect_of z.access c) c n.storage ≡ true) × Possible (l.chosen An_act p t w) (λ b. Leads (around piece t) n (leaves x l v p (k.effect_of z.access c) c n) b)
        happens =
            let act : Possible (did_of quiet An_act (o.happens An_act p t.regs t.seen w)) (λ b. Leads (around piece t) n (done n) b) = leads (o.happens An_act p t.regs t.seen w) (a.acts p t.seen w fit (below_frames n w may.sees) none) in
            let chosen = subst (λ (b : Bool). Possible (if b then None else did_of quiet An_act (o.happens An_act p t.regs t.seen w)) (λ b. Leads (around piece t) n (done n) b)) (sym before) act in
            subst (λ q. (possible p q c n.storage ≡ true) × Possible (l.chosen An_act p t w) (λ b. Leads (around piece t) n (leaves x l v p q c n) b)) (sym is) (one.0, chosen)

    begun : (t : Inner) (c : Processor) (n : Noted) → l.number t ≡ own → c.place ≡ l.begins t → Alone keeps frames p c n t → (hs : List Happening) → InStep l v x p hs stage_start t c n
    begun t c n number at m hs =
        let before = not_over own t.over number in
        let r = h c t.regs m.regs in
        let there : c.place ≡ start = at ∙ begins_before piece t before in
        let goes = r.goes (frames p) in
        let mid = goes_place k (λ b. false) z.before (with_frame piece bytes_lawful words c) (with_frame piece bytes_lawful words r.last) goes in
        let place : r.last.place ≡ middle = mid.0 ∙ ap (λ m. m + length z.before) there in
        let stand = subst (λ q. HasAt x v quiet own q (silently z.before)) (sym there) (has_first x v quiet own start (silently z.before) ((z.access, Act) ∷ silently z.after) has) in
        let role = mid.1 ∙ m.role in
        let act : GoesOn (around piece t) false (0 + length z.before) (with_frame piece bytes_lawful words r.last) = event (around piece t) (0 + length z.before) z.access (with_frame piece bytes_lawful words r.last) (here t before r.last place role r.known) number (λ j n w spells may. happens t before r.last place role r.known j n w spells may) in
        straight (around piece t) (is_around piece bytes_lawful words t) false z.before 0 (with_frame piece bytes_lawful words c) (with_frame piece bytes_lawful words r.last) stand m.role goes (omega (arith, few)) (λ q lo hi f. absurd (false≢true f)) (inl (ap v.owner place ∙ has_access.0.owner)) act stage_start n refl (omega arith) m.frame hs

  -- AN ACCESS WITH CODE ROUND IT is an expansion
  pub rounds : Rounds k keeps o z
  rounds =
      record {
        length_is = λ start. (
            let a = length-append (silently z.before) ((z.access, Act) ∷ silently z.after) in
            let b = silent_length z.before in
            let c = silent_length z.after in
            omega (arith, a, b, c));
        some = omega arith;
        follows = λ code tags lib u quiet own start frames words few has. record { follows = λ p t c n is runs at m hs. begun code tags lib u quiet own start frames words few has p t c n is at m hs };
      }
