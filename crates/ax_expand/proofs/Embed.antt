-- An operation's code, used by its contract alone, in longer code.
use Rattle.std.proofs.Common.{◌≡◌, ℕ, suc, ◌+◌, ◌<◌, ◌≤◌, Bool, true, false, List, [], ◌∷◌, ◌++◌, length, refl, sym, ap, ◌∙◌, subst, inl, inr, ⊎_elim, arith}
use Rattle.std.specs.Prelude.{◌≢◌, ◌⊎◌, ◌||◌, nat_le, nat_lt, if◌then◌else◌, Option, Some, None}
use Rattle.std.proofs.lemmas.Bool.{cases_eq, cases_lt, false≢true}
use Rattle.std.proofs.lemmas.Bool.Decides.{nat_tests}
use Rattle.ax_isa.specs.Past.{Noted, drain}
use Rattle.ax_isa.specs.Processor.{Processor}
use Rattle.ax_isa.specs.Tells.{Given, Nothing, An_act, A_look, A_miss, Done, is_excused}
use Rattle.ax_isa.specs.Run.{Setting, step, idle_after}
use Rattle.ax_follow.specs.Contract.{Meaning, Did, Reading, machine_status, ByOthers, Happening, Own, Drained, Other, done_after, Stage, stage_start, stage_after, outcome_of, Possible, OwnStep, Through, Steps, Steppable, InStep, given}
use Rattle.ax_follow.proofs.Follow.{Holds, in_step}
use Rattle.ax_expand.specs.World.{World}
use Rattle.ax_expand.specs.Operation.{Operation, Deed, Inner, did_of, Fits, Alone, alone}
use Rattle.ax_expand.specs.Expands.{reading_of, Begun}
use Rattle.ax_expand.specs.Mirrors.{Mirrored}
use Rattle.ax_tags.specs.declared.tags.Tag.{Tag}
use Rattle.ax_expand.specs.Standing.{HasAt, silently}
use Rattle.ax_expand.specs.Wraps.{Wrapping, Wraps, IsWrapping, inner_end, inner_start, setting_in}
use Rattle.ax_expand.proofs.Straight.{silent_length, has_first, has_rest}

-- the owner of a place, as the operation sees it
abbrev pub inner_owner : ℕ → ℕ → ℕ → ℕ → ℕ
inner_owner start end n place = if nat_le start place then (if nat_lt place end then n else suc n) else suc n

pub owner_in : (start end n place : ℕ) → start ≤ place → place < end → inner_owner start end n place ≡ n
owner_in start end n place lo hi = grind (arith, nat_tests, lo, hi)

pub owner_is : (start end n place : ℕ) → inner_owner start end n place ≡ n → (start ≤ place) × (place < end)
owner_is start end n place e = go (cases_lt place start) (cases_lt place end)
  where
    low : place < start → inner_owner start end n place ≡ suc n
    low h = grind (arith, nat_tests, h)

    high : end ≤ place → inner_owner start end n place ≡ suc n
    high h = grind (arith, nat_tests, h)

    go : (place < start) ⊎ (start ≤ place) → (place < end) ⊎ (end ≤ place) → (start ≤ place) × (place < end)
    go (inl h) y = absurd (let f = low h in omega (arith, e, f))
    go (inr lo) (inl hi) = (lo, hi)
    go (inr lo) (inr h) = absurd (let f = high h in omega (arith, e, f))

abbrev pub inner_reading : Reading → ℕ → ℕ → ℕ → ℕ → Reading
inner_reading v most start end own = record v { owner = inner_owner start end own; most = most }

idle_shift : (g : Given) (c : Bool) (x y k : ℕ) → x ≤ y + k → idle_after g c x ≤ idle_after g c y + k
idle_shift Nothing true x y k h = omega arith
idle_shift Nothing false x y k h = omega (arith, h)
idle_shift An_act c x y k h = omega arith
idle_shift A_look true x y k h = omega arith
idle_shift A_look false x y k h = omega (arith, h)
idle_shift A_miss true x y k h = omega arith
idle_shift A_miss false x y k h = omega (arith, h)

or_more : (a b c : Bool) → (b ≡ true → a ≡ true) → (b || c) ≡ true → (a || c) ≡ true
or_more true b c more h = refl
or_more false true c more h = absurd (false≢true (more refl))
or_more false false c more h = h

-- the owner of each place of a piece
pub owners : {I : Type 0} (x : Setting I) (v : Reading) (quiet : Bool) (number place : ℕ) (is : List (I × Tag)) (q : ℕ) → HasAt x v quiet number place is → place ≤ q → q < place + length is → v.owner q ≡ number
owners x v quiet number place [] q h lo hi = absurd (omega (arith, lo, hi))
owners x v quiet number place (i ∷ is) q h lo hi = ⊎_elim (λ e. ap v.owner e ∙ h.0.owner) (λ ne. owners x v quiet number (place + 1) is q h.1 (omega (arith, lo, ne)) (omega (arith, hi))) (cases_eq q place)

-- as the operation sees it, all is its own
inner_has : {I : Type 0} (x : Setting I) (v : Reading) (most : ℕ) (quiet : Bool) (own start end place : ℕ) (is : List (I × Tag)) → start ≤ place → place + length is ≤ end → HasAt x (reading_of v) quiet own place is → HasAt x (reading_of (inner_reading v most start end own)) quiet own place is
inner_has x v most quiet own start end place [] lo hi h = tt
inner_has x v most quiet own start end place (i ∷ is) lo hi h =
    (record { code = h.0.code; mark = h.0.mark; tag = h.0.tag; owner = owner_in start end own place lo (omega (arith, hi)); small = h.0.small }, inner_has x v most quiet own start end (place + 1) is (omega (arith, lo)) (omega (arith, hi)) h.1)

-- the code of an operation with what stands round it
module _ {I P W : Type 0} (wrapping : Wrapping I P W) (sound : IsWrapping wrapping) where
  abbrev x : Setting I
  x = setting_in wrapping

  abbrev l : Meaning P W
  l = wrapping.meaning

  abbrev v : Reading
  v = wrapping.reading

  abbrev world : World W
  world = wrapping.world

  abbrev o : Operation W
  o = wrapping.operation

  abbrev quiet : Bool
  quiet = wrapping.quiet

  abbrev keeps : ℕ → Bool
  keeps = wrapping.keeps

  abbrev own : ℕ
  own = wrapping.number

  abbrev start : ℕ
  start = inner_start wrapping

  abbrev end : ℕ
  end = inner_end wrapping

  abbrev most : ℕ
  most = wrapping.most

  abbrev k : ℕ
  k = length wrapping.before

  -- the operation's code takes some places
  pub takes_some : start < end
  takes_some = let a = sound.expands.some in omega (arith, a)

  enough : most + k ≤ v.most
  enough = let a = sound.few in omega (arith, a)

  pub has_before : HasAt x (reading_of v) quiet own wrapping.start (silently wrapping.before)
  has_before = has_first x (reading_of v) quiet own wrapping.start (silently wrapping.before) _ sound.has

  has_behind : HasAt x (reading_of v) quiet own start (wrapping.piece start ++ silently wrapping.after)
  has_behind =
      subst (λ q. HasAt x (reading_of v) quiet own q (wrapping.piece start ++ silently wrapping.after)) (ap (λ q. wrapping.start + q) (silent_length wrapping.before)) (has_rest x (reading_of v) quiet own wrapping.start (silently wrapping.before) _ sound.has)

  has_piece : HasAt x (reading_of v) quiet own start (wrapping.piece start)
  has_piece = has_first x (reading_of v) quiet own start (wrapping.piece start) _ has_behind

  pub has_after : HasAt x (reading_of v) quiet own end (silently wrapping.after)
  has_after = subst (λ q. HasAt x (reading_of v) quiet own q (silently wrapping.after)) (ap (λ q. start + q) (sound.expands.length_is start)) (has_rest x (reading_of v) quiet own start (wrapping.piece start) _ has_behind)

  pub owned : (q : ℕ) → start ≤ q → q < end → v.owner q ≡ own
  owned q lo hi = owners x (reading_of v) quiet own start (wrapping.piece start) q has_piece lo (let e = sound.expands.length_is start in omega (arith, e, hi))

  -- the expansion's contract, at this place
  begun : (frames : ℕ → ℕ → ℕ) → Begun x (alone world o quiet keeps frames start end own) (reading_of (inner_reading v most start end own)) own
  begun frames =
      sound.expands.follows wrapping.code wrapping.tags wrapping.library (inner_reading v most start end own) quiet own start frames sound.words (omega arith)
      (inner_has x v most quiet own start end start (wrapping.piece start) (omega arith) (let e = sound.expands.length_is start in omega (arith, e)) has_piece)

  module _ (p : ℕ) (frames : ℕ → ℕ → ℕ) where
    abbrev round : Wraps wrapping p
    round = sound.wraps p

    abbrev Rel : Bool → P → Inner → Type 0
    Rel = wrapping.relates p (frames p)

    -- above it goes on behind the operation
    beyond : (s : P) (t : Inner) → Rel true s t → end ≤ l.begins s
    beyond s t r = let e = round.ends (frames p) s t r in omega (arith, e)

    last : (s : P) (t : Inner) → Rel true s t → (v.owner end ≡ own) ⊎ (end ≡ l.begins s)
    last s t r = go wrapping.after has_after (round.ends (frames p) s t r)
      where
        go : (js : List I) → HasAt x (reading_of v) quiet own end (silently js) → l.begins s ≡ end + length js → (v.owner end ≡ own) ⊎ (end ≡ l.begins s)
        go [] has e = inr (let q : end ≡ end + 0 = omega arith in q ∙ sym e)
        go (j ∷ js) has e = inl has.0.owner

    abbrev m : Meaning Inner W
    m = alone world o quiet keeps frames start end own

    abbrev within : Reading
    within = reading_of (inner_reading v most start end own)

    abbrev pub Inward : Stage → Inner → Processor → Noted → Type 0
    Inward j t c n = (hs : List Happening) → InStep m within x p hs j t c n

    abbrev pub Outward : Stage → P → Processor → Noted → Type 0
    Outward j s c n = (hs : List Happening) → InStep l (reading_of v) x p hs j s c n

    -- what comes behind it
    abbrev pub Behind : Type 0
    Behind = (j : Stage) (s : P) (t : Inner) (c : Processor) (n : Noted) → Rel true s t → c.place ≡ end → Alone keeps frames p c n t → j.acted ≡ true → j.idle ≤ most + k → Outward j s c n

    module _ (behind : Behind) where
      data Inv : Stage → P → Processor → Noted → Type 0 where
        Inside : {j : Stage} {s : P} {c : Processor} {n : Noted} (i : Stage) (t : Inner) → j.acted ≡ i.acted → (i.rested ≡ true → j.rested ≡ true) → j.idle ≤ i.idle + k → i.idle ≤ most → Rel i.acted s t → Inward i t c n → inner_owner start end own c.place ≡ own → Inv j s c n
        Beyond : {j : Stage} {s : P} {c : Processor} {n : Noted} → Outward j s c n → Inv j s c n

      through : (j : Stage) (s : P) (c : Processor) (n : Noted) → Inv j s c n → Through l (reading_of v) x p j s c n
      through j s c n (Inside i t same more low few rel fs mine) acted there =
          let r = subst (λ b. Rel b s t) (sym same ∙ acted) rel in
          let lo = beyond s t r in
          let hi = (owner_is start end own c.place mine).1 in
          absurd (omega (arith, there, lo, hi))
      through j s c n (Beyond fs) acted there = fs [] acted there

      drains : (j : Stage) (s : P) (c : Processor) (n : Noted) → x.kind.buffered ≡ true → Inv j s c n → Inv j s c (drain p n)
      drains j s c n on (Inside i t same more low few rel fs mine) = Inside i t same more low few rel (λ hs. (fs (Drained ∷ hs)).1 on) mine
      drains j s c n on (Beyond fs) = Beyond (λ hs. (fs (Drained ∷ hs)).1 on)

      others : (j : Stage) (s : P) (c : Processor) (n new : Noted) → ByOthers p n new → Inv j s c n → Inv j s c new
      others j s c n new b (Inside i t same more low few rel fs mine) = Inside i t same more low few rel (λ hs. (fs (Other new ∷ hs)).1 b) mine
      others j s c n new b (Beyond fs) = Beyond (λ hs. (fs (Other new ∷ hs)).1 b)

      -- a contract for all lists, at what happens above
      every : (j : Stage) (s : P) (c : Processor) (n : Noted) (d : Done) (g : Given) (a : Option (Did P W)) → ((hs : List Happening) → Possible a (λ t. OwnStep l (reading_of v) (λ i t c n. InStep l (reading_of v) x p hs i t c n) p j s c n d g t)) → Possible a (λ t. OwnStep l (reading_of v) Inv p j s c n d g t)
      every j s c n d g None q = q []
      every j s c n d g (Some t) q =
          let y = q [] in
          record { once = y.once; owned = y.owned; stays = y.stays; shows = y.shows; touches = y.touches; tells = y.tells; missed = y.missed; excused = y.excused; few = y.few; output = y.output; status = y.status; goes = λ e. Beyond (λ hs. (q hs).goes e) }

      begins_over : (b : Bool) → b ≡ true → (if b then end else start) ≡ end
      begins_over b e = ap (λ (z : Bool). if z then end else start) e

      module _ (j i : Stage) (s : P) (t : Inner) (c : Processor) (n : Noted) (w : W) (d : Done) (same : j.acted ≡ i.acted) (more : i.rested ≡ true → j.rested ≡ true) (low : j.idle ≤ i.idle + k) (few : i.idle ≤ most) (rel : Rel i.acted s t) (mine : inner_owner start end own c.place ≡ own) (fit : l.fits p s w) where
        here : v.owner c.place ≡ own
        here = let z = owner_is start end own c.place mine in owned c.place z.0 z.1

        -- where it goes, as it is seen above
        stays_so : (a : Bool) (s' : P) (t' : Inner) → Rel a s' t' → (inner_owner start end own d.processor.place ≡ inner_owner start end own c.place) ⊎ ((a ≡ true) × (d.processor.place ≡ (if t'.over then end else start)))
            → (v.owner d.processor.place ≡ v.owner c.place) ⊎ ((a ≡ true) × (d.processor.place ≡ l.begins s'))
        stays_so a s' t' r (inl e) = let z = owner_is start end own d.processor.place (e ∙ mine) in inl (owned d.processor.place z.0 z.1 ∙ sym here)
        stays_so a s' t' r (inr e) =
            let at : d.processor.place ≡ end = e.1 ∙ begins_over t'.over (round.over (frames p) a s' t' r ∙ e.0) in
            go at (last s' t' (subst (λ b. Rel b s' t') e.0 r))
          where
            go : d.processor.place ≡ end → (v.owner end ≡ own) ⊎ (end ≡ l.begins s') → (v.owner d.processor.place ≡ v.owner c.place) ⊎ ((a ≡ true) × (d.processor.place ≡ l.begins s'))
            go at (inl q) = inl (ap v.owner at ∙ q ∙ sym here)
            go at (inr q) = inr (e.0, at ∙ q)

        goes_so : (g : Given) (s' : P) (t' : Inner) → Rel (done_after g i.acted) s' t' → idle_after g (is_excused d) i.idle ≤ most → Inward (stage_after g (is_excused d) i) t' d.processor d.noted
            → (inner_owner start end own d.processor.place ≡ inner_owner start end own c.place) ⊎ ((done_after g i.acted ≡ true) × (d.processor.place ≡ (if t'.over then end else start))) → Inv (stage_after g (is_excused d) j) s' d.processor d.noted
        goes_so g s' t' r small fs (inl e) = Inside (stage_after g (is_excused d) i) t' (ap (done_after g) same) (λ h. or_more j.rested i.rested (is_excused d) more h) (idle_shift g (is_excused d) j.idle i.idle k low) small r fs (e ∙ mine)
        goes_so g s' t' r small fs (inr e) =
            let over_t : t'.over ≡ true = round.over (frames p) (done_after g i.acted) s' t' r ∙ e.0 in
            let at : d.processor.place ≡ end = e.1 ∙ begins_over t'.over over_t in
            let shift = idle_shift g (is_excused d) j.idle i.idle k low in
            Beyond (behind (stage_after g (is_excused d) j) s' t' d.processor d.noted (subst (λ b. Rel b s' t') e.0 r) at (fs [] e.0 e.1) (ap (done_after g) same ∙ e.0) (omega (arith, shift, small)))

        event_at : (g : Given) → g ≢ Nothing → (a : Option (Deed W)) (b : Option (Did P W)) → (i.acted ≡ false → Mirrored quiet Rel g a b) → ((hs : List Happening) → Possible (did_of quiet g a) (λ e. OwnStep m within (λ i t c n. InStep m within x p hs i t c n) p i t c n d g e))
            → Possible b (λ e. OwnStep l (reading_of v) Inv p j s c n d g e)
        event_at g ne None b mir q = absurd (q [])
        event_at g ne (Some e) None mir q = absurd (mir ((q []).once ne))
        event_at g ne (Some e) (Some f) mir q =
            let y = q [] in
            let before : i.acted ≡ false = y.once ne in
            let z = mir before in
            let shift = idle_shift g (is_excused d) j.idle i.idle k low in
            let small = y.few in
            let done : done_after g i.acted ≡ done_after g false = ap (done_after g) before in
            let t' : Inner = record { regs = e.regs; seen = e.seen; over = done_after g false } in
            let r : Rel (done_after g i.acted) f.processor t' = subst (λ b. Rel b f.processor t') (sym done) z.rel in
            record {
              once = λ ne. same ∙ before;
              owned = λ ne. here ∙ sym (round.number (frames p) s t (subst (λ b. Rel b s t) before rel));
              stays = subst (λ b. (v.owner d.processor.place ≡ v.owner c.place) ⊎ ((b ≡ true) × (d.processor.place ≡ l.begins f.processor))) (sym (ap (done_after g) same)) (stays_so (done_after g i.acted) f.processor t' r y.stays);
              shows = sound.over.up d.noted f.world (subst (λ b. world.sees d.noted b) (sym z.world) y.shows);
              touches = y.touches;
              tells = y.tells ∙ sym z.gives;
              missed = y.missed;
              excused = λ ne h. or_more j.rested i.rested (is_excused d) more (y.excused ne (sym z.excused ∙ h));
              few = omega (arith, shift, small, enough);
              output = y.output ∙ sym z.output;
              status = y.status ∙ ap machine_status (sym (round.runs (frames p) (done_after g i.acted) f.processor t' r));
              goes = λ h. goes_so g f.processor t' r small (λ hs. (q hs).goes h) y.stays;
            }

        -- an event, by the operation's contract
        event : (g : Given) → g ≢ Nothing → (b : Bool) → t.over ≡ b → ((hs : List Happening) → Possible (if b then None else did_of quiet g (o.happens g p t.regs t.seen w)) (λ e. OwnStep m within (λ i t c n. InStep m within x p hs i t c n) p i t c n d g e))
            → Possible (l.chosen g p s w) (λ e. OwnStep l (reading_of v) Inv p j s c n d g e)
        event g ne true is q = absurd (q [])
        event g ne false is q = event_at g ne (o.happens g p t.regs t.seen w) (l.chosen g p s w) (λ before. round.chosen (frames p) g s t w ne (subst (λ b. Rel b s t) before rel) fit) q

        inner_step : (g : Given) → ((hs : List Happening) → Possible (outcome_of m g p t w) (λ e. OwnStep m within (λ i t c n. InStep m within x p hs i t c n) p i t c n d g e)) → Possible (outcome_of l g p s w) (λ e. OwnStep l (reading_of v) Inv p j s c n d g e)
        inner_step An_act q = event An_act (λ h. absurd (let f : An_act ≡ Nothing = h in cc)) t.over refl q
        inner_step A_look q = event A_look (λ h. absurd (let f : A_look ≡ Nothing = h in cc)) t.over refl q
        inner_step A_miss q = event A_miss (λ h. absurd (let f : A_miss ≡ Nothing = h in cc)) t.over refl q
        inner_step Nothing q =
            let y = q [] in
            let shift = idle_shift Nothing (is_excused d) j.idle i.idle k low in
            let small = y.few in
            record {
              once = λ g. absurd (g refl);
              owned = λ g. absurd (g refl);
              stays = subst (λ b. (v.owner d.processor.place ≡ v.owner c.place) ⊎ ((b ≡ true) × (d.processor.place ≡ l.begins s))) (sym same) (stays_so i.acted s t rel y.stays);
              shows = sound.over.up d.noted w y.shows;
              touches = y.touches;
              tells = y.tells;
              missed = λ g. absurd (let z : Nothing ≡ A_miss = g in cc);
              excused = λ g. absurd (g refl);
              few = omega (arith, shift, small, enough);
              output = y.output;
              status = y.status ∙ ap machine_status (sym (round.runs (frames p) i.acted s t rel));
              goes = λ h. goes_so Nothing s t rel small (λ hs. (q hs).goes h) y.stays;
            }

      fits_so : (a b : Bool) (s : P) (t : Inner) (w : W) → t.over ≡ b → a ≡ b → Rel a s t → l.fits p s w → Fits o b t w
      fits_so a true s t w is e r fit = tt
      fits_so a false s t w is e r fit = round.fits (frames p) s t w (subst (λ b. Rel b s t) e r) fit

      holds : Holds x l (reading_of v) p Inv
      holds = record { through = through; own = step_own; drains = drains; others = others }
        where
          step_own : (j : Stage) (s : P) (c : Processor) (n : Noted) (w : W) → Inv j s c n → Steppable l (reading_of v) x p j s c n w → Steps l (reading_of v) x Inv p j s c n w (step x p c n)
          step_own j s c n w (Beyond fs) may = every j s c n (step x p c n) (given l (reading_of v) x c (step x p c n)) _ (λ hs. (fs (Own ∷ hs)).1 w may)
          step_own j s c n w (Inside i t same more low few rel fs mine) may =
              let may2 : Steppable m within x p i t c n w = record {
                sees = sound.over.down n w may.sees;
                fits = fits_so i.acted t.over s t w refl (sym (round.over (frames p) i.acted s t rel)) rel may.fits;
                fair = may.fair;
                flat = may.flat;
                empty = may.empty;
                running = may.running;
                runs = refl;
                inner = λ acted there. (let hi = (owner_is start end own c.place mine).1 in let at = there ∙ begins_over t.over (round.over (frames p) i.acted s t rel ∙ acted) in omega (arith, hi, at));
                bounds = may.bounds;
              } in
              inner_step j i s t c n w (step x p c n) same more low few rel mine may.fits (given l (reading_of v) x c (step x p c n)) (λ hs. (fs (Own ∷ hs)).1 w may2)

      -- THE CODE OF AN OPERATION, IN LONGER CODE
      pub embed : (j : Stage) (s : P) (t : Inner) (c : Processor) (n : Noted) → j.acted ≡ false → j.idle ≤ k → Rel false s t → c.place ≡ start → t.over ≡ false → Alone keeps frames p c n t → Outward j s c n
      embed j s t c n before low rel at begins alone_at hs =
          let fs : Inward stage_start t c n = (begun frames).follows p t c n (ap (λ (b : Bool). if b then suc own else own) begins) refl (at ∙ sym (ap (λ (b : Bool). if b then end else start) begins)) alone_at in
          in_step x l (reading_of v) p Inv holds hs j s c n (Inside stage_start t before (λ h. absurd (false≢true h)) (omega (arith, low)) (omega arith) rel fs (ap (inner_owner start end own) at ∙ owner_in start end own start (omega arith) takes_some))
