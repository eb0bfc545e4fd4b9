-- Silent code that touches the processor and its frame alone, and what comes behind it.
use Rattle.std.proofs.Common.{◌≡◌, ℕ, suc, ◌+◌, ◌^◌, ◌<◌, ◌≤◌, Bool, true, false, List, [], ◌∷◌, ◌++◌, length, refl, sym, ap, ◌∙◌, subst, inl, inr, arith}
use Rattle.std.specs.Prelude.{◌≢◌, ◌⊎◌, Some, None}
use Rattle.ax_tags.specs.declared.tags.Role.TheVariants.{None as Outside}
use Rattle.ax_isa.specs.declared.effects.Effect.{Effect}
use Rattle.ax_isa.specs.declared.effects.Effect.TheVariants.{Set, Compare, Load, Store, Locked, Fence, Link, LinkHalf, PairStore, Jump, CallTo, Return, Output, Trap, Nop}
use Rattle.ax_tags.specs.declared.tags.Tag.{Tag}
use Rattle.ax_tags.specs.declared.tags.Tag.TheVariants.{Silent}
use Rattle.ax_isa.specs.Past.{Noted, drain}
use Rattle.ax_isa.specs.Processor.{Processor}
use Rattle.ax_isa.specs.Steps.{Kind, possible}
use Rattle.ax_isa.specs.Tells.{Nothing, Done, is_excused, is_freeing, holder_after}
use Rattle.ax_isa.specs.Run.{Setting, step}
use Rattle.ax_follow.specs.Contract.{Meaning, Reading, machine_status, Fair, Happening, Own, Drained, Other, Stage, stage_after, Through, Steps, Steppable, InStep}
use Rattle.ax_follow.proofs.Follow.{own_map, leaves, fetch, calm_step, idle_grows}
use Rattle.ax_expand.specs.Continues.{Continues, Context, IsContext, GoesOn, StaysAt, IsBefore}
use Rattle.ax_expand.specs.Standing.{hush, Here, HasAt, silently}
use Rattle.ax_expand.proofs.Telling.{place_ok, silent_told}
use Rattle.ax_expand.specs.Private.{Private, Spells, may_use, if_room, jumped, went, Goes}
use Rattle.ax_expand.specs.Expands.{reading_of}
use Rattle.ax_expand.proofs.Views.{spells_drain, spells_others}
use Rattle.ax_expand.proofs.Steps.{Stepped, private_step, holder_still, some_is}

pub silent_length : {I : Type 0} (is : List I) → length (silently is) ≡ length is
silent_length [] = refl
silent_length (i ∷ is) = ap suc (silent_length is)

-- where one piece stands behind another
pub has_first : {I : Type 0} (x : Setting I) (v : Reading) (quiet : Bool) (number place : ℕ) (is rest : List (I × Tag)) → HasAt x v quiet number place (is ++ rest) → HasAt x v quiet number place is
has_first x v quiet number place [] rest h = tt
has_first x v quiet number place (i ∷ is) rest h = (h.0, has_first x v quiet number (place + 1) is rest h.1)

pub has_rest : {I : Type 0} (x : Setting I) (v : Reading) (quiet : Bool) (number place : ℕ) (is rest : List (I × Tag)) → HasAt x v quiet number place (is ++ rest) → HasAt x v quiet number (place + length is) rest
has_rest x v quiet number place [] rest h = subst (λ q. HasAt x v quiet number q rest) (let e : place ≡ place + 0 = omega arith in e) h
has_rest x v quiet number place (i ∷ is) rest h = subst (λ q. HasAt x v quiet number q rest) (let e : place + 1 + length is ≡ place + suc (length is) = omega arith in e) (has_rest x v quiet number (place + 1) is rest h.1)

went_none : (y z : Private) → None ≡ Some z → (z.cpu.place ≡ y.cpu.place + 1) × (z.cpu.role ≡ y.cpu.role)
went_none y z h = absurd (let f : None ≡ Some z = h in cc)

went_if : (t : Bool) (y a z : Private) → a.cpu.place ≡ y.cpu.place + 1 → a.cpu.role ≡ y.cpu.role → if_room t a ≡ Some z → (z.cpu.place ≡ y.cpu.place + 1) × (z.cpu.role ≡ y.cpu.role)
went_if true y a z e f h = let q = some_is a z h in (ap (λ b. b.cpu.place) (sym q) ∙ e, ap (λ b. b.cpu.role) (sym q) ∙ f)
went_if false y a z e f h = went_none y z h

-- it goes to the next place
pub went_next : (room : ℕ → Bool) (e : Effect) (y z : Private) → went room e y ≡ Some z → (z.cpu.place ≡ y.cpu.place + 1) × (z.cpu.role ≡ y.cpu.role)
went_next room (Set to number) y z h = went_if true y _ z refl refl h
went_next room (Compare a b) y z h = went_if true y _ z refl refl h
went_next room (Load to a bytes rest ends) y z h = went_if (may_use room a bytes) y _ z refl refl h
went_next room (Store a bytes number) y z h = went_if (may_use room a bytes) y _ z refl refl h
went_next room (Locked to high a bytes rest change) y z h = went_none y z h
went_next room Fence y z h = went_if true y _ z refl refl h
went_next room (Link to a bytes rest) y z h = went_none y z h
went_next room (LinkHalf to a) y z h = went_none y z h
went_next room (PairStore to a bytes number) y z h = went_none y z h
went_next room (Jump place) y z h = went_none y z h
went_next room (CallTo place saved) y z h = went_none y z h
went_next room (Return back) y z h = went_none y z h
went_next room (Output number) y z h = went_none y z h
went_next room Trap y z h = went_none y z h
went_next room Nop y z h = went_if true y _ z refl refl h

pub goes_place : {I : Type 0} (k : Kind I) (room : ℕ → Bool) (is : List I) (y z : Private) → Goes k room is y z → (z.cpu.place ≡ y.cpu.place + length is) × (z.cpu.role ≡ y.cpu.role)
goes_place k room [] y z h = (ap (λ a. a.cpu.place) (sym h) ∙ (let e : y.cpu.place ≡ y.cpu.place + 0 = omega arith in e), ap (λ a. a.cpu.role) (sym h))
goes_place k room (i ∷ is) y z (next, w, rest) =
    let a = went_next room (k.effect_of i y.cpu) y next w in
    let b = goes_place k room is next z rest in
    (b.0 ∙ ap (λ q. q + length is) a.0 ∙ (let e : y.cpu.place + 1 + length is ≡ y.cpu.place + suc (length is) = omega arith in e), b.1 ∙ a.1)

-- pieces of straight code, one behind the other
pub goes_append : {I : Type 0} (k : Kind I) (room : ℕ → Bool) (is js : List I) (y z a : Private) → Goes k room is y z → Goes k room js z a → Goes k room (is ++ js) y a
goes_append k room [] js y z a h g = subst (λ b. Goes k room js b a) (sym h) g
goes_append k room (i ∷ is) js y z a (next, w, rest) g = (next, w, goes_append k room is js next z a rest g)

module _ {I P W : Type 0} (x : Setting I) (l : Meaning P W) (v : Reading) (p : ℕ) where
  -- in step, whatever happens
  abbrev pub Ahead : Stage → P → Processor → Noted → Type 0
  Ahead = λ j s c n. (hs : List Happening) → InStep l (reading_of v) x p hs j s c n

  -- what happens before the next step changes nothing that code of a processor and its frame looks at: that step decides
  pub by_step : (acted : Bool) (idle : ℕ) (s : P) (y : Private) → (acted ≡ true → y.cpu.place ≢ l.begins s)
      → ((j : Stage) (n : Noted) (w : W) → j.acted ≡ acted → j.idle ≤ idle → Spells p n y.frame → Steppable l (reading_of v) x p j s y.cpu n w → Steps l (reading_of v) x Ahead p j s y.cpu n w (step x p y.cpu n))
      → Continues x l v p acted idle s y
  by_step acted idle s y inner own = go
    where
      through : (j : Stage) (n : Noted) → j.acted ≡ acted → Through l (reading_of v) x p j s y.cpu n
      through j n e at there = absurd (inner (sym e ∙ at) there)

      each : (hs : List Happening) (j : Stage) (n : Noted) (w : W) (d : Done) → Steps l (reading_of v) x Ahead p j s y.cpu n w d → Steps l (reading_of v) x (λ k t c m. InStep l (reading_of v) x p hs k t c m) p j s y.cpu n w d
      each hs j n w d q = own_map l (reading_of v) _ _ (λ k t c m f. f hs) p j s y.cpu n d _ _ q

      go : Continues x l v p acted idle s y
      go j n is low spells [] = through j n is
      go j n is low spells (Own ∷ hs) = (through j n is, λ w may. each hs j n w _ (own j n w is low spells may))
      go j n is low spells (Drained ∷ hs) = (through j n is, λ on. go j (drain p n) is low (spells_drain p n y.frame spells) hs)
      go j n is low spells (Other new ∷ hs) = (through j n is, λ b. go j new is low (spells_others p n new y.frame b spells) hs)

  -- the code is through
  pub finished : (idle : ℕ) (s : P) (y : Private) → y.cpu.place ≡ l.begins s → ((n : Noted) → Spells p n y.frame → l.matches p y.cpu n s) → Continues x l v p true idle s y
  finished idle s y at matches j n is low spells [] = λ acted there. matches n spells
  finished idle s y at matches j n is low spells (Own ∷ hs) = (λ acted there. matches n spells, λ w may. absurd (may.inner is at))
  finished idle s y at matches j n is low spells (Drained ∷ hs) = (λ acted there. matches n spells, λ on. finished idle s y at matches j (drain p n) is low (spells_drain p n y.frame spells) hs)
  finished idle s y at matches j n is low spells (Other new ∷ hs) = (λ acted there. matches n spells, λ b. finished idle s y at matches j new is low (spells_others p n new y.frame b spells) hs)

module _ {I P W : Type 0} (context : Context I P W) (sound : IsContext context) where
  abbrev x : Setting I
  x = context.setting

  abbrev l : Meaning P W
  l = context.meaning

  abbrev v : Reading
  v = context.reading

  abbrev p : ℕ
  p = context.processor

  abbrev s : P
  s = context.above

  -- what is known before a step of this code
  pub record Known (y : Private) (n : Noted) : Type 0 where
    pub free : is_freeing (x.tags y.cpu.place) ≡ false
    pub spells : Spells p n y.frame
    pub fair : Fair p (n.storage.waiting p)
    pub flat : x.kind.buffered ≡ false → n.storage.waiting p ≡ []
    pub inside : (b : ℕ) → context.room b ≡ true → n.storage.inside b ≡ true

  -- instruction i leads from y to z
  abbrev pub Leads : I → Private → Private → Noted → Type 0
  Leads i y z n = (possible p (x.kind.effect_of i y.cpu) y.cpu n.storage ≡ true) × Stepped p y z n (leaves x l (reading_of v) p (x.kind.effect_of i y.cpu) y.cpu n)

  pub known : (quiet : Bool) (t : Tag) (j : Stage) (y : Private) (n : Noted) (w : W) → is_freeing (hush quiet t) ≡ false → x.tags y.cpu.place ≡ hush quiet t → Spells p n y.frame → Steppable l (reading_of v) x p j s y.cpu n w → Known y n
  known quiet t j y n w free is spells may =
      record {
        free = ap is_freeing is ∙ free;
        spells = spells;
        fair = may.fair;
        flat = may.flat;
        inside = λ b r. ap (λ f. f b) (sound.laws.inside n w (sound.over.down n w may.sees)) ∙ sound.roomy w may.fits b r;
      }

  -- a step of private code does
  pub leads : (i : I) (y z : Private) (n : Noted) → y.cpu.place + 1 < 2 ^ 32 → Known y n → went context.room (x.kind.effect_of i y.cpu) y ≡ Some z → Leads i y z n
  leads i y z n small k goes = private_step x.library sound.words x.kind.buffered (x.tags y.cpu.place) k.free p context.room sound.mine y n k.spells k.fair k.flat k.inside small (x.kind.effect_of i y.cpu) z goes

  abbrev SilentAt : I → ℕ → Type 0
  SilentAt i place = Here x (reading_of v) context.quiet context.number place (i, Silent)

  -- ONE SILENT STEP, whatever its effect
  pub silent_by : (acted : Bool) (idle : ℕ) (i : I) (y z : Private) → SilentAt i y.cpu.place → y.cpu.role ≡ Outside → ((n : Noted) → Known y n → Leads i y z n) → idle + 1 ≤ v.most
      → IsBefore context acted y.cpu.place → StaysAt context acted z.cpu.place → GoesOn context acted (idle + 1) z → GoesOn context acted idle y
  silent_by acted idle i y z here role steps few inner stays next = by_step x l v p acted idle s y inner own
    where
      no_free : (t : Bool) → is_freeing (hush t Silent) ≡ false
      no_free true = refl
      no_free false = refl

      stayed : (j : Stage) (c c' : Processor) → c ≡ c' → j.acted ≡ acted → StaysAt context acted c'.place → (v.owner c.place ≡ v.owner y.cpu.place) ⊎ ((j.acted ≡ true) × (c.place ≡ l.begins s))
      stayed j c c' e is (inl h) = inl (ap (λ q. v.owner q.place) e ∙ h ∙ sym here.owner)
      stayed j c c' e is (inr h) = inr (is ∙ h.0, ap (λ q. q.place) e ∙ h.1)

      own : (j : Stage) (n : Noted) (w : W) → j.acted ≡ acted → j.idle ≤ idle → Spells p n y.frame → Steppable l (reading_of v) x p j s y.cpu n w → Steps l (reading_of v) x (Ahead x l v p) p j s y.cpu n w (step x p y.cpu n)
      own j n w is low spells may =
          let e = x.kind.effect_of i y.cpu in
          let d = leaves x l (reading_of v) p e y.cpu n in
          let z0 = steps n (known context.quiet Silent j y n w (no_free context.quiet) here.tag spells may) in
          let g = z0.1 in
          let grows = idle_grows (is_excused d) j.idle in
          fetch x l (reading_of v) (Ahead x l v p) p i Silent e j s y.cpu n w here.code here.mark refl z0.0
          (calm_step x l (reading_of v) (Ahead x l v p) p j s y.cpu n w d
          (record {
            stays = stayed j d.processor z.cpu g.processor is stays;
            shows = sound.over.up d.noted w (sound.laws.alike n d.noted w g.alike (sound.over.down n w may.sees));
            touches = record { fair = g.fair; others = g.others };
            tells = silent_told context.quiet (x.tags y.cpu.place) y.cpu d.bytes d.outcome here.tag role;
            few = omega (arith, grows, low, few);
            output = g.output;
            status = ap (λ c. c.status) g.processor ∙ g.status ∙ may.running ∙ sym (ap machine_status may.runs);
          })
          (λ r. subst (λ c. Ahead x l v p (stage_after Nothing (is_excused d) j) s c d.noted) (sym g.processor) (next (stage_after Nothing (is_excused d) j) d.noted is (omega (arith, grows, low)) g.spells)))

  -- and one that touches the processor and its frame alone
  pub silent : (acted : Bool) (idle : ℕ) (i : I) (y z : Private) → SilentAt i y.cpu.place → y.cpu.role ≡ Outside → went context.room (x.kind.effect_of i y.cpu) y ≡ Some z → idle + 1 ≤ v.most
      → IsBefore context acted y.cpu.place → StaysAt context acted z.cpu.place → GoesOn context acted (idle + 1) z → GoesOn context acted idle y
  silent acted idle i y z here role goes few inner stays next = silent_by acted idle i y z here role (λ n k. leads i y z n here.small k goes) few inner stays next

  -- a jump inside the code
  pub silent_jump : (acted : Bool) (idle : ℕ) (i : I) (place : ℕ) (y : Private) → SilentAt i y.cpu.place → y.cpu.role ≡ Outside → x.kind.effect_of i y.cpu ≡ Jump place → place < 2 ^ 32 → idle + 1 ≤ v.most
      → IsBefore context acted y.cpu.place → StaysAt context acted place → GoesOn context acted (idle + 1) (jumped place y) → GoesOn context acted idle y
  silent_jump acted idle i place y here role is low few inner stays next = silent_by acted idle i y (jumped place y) here role steps few inner stays next
    where
      steps : (n : Noted) → Known y n → Leads i y (jumped place y) n
      steps n k =
          subst (λ e. (possible p e y.cpu n.storage ≡ true) × Stepped p y (jumped place y) n (leaves x l (reading_of v) p e y.cpu n)) (sym is) (
            place_ok place low,
            record {
              processor = refl;
              spells = k.spells;
              alike = record { inside = refl; mem = refl; pending = λ q. refl; holder = λ word. ap (λ b. holder_after x.library p b n.storage.mem n.storage.mem n.past.holder word) k.free ∙ holder_still x.library p n.storage.mem n.storage.mem n.past.holder sound.words refl word };
              fair = k.fair;
              others = λ a no_right. refl;
              output = refl;
              status = refl;
            },
          )

  -- STRAIGHT SILENT CODE
  pub straight : (acted : Bool) (is : List I) (idle : ℕ) (y z : Private) → HasAt x (reading_of v) context.quiet context.number y.cpu.place (silently is) → y.cpu.role ≡ Outside → Goes x.kind context.room is y z → idle + length is ≤ v.most
      → ((q : ℕ) → y.cpu.place ≤ q → q < y.cpu.place + length is → IsBefore context acted q) → StaysAt context acted z.cpu.place → GoesOn context acted (idle + length is) z → GoesOn context acted idle y
  straight acted [] idle y z has role goes few inner stays next =
      subst (λ (a : Private). GoesOn context acted idle a) (sym goes) (λ j n is low spells hs. next j n is (omega (arith, low)) spells hs)
  straight acted (i ∷ is) idle y z has role (mid, w, rest) few inner stays next =
      let a = went_next context.room (x.kind.effect_of i y.cpu) y mid w in
      silent acted idle i y mid has.0 role w (omega (arith, few)) (inner y.cpu.place (omega arith) (omega arith)) (stay is mid has.1 a.0 rest)
      (straight acted is (idle + 1) mid z (subst (λ q. HasAt x (reading_of v) context.quiet context.number q (silently is)) (sym a.0) has.1) (a.1 ∙ role) rest (omega (arith, few))
      (λ q lo hi. inner q (let b = a.0 in omega (arith, b, lo)) (let b = a.0 in omega (arith, b, hi))) stays (λ j n e low spells hs. next j n e (omega (arith, low)) spells hs))
    where
      stay : (is : List I) (mid : Private) → HasAt x (reading_of v) context.quiet context.number (y.cpu.place + 1) (silently is) → mid.cpu.place ≡ y.cpu.place + 1 → Goes x.kind context.room is mid z → StaysAt context acted mid.cpu.place
      stay [] mid h e g = subst (λ (b : Private). StaysAt context acted b.cpu.place) (sym g) stays
      stay (k ∷ ks) mid h e g = inl (ap v.owner e ∙ h.0.owner)
