-- The step of a piece that has the event, and pieces that end with it.
use Rattle.std.proofs.Common.{◌≡◌, ℕ, ◌+◌, ◌≤◌, Bool, true, false, List, [], ◌∷◌, ◌++◌, length, refl, sym, ap, ◌∙◌, subst, inl, inr, arith}
use Rattle.std.specs.Prelude.{◌||◌, Option, Some, None}
use Rattle.std.proofs.lemmas.Bool.{false≢true}
use Rattle.ax_words.specs.declared.source.SourceStatus.TheVariants.{Running as Runs}
use Rattle.ax_store.specs.Storage.{seen}
use Rattle.ax_tags.specs.declared.tags.Role.TheVariants.{None as Outside}
use Rattle.ax_tags.specs.declared.tags.Tag.{Tag}
use Rattle.ax_tags.specs.declared.tags.Tag.TheVariants.{Act}
use Rattle.ax_isa.specs.declared.cpu.Status.TheVariants.{Running}
use Rattle.ax_isa.specs.Past.{Noted, drain}
use Rattle.ax_isa.specs.Processor.{Processor}
use Rattle.ax_isa.specs.Steps.{possible}
use Rattle.ax_isa.specs.Tells.{An_act, A_miss, Done, is_excused, is_freeing, holder_after}
use Rattle.ax_isa.specs.Run.{Setting, step}
use Rattle.ax_follow.specs.Contract.{Meaning, Did, Reading, machine_status, Fair, IsOwn, Happening, Own, Drained, Other, Stage, Possible, OwnStep, Steps, Steppable, InStep}
use Rattle.ax_follow.proofs.Follow.{leaves, fetch, Acting}
use Rattle.ax_expand.specs.Continues.{Continues, Context, Does, IsContext, StableAt, GoesOn, quietly}
use Rattle.ax_expand.specs.Expands.{reading_of}
use Rattle.ax_expand.specs.Private.{Private, Spells, went, Goes}
use Rattle.ax_expand.specs.Shared.{masked, shared_only}
use Rattle.ax_expand.specs.Standing.{hush, Here, HasAt, silently}
use Rattle.ax_expand.specs.World.{Alike}
use Rattle.ax_expand.proofs.Steps.{holder_still}
use Rattle.ax_expand.proofs.Straight.{Ahead, by_step, silent_length, has_first, has_rest, goes_place, known, leads, straight}
use Rattle.ax_expand.proofs.Telling.{act_hushed}

or_end : (a b : Bool) → b ≡ true → (a || b) ≡ true
or_end true b h = refl
or_end false b h = h

-- no acting instruction frees a lock
no_free : (quiet : Bool) → is_freeing (hush quiet Act) ≡ false
no_free true = refl
no_free false = refl

module _ {I P W : Type 0} (x : Setting I) (l : Meaning P W) (v : Reading) (p : ℕ) (stable : StableAt x l p) where
  -- where it has arrived
  pub arrived : (s : P) (c : Processor) (j : Stage) (n : Noted) → j.acted ≡ true → c.place ≡ l.begins s → l.matches p c n s → (hs : List Happening) → InStep l (reading_of v) x p hs j s c n
  arrived s c j n is at matches [] = λ acted there. matches
  arrived s c j n is at matches (Own ∷ hs) = (λ acted there. matches, λ w may. absurd (may.inner is at))
  arrived s c j n is at matches (Drained ∷ hs) = (λ acted there. matches, λ on. arrived s c j (drain p n) is at (stable.drains c n s on matches) hs)
  arrived s c j n is at matches (Other new ∷ hs) = (λ acted there. matches, λ b. arrived s c j new is at (stable.others c n new s b matches) hs)

  -- what the step of an acting instruction has to do
  abbrev pub Acts : I → P → Private → Type 0
  Acts i s y = (j : Stage) (n : Noted) (w : W) → Spells p n y.frame → Steppable l (reading_of v) x p j s y.cpu n w
      → (let e = x.kind.effect_of i y.cpu in (possible p e y.cpu n.storage ≡ true) × Possible (l.chosen An_act p s w) (λ t. Acting x l (reading_of v) p s y.cpu n (leaves x l (reading_of v) p e y.cpu n) t))

  -- THE STEP THAT HAS THE EVENT, and after which the code is through
  pub acting : (idle : ℕ) (quiet : Bool) (number : ℕ) (i : I) (s : P) (y : Private) → Here x (reading_of v) quiet number y.cpu.place (i, Act) → l.number s ≡ number → Acts i s y → Continues x l v p false idle s y
  acting idle quiet number i s y here is acts = by_step x l v p false idle s y (λ e. absurd (false≢true e)) own
    where
      makes : (j : Stage) (n : Noted) (d : Done) (o : Option (Did P W)) → j.acted ≡ false → Possible o (λ t. Acting x l (reading_of v) p s y.cpu n d t) → Possible o (λ t. OwnStep l (reading_of v) (Ahead x l v p) p j s y.cpu n d An_act t)
      makes j n d None before h = h
      makes j n d (Some t) before h =
          record {
            once = λ g. before;
            owned = λ g. here.owner ∙ sym is;
            stays = inr (refl, h.goes);
            shows = h.shows;
            touches = record { fair = h.fair; others = h.others };
            tells = h.tells;
            missed = λ g. absurd (let z : An_act ≡ A_miss = g in cc);
            excused = λ g e. or_end j.rested (is_excused d) (h.excuse e);
            few = omega arith;
            output = h.output;
            status = h.status;
            goes = λ r hs. arrived t.processor d.processor _ d.noted refl h.goes h.matches hs;
          }

      own : (j : Stage) (n : Noted) (w : W) → j.acted ≡ false → j.idle ≤ idle → Spells p n y.frame → Steppable l (reading_of v) x p j s y.cpu n w → Steps l (reading_of v) x (Ahead x l v p) p j s y.cpu n w (step x p y.cpu n)
      own j n w before low spells may =
          let e = x.kind.effect_of i y.cpu in
          let q = acts j n w spells may in
          fetch x l (reading_of v) (Ahead x l v p) p i Act e j s y.cpu n w here.code here.mark refl q.0 (makes j n (leaves x l (reading_of v) p e y.cpu n) (l.chosen An_act p s w) before q.1)

module _ {I P W : Type 0} (context : Context I P W) (sound : IsContext context) (stable : StableAt context.setting context.meaning context.processor) where
  abbrev x : Setting I
  x = context.setting

  abbrev l : Meaning P W
  l = context.meaning

  abbrev v : Reading
  v = context.reading

  abbrev p : ℕ
  p = context.processor

  abbrev s : P
  s = context.above

  abbrev ActsAt : I → ℕ → Type 0
  ActsAt i place = Here x (reading_of v) context.quiet context.number place (i, Act)

  -- an event that touches the processor and its frame alone
  pub private_act : (idle : ℕ) (i : I) (t : P) (y z : Private) → ActsAt i y.cpu.place → l.number s ≡ context.number → l.status t ≡ Runs → y.cpu.role ≡ Outside → went context.room (x.kind.effect_of i y.cpu) y ≡ Some z
      → Does context t None → z.cpu.place ≡ l.begins t → ((w : W) → l.fits p s w → (n : Noted) → Spells p n z.frame → l.matches p z.cpu n t) → GoesOn context false idle y
  private_act idle i t y z here is runs role goes does at matches = acting x l v p stable idle context.quiet context.number i s y here is acts
    where
      acts : Acts x l v p stable i s y
      acts j n w spells may =
          let e = x.kind.effect_of i y.cpu in
          let d = leaves x l (reading_of v) p e y.cpu n in
          let z0 = leads context sound i y z n here.small (known context sound context.quiet Act j y n w (no_free context.quiet) here.tag spells may) goes in
          let g = z0.1 in
          let good : Acting x l (reading_of v) p s y.cpu n d (quietly context t None w) = record {
            shows = sound.over.up d.noted w (sound.laws.alike n d.noted w g.alike (sound.over.down n w may.sees));
            fair = g.fair;
            others = g.others;
            tells = act_hushed context.quiet (x.tags y.cpu.place) y.cpu d.bytes d.outcome here.tag role;
            excuse = λ h. absurd (false≢true h);
            output = g.output;
            status = ap (λ c. c.status) g.processor ∙ g.status ∙ may.running ∙ sym (ap machine_status runs);
            goes = ap (λ c. c.place) g.processor ∙ at;
            matches = subst (λ c. l.matches p c d.noted t) (sym g.processor) (matches w may.fits d.noted g.spells);
          } in
          (z0.0, subst (λ o. Possible o (λ t. Acting x l (reading_of v) p s y.cpu n d t)) (sym (does w may.fits)) good)

  -- A PIECE OF PRIVATE CODE: its last step has the event
  pub private_piece : (is : List I) (i : I) (t : P) (y mid z : Private) → HasAt x (reading_of v) context.quiet context.number y.cpu.place (silently is ++ (i, Act) ∷ []) → l.number s ≡ context.number → l.status t ≡ Runs → y.cpu.role ≡ Outside
      → Goes x.kind context.room is y mid → went context.room (x.kind.effect_of i mid.cpu) mid ≡ Some z → length is ≤ v.most → Does context t None → z.cpu.place ≡ l.begins t → ((w : W) → l.fits p s w → (n : Noted) → Spells p n z.frame → l.matches p z.cpu n t) → GoesOn context false 0 y
  private_piece is i t y mid z has number_is runs role goes last few does at matches =
      let there = goes_place x.kind context.room is y mid goes in
      let rest = subst (λ q. HasAt x (reading_of v) context.quiet context.number q ((i, Act) ∷ [])) (ap (λ q. y.cpu.place + q) (silent_length is) ∙ sym there.0) (has_rest x (reading_of v) context.quiet context.number y.cpu.place (silently is) ((i, Act) ∷ []) has) in
      straight context sound false is 0 y mid (has_first x (reading_of v) context.quiet context.number y.cpu.place (silently is) _ has) role goes (omega (arith, few)) (λ q lo hi e. absurd (false≢true e)) (inl rest.0.owner)
      (private_act (0 + length is) i t mid z rest.0 number_is runs (there.1 ∙ role) last does at matches)

  -- what a step does that leaves memory as it is: a jump, an output, an end
  pub record Still (i : I) (y : Private) (q : Processor) (out : Option ℕ) (n : Noted) : Type 0 where
    pub may : possible p (x.kind.effect_of i y.cpu) y.cpu n.storage ≡ true
    pub storage : (leaves x l (reading_of v) p (x.kind.effect_of i y.cpu) y.cpu n).noted.storage ≡ n.storage
    pub holder : (leaves x l (reading_of v) p (x.kind.effect_of i y.cpu) y.cpu n).noted.past.holder ≡ holder_after x.library p (is_freeing (x.tags y.cpu.place)) n.storage.mem n.storage.mem n.past.holder
    pub processor : (leaves x l (reading_of v) p (x.kind.effect_of i y.cpu) y.cpu n).processor ≡ q
    pub output : (leaves x l (reading_of v) p (x.kind.effect_of i y.cpu) y.cpu n).outcome.output ≡ out

  pub still_act : (idle : ℕ) (i : I) (t : P) (y : Private) (q : Processor) (out : Option ℕ) → ActsAt i y.cpu.place → l.number s ≡ context.number → y.cpu.role ≡ Outside → ((n : Noted) → Still i y q out n) → Does context t out
      → (y.cpu.status ≡ Running → q.status ≡ machine_status (l.status t)) → q.place ≡ l.begins t → ((n : Noted) → Spells p n y.frame → l.matches p q n t) → GoesOn context false idle y
  still_act idle i t y q out here is role still does status at matches = acting x l v p stable idle context.quiet context.number i s y here is acts
    where
      acts : Acts x l v p stable i s y
      acts j n w spells may =
          let e = x.kind.effect_of i y.cpu in
          let d = leaves x l (reading_of v) p e y.cpu n in
          let z = still n in
          let free : is_freeing (x.tags y.cpu.place) ≡ false = ap is_freeing here.tag ∙ no_free context.quiet in
          let like : Alike n d.noted = record {
            inside = ap (λ st. st.inside) z.storage;
            mem = ap (λ st. masked st.mem) z.storage;
            pending = λ r. ap (λ st. shared_only (st.waiting r)) z.storage;
            holder = λ word. ap (λ f. f word) z.holder ∙ ap (λ b. holder_after x.library p b n.storage.mem n.storage.mem n.past.holder word) free ∙ holder_still x.library p n.storage.mem n.storage.mem n.past.holder sound.words refl word;
          } in
          let good : Acting x l (reading_of v) p s y.cpu n d (quietly context t out w) = record {
            shows = sound.over.up d.noted w (sound.laws.alike n d.noted w like (sound.over.down n w may.sees));
            fair = subst (λ st. Fair p (st.waiting p)) (sym z.storage) may.fair;
            others = λ b no_right. ap (λ st. st.mem b) z.storage;
            tells = act_hushed context.quiet (x.tags y.cpu.place) y.cpu d.bytes d.outcome here.tag role;
            excuse = λ h. absurd (false≢true h);
            output = z.output;
            status = ap (λ c. c.status) z.processor ∙ status may.running;
            goes = ap (λ c. c.place) z.processor ∙ at;
            matches = subst (λ c. l.matches p c d.noted t) (sym z.processor) (matches d.noted (subst (λ st. (b : ℕ) → IsOwn p b → seen p st b ≡ y.frame b) (sym z.storage) spells));
          } in
          (z.may, subst (λ o. Possible o (λ t. Acting x l (reading_of v) p s y.cpu n d t)) (sym (does w may.fits)) good)

  -- straight silent code, and then what ends the piece
  pub led : (is : List I) (y mid : Private) (rest : List (I × Tag)) → HasAt x (reading_of v) context.quiet context.number y.cpu.place (silently is ++ rest) → v.owner mid.cpu.place ≡ context.number → y.cpu.role ≡ Outside → Goes x.kind context.room is y mid → length is ≤ v.most
      → GoesOn context false (length is) mid → GoesOn context false 0 y
  led is y mid rest has owner role goes few next =
      straight context sound false is 0 y mid (has_first x (reading_of v) context.quiet context.number y.cpu.place (silently is) rest has) role goes (omega (arith, few)) (λ q lo hi e. absurd (false≢true e)) (inl owner) (λ j n e low spells hs. next j n e (omega (arith, low)) spells hs)
