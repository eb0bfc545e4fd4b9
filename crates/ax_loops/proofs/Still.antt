-- Steps that leave memory as it is, and give nothing.
use Rattle.std.proofs.Common.{◌≡◌, ℕ, ◌+◌, ◌<◌, ◌≤◌, ◌^◌, Bool, true, false, Some, None, refl, sym, ap, ◌∙◌, subst, inl, inr, arith}
use Rattle.std.specs.Prelude.{◌⊎◌}
use Rattle.std.proofs.lemmas.Bool.{false≢true}
use Rattle.ax_store.specs.Storage.{at_place, newest, seen}
use Rattle.ax_tags.specs.declared.tags.Role.TheVariants.{None as Outside}
use Rattle.ax_tags.specs.declared.tags.Tag.{Tag}
use Rattle.ax_tags.specs.declared.tags.Tag.TheVariants.{Silent, Stored}
use Rattle.ax_isa.specs.declared.effects.Effect.{Effect}
use Rattle.ax_isa.specs.declared.effects.Effect.TheVariants.{Set, Compare, Load, Store, Locked, Fence, Link, LinkHalf, PairStore, Jump, CallTo, Return, Output, Trap, Nop}
use Rattle.ax_isa.specs.Past.{Noted}
use Rattle.ax_isa.specs.Processor.{Processor}
use Rattle.ax_isa.specs.Steps.{effected, go_to, possible}
use Rattle.ax_isa.specs.Tells.{Nothing, Library, Done, gives_nothing, holder_after, is_excused, is_freeing, kept_after, told, unless_over}
use Rattle.ax_isa.specs.Run.{Setting, idle_after, step}
use Rattle.ax_follow.specs.Contract.{Meaning, Reading, machine_status, Fair, Stage, stage_after, OwnStep, Steppable, Steps}
use Rattle.ax_follow.proofs.Follow.{calm_step, fetch, idle_grows, leaves}
use Rattle.ax_expand.specs.Continues.{Context, IsContext, StaysAt}
use Rattle.ax_expand.specs.Expands.{reading_of}
use Rattle.ax_expand.specs.Private.{Private, Spells, if_room, may_use, went}
use Rattle.ax_expand.specs.Shared.{masked, shared_only}
use Rattle.ax_expand.specs.Standing.{Here, hush}
use Rattle.ax_expand.specs.World.{Alike, Words}
use Rattle.ax_expand.proofs.Steps.{holder_still, some_is, usable}
use Rattle.ax_expand.proofs.Telling.{place_ok, silent_told}
use Rattle.ax_expand.proofs.Views.{inside_at}
use Rattle.ax_loops.specs.Moving.{Turns, nowhere}

-- what a step of registers alone leaves: another processor, and a storage with its notes of reservations as they were
pub record Moved (lib : Library) (tag : Tag) (p : ℕ) (e : Effect) (c after : Processor) (n : Noted) (d : Done) : Type 0 where
  pub processor : d.processor ≡ after
  pub status : after.status ≡ c.status
  pub role : after.role ≡ c.role
  pub storage : d.noted.storage ≡ n.storage
  pub last : d.noted.past.last ≡ n.past.last
  pub lost : d.noted.past.lost ≡ n.past.lost
  pub kept : c.role ≡ Outside → d.noted.past.kept ≡ at_place n.past.kept p (unless_over (gives_nothing d.gives) (n.past.kept p))
  pub holder : d.noted.past.holder ≡ holder_after lib p (is_freeing tag) n.storage.mem d.noted.storage.mem n.past.holder
  pub output : d.outcome.output ≡ None

module _ (lib : Library) (buffered : Bool) (tag : Tag) (p : ℕ) (c : Processor) (n : Noted) where
  abbrev done : Effect → Done
  done e = told lib tag p e c n (effected buffered p e c n)

  abbrev Moves : Effect → Processor → Type 0
  Moves e after = (possible p e c n.storage ≡ true) × Moved lib tag p e c after n (done e)

  set_moves : (to number : ℕ) → c.place + 1 < 2 ^ 32 → (z : Private) (f : ℕ → ℕ) → went nowhere (Set to number) (record { cpu = c; frame = f }) ≡ Some z → Moves (Set to number) z.cpu
  set_moves to number small z f h =
      subst (λ (b : Private). Moves (Set to number) b.cpu) (some_is _ z h) (place_ok (c.place + 1) small, record { processor = refl; status = refl; role = refl; storage = refl; last = refl; lost = refl; kept = λ out. ap (λ r. at_place n.past.kept p (unless_over (gives_nothing (done (Set to number)).gives) (kept_after r (Set to number) (seen p n.storage) (n.past.kept p) (n.past.next p)))) out; holder = refl; output = refl })

  compare_moves : (left right : ℕ) → c.place + 1 < 2 ^ 32 → (z : Private) (f : ℕ → ℕ) → went nowhere (Compare left right) (record { cpu = c; frame = f }) ≡ Some z → Moves (Compare left right) z.cpu
  compare_moves left right small z f h =
      subst (λ (b : Private). Moves (Compare left right) b.cpu) (some_is _ z h) (place_ok (c.place + 1) small, record { processor = refl; status = refl; role = refl; storage = refl; last = refl; lost = refl; kept = λ out. ap (λ r. at_place n.past.kept p (unless_over (gives_nothing (done (Compare left right)).gives) (kept_after r (Compare left right) (seen p n.storage) (n.past.kept p) (n.past.next p)))) out; holder = refl; output = refl })

  nop_moves : c.place + 1 < 2 ^ 32 → Moves Nop (go_to (c.place + 1) c)
  nop_moves small = (place_ok (c.place + 1) small, record { processor = refl; status = refl; role = refl; storage = refl; last = refl; lost = refl; kept = λ out. ap (λ r. at_place n.past.kept p (unless_over (gives_nothing (done Nop).gives) (kept_after r Nop (seen p n.storage) (n.past.kept p) (n.past.next p)))) out; holder = refl; output = refl })

  fence_moves : c.place + 1 < 2 ^ 32 → Moves Fence (go_to (c.place + 1) c)
  fence_moves small = (place_ok (c.place + 1) small, record { processor = refl; status = refl; role = refl; storage = refl; last = refl; lost = refl; kept = λ out. ap (λ r. at_place n.past.kept p (unless_over (gives_nothing (done Fence).gives) (kept_after r Fence (seen p n.storage) (n.past.kept p) (n.past.next p)))) out; holder = refl; output = refl })

  jump_moves : (place : ℕ) → place < 2 ^ 32 → Moves (Jump place) (go_to place c)
  jump_moves place small = (place_ok place small, record { processor = refl; status = refl; role = refl; storage = refl; last = refl; lost = refl; kept = λ out. ap (λ r. at_place n.past.kept p (unless_over (gives_nothing (done (Jump place)).gives) (kept_after r (Jump place) (seen p n.storage) (n.past.kept p) (n.past.next p)))) out; holder = refl; output = refl })

  no_room : (a bytes : ℕ) → may_use nowhere a bytes ≡ true → ⊥
  no_room a bytes h = let u = usable nowhere a bytes h in false≢true (inside_at nowhere a bytes u.all 0 u.some)

  not_there : (e : Effect) (a bytes : ℕ) (y z : Private) → if_room (may_use nowhere a bytes) y ≡ Some z → Moves e z.cpu
  not_there e a bytes y z h = go (may_use nowhere a bytes) refl h
    where
      go : (t : Bool) → may_use nowhere a bytes ≡ t → if_room t y ≡ Some z → Moves e z.cpu
      go true s h = absurd (no_room a bytes s)
      go false s h = absurd (let g : None ≡ Some z = h in cc)

  none_is : {A : Type 0} (z : Private) → None ≡ Some z → A
  none_is z h = absurd (let g : None ≡ Some z = h in cc)

  -- an instruction that computes on registers
  pub computed : (e : Effect) → c.place + 1 < 2 ^ 32 → (z : Private) (f : ℕ → ℕ) → went nowhere e (record { cpu = c; frame = f }) ≡ Some z → Moves e z.cpu
  computed (Set to number) small z f h = set_moves to number small z f h
  computed (Compare left right) small z f h = compare_moves left right small z f h
  computed (Load to a bytes rest ends) small z f h = not_there (Load to a bytes rest ends) a bytes _ z h
  computed (Store a bytes number) small z f h = not_there (Store a bytes number) a bytes _ z h
  computed (Locked to high a bytes rest change) small z f h = none_is z h
  computed Fence small z f h = subst (λ (b : Private). Moves Fence b.cpu) (some_is _ z h) (fence_moves small)
  computed (Link to a bytes rest) small z f h = none_is z h
  computed (LinkHalf to a) small z f h = none_is z h
  computed (PairStore to a bytes number) small z f h = none_is z h
  computed (Jump place) small z f h = none_is z h
  computed (CallTo place saved) small z f h = none_is z h
  computed (Return back) small z f h = none_is z h
  computed (Output number) small z f h = none_is z h
  computed Trap small z f h = none_is z h
  computed Nop small z f h = subst (λ (b : Private). Moves Nop b.cpu) (some_is _ z h) (nop_moves small)

  -- and one that goes to a place
  pub turned : (e : Effect) (place : ℕ) → Turns e c place → place < 2 ^ 32 → Moves e (go_to place c)
  turned e place (inl is) small = subst (λ q. Moves q (go_to place c)) (sym is) (jump_moves place small)
  turned e place (inr is) small = subst (λ q. Moves q (go_to place c)) (sym is.0) (subst (λ q. Moves Nop (go_to q c)) (sym is.1) (nop_moves (subst (λ q. q < 2 ^ 32) is.1 small)))

-- a frame that nothing is stored in
frame_if : (t : Bool) (y a z : Private) → (t ≡ true → a.frame ≡ y.frame) → if_room t a ≡ Some z → z.frame ≡ y.frame
frame_if true y a z f h = let q = some_is a z h in ap (λ b. b.frame) (sym q) ∙ f refl
frame_if false y a z f h = absurd (let g : None ≡ Some z = h in cc)

frame_none : (y z : Private) → None ≡ Some z → z.frame ≡ y.frame
frame_none y z h = absurd (let g : None ≡ Some z = h in cc)

pub frame_stays : (e : Effect) (y z : Private) → went nowhere e y ≡ Some z → z.frame ≡ y.frame
frame_stays (Set to number) y z h = frame_if true y _ z (λ t. refl) h
frame_stays (Compare left right) y z h = frame_if true y _ z (λ t. refl) h
frame_stays (Load to a bytes rest ends) y z h = frame_if (may_use nowhere a bytes) y _ z (λ t. refl) h
frame_stays (Store a bytes number) y z h = frame_if (may_use nowhere a bytes) y _ z (λ t. absurd (let u = usable nowhere a bytes t in false≢true (inside_at nowhere a bytes u.all 0 u.some))) h
frame_stays (Locked to high a bytes rest change) y z h = frame_none y z h
frame_stays Fence y z h = frame_if true y _ z (λ t. refl) h
frame_stays (Link to a bytes rest) y z h = frame_none y z h
frame_stays (LinkHalf to a) y z h = frame_none y z h
frame_stays (PairStore to a bytes number) y z h = frame_none y z h
frame_stays (Jump place) y z h = frame_none y z h
frame_stays (CallTo place saved) y z h = frame_none y z h
frame_stays (Return back) y z h = frame_none y z h
frame_stays (Output number) y z h = frame_none y z h
frame_stays Trap y z h = frame_none y z h
frame_stays Nop y z h = frame_if true y _ z (λ t. refl) h

-- a mark that frees no lock
pub silent_frees : (quiet : Bool) → is_freeing (hush quiet Silent) ≡ false
silent_frees true = refl
silent_frees false = refl

pub stored_frees : (quiet : Bool) → is_freeing (hush quiet Stored) ≡ false
stored_frees true = refl
stored_frees false = refl

-- what a step leaves that leaves memory as it is, and gives nothing
pub record Still (lib : Library) (tag : Tag) (p : ℕ) (c : Processor) (n : Noted) (d : Done) : Type 0 where
  pub inside : d.noted.storage.inside ≡ n.storage.inside
  pub mem : d.noted.storage.mem ≡ n.storage.mem
  pub waiting : d.noted.storage.waiting ≡ n.storage.waiting
  pub holder : d.noted.past.holder ≡ holder_after lib p (is_freeing tag) n.storage.mem d.noted.storage.mem n.past.holder
  pub output : d.outcome.output ≡ None
  pub status : d.processor.status ≡ c.status
  pub gives : d.gives ≡ Nothing

pub moved_still : (lib : Library) (tag : Tag) (p : ℕ) (e : Effect) (c after : Processor) (n : Noted) (d : Done) → Moved lib tag p e c after n d → d.gives ≡ Nothing → Still lib tag p c n d
moved_still lib tag p e c after n d h gives =
    record {
      inside = ap (λ st. st.inside) h.storage;
      mem = ap (λ st. st.mem) h.storage;
      waiting = ap (λ st. st.waiting) h.storage;
      holder = h.holder;
      output = h.output;
      status = ap (λ q. q.status) h.processor ∙ h.status;
      gives = gives;
    }

-- what a step leaves that writes nothing
pub record Unwritten (lib : Library) (tag : Tag) (p : ℕ) (n new : Noted) : Type 0 where
  pub inside : new.storage.inside ≡ n.storage.inside
  pub mem : new.storage.mem ≡ n.storage.mem
  pub waiting : new.storage.waiting ≡ n.storage.waiting
  pub holder : new.past.holder ≡ holder_after lib p (is_freeing tag) n.storage.mem new.storage.mem n.past.holder

pub unwritten_spells : (lib : Library) (tag : Tag) (p : ℕ) (n new : Noted) (f : ℕ → ℕ) → Unwritten lib tag p n new → Spells p n f → Spells p new f
unwritten_spells lib tag p n new f h spells = λ b mine.
    ap (λ g. newest (g b) (new.storage.waiting p) b (new.storage.mem b)) h.inside
    ∙ ap (λ g. newest (n.storage.inside b) (g p) b (new.storage.mem b)) h.waiting
    ∙ ap (λ g. newest (n.storage.inside b) (n.storage.waiting p) b (g b)) h.mem
    ∙ spells b mine

pub unwritten_alike : (lib : Library) (tag : Tag) (p : ℕ) (n new : Noted) → Words lib → is_freeing tag ≡ false → Unwritten lib tag p n new → Alike n new
unwritten_alike lib tag p n new words frees h =
    record {
      inside = h.inside;
      mem = ap masked h.mem;
      pending = λ q. ap (λ f. shared_only (f q)) h.waiting;
      holder = λ word. ap (λ f. f word) h.holder ∙ ap (λ t. holder_after lib p t n.storage.mem new.storage.mem n.past.holder word) frees ∙ holder_still lib p n.storage.mem new.storage.mem n.past.holder words (ap masked h.mem) word;
    }

still_unwritten : (lib : Library) (tag : Tag) (p : ℕ) (c : Processor) (n : Noted) (d : Done) → Still lib tag p c n d → Unwritten lib tag p n d.noted
still_unwritten lib tag p c n d h = record { inside = h.inside; mem = h.mem; waiting = h.waiting; holder = h.holder }

pub still_spells : (lib : Library) (tag : Tag) (p : ℕ) (c : Processor) (n : Noted) (d : Done) (f : ℕ → ℕ) → Still lib tag p c n d → Spells p n f → Spells p d.noted f
still_spells lib tag p c n d f h spells = unwritten_spells lib tag p n d.noted f (still_unwritten lib tag p c n d h) spells

still_alike : (lib : Library) (tag : Tag) (p : ℕ) (c : Processor) (n : Noted) (d : Done) → Words lib → is_freeing tag ≡ false → Still lib tag p c n d → Alike n d.noted
still_alike lib tag p c n d words frees h = unwritten_alike lib tag p n d.noted words frees (still_unwritten lib tag p c n d h)

module _ {I P W : Type 0} (context : Context I P W) (sound : IsContext context) (Inv : Stage → P → Processor → Noted → Type 0) where
  abbrev x : Setting I
  x = context.setting

  abbrev l : Meaning P W
  l = context.meaning

  abbrev v : Reading
  v = reading_of context.reading

  abbrev p : ℕ
  p = context.processor

  abbrev s : P
  s = context.above

  stays_from : (acted : Bool) (from to : ℕ) → v.owner from ≡ context.number → StaysAt context acted to → (v.owner to ≡ v.owner from) ⊎ ((acted ≡ true) × (to ≡ l.begins s))
  stays_from acted from to e (inl h) = inl (h ∙ sym e)
  stays_from acted from to e (inr h) = inr h

  -- A STEP THAT GIVES NOTHING keeps in step
  pub still_step : (j : Stage) (c : Processor) (n : Noted) (w : W) (d : Done) → Steppable l v x p j s c n w → is_freeing (x.tags c.place) ≡ false → v.owner c.place ≡ context.number → Still x.library (x.tags c.place) p c n d → StaysAt context j.acted d.processor.place
      → idle_after Nothing (is_excused d) j.idle ≤ v.most → Inv (stage_after Nothing (is_excused d) j) s d.processor d.noted
      → OwnStep l v Inv p j s c n d Nothing (record { processor = s; world = w; output = None; gives = Nothing; excused = false })
  still_step j c n w d may frees owner h stays few next =
      calm_step x l v Inv p j s c n w d
      (record {
        stays = stays_from j.acted c.place d.processor.place owner stays;
        shows = sound.over.up d.noted w (sound.laws.alike n d.noted w (still_alike x.library (x.tags c.place) p c n d sound.words frees h) (sound.over.down n w may.sees));
        touches = record { fair = subst (λ es. Fair p es) (sym (ap (λ f. f p) h.waiting)) may.fair; others = λ a no. ap (λ f. f a) h.mem };
        tells = h.gives;
        few = few;
        output = h.output;
        status = h.status ∙ may.running ∙ sym (ap machine_status may.runs);
      })
      (λ run. next)

  -- one of registers alone
  pub moving : (i : I) (after : Processor) (j : Stage) (c : Processor) (n : Noted) (w : W) → Here x v context.quiet context.number c.place (i, Silent) → c.role ≡ Outside → Steppable l v x p j s c n w
      → (let e = x.kind.effect_of i c in let d = leaves x l v p e c n in
      ((possible p e c n.storage ≡ true) × Moved x.library (x.tags c.place) p e c after n d) → StaysAt context j.acted after.place → j.idle + 1 ≤ v.most
      → (d.gives ≡ Nothing → Moved x.library (x.tags c.place) p e c after n d → Inv (stage_after Nothing (is_excused d) j) s d.processor d.noted) → Steps l v x Inv p j s c n w (step x p c n))
  moving i after j c n w here role may moves stays few next =
      let e = x.kind.effect_of i c in
      let d = leaves x l v p e c n in
      let gives : d.gives ≡ Nothing = silent_told context.quiet (x.tags c.place) c d.bytes d.outcome here.tag role in
      let grows = idle_grows (is_excused d) j.idle in
      let there : StaysAt context j.acted d.processor.place = subst (λ (q : Processor). StaysAt context j.acted q.place) (sym moves.1.processor) stays in
      fetch x l v Inv p i Silent e j s c n w here.code here.mark refl moves.0
      (still_step j c n w d may (ap is_freeing here.tag ∙ silent_frees context.quiet) here.owner (moved_still x.library (x.tags c.place) p e c after n d moves.1 gives) there (omega (arith, grows, few)) (next gives moves.1))
