-- One access of an instruction to an object that all share is an operation's step.
use Rattle.std.proofs.Common.{◌≡◌, ℕ, ◌+◌, ◌-◌, ◌<◌, ◌^◌, Bool, true, false, List, [], ◌∷◌, Option, Some, None, refl, sym, ap, ◌∙◌, subst, arith}
use Rattle.std.specs.Prelude.{◌&&◌, if◌then◌else◌}
use Rattle.std.proofs.lemmas.Bool.{false≢true}
use Rattle.std.proofs.lemmas.Bool.Decides.{nat_tests}
use Rattle.ax_store.specs.declared.entry.Entry.{Entry}
use Rattle.ax_map.specs.Map.{covers}
use Rattle.ax_store.specs.Bytes.{byte_of, number_at}
use Rattle.ax_store.specs.Storage.{at_place, byte_after, entry_of, load, newest, seen}
use Rattle.ax_store.proofs.Numbers.{number_same}
use Rattle.ax_isa.specs.declared.effects.Change.{Change}
use Rattle.ax_isa.specs.declared.effects.Change.TheVariants.{Update, Exchange}
use Rattle.ax_isa.specs.declared.effects.Effect.{Effect}
use Rattle.ax_isa.specs.declared.effects.Effect.TheVariants.{Set, Compare, Load, Store, Locked, Fence, Link, LinkHalf, PairStore, Jump, CallTo, Return, Output, Trap, Nop}
use Rattle.ax_isa.specs.declared.effects.Rest.{Rest}
use Rattle.ax_isa.specs.Past.{Noted, store}
use Rattle.ax_isa.specs.Processor.{Processor}
use Rattle.ax_isa.specs.Steps.{Kind, changed, exchanged, extended, is_flushing, possible, replace}
use Rattle.ax_isa.specs.Tells.{An_act}
use Rattle.ax_isa.proofs.Functions.{at_same}
use Rattle.ax_follow.specs.Contract.{Fair, IsOwn, MayWrite}
use Rattle.ax_expand.specs.Accesses.{HasObject, IsAccess, OneAccess, shared_load, shared_seen}
use Rattle.ax_expand.specs.Bytes.{bytes_world}
use Rattle.ax_expand.specs.OneInstruction.{Does, Happens, OneInstruction}
use Rattle.ax_expand.specs.Operation.{Operation, Deed, Keeps}
use Rattle.ax_expand.specs.Shared.{IsBelow, Object, Sees, Shared, counts, is_shared, shared_only, shared_replaced}
use Rattle.ax_expand.proofs.Sights.{fair_append, fair_entry, object_number, object_shared, put_fair, sees_replace, sees_store}
use Rattle.ax_expand.proofs.Telling.{access_ok, place_ok}
use Rattle.ax_expand.proofs.Views.{seen_stored, seen_write}

-- stores to frames say nothing of a byte that all share
newest_shared : (inside : Bool) (es : List Entry) (b v : ℕ) → is_shared b ≡ true → newest inside es b v ≡ newest inside (shared_only es) b v
newest_shared inside [] b v s = refl
newest_shared inside (e ∷ es) b v s = go (counts e) refl (λ u. newest_shared inside es b u s)
  where
    go : (t : Bool) → counts e ≡ t → ((u : ℕ) → newest inside es b u ≡ newest inside (shared_only es) b u) → newest inside es b (byte_after inside e b v) ≡ newest inside (if t then e ∷ shared_only es else shared_only es) b v
    go true c next = next (byte_after inside e b v)
    go false c next =
        let away : covers e.address e.bytes b ≡ false = grind (arith, nat_tests, c, s) in
        let same : byte_after inside e b v ≡ v = ap (λ t. if t && inside then byte_of e.value (b - e.address) else v) away in
        ap (newest inside es b) same ∙ next v

-- what a processor loads of an object
pub shared_loaded : (p a n : ℕ) (m : Noted) (w : Shared) → Sees m.storage w → IsBelow a n → load p a n m.storage ≡ shared_load p a n w
shared_loaded p a n m w h low = number_same (seen p m.storage) (shared_seen p w) a n each
  where
    each : (i : ℕ) → i < n → seen p m.storage (a + i) ≡ shared_seen p w (a + i)
    each i lt =
        let b = a + i in
        let s : is_shared b ≡ true = grind (arith, nat_tests, low, lt) in
        newest_shared (m.storage.inside b) (m.storage.waiting p) b (m.storage.mem b) s ∙ ap (λ f. newest (f b) (shared_only (m.storage.waiting p)) b (m.storage.mem b)) h.inside ∙ ap (λ es. newest (w.inside b) es b (m.storage.mem b)) (h.pending p)
        ∙ ap (λ v. newest (w.inside b) (w.pending p) b v) (sym (ap (λ t. if t then m.storage.mem b else 0) s) ∙ ap (λ f. f b) h.mem)

-- a locked access goes on to the next place
pub exchanged_next : (bytes to high : ℕ) (rest : Rest) (change : Change) (old : ℕ) (c : Processor) → ((exchanged bytes to high rest change old c).place ≡ c.place + 1) × ((exchanged bytes to high rest change old c).status ≡ c.status) × ((exchanged bytes to high rest change old c).role ≡ c.role)
exchanged_next bytes to high rest (Update op number) old c = (refl, refl, refl)
exchanged_next bytes to high rest (Exchange expected number false) old c = (refl, refl, refl)
exchanged_next bytes to high rest (Exchange expected number true) old c = (refl, refl, refl)

module _ (buffered : Bool) (keeps : ℕ → Bool) (p : ℕ) (c : Processor) (n : Noted) (w : Shared) (small : c.place + 1 < 2 ^ 32) (sees : Sees n.storage w) (fair : Fair p (n.storage.waiting p)) (flat : buffered ≡ false → n.storage.waiting p ≡ []) where
  abbrev Deeds : Effect → Type 0
  Deeds e = (possible p e c n.storage ≡ true) × ((d : Deed Shared) → IsAccess buffered keeps p e c w d → Does bytes_world buffered keeps p e c n d)

  never : (b : Bool) (A : Type 0) → b ≡ false → b ≡ true → A
  never b A e f = absurd (false≢true (sym e ∙ f))

  -- a load
  loads : (to a bytes : ℕ) (rest : Rest) (ends : Bool) → Object a bytes w → Deeds (Load to a bytes rest ends)
  loads to a bytes rest ends o = (
    access_ok c a bytes n w small sees o,
    λ d h. record {
      regs = subst (λ q. Keeps keeps (at_place c.regs to (extended bytes rest (c.regs to) q)) d.regs) (sym (shared_loaded p a bytes n w sees o.below)) h.regs;
      next = refl;
      status = refl;
      role = λ tag. refl;
      frame = λ b mine. refl;
      fair = fair;
      others = λ b no_right. refl;
      shows = λ lib tag words. subst (Sees n.storage) h.world sees;
      output = sym h.output;
      excuse = λ e lib tag. never d.excused _ h.excused e;
    },
  )

  -- a store, which waits behind a buffer
  fair_store : (b : Bool) (a bytes number : ℕ) → Object a bytes w → Fair p ((store b p (entry_of a bytes number) n).storage.waiting p)
  fair_store false a bytes number o = fair
  fair_store true a bytes number o = subst (λ es. Fair p es) (sym (at_same n.storage.waiting p _)) (fair_append p (entry_of a bytes number) (n.storage.waiting p) fair (fair_entry p a bytes _ o.below))

  others_store : (b : Bool) (a bytes number : ℕ) → Object a bytes w → (q : ℕ) → ¬ MayWrite p q → (store b p (entry_of a bytes number) n).storage.mem q ≡ n.storage.mem q
  others_store true a bytes number o q no_right = refl
  others_store false a bytes number o q no_right = put_fair p n.storage.inside a bytes _ n.storage.mem o.below q no_right

  stores : (a bytes number : ℕ) → Object a bytes w → Deeds (Store a bytes number)
  stores a bytes number o = (
    access_ok c a bytes n w small sees o,
    λ d h. record {
      regs = h.regs;
      next = refl;
      status = refl;
      role = λ tag. refl;
      frame = λ b mine. seen_stored buffered p (entry_of a bytes number) n b flat o.below mine;
      fair = fair_store buffered a bytes number o;
      others = others_store buffered a bytes number o;
      shows = λ lib tag words. subst (Sees (store buffered p (entry_of a bytes number) n).storage) h.world (sees_store buffered p (entry_of a bytes number) n w (object_shared a bytes w o) sees);
      output = sym h.output;
      excuse = λ e lib tag. never d.excused _ h.excused e;
    },
  )

  -- a locked access
  frame_replace : (a bytes : ℕ) (v : Option ℕ) → Object a bytes w → (b : ℕ) → IsOwn p b → seen p (replace p a bytes v n).storage b ≡ seen p n.storage b
  frame_replace a bytes None o b mine = refl
  frame_replace a bytes (Some v) o b mine = seen_write p (entry_of a bytes v) n b o.below mine

  fair_replace : (a bytes : ℕ) (v : Option ℕ) → Fair p ((replace p a bytes v n).storage.waiting p)
  fair_replace a bytes None = fair
  fair_replace a bytes (Some v) = fair

  others_replace : (a bytes : ℕ) (v : Option ℕ) → Object a bytes w → (q : ℕ) → ¬ MayWrite p q → (replace p a bytes v n).storage.mem q ≡ n.storage.mem q
  others_replace a bytes None o q no_right = refl
  others_replace a bytes (Some v) o q no_right = put_fair p n.storage.inside a bytes _ n.storage.mem o.below q no_right

  locks : (to high a bytes : ℕ) (rest : Rest) (change : Change) → Object a bytes w → Deeds (Locked to high a bytes rest change)
  locks to high a bytes rest change o =
      let is = object_number n a bytes w sees o in
      let new = changed bytes change (number_at n.storage.mem a bytes) in
      let next = exchanged_next bytes to high rest change (number_at n.storage.mem a bytes) c in (
        access_ok c a bytes n w small sees o,
        λ d h. record {
          regs = subst (λ q. Keeps keeps (exchanged bytes to high rest change q c).regs d.regs) (sym is) h.regs;
          next = next.0;
          status = next.1;
          role = λ tag. next.2;
          frame = frame_replace a bytes new o;
          fair = fair_replace a bytes new;
          others = others_replace a bytes new o;
          shows = λ lib tag words. subst (Sees (replace p a bytes new n).storage) (ap (λ q. shared_replaced a bytes (changed bytes change q) w) is ∙ h.world) (sees_replace p a bytes new n w sees);
          output = sym h.output;
          excuse = λ e lib tag. never d.excused _ h.excused e;
        },
      )

  fences : Deeds Fence
  fences = (
    place_ok (c.place + 1) small,
    λ d h. record {
      regs = h.regs;
      next = refl;
      status = refl;
      role = λ tag. refl;
      frame = λ b mine. refl;
      fair = fair;
      others = λ b no_right. refl;
      shows = λ lib tag words. subst (Sees n.storage) h.world sees;
      output = sym h.output;
      excuse = λ e lib tag. never d.excused _ h.excused e;
    },
  )

  nothing : Deeds Nop
  nothing = (
    place_ok (c.place + 1) small,
    λ d h. record {
      regs = h.regs;
      next = refl;
      status = refl;
      role = λ tag. refl;
      frame = λ b mine. refl;
      fair = fair;
      others = λ b no_right. refl;
      shows = λ lib tag words. subst (Sees n.storage) h.world sees;
      output = sym h.output;
      excuse = λ e lib tag. never d.excused _ h.excused e;
    },
  )

  each : (e : Effect) → HasObject e w → Deeds e
  each (Load to a bytes rest ends) o = loads to a bytes rest ends o
  each (Store a bytes number) o = stores a bytes number o
  each (Locked to high a bytes rest change) o = locks to high a bytes rest change o
  each Fence o = fences
  each (Set to number) o = absurd o
  each (Compare left right) o = absurd o
  each (Link to a bytes rest) o = absurd o
  each (LinkHalf to a) o = absurd o
  each (PairStore to a bytes number) o = absurd o
  each (Jump place) o = absurd o
  each (CallTo place saved) o = absurd o
  each (Return back) o = absurd o
  each (Output number) o = absurd o
  each Trap o = absurd o
  each Nop o = nothing

does_map : {W : Type 0} (a : Option (Deed W)) (P Q : Deed W → Type 0) → ((d : Deed W) → P d → Q d) → Happens a P → Happens a Q
does_map None P Q f h = h
does_map (Some d) P Q f h = f d h

both : (a b : Bool) → a ≡ true → b ≡ true → (a && b) ≡ true
both a b e f = ap (λ t. t && b) e ∙ f

-- ONE ACCESS is one instruction's operation
pub one_access : {I : Type 0} (k : Kind I) (keeps : ℕ → Bool) (i : I) (o : Operation Shared) → OneAccess k keeps i o → OneInstruction k bytes_world keeps i o
one_access k keeps i o one =
    record {
      acts = λ p c n t w r. (let e = k.effect_of i c in
          let y = each k.buffered keeps p c n w r.small r.sees r.fair r.flat e (one.object c t w r.regs r.fits) in
          let none : n.storage.waiting p ≡ [] → w.pending p ≡ [] = λ h. sym (r.sees.pending p) ∙ ap shared_only h in
          let z = one.accesses p c t w r.regs r.fits (λ plain. none (r.flat plain)) (λ flushes. none (r.empty (both (is_flushing e) (possible p e c n.storage) flushes y.0))) in
          (y.0, does_map (o.happens An_act p t.regs t.seen w) (λ d. IsAccess k.buffered keeps p e c w d) (λ d. Does bytes_world k.buffered keeps p e c n d) y.1 z));
    }
