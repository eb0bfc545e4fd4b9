-- How a step of one processor leaves what belongs to another.
use Rattle.std.proofs.Common.{◌≡◌, ℕ, ◌/◌, Bool, true, false, List, [], ◌∷◌, ◌++◌, Option, Some, None, refl, sym, ap, ◌∙◌, subst, inl, inr, ⊎_elim, arith}
use Rattle.std.specs.Prelude.{◌⊎◌, ◌||◌, nat_eq, if◌then◌else◌}
use Rattle.std.proofs.lemmas.Bool.{cases_eq, ne_eqb}
use Rattle.std.proofs.lemmas.Bool.Decides.{nat_tests}
use Rattle.ax_store.specs.declared.entry.Entry.{Entry}
use Rattle.ax_store.specs.declared.entry.Reservation.{Reservation}
use Rattle.ax_map.specs.Map.{covers}
use Rattle.ax_store.specs.Bytes.{put}
use Rattle.ax_store.specs.Reservations.{reaches, left_of}
use Rattle.ax_store.specs.Storage.{Storage, at_place, entry_of, with_waiting, with_linked, may_pair}
use Rattle.ax_isa.specs.declared.effects.Effect.{Effect}
use Rattle.ax_isa.specs.declared.effects.Effect.TheVariants.{Set, Compare, Load, Store, Locked, Fence, Link, LinkHalf, PairStore, Jump, CallTo, Return, Output, Trap, Nop}
use Rattle.ax_isa.specs.declared.effects.Saved.{Saved}
use Rattle.ax_isa.specs.declared.effects.Saved.TheVariants.{Register, Stack}
use Rattle.ax_tags.specs.declared.tags.Tag.{Tag}
use Rattle.ax_isa.specs.Past.{Note, Noted, lost_by, touched_by, write, with_storage, store, drain_first, drain, link, drop_link, stands}
use Rattle.ax_isa.specs.Processor.{Processor}
use Rattle.ax_isa.specs.Steps.{effected, stuck, possible, paired, replace, saved_place}
use Rattle.ax_isa.specs.Tells.{Given, Library, told, told_stuck, done_by, past_after}
use Rattle.ax_isa.specs.Run.{Setting, at_code, step, step_at}
use Rattle.ax_isa.proofs.Functions.{at_same, at_other}
use Rattle.ax_follow.specs.Contract.{IsOwn, MayWrite, Fair, KeepsLink, Later, ByOthers}

-- a write that doesn't reach a line leaves the bytes of that line
not_covered : (a n b : ℕ) → reaches a n (b / 64) ≡ false → covers a n b ≡ false
not_covered a n b h = grind (arith, nat_tests, h)

pub put_other : (inside : ℕ → Bool) (a n v : ℕ) (f : ℕ → ℕ) (b : ℕ) → covers a n b ≡ false → put inside a n v f b ≡ f b
put_other inside a n v f b h = rw (h) refl

-- what another processor's write leaves of a reservation
left_cases : (p q a n : ℕ) (l : Option Reservation) → (p ≡ q → ⊥) → (left_of p a n q l ≡ None) ⊎ ((left_of p a n q l ≡ l) × ((r : Reservation) → l ≡ Some r → reaches a n (r.address / 64) ≡ false))
left_cases p q a n None ne = inl refl
left_cases p q a n (Some r) ne = go (reaches a n (r.address / 64)) refl
  where
    apart : nat_eq q p ≡ false
    apart = ne_eqb q p (λ e. ne (sym e))

    go : (t : Bool) → reaches a n (r.address / 64) ≡ t → (left_of p a n q (Some r) ≡ None) ⊎ ((left_of p a n q (Some r) ≡ Some r) × ((x : Reservation) → Some r ≡ Some x → reaches a n (x.address / 64) ≡ false))
    go true e = inl (rw (apart, e) refl)
    go false e = inr (rw (apart, e) refl, λ x is. let same : r ≡ x = cc in subst (λ y. reaches a n (y.address / 64) ≡ false) same e)

-- how what belongs to another processor fares
pub record Quiet (q : ℕ) (old new : Noted) : Type 0 where
  pub inside : new.storage.inside ≡ old.storage.inside
  pub waiting : new.storage.waiting q ≡ old.storage.waiting q
  pub linked : KeepsLink q old.storage new.storage
  pub last : new.past.last q ≡ old.past.last q
  pub lost : (r : Reservation) → old.past.last q ≡ Some r → (old.storage.linked q ≡ Some r) ⊎ (old.past.lost q ≡ true) → (new.storage.linked q ≡ Some r) ⊎ (new.past.lost q ≡ true)
  pub kept : Later (old.past.kept q) (new.past.kept q) old.storage.mem new.storage.mem
  pub next : Later (old.past.next q) (new.past.next q) old.storage.mem new.storage.mem
  pub called : new.past.called q ≡ old.past.called q

link_refl : (q : ℕ) (a : Storage) → KeepsLink q a a
link_refl q a = inr (refl, λ r b is g. refl)

link_trans : (q : ℕ) (a b c : Storage) → KeepsLink q a b → KeepsLink q b c → KeepsLink q a c
link_trans q a b c h (inl none) = inl none
link_trans q a b c (inl none) (inr k) = inl (k.0 ∙ none)
link_trans q a b c (inr j) (inr k) = inr (k.0 ∙ j.0, λ r x is g. k.1 r x (j.0 ∙ is) g ∙ j.1 r x is g)

later_refl : (x : Note) (f : ℕ → ℕ) → Later x x f f
later_refl x f = record { read = refl; number = refl; reached = λ b. inl (refl, refl) }

later_trans : (x y z : Note) (f g h : ℕ → ℕ) → Later x y f g → Later y z g h → Later x z f h
later_trans x y z f g h a b = record { read = b.read ∙ a.read; number = b.number ∙ a.number; reached = λ i. go i (a.reached i) (b.reached i) }
  where
    go : (i : ℕ) → ((g i ≡ f i) × (y.touched i ≡ x.touched i)) ⊎ (y.touched i ≡ true) → ((h i ≡ g i) × (z.touched i ≡ y.touched i)) ⊎ (z.touched i ≡ true) → ((h i ≡ f i) × (z.touched i ≡ x.touched i)) ⊎ (z.touched i ≡ true)
    go i u (inr t) = inr t
    go i (inr t) (inl k) = inr (k.1 ∙ t)
    go i (inl j) (inl k) = inl (k.0 ∙ j.0, k.1 ∙ j.1)

pub quiet_refl : (q : ℕ) (n : Noted) → Quiet q n n
quiet_refl q n =
    record { inside = refl; waiting = refl; linked = link_refl q n.storage; last = refl; lost = λ r is h. h; kept = later_refl (n.past.kept q) n.storage.mem; next = later_refl (n.past.next q) n.storage.mem; called = refl }

pub quiet_trans : (q : ℕ) (a b c : Noted) → Quiet q a b → Quiet q b c → Quiet q a c
quiet_trans q a b c h k =
    record {
      inside = k.inside ∙ h.inside;
      waiting = k.waiting ∙ h.waiting;
      linked = link_trans q a.storage b.storage c.storage h.linked k.linked;
      last = k.last ∙ h.last;
      lost = λ r is i. k.lost r (h.last ∙ is) (h.lost r is i);
      kept = later_trans (a.past.kept q) (b.past.kept q) (c.past.kept q) a.storage.mem b.storage.mem c.storage.mem h.kept k.kept;
      next = later_trans (a.past.next q) (b.past.next q) (c.past.next q) a.storage.mem b.storage.mem c.storage.mem h.next k.next;
      called = k.called ∙ h.called;
    }

-- what a write notes of a last linked load
lost_cases : (p q a n : ℕ) (r : Reservation) (l last : Option Reservation) (t : Bool) → (p ≡ q → ⊥) → last ≡ Some r → (l ≡ Some r) ⊎ (t ≡ true) → (left_of p a n q l ≡ Some r) ⊎ (lost_by p a n q last t ≡ true)
lost_cases p q a n r l last t ne is h = subst (λ x. (left_of p a n q l ≡ Some r) ⊎ (lost_by p a n q x t ≡ true)) (sym is) (go (reaches a n (r.address / 64)) refl h)
  where
    apart : nat_eq q p ≡ false
    apart = ne_eqb q p (λ e. ne (sym e))

    go : (b : Bool) → reaches a n (r.address / 64) ≡ b → (l ≡ Some r) ⊎ (t ≡ true) → (left_of p a n q l ≡ Some r) ⊎ (lost_by p a n q (Some r) t ≡ true)
    go true e h = inr (rw (apart, e) refl)
    go false e (inl h) = inl (ap (left_of p a n q) h ∙ (rw (apart, e) refl))
    go false e (inr h) = inr (rw (apart, e) h)

-- and of what was read
touched_later : (p q : ℕ) (e : Entry) (x : Note) (inside : ℕ → Bool) (f : ℕ → ℕ) → (p ≡ q → ⊥) → Later x (touched_by p e q x) f (put inside e.address e.bytes e.value f)
touched_later p q e x inside f ne = record { read = refl; number = refl; reached = λ b. go b (covers e.address e.bytes b) refl }
  where
    apart : nat_eq q p ≡ false
    apart = ne_eqb q p (λ e. ne (sym e))

    go : (b : ℕ) (t : Bool) → covers e.address e.bytes b ≡ t
        → ((put inside e.address e.bytes e.value f b ≡ f b) × ((touched_by p e q x).touched b ≡ x.touched b)) ⊎ ((touched_by p e q x).touched b ≡ true)
    go b true h = inr (ap (λ y. if y then x.touched b else (covers e.address e.bytes b || x.touched b)) apart ∙ ap (λ y. y || x.touched b) h)
    go b false h = inl (put_other inside e.address e.bytes e.value f b h, ap (λ y. if y then x.touched b else (covers e.address e.bytes b || x.touched b)) apart ∙ ap (λ y. y || x.touched b) h)

pub write_quiet : (p q : ℕ) (e : Entry) (n : Noted) → (p ≡ q → ⊥) → Quiet q n (write p e n)
write_quiet p q e n ne =
    record {
      inside = refl;
      waiting = refl;
      linked = ⊎_elim (λ none. inl none) (λ kept. inr (kept.0, λ r b is same. put_other n.storage.inside e.address e.bytes e.value n.storage.mem b (not_covered e.address e.bytes b (subst (λ x. reaches e.address e.bytes x ≡ false) same (kept.1 r is))))) (left_cases p q e.address e.bytes (n.storage.linked q) ne);
      last = refl;
      lost = λ r is h. lost_cases p q e.address e.bytes r (n.storage.linked q) (n.past.last q) (n.past.lost q) ne is h;
      kept = touched_later p q e (n.past.kept q) n.storage.inside n.storage.mem ne;
      next = touched_later p q e (n.past.next q) n.storage.inside n.storage.mem ne;
      called = refl;
    }

not_same : (p q : ℕ) → (p ≡ q → ⊥) → q ≡ p → ⊥
not_same p q ne e = ne (sym e)

pub waiting_quiet : (p q : ℕ) (es : List Entry) (n : Noted) → (p ≡ q → ⊥) → Quiet q n (with_storage (with_waiting p es n.storage) n)
waiting_quiet p q es n ne =
    record { inside = refl; waiting = at_other n.storage.waiting p es q (not_same p q ne); linked = inr (refl, λ r b is same. refl); last = refl; lost = λ r is h. h; kept = later_refl (n.past.kept q) n.storage.mem; next = later_refl (n.past.next q) n.storage.mem; called = refl }

linked_quiet : (p q : ℕ) (r : Option Reservation) (n : Noted) → (p ≡ q → ⊥) → Quiet q n (with_storage (with_linked p r n.storage) n)
linked_quiet p q r n ne =
    let same = at_other n.storage.linked p r q (not_same p q ne) in
    record { inside = refl; waiting = refl; linked = inr (same, λ x b is near. refl); last = refl; lost = λ x is h. ⊎_elim (λ e. inl (same ∙ e)) (λ e. inr e) h; kept = later_refl (n.past.kept q) n.storage.mem; next = later_refl (n.past.next q) n.storage.mem; called = refl }

link_quiet : (p q a bytes : ℕ) (n : Noted) → (p ≡ q → ⊥) → Quiet q n (link p a bytes n)
link_quiet p q a bytes n ne =
    let r : Reservation = record { address = a; bytes = bytes } in
    let same = at_other n.storage.linked p (Some r) q (not_same p q ne) in
    let last = at_other n.past.last p (Some r) q (not_same p q ne) in
    let lost = at_other n.past.lost p false q (not_same p q ne) in
    record { inside = refl; waiting = refl; linked = inr (same, λ x b is near. refl); last = last; lost = λ x is h. ⊎_elim (λ e. inl (same ∙ e)) (λ e. inr (lost ∙ e)) h; kept = later_refl (n.past.kept q) n.storage.mem; next = later_refl (n.past.next q) n.storage.mem; called = refl }

store_quiet : (b : Bool) (p q : ℕ) (e : Entry) (n : Noted) → (p ≡ q → ⊥) → Quiet q n (store b p e n)
store_quiet true p q e n ne = waiting_quiet p q (n.storage.waiting p ++ e ∷ []) n ne
store_quiet false p q e n ne = write_quiet p q e n ne

drain_first_quiet : (p q : ℕ) (es : List Entry) (n : Noted) → (p ≡ q → ⊥) → Quiet q n (drain_first p es n)
drain_first_quiet p q [] n ne = quiet_refl q n
drain_first_quiet p q (e ∷ es) n ne =
    let m = with_storage (with_waiting p es n.storage) n in
    quiet_trans q n m (write p e m) (waiting_quiet p q es n ne) (write_quiet p q e m ne)

pub drain_quiet : (p q : ℕ) (n : Noted) → (p ≡ q → ⊥) → Quiet q n (drain p n)
drain_quiet p q n ne = drain_first_quiet p q (n.storage.waiting p) n ne

replace_quiet : (p q a bytes : ℕ) (v : Option ℕ) (n : Noted) → (p ≡ q → ⊥) → Quiet q n (replace p a bytes v n)
replace_quiet p q a bytes None n ne = quiet_refl q n
replace_quiet p q a bytes (Some v) n ne = write_quiet p q (entry_of a bytes v) n ne

paired_quiet : (t : Bool) (p q to a bytes v : ℕ) (c : Processor) (n : Noted) → (p ≡ q → ⊥) → Quiet q n (paired t p to a bytes v c n).noted
paired_quiet true p q to a bytes v c n ne =
    let m = write p (entry_of a bytes v) n in
    quiet_trans q n m (with_storage (with_linked p None m.storage) m) (write_quiet p q (entry_of a bytes v) n ne) (linked_quiet p q None m ne)
paired_quiet false p q to a bytes v c n ne = linked_quiet p q None n ne

saved_quiet : (b : Bool) (p q : ℕ) (x : Saved) (place : ℕ) (n : Noted) → (p ≡ q → ⊥) → Quiet q n (saved_place b p x place n)
saved_quiet b p q (Register to) place n ne = quiet_refl q n
saved_quiet b p q (Stack pointer a) place n ne = store_quiet b p q (entry_of a 8 place) n ne

effect_quiet : (b : Bool) (p q : ℕ) (e : Effect) (c : Processor) (n : Noted) → (p ≡ q → ⊥) → Quiet q n (effected b p e c n).noted
effect_quiet b p q (Set to number) c n ne = quiet_refl q n
effect_quiet b p q (Compare left right) c n ne = quiet_refl q n
effect_quiet b p q (Load to a bytes rest ends_half) c n ne = quiet_refl q n
effect_quiet b p q (Store a bytes number) c n ne = store_quiet b p q (entry_of a bytes number) n ne
effect_quiet b p q (Locked to high a bytes rest change) c n ne = replace_quiet p q a bytes _ n ne
effect_quiet b p q Fence c n ne = quiet_refl q n
effect_quiet b p q (Link to a bytes rest) c n ne = link_quiet p q a bytes n ne
effect_quiet b p q (LinkHalf to a) c n ne = link_quiet p q a 16 n ne
effect_quiet b p q (PairStore to a bytes number) c n ne = paired_quiet (may_pair p a bytes n.storage) p q to a bytes number c n ne
effect_quiet b p q (Jump place) c n ne = quiet_refl q n
effect_quiet b p q (CallTo place saved) c n ne = saved_quiet b p q saved _ n ne
effect_quiet b p q (Return back) c n ne = quiet_refl q n
effect_quiet b p q (Output number) c n ne = quiet_refl q n
effect_quiet b p q Trap c n ne = quiet_refl q n
effect_quiet b p q Nop c n ne = quiet_refl q n

-- what a step notes of p leaves the notes of others
past_quiet : (lib : Library) (tag : Tag) (p q : ℕ) (e : Effect) (c : Processor) (n : Noted) (g : Given) (new : Noted) → (p ≡ q → ⊥) → Quiet q new (record { storage = new.storage; past = past_after lib tag p e c n g new })
past_quiet lib tag p q e c n g new ne =
    record {
      inside = refl;
      waiting = refl;
      linked = link_refl q new.storage;
      last = refl;
      lost = λ r is h. h;
      kept = subst (λ x. Later (new.past.kept q) x new.storage.mem new.storage.mem) (sym (at_other new.past.kept p _ q (not_same p q ne))) (later_refl (new.past.kept q) new.storage.mem);
      next = subst (λ x. Later (new.past.next q) x new.storage.mem new.storage.mem) (sym (at_other new.past.next p _ q (not_same p q ne))) (later_refl (new.past.next q) new.storage.mem);
      called = at_other new.past.called p _ q (not_same p q ne);
    }

done_quiet : (lib : Library) (b : Bool) (tag : Tag) (p q : ℕ) (e : Effect) (c : Processor) (n : Noted) → (p ≡ q → ⊥) → Quiet q n (done_by lib b tag p e c n).noted
done_quiet lib b tag p q e c n ne = go (possible p e c n.storage)
  where
    go : (t : Bool) → Quiet q n (if t then told lib tag p e c n (effected b p e c n) else told_stuck tag c (stuck c n)).noted
    go true = quiet_trans q n (effected b p e c n).noted _ (effect_quiet b p q e c n ne) (past_quiet lib tag p q e c n _ (effected b p e c n).noted ne)
    go false = quiet_refl q n

module _ {I : Type 0} (x : Setting I) where
  step_at_quiet : (i : Option I) (p q : ℕ) (c : Processor) (n : Noted) → (p ≡ q → ⊥) → Quiet q n (step_at x i p c n).noted
  step_at_quiet None p q c n ne = quiet_refl q n
  step_at_quiet (Some i) p q c n ne = done_quiet x.library x.kind.buffered (x.tags c.place) p q (x.kind.effect_of i c) c n ne

  -- no step of p, whatever the instruction, touches another processor's buffer, reservation or notes, but by a write that reaches them and is noted
  pub step_quiet : (p q : ℕ) (c : Processor) (n : Noted) → (p ≡ q → ⊥) → Quiet q n (step x p c n).noted
  step_quiet p q c n ne = step_at_quiet (at_code x.code c.place) p q c n ne

-- without buffers nothing comes to wait
store_flat : (p : ℕ) (e : Entry) (n : Noted) → n.storage.waiting p ≡ [] → (store false p e n).storage.waiting p ≡ []
store_flat p e n h = h

paired_flat : (t : Bool) (p to a bytes v : ℕ) (c : Processor) (n : Noted) → n.storage.waiting p ≡ [] → (paired t p to a bytes v c n).noted.storage.waiting p ≡ []
paired_flat true p to a bytes v c n h = h
paired_flat false p to a bytes v c n h = h

replace_flat : (p a bytes : ℕ) (v : Option ℕ) (n : Noted) → n.storage.waiting p ≡ [] → (replace p a bytes v n).storage.waiting p ≡ []
replace_flat p a bytes None n h = h
replace_flat p a bytes (Some v) n h = h

saved_flat : (p : ℕ) (x : Saved) (place : ℕ) (n : Noted) → n.storage.waiting p ≡ [] → (saved_place false p x place n).storage.waiting p ≡ []
saved_flat p (Register to) place n h = h
saved_flat p (Stack pointer a) place n h = h

effect_flat : (p : ℕ) (e : Effect) (c : Processor) (n : Noted) → n.storage.waiting p ≡ [] → (effected false p e c n).noted.storage.waiting p ≡ []
effect_flat p (Set to number) c n h = h
effect_flat p (Compare left right) c n h = h
effect_flat p (Load to a bytes rest ends_half) c n h = h
effect_flat p (Store a bytes number) c n h = h
effect_flat p (Locked to high a bytes rest change) c n h = replace_flat p a bytes _ n h
effect_flat p Fence c n h = h
effect_flat p (Link to a bytes rest) c n h = h
effect_flat p (LinkHalf to a) c n h = h
effect_flat p (PairStore to a bytes number) c n h = paired_flat (may_pair p a bytes n.storage) p to a bytes number c n h
effect_flat p (Jump place) c n h = h
effect_flat p (CallTo place saved) c n h = saved_flat p saved _ n h
effect_flat p (Return back) c n h = h
effect_flat p (Output number) c n h = h
effect_flat p Trap c n h = h
effect_flat p Nop c n h = h

done_flat : (lib : Library) (b : Bool) (tag : Tag) (p : ℕ) (e : Effect) (c : Processor) (n : Noted) → b ≡ false → n.storage.waiting p ≡ [] → (done_by lib b tag p e c n).noted.storage.waiting p ≡ []
done_flat lib b tag p e c n is h = subst (λ t. (done_by lib t tag p e c n).noted.storage.waiting p ≡ []) (sym is) (go (possible p e c n.storage))
  where
    go : (t : Bool) → (if t then told lib tag p e c n (effected false p e c n) else told_stuck tag c (stuck c n)).noted.storage.waiting p ≡ []
    go true = effect_flat p e c n h
    go false = h

module _ {I : Type 0} (x : Setting I) where
  step_at_flat : (i : Option I) (p : ℕ) (c : Processor) (n : Noted) → x.kind.buffered ≡ false → n.storage.waiting p ≡ [] → (step_at x i p c n).noted.storage.waiting p ≡ []
  step_at_flat None p c n is h = h
  step_at_flat (Some i) p c n is h = done_flat x.library x.kind.buffered (x.tags c.place) p (x.kind.effect_of i c) c n is h

  pub step_flat : (p : ℕ) (c : Processor) (n : Noted) → x.kind.buffered ≡ false → n.storage.waiting p ≡ [] → (step x p c n).noted.storage.waiting p ≡ []
  step_flat p c n is h = step_at_flat (at_code x.code c.place) p c n is h

-- an address of q's frame is none that p may write
pub frames_apart : (p q a : ℕ) → (p ≡ q → ⊥) → IsOwn q a → MayWrite p a → ⊥
frames_apart p q a ne own (inl below) = omega (arith, own, below)
frames_apart p q a ne own (inr mine) = ne (omega (arith, own, mine))

-- p's step is a change by others for q
pub others_from : (p q : ℕ) (old new : Noted) → (p ≡ q → ⊥) → Quiet q old new → ((a : ℕ) → ¬ MayWrite p a → new.storage.mem a ≡ old.storage.mem a) → ByOthers q old new
others_from p q old new ne quiet own =
    record { inside = quiet.inside; waiting = quiet.waiting; own = λ a mine. own a (frames_apart p q a ne mine); linked = quiet.linked; last = quiet.last; lost = quiet.lost; kept = quiet.kept; next = quiet.next; called = quiet.called }

-- p's oldest store that waits goes to memory, as another sees it
pub by_drain : (p q : ℕ) (es : List Entry) (n : Noted) → (p ≡ q → ⊥) → Fair p es → ByOthers q n (drain_first p es n)
by_drain p q [] n ne fair = others_from p q n n ne (quiet_refl q n) (λ a h. refl)
by_drain p q (e ∷ es) n ne fair =
    others_from p q n (drain_first p (e ∷ es) n) ne (drain_first_quiet p q (e ∷ es) n ne) (λ a not_mine. go a not_mine (covers e.address e.bytes a) refl)
  where
    go : (a : ℕ) → ¬ MayWrite p a → (t : Bool) → covers e.address e.bytes a ≡ t → put n.storage.inside e.address e.bytes e.value n.storage.mem a ≡ n.storage.mem a
    go a not_mine true h = absurd (not_mine (fair.0.bytes a h))
    go a not_mine false h = put_other n.storage.inside e.address e.bytes e.value n.storage.mem a h

-- the loss of p's reservation, as each processor sees it
pub by_drop : (p q : ℕ) (n : Noted) → ByOthers q n (drop_link p n)
by_drop p q n =
    record {
      inside = refl;
      waiting = refl;
      own = λ a mine. refl;
      linked = ⊎_elim (λ same. inl (subst (λ x. at_place n.storage.linked p None x ≡ None) (sym same) (at_same n.storage.linked p None))) (λ ne. inr (at_other n.storage.linked p None q ne, λ r b is near. refl)) (cases_eq q p);
      last = refl;
      lost = λ r is h. ⊎_elim (λ same. inr (subst (λ x. at_place n.past.lost p (stands (n.storage.linked p) (n.past.lost p)) x ≡ true) (sym same) (at_same n.past.lost p (stands (n.storage.linked p) (n.past.lost p)) ∙ noted r (n.storage.linked p) (n.past.lost p) (subst (λ x. (n.storage.linked x ≡ Some r) ⊎ (n.past.lost x ≡ true)) same h)))) (λ ne. ⊎_elim (λ e. inl (at_other n.storage.linked p None q ne ∙ e)) (λ e. inr (at_other n.past.lost p (stands (n.storage.linked p) (n.past.lost p)) q ne ∙ e)) h) (cases_eq q p);
      kept = later_refl (n.past.kept q) n.storage.mem;
      next = later_refl (n.past.next q) n.storage.mem;
      called = refl;
    }
  where
    noted : (r : Reservation) (x : Option Reservation) (t : Bool) → (x ≡ Some r) ⊎ (t ≡ true) → stands x t ≡ true
    noted r None t (inl e) = absurd (let f : None ≡ Some r = e in cc)
    noted r None t (inr e) = e
    noted r (Some y) t h = refl
