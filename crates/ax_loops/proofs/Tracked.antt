-- What a processor read of an object, and what others have written of it since.
use Rattle.std.proofs.Common.{◌≡◌, ℕ, zero, suc, ◌+◌, ◌<◌, Bool, true, false, List, [], ◌∷◌, refl, sym, ap, ◌∙◌, subst, inl, inr, ⊎_elim, arith}
use Rattle.std.specs.Prelude.{◌⊎◌, ◌&&◌, ◌||◌, not, if◌then◌else◌, nat_eq}
use Rattle.std.proofs.lemmas.Bool.{eq-eqb, false≢true, true≢false}
use Rattle.std.proofs.lemmas.Bool.Decides.{nat_tests}
use Rattle.ax_store.specs.declared.entry.Entry.{Entry}
use Rattle.ax_map.specs.Map.{covers}
use Rattle.ax_store.specs.Bytes.{number_at}
use Rattle.ax_store.specs.Storage.{Storage, at_place, load, newest, seen}
use Rattle.ax_store.proofs.Numbers.{number_same}
use Rattle.ax_tags.specs.declared.tags.Role.{Role}
use Rattle.ax_tags.specs.declared.tags.Role.TheVariants.{None as Outside}
use Rattle.ax_isa.specs.declared.effects.Effect.{Effect}
use Rattle.ax_isa.specs.Past.{Note, Noted, all_of, any_of, drain, drain_first, finds_other, read_note}
use Rattle.ax_isa.specs.Tells.{Given, Nothing, gives_nothing, kept_after, unless_over}
use Rattle.ax_isa.proofs.Functions.{at_same}
use Rattle.ax_follow.specs.Contract.{ByOthers}
use Rattle.ax_expand.proofs.Views.{seen_drain}

all_from : (f : ℕ → Bool) (a n : ℕ) → ((i : ℕ) → i < n → f (a + i) ≡ true) → all_of f a n ≡ true
all_from f a zero h = refl
all_from f a (suc n) h =
    let here : f a ≡ true = (let e : a + 0 ≡ a = omega arith in subst (λ q. f q ≡ true) e (h 0 (omega arith))) in
    ap (λ t. t && all_of f (a + 1) n) here ∙ all_from f (a + 1) n (λ i lt. let e : a + (i + 1) ≡ a + 1 + i = omega arith in subst (λ q. f q ≡ true) e (h (i + 1) (omega (arith, lt))))

none_of : (f : ℕ → Bool) (a n : ℕ) → any_of f a n ≡ false → (i : ℕ) → i < n → f (a + i) ≡ false
none_of f a zero h i lt = absurd (omega (arith, lt))
none_of f a (suc n) h zero lt = go (f a) refl h
  where
    go : (t : Bool) → f a ≡ t → (t || any_of f (a + 1) n) ≡ false → f (a + 0) ≡ false
    go true e h = absurd (true≢false h)
    go false e h = let q : a + 0 ≡ a = omega arith in ap f q ∙ e
none_of f a (suc n) h (suc i) lt = go (f a) refl h (none_of f (a + 1) n)
  where
    go : (t : Bool) → f a ≡ t → (t || any_of f (a + 1) n) ≡ false → (any_of f (a + 1) n ≡ false → (k : ℕ) → k < n → f (a + 1 + k) ≡ false) → f (a + suc i) ≡ false
    go true e h rest = absurd (true≢false h)
    go false e h rest = let q : a + suc i ≡ a + 1 + i = omega arith in ap f q ∙ rest h i (omega (arith, lt))

-- p read this number in the bytes at a, and each byte that p sees is still the one read, or was touched
pub record Tracks (p a bytes number : ℕ) (note : Note) (st : Storage) : Type 0 where
  pub read : all_of note.read a bytes ≡ true
  pub is : number_at note.number a bytes ≡ number
  pub tracks : (i : ℕ) → i < bytes → (seen p st (a + i) ≡ note.number (a + i)) ⊎ (note.touched (a + i) ≡ true)

pub tracks_others : (p a bytes number : ℕ) (n new : Noted) → ByOthers p n new → Tracks p a bytes number (n.past.kept p) n.storage → Tracks p a bytes number (new.past.kept p) new.storage
tracks_others p a bytes number n new b h =
    record { read = ap (λ f. all_of f a bytes) b.kept.read ∙ h.read; is = ap (λ f. number_at f a bytes) b.kept.number ∙ h.is; tracks = λ i lt. go i (h.tracks i lt) (b.kept.reached (a + i)) }
  where
    sees_same : (q : ℕ) → new.storage.mem q ≡ n.storage.mem q → seen p new.storage q ≡ seen p n.storage q
    sees_same q same =
        ap (λ f. newest (f q) (new.storage.waiting p) q (new.storage.mem q)) b.inside ∙ ap (λ es. newest (n.storage.inside q) es q (new.storage.mem q)) b.waiting ∙ ap (λ m. newest (n.storage.inside q) (n.storage.waiting p) q m) same

    go : (i : ℕ) → (seen p n.storage (a + i) ≡ (n.past.kept p).number (a + i)) ⊎ ((n.past.kept p).touched (a + i) ≡ true)
        → ((new.storage.mem (a + i) ≡ n.storage.mem (a + i)) × ((new.past.kept p).touched (a + i) ≡ (n.past.kept p).touched (a + i))) ⊎ ((new.past.kept p).touched (a + i) ≡ true)
        → (seen p new.storage (a + i) ≡ (new.past.kept p).number (a + i)) ⊎ ((new.past.kept p).touched (a + i) ≡ true)
    go i h (inr t) = inr t
    go i (inr t) (inl k) = inr (k.1 ∙ t)
    go i (inl e) (inl k) = inl (sees_same (a + i) k.0 ∙ e ∙ ap (λ f. f (a + i)) (sym b.kept.number))

-- an own store that goes to memory touches nothing that p itself read
pub tracks_drain : (p a bytes number : ℕ) (n : Noted) → Tracks p a bytes number (n.past.kept p) n.storage → Tracks p a bytes number ((drain p n).past.kept p) (drain p n).storage
tracks_drain p a bytes number n h = go (n.storage.waiting p) (λ b. seen_drain p b n)
  where
    go : (es : List Entry) → ((b : ℕ) → seen p (drain_first p es n).storage b ≡ seen p n.storage b) → Tracks p a bytes number ((drain_first p es n).past.kept p) (drain_first p es n).storage
    go [] same = h
    go (e ∷ es) same =
        record {
          read = h.read;
          is = h.is;
          tracks = λ i lt. ⊎_elim (λ q. inl (same (a + i) ∙ q)) (λ t. inr (ap (λ own. if own then (n.past.kept p).touched (a + i) else (covers e.address e.bytes (a + i) || (n.past.kept p).touched (a + i))) (eq-eqb p p refl) ∙ t)) (h.tracks i lt);
        }

covered : (a bytes i : ℕ) → i < bytes → covers a bytes (a + i) ≡ true
covered a bytes i lt = grind (arith, nat_tests, lt)

-- what is read is tracked
pub tracks_read : (p a bytes : ℕ) (note : Note) (st : Storage) → Tracks p a bytes (load p a bytes st) (read_note (record { address = a; bytes = bytes }) (seen p st) note) st
tracks_read p a bytes note st =
    record {
      read = all_from (λ b. covers a bytes b || note.read b) a bytes (λ i lt. ap (λ t. t || note.read (a + i)) (covered a bytes i lt));
      is = number_same (λ b. if covers a bytes b then seen p st b else note.number b) (seen p st) a bytes (λ i lt. ap (λ t. if t then seen p st (a + i) else note.number (a + i)) (covered a bytes i lt));
      tracks = λ i lt. inl (sym (ap (λ t. if t then seen p st (a + i) else note.number (a + i)) (covered a bytes i lt)));
    }

-- a number that is another was touched: to find it is a caused failure
pub tracked_other : (p a bytes number : ℕ) (n : Noted) → Tracks p a bytes number (n.past.kept p) n.storage → nat_eq (load p a bytes n.storage) number ≡ false → finds_other p n (record { address = a; bytes = bytes }) ≡ true
tracked_other p a bytes number n h other =
    ap (λ t. t && not (nat_eq (load p a bytes n.storage) (number_at note.number a bytes)) && any_of note.touched a bytes) h.read
    ∙ ap (λ t. not (nat_eq (load p a bytes n.storage) t) && any_of note.touched a bytes) h.is
    ∙ ap (λ t. not t && any_of note.touched a bytes) other
    ∙ go (any_of note.touched a bytes) refl
  where
    note : Note
    note = n.past.kept p

    go : (t : Bool) → any_of (n.past.kept p).touched a bytes ≡ t → any_of (n.past.kept p).touched a bytes ≡ true
    go true e = e
    go false e =
        let k = n.past.kept p in
        let all : (i : ℕ) → i < bytes → seen p n.storage (a + i) ≡ k.number (a + i) = λ i lt. ⊎_elim (λ q. q) (λ t. absurd (false≢true (sym (none_of k.touched a bytes e i lt) ∙ t))) (h.tracks i lt) in
        let same : load p a bytes n.storage ≡ number = number_same (seen p n.storage) k.number a bytes all ∙ h.is in
        absurd (false≢true (sym other ∙ eq-eqb (load p a bytes n.storage) number same))

-- the note of a step that gives nothing
pub kept_is : (old : ℕ → Note) (p : ℕ) (g : Given) (role : Role) (e : Effect) (f : ℕ → ℕ) (k next : Note) → g ≡ Nothing → role ≡ Outside → at_place old p (unless_over (gives_nothing g) (kept_after role e f k next)) p ≡ kept_after Outside e f k next
kept_is old p g role e f k next none out = at_same old p _ ∙ ap (λ q. unless_over (gives_nothing q) (kept_after role e f k next)) none ∙ ap (λ q. kept_after q e f k next) out
