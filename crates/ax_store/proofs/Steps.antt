-- Steps of the storage.
use Rattle.std.proofs.Common.{◌≡◌, ℕ, ◌-◌, ◌*◌, ◌%◌, ◌^◌, Bool, true, false, List, [], ◌∷◌, Option, Some, None, drop, length, refl, sym, ap, ◌∙◌, subst, arith, ⊎_elim, bit_and}
use Rattle.std.specs.Prelude.{slice_get, if◌then◌else◌}
use Rattle.std.proofs.lemmas.Bool.{cases_eq}
use Rattle.std.proofs.lemmas.Bool.Decides.{nat_tests}
use Rattle.std.proofs.lemmas.Nat.{and_mask}
use Rattle.ax_store.specs.declared.entry.Entry.{Entry}
use Rattle.ax_store.specs.declared.entry.Reservation.{Reservation}
use Rattle.ax_store.specs.Buffers.{BufferState}
use Rattle.ax_store.specs.Bytes.{cut, put}
use Rattle.ax_store.specs.Links.{link_of}
use Rattle.ax_store.specs.Places.{byte_at, is_inside}
use Rattle.ax_store.specs.Reservations.{left_of}
use Rattle.ax_store.specs.Storage.{Storage, at_place, entry_of, with_linked, with_waiting, wrote, wrote_all, stored, drain_one, drained, flushed, replaced, pair_stored, may_pair}
use Rattle.ax_store.specs.Store.{storage_of}

pub cut_by : (n v k : ℕ) → n ≡ k → bit_and v (2 ^ (8 * k) - 1) ≡ cut n v
cut_by n v k e = and_mask v (8 * k) ∙ ap (λ j. v % 2 ^ (8 * j)) (sym e)

-- a write to memory and to the reservations is a write of the storage
pub wrote_is : (m new : List (List ℕ)) (bs : List BufferState) (ls left : List (Option Reservation)) (b : Bool) (p : ℕ) (e : Entry)
    → byte_at new ≡ put (is_inside m) e.address e.bytes e.value (byte_at m) → is_inside new ≡ is_inside m
    → link_of left ≡ (λ q. left_of p e.address e.bytes q (link_of ls q))
    → storage_of (record { memory = new; buffers = bs; links = left; buffered = b }) ≡ wrote p e (storage_of (record { memory = m; buffers = bs; links = ls; buffered = b }))
unfolding storage_of
wrote_is m new bs ls left b p e bytes inside links =
    λ d. record { inside = inside d; mem = bytes d; waiting = (storage_of (record { memory = m; buffers = bs; links = ls; buffered = b })).waiting; linked = links d }

module _ {A : Type 0} (f : ℕ → A) (k : ℕ) where
  pub place_same : (v : A) → at_place f k v k ≡ v
  place_same v = grind (arith, nat_tests)

  pub place_other : (v : A) (q : ℕ) → ¬ (q ≡ k) → at_place f k v q ≡ f q
  place_other v q h = grind (arith, nat_tests)

  pub place_kept : (v : A) → f k ≡ v → at_place f k v ≡ f
  place_kept v e = λ d q. at q d
    where
      at : (q : ℕ) → at_place f k v q ≡ f q
      at q = ⊎_elim (λ same. subst (λ q. at_place f k v q ≡ f q) (sym same) (grind (arith, nat_tests))) (λ other. grind (arith, nat_tests)) (cases_eq q k)

  pub place_twice : (u v : A) → at_place (at_place f k u) k v ≡ at_place f k v
  place_twice u v = λ d q. at q d
    where
      at : (q : ℕ) → at_place (at_place f k u) k v q ≡ at_place f k v q
      at q = grind (arith, nat_tests)

-- nothing waits: nothing changes
none_waits : (p : ℕ) (es : List Entry) (st : Storage) → st.waiting p ≡ es → None ≡ slice_get es 0 → with_waiting p (drop 1 es) st ≡ st
none_waits p [] st e h = λ d. record { inside = st.inside; mem = st.mem; waiting = place_kept st.waiting p [] e d; linked = st.linked }
none_waits p (x ∷ es) st e h = cc

pub drain_none : (p : ℕ) (es : List Entry) (st : Storage) → st.waiting p ≡ es → None ≡ slice_get es 0 → with_waiting p (drop 1 es) st ≡ drain_one p es st
drain_none p [] st e h = none_waits p [] st e h
drain_none p (x ∷ es) st e h = cc

pub drain_some : (p : ℕ) (x : Entry) (es : List Entry) (st : Storage) → Some x ≡ slice_get es 0 → wrote p x (with_waiting p (drop 1 es) st) ≡ drain_one p es st
drain_some p x [] st h = cc
drain_some p x (y ∷ es) st h = let e : x ≡ y = cc in ap (λ z. wrote p z (with_waiting p es st)) e

-- a drain and then the rest is all of them
flush_step : (p : ℕ) (es : List Entry) (st : Storage) → st.waiting p ≡ es → flushed p (drain_one p es st) ≡ flushed p st
flush_step p [] st e = refl
flush_step p (x ∷ es) st e =
    ap (λ w. wrote_all p w (with_waiting p [] (wrote p x (with_waiting p es st)))) (place_same st.waiting p es)
    ∙ (let turned : with_waiting p [] (wrote p x (with_waiting p es st)) ≡ wrote p x (with_waiting p [] st) = (λ d. record (wrote p x st) { waiting = place_twice st.waiting p es [] d }) in ap (wrote_all p es) turned)
    ∙ sym (ap (λ w. wrote_all p w (with_waiting p [] st)) e)

pub flush_drain : (p : ℕ) (st : Storage) → flushed p (drained p st) ≡ flushed p st
flush_drain p st = flush_step p (st.waiting p) st refl

flush_empty : (p : ℕ) (es : List Entry) (st : Storage) → st.waiting p ≡ es → length es ≡ 0 → flushed p st ≡ st
flush_empty p [] st e h = ap (λ w. wrote_all p w (with_waiting p [] st)) e ∙ none_waits p [] st e refl
flush_empty p (x ∷ es) st e h = absurd (omega arith)

pub flush_none : (p : ℕ) (st : Storage) → length (st.waiting p) ≡ 0 → flushed p st ≡ st
flush_none p st h = flush_empty p (st.waiting p) st refl h

drain_shorter : (p : ℕ) (es : List Entry) (st : Storage) → st.waiting p ≡ es → length ((drain_one p es st).waiting p) ≡ length es - 1
drain_shorter p [] st e = ap length e
drain_shorter p (x ∷ es) st e = ap length (place_same st.waiting p es) ∙ (let r : length es ≡ length (x ∷ es) - 1 = omega arith in r)

pub drain_length : (p : ℕ) (st : Storage) → length ((drained p st).waiting p) ≡ length (st.waiting p) - 1
drain_length p st = drain_shorter p (st.waiting p) st refl

-- every step keeps the regions
pub stored_inside : (b : Bool) (p a n v : ℕ) (st : Storage) → (stored b p a n v st).inside ≡ st.inside
stored_inside true p a n v st = refl
stored_inside false p a n v st = refl

drain_one_inside : (p : ℕ) (es : List Entry) (st : Storage) → (drain_one p es st).inside ≡ st.inside
drain_one_inside p [] st = refl
drain_one_inside p (e ∷ es) st = refl

pub drained_inside : (p : ℕ) (st : Storage) → (drained p st).inside ≡ st.inside
drained_inside p st = drain_one_inside p (st.waiting p) st

pub wrote_all_inside : (p : ℕ) (es : List Entry) (st : Storage) → (wrote_all p es st).inside ≡ st.inside
wrote_all_inside p [] st = refl
wrote_all_inside p (e ∷ es) st = wrote_all_inside p es (wrote p e st)

pub flushed_inside : (p : ℕ) (st : Storage) → (flushed p st).inside ≡ st.inside
flushed_inside p st = wrote_all_inside p (st.waiting p) (with_waiting p [] st)

pub replaced_inside : (p a n : ℕ) (r : Option ℕ) (st : Storage) → (replaced p a n r st).inside ≡ st.inside
replaced_inside p a n None st = refl
replaced_inside p a n (Some v) st = refl

pub pair_stored_inside : (p a n v : ℕ) (st : Storage) → (pair_stored p a n v st).inside ≡ st.inside
pair_stored_inside p a n v st =
    elim (may_pair p a n st) as (λ b. (if b then with_linked p None (wrote p (entry_of a n v) st) else with_linked p None st).inside ≡ st.inside) [ true ↦ refl | false ↦ refl ]
