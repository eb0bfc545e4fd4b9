-- What callers need of reservations.
use Rattle.std.proofs.Common.{◌≡◌, ℕ, ◌-◌, ◌/◌, Bool, true, false, Option, Some, None, refl, sym, ap, ◌∙◌, inl, inr, arith}
use Rattle.std.specs.Prelude.{◌⊎◌, ◌&&◌, nat_eq, if◌then◌else◌}
use Rattle.std.proofs.lemmas.Bool.{false≢true}
use Rattle.std.proofs.lemmas.Bool.Decides.{nat_tests}
use Rattle.ax_store.specs.declared.entry.Entry.{Entry}
use Rattle.ax_store.specs.declared.entry.Reservation.{Reservation}
use Rattle.ax_map.specs.Map.{covers}
use Rattle.ax_store.specs.Bytes.{byte_of}
use Rattle.ax_store.specs.Reservations.{left_of, reaches, stands_for}
use Rattle.ax_store.specs.Storage.{Storage, dropped, entry_of, linked_at, may_pair, pair_stored, with_linked, wrote}
use Rattle.ax_store.proofs.Steps.{place_same}

-- an own write ends no own reservation
pub left_own : (p a n : ℕ) (l : Option Reservation) → left_of p a n p l ≡ l
left_own p a n None = refl
left_own p a n (Some r) = let same : nat_eq p p ≡ true = grind (arith, nat_tests) in ap (λ t. if t then Some r else (if reaches a n (r.address / 64) then None else Some r)) same

-- A WRITE OF ANOTHER ENDS A RESERVATION OR LEAVES ITS 64 BYTES
pub record Stays (p : ℕ) (old new : Storage) : Type 0 where
  pub linked : new.linked p ≡ old.linked p
  pub bytes : (r : Reservation) → old.linked p ≡ Some r → (b : ℕ) → b / 64 ≡ r.address / 64 → new.mem b ≡ old.mem b

not_reached : (a n b v w line : ℕ) (t : Bool) → reaches a n line ≡ false → b / 64 ≡ line → (if covers a n b && t then v else w) ≡ w
not_reached a n b v w line t h e = grind (arith, nat_tests)

some_same : {A : Type 0} (x y : A) → Some x ≡ Some y → x ≡ y
some_same x y h = cc

pub other_wrote : (p q : ℕ) (e : Entry) (st : Storage) → ¬ (p ≡ q) → ((wrote q e st).linked p ≡ None) ⊎ Stays p st (wrote q e st)
other_wrote p q e st other = at (st.linked p) refl
  where
    apart : nat_eq p q ≡ false
    apart = grind (arith, nat_tests)

    by : (r : Reservation) (t : Bool) → st.linked p ≡ Some r → reaches e.address e.bytes (r.address / 64) ≡ t → (wrote q e st).linked p ≡ (if t then None else Some r)
    by r t h k = ap (left_of q e.address e.bytes p) h ∙ ap (λ b. if b then Some r else (if reaches e.address e.bytes (r.address / 64) then None else Some r)) apart ∙ ap (λ b. if b then None else Some r) k

    from : (r : Reservation) (t : Bool) → st.linked p ≡ Some r → reaches e.address e.bytes (r.address / 64) ≡ t → ((wrote q e st).linked p ≡ None) ⊎ Stays p st (wrote q e st)
    from r true h k = inl (by r true h k)
    from r false h k = inr (record {
      linked = by r false h k ∙ sym h;
      bytes = λ s g b line. not_reached e.address e.bytes b (byte_of e.value (b - e.address)) (st.mem b) (r.address / 64) (st.inside b) k (line ∙ ap (λ x. x.address / 64) (some_same s r (sym g ∙ h)));
    })

    at : (l : Option Reservation) → st.linked p ≡ l → ((wrote q e st).linked p ≡ None) ⊎ Stays p st (wrote q e st)
    at None h = inl (ap (left_of q e.address e.bytes p) h)
    at (Some r) h = from r (reaches e.address e.bytes (r.address / 64)) h refl

-- WHEN A PAIR STORE SUCCEEDS
pub may_linked : (p a n : ℕ) (st : Storage) → may_pair p a n (linked_at p a n st) ≡ true
may_linked p a n st = ap (stands_for a n) (place_same st.linked p (Some (record { address = a; bytes = n }))) ∙ grind (arith, nat_tests)

pub may_none : (p a n : ℕ) (st : Storage) → st.linked p ≡ None → may_pair p a n st ≡ false
may_none p a n st h = ap (stands_for a n) h

stands : (a n : ℕ) (l : Option Reservation) → stands_for a n l ≡ true → l ≡ Some (record { address = a; bytes = n })
stands a n None h = absurd (false≢true h)
stands a n (Some r) h =
    let address : r.address ≡ a = grind (arith, nat_tests) in
    let bytes : r.bytes ≡ n = grind (arith, nat_tests) in
    λ d. Some (record { address = address d; bytes = bytes d })

pub may_stands : (p a n : ℕ) (st : Storage) → may_pair p a n st ≡ true → st.linked p ≡ Some (record { address = a; bytes = n })
may_stands p a n st h = stands a n (st.linked p) h

pub pair_succeeded : (p a n v : ℕ) (st : Storage) → may_pair p a n st ≡ true → pair_stored p a n v st ≡ dropped p (wrote p (entry_of a n v) st)
pair_succeeded p a n v st h = ap (λ t. if t then with_linked p None (wrote p (entry_of a n v) st) else with_linked p None st) h

pub pair_failed : (p a n v : ℕ) (st : Storage) → may_pair p a n st ≡ false → pair_stored p a n v st ≡ dropped p st
pair_failed p a n v st h = ap (λ t. if t then with_linked p None (wrote p (entry_of a n v) st) else with_linked p None st) h
