-- What a linked load leaves until its pair store.
use Rattle.std.proofs.Common.{◌≡◌, ℕ, ◌+◌, ◌/◌, ◌%◌, ◌<◌, true, false, Some, None, refl, sym, ap, ◌∙◌, subst, inl, inr, ⊎_elim, arith}
use Rattle.std.specs.Prelude.{◌⊎◌, ◌&&◌, nat_eq}
use Rattle.std.proofs.lemmas.Bool.{cases_eq, eq-eqb}
use Rattle.std.proofs.lemmas.Bool.Decides.{nat_tests}
use Rattle.ax_store.specs.declared.entry.Reservation.{Reservation}
use Rattle.ax_store.specs.Bytes.{IsWidth, number_at}
use Rattle.ax_store.specs.Reservations.{stands_for}
use Rattle.ax_store.proofs.Numbers.{number_same}
use Rattle.ax_isa.specs.Past.{Noted, is_lost}
use Rattle.ax_follow.specs.Contract.{ByOthers}

abbrev pub reserved : ℕ → ℕ → Reservation
reserved a bytes = record { address = a; bytes = bytes }

-- p linked the bytes at a when they had this number: while the reservation stands they have it still, and if it doesn't that is noted
pub record Reserved (p a bytes number : ℕ) (n : Noted) : Type 0 where
  pub stays : n.storage.linked p ≡ Some (reserved a bytes) → number_at n.storage.mem a bytes ≡ number
  pub last : n.past.last p ≡ Some (reserved a bytes)
  pub alive : (n.storage.linked p ≡ Some (reserved a bytes)) ⊎ (n.past.lost p ≡ true)

-- the bytes of an aligned number lie in the same 64
same_line : (bytes a i : ℕ) → IsWidth bytes → a % bytes ≡ 0 → i < bytes → a / 64 ≡ (a + i) / 64
same_line bytes a i width aligned lt = go (cases_eq bytes 1) (cases_eq bytes 2) (cases_eq bytes 4) (cases_eq bytes 8) (cases_eq bytes 16)
  where
    of_1 : a % 1 ≡ 0 → i < 1 → a / 64 ≡ (a + i) / 64
    of_1 h g = omega (arith, h, g)

    of_2 : a % 2 ≡ 0 → i < 2 → a / 64 ≡ (a + i) / 64
    of_2 h g = omega (arith, h, g)

    of_4 : a % 4 ≡ 0 → i < 4 → a / 64 ≡ (a + i) / 64
    of_4 h g = omega (arith, h, g)

    of_8 : a % 8 ≡ 0 → i < 8 → a / 64 ≡ (a + i) / 64
    of_8 h g = omega (arith, h, g)

    of_16 : a % 16 ≡ 0 → i < 16 → a / 64 ≡ (a + i) / 64
    of_16 h g = omega (arith, h, g)

    go : (bytes ≡ 1) ⊎ (bytes ≡ 1 → ⊥) → (bytes ≡ 2) ⊎ (bytes ≡ 2 → ⊥) → (bytes ≡ 4) ⊎ (bytes ≡ 4 → ⊥) → (bytes ≡ 8) ⊎ (bytes ≡ 8 → ⊥) → (bytes ≡ 16) ⊎ (bytes ≡ 16 → ⊥) → a / 64 ≡ (a + i) / 64
    go (inl e) b c d f = of_1 (ap (λ q. a % q) (sym e) ∙ aligned) (subst (λ q. i < q) e lt)
    go (inr x) (inl e) c d f = of_2 (ap (λ q. a % q) (sym e) ∙ aligned) (subst (λ q. i < q) e lt)
    go (inr x) (inr y) (inl e) d f = of_4 (ap (λ q. a % q) (sym e) ∙ aligned) (subst (λ q. i < q) e lt)
    go (inr x) (inr y) (inr z) (inl e) f = of_8 (ap (λ q. a % q) (sym e) ∙ aligned) (subst (λ q. i < q) e lt)
    go (inr x) (inr y) (inr z) (inr k) (inl e) = of_16 (ap (λ q. a % q) (sym e) ∙ aligned) (subst (λ q. i < q) e lt)
    go (inr x) (inr y) (inr z) (inr k) (inr m) = absurd (grind (arith, nat_tests, width, x, y, z, k, m))

pub reserved_others : (p a bytes number : ℕ) (n new : Noted) → IsWidth bytes → a % bytes ≡ 0 → ByOthers p n new → Reserved p a bytes number n → Reserved p a bytes number new
reserved_others p a bytes number n new width aligned b h =
    record {
      stays = λ is.
          ⊎_elim (λ none. absurd (let f : None ≡ Some (reserved a bytes) = sym none ∙ is in cc))
          (λ kept. (let was : n.storage.linked p ≡ Some (reserved a bytes) = sym kept.0 ∙ is in number_same new.storage.mem n.storage.mem a bytes (λ i lt. kept.1 (reserved a bytes) (a + i) was (same_line bytes a i width aligned lt)) ∙ h.stays was)) b.linked;
      last = b.last ∙ h.last;
      alive = b.lost (reserved a bytes) h.last h.alive;
    }

-- an own step that touches neither memory nor reservations
pub reserved_own : (p a bytes number : ℕ) (n new : Noted) → new.storage ≡ n.storage → new.past.last ≡ n.past.last → new.past.lost ≡ n.past.lost → Reserved p a bytes number n → Reserved p a bytes number new
reserved_own p a bytes number n new storage last lost h =
    record {
      stays = λ is. ap (λ st. number_at st.mem a bytes) storage ∙ h.stays (sym (ap (λ st. st.linked p) storage) ∙ is);
      last = ap (λ f. f p) last ∙ h.last;
      alive = ⊎_elim (λ e. inl (ap (λ st. st.linked p) storage ∙ e)) (λ e. inr (ap (λ f. f p) lost ∙ e)) h.alive;
    }

stands_same : (a bytes : ℕ) → stands_for a bytes (Some (reserved a bytes)) ≡ true
stands_same a bytes = ap (λ t. t && nat_eq bytes bytes) (eq-eqb a a refl) ∙ eq-eqb bytes bytes refl

-- a pair store that fails is a caused failure
pub failed_lost : (p a bytes number : ℕ) (n : Noted) → stands_for a bytes (n.storage.linked p) ≡ false → Reserved p a bytes number n → is_lost p a bytes n ≡ true
failed_lost p a bytes number n fails h =
    let lost : n.past.lost p ≡ true = ⊎_elim (λ e. absurd (let f : false ≡ true = sym fails ∙ ap (stands_for a bytes) e ∙ stands_same a bytes in cc)) (λ q. q) h.alive in
    ap (λ q. q && n.past.lost p) (ap (stands_for a bytes) h.last ∙ stands_same a bytes) ∙ lost
