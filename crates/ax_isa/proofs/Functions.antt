-- A function with one value changed.
use Rattle.std.proofs.Common.{◌≡◌, ℕ, refl, sym, ◌∙◌, subst, ⊎_elim}
use Rattle.std.proofs.lemmas.Bool.{cases_eq, eq-eqb, ne_eqb}
use Rattle.ax_store.specs.Storage.{at_place}

pub at_same : {A : Type 0} (f : ℕ → A) (k : ℕ) (v : A) → at_place f k v k ≡ v
at_same f k v = rw (eq-eqb k k refl)

pub at_other : {A : Type 0} (f : ℕ → A) (k : ℕ) (v : A) (a : ℕ) → (a ≡ k → ⊥) → at_place f k v a ≡ f a
at_other f k v a h = rw (ne_eqb a k h)

pub place_kept : {A : Type 0} (f : ℕ → A) (k : ℕ) (x : A) → f k ≡ x → at_place f k x ≡ f
place_kept {A = A} f k x e = λ d q. at q d
  where
    at : (q : ℕ) → at_place f k x q ≡ f q
    at q = ⊎_elim (λ same. subst (λ y. at_place f k x y ≡ f y) (sym same) (at_same f k x ∙ sym e)) (λ ne. at_other f k x q ne) (cases_eq q k)

pub place_twice : {A : Type 0} (f : ℕ → A) (k : ℕ) (x y : A) → at_place (at_place f k x) k y ≡ at_place f k y
place_twice {A = A} f k x y = λ d q. at q d
  where
    at : (q : ℕ) → at_place (at_place f k x) k y q ≡ at_place f k y q
    at q = ⊎_elim (λ same. subst (λ z. at_place (at_place f k x) k y z ≡ at_place f k y z) (sym same) (at_same (at_place f k x) k y ∙ sym (at_same f k y))) (λ ne. at_other (at_place f k x) k y q ne ∙ at_other f k x q ne ∙ sym (at_other f k y q ne)) (cases_eq q k)
