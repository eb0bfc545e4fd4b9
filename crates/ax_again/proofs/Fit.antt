-- Tokens that are each one of its kind, and how lists of them come together.
use Rattle.std.proofs.Common.{◌≡◌, ℕ, Bool, true, false, List, [], ◌∷◌, ◌++◌, flat_map, refl}
use Rattle.std.specs.Prelude.{if◌then◌else◌, codes}
use Rattle.std.specs.List.{list_all}
use Rattle.std.proofs.lemmas.Bool.{and_parts}
use Rattle.ax_lex.specs.Tokens.{is_token}
use Rattle.ax_ir.specs.OperandTokens.{parted}
use Rattle.ax_again.specs.Pieces.{kind_of}

pub record IsFit (token : List ℕ) : Type 0 where
  pub fit : is_token (kind_of token) token ≡ true

pub data Fit : List (List ℕ) → Type 0 where
  empty : Fit []
  also : {t : List ℕ} {ts : List (List ℕ)} → IsFit t → Fit ts → Fit (t ∷ ts)

pub both : {a b : List (List ℕ)} → Fit a → Fit b → Fit (a ++ b)
both empty g = g
both (also f fs) g = also f (both fs g)

-- a token that is written out
pub word : (t : List ℕ) {ts : List (List ℕ)} → is_token (kind_of t) t ≡ true → Fit ts → Fit (t ∷ ts)
word t e f = also (record { fit = e }) f

pub last : (t : List ℕ) → is_token (kind_of t) t ≡ true → Fit (t ∷ [])
last t e = also (record { fit = e }) empty

pub one : {t : List ℕ} → IsFit t → Fit (t ∷ [])
one f = also f empty

pub either : (b : Bool) {x y : List (List ℕ)} → Fit x → Fit y → Fit (if b then x else y)
either true f g = f
either false f g = g

-- ---- lists parted by commas

later : {A : Type 0} (f : A → List (List ℕ)) (test : A → Bool) → ((x : A) → test x ≡ true → Fit (f x)) → (xs : List A) → list_all test xs ≡ true → Fit (flat_map (λ y. codes "," ∷ f y) xs)
later f test g [] h = empty
later f test g (x ∷ xs) h =
    let a = and_parts (test x) (list_all test xs) h in
    both (word (codes ",") refl (g x a.0)) (later f test g xs a.1)

pub parted_where : {A : Type 0} (f : A → List (List ℕ)) (test : A → Bool) → ((x : A) → test x ≡ true → Fit (f x)) → (xs : List A) → list_all test xs ≡ true → Fit (parted f xs)
parted_where f test g [] h = empty
parted_where f test g (x ∷ xs) h =
    let a = and_parts (test x) (list_all test xs) h in
    both (g x a.0) (later f test g xs a.1)

every : {A : Type 0} (xs : List A) → list_all (λ x. true) xs ≡ true
every [] = refl
every (x ∷ xs) = every xs

pub parted_all : {A : Type 0} (f : A → List (List ℕ)) → ((x : A) → Fit (f x)) → (xs : List A) → Fit (parted f xs)
parted_all f g xs = parted_where f (λ x. true) (λ x e. g x) xs (every xs)
