-- Names of a list in their places.
use Rattle.std.proofs.Common.{◌≡◌, ℕ, suc, ◌+◌, Bool, not, List, [], ◌∷◌, length, map, Some, None, refl, ap, ◌∙◌, if◌then◌else◌}
use Rattle.std.specs.Prelude.{◌&&◌, nat_lt, position}
use Rattle.std.specs.List.{list_all, position_or_len}

-- ---- positions

place_mapped : {A B : Type 0} (f : A → B) (p : B → Bool) (xs : List A) → position_or_len p (map f xs) ≡ position_or_len (λ x. p (f x)) xs
place_mapped f p [] = refl
place_mapped f p (x ∷ xs) = ap (λ n. if not (p (f x)) then 1 + n else 0) (place_mapped f p xs)

pub length_mapped : {A B : Type 0} (f : A → B) (xs : List A) → length (map f xs) ≡ length xs
length_mapped f [] = refl
length_mapped f (x ∷ xs) = ap suc (length_mapped f xs)

pub position_mapped : {A B : Type 0} (f : A → B) (p : B → Bool) (xs : List A) → position p (map f xs) ≡ position (λ x. p (f x)) xs
position_mapped f p xs =
    ap (λ n. if nat_lt n (length (map f xs)) then Some n else None) (place_mapped f p xs)
    ∙ ap (λ n. if nat_lt (position_or_len (λ x. p (f x)) xs) n then Some (position_or_len (λ x. p (f x)) xs) else None) (length_mapped f xs)

-- ---- all of the words

pub all_mapped : {A B : Type 0} (f : A → B) (p : B → Bool) (xs : List A) → list_all p (map f xs) ≡ list_all (λ x. p (f x)) xs
all_mapped f p [] = refl
all_mapped f p (x ∷ xs) = ap (λ b. p (f x) && b) (all_mapped f p xs)
