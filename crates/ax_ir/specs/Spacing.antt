-- The text of a line's tokens: one blank between tokens, but none before `,` `(` `)` `:` and none after `(`.
use Rattle.std.specs.Prelude.{ℕ, Bool, false, not, ◌&&◌, codes, nat_eq, if◌then◌else◌, List, [], ◌∷◌, ◌++◌}
use Rattle.std.specs.List.{list_any}
use Rattle.std.specs.Cmp.Lexicographic.{pointwise}

-- no blank stands before these
abbrev pub is_closing : List ℕ → Bool
is_closing token = list_any (pointwise nat_eq token) (codes "," ∷ codes "(" ∷ codes ")" ∷ codes ":" ∷ [])

-- and none after this one
abbrev pub is_opening : List ℕ → Bool
is_opening token = pointwise nat_eq token (codes "(")

-- the text of these tokens, where `parted` says that a blank may stand before the first
abbrev pub spaced_from : Bool → List (List ℕ) → List ℕ
spaced_from parted [] = []
spaced_from parted (token ∷ tokens) =
    (if parted && not (is_closing token) then 32 ∷ [] else []) ++ token ++ spaced_from (not (is_opening token)) tokens

abbrev pub spaced : List (List ℕ) → List ℕ
spaced tokens = spaced_from false tokens
