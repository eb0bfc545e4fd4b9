-- Names, and how a text spells them.
use Rattle.std.specs.Prelude.{ℕ, ◌<◌, All, Bool, true, false, not, ◌&&◌, ◌||◌, nat_le, ◌==◌, if◌then◌else◌, List, [], ◌∷◌, ◌++◌}
use Rattle.std.specs.List.{list_all}

-- printable ASCII other than the double quote
abbrev pub is_printable : ℕ → Bool
is_printable b = (nat_le 32 b && nat_le b 126) && not (b == 34)

-- bytes that a text of characters can have as they are
abbrev pub IsAscii : List ℕ → Type 0
IsAscii name = All (λ b. b < 128) name

-- any list of such bytes, the empty one included
abbrev pub is_name : List ℕ → Bool
is_name name = list_all is_printable name

-- a letter, a digit, _ . - $
abbrev pub is_name_byte : ℕ → Bool
is_name_byte b = ((nat_le 48 b && nat_le b 57) || (nat_le 65 b && nat_le b 90)) || (nat_le 97 b && nat_le b 122) || (b == 95 || b == 46) || (b == 45 || b == 36)

abbrev pub is_empty : List ℕ → Bool
is_empty [] = true
is_empty (b ∷ bs) = false

-- a name that is written without quotes
abbrev pub is_plain : List ℕ → Bool
is_plain name = not (is_empty name) && list_all is_name_byte name

-- the name behind its `@`, in quotes where it is not a plain one
abbrev pub global_token : List ℕ → List ℕ
global_token name = if is_plain name then 64 ∷ name else 64 ∷ 34 ∷ name ++ 34 ∷ []
