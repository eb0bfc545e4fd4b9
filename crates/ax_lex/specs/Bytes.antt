-- What single bytes are.
use Rattle.std.specs.Prelude.{ℕ, Bool, not, ◌&&◌, ◌||◌, nat_le, ◌==◌, if◌then◌else◌, codes}
use Rattle.std.specs.List.{list_any}
use Rattle.ax_lex.specs.declared.bytes.Start.{Start}
use Rattle.ax_lex.specs.declared.bytes.Start.TheVariants as start

-- from A to Z, from a to z, _
abbrev pub is_letter : ℕ → Bool
is_letter b = ((nat_le 65 b && nat_le b 90) || (nat_le 97 b && nat_le b 122)) || b == 95

-- from 0 to 9
abbrev pub is_digit : ℕ → Bool
is_digit b = nat_le 48 b && nat_le b 57

-- a letter, _, a digit, . - $
abbrev pub is_name_byte : ℕ → Bool
is_name_byte b = (((is_letter b || is_digit b) || b == 46) || b == 45) || b == 36

-- a letter, _, a digit, .
abbrev pub is_meta_byte : ℕ → Bool
is_meta_byte b = (is_letter b || is_digit b) || b == 46

-- a letter, _, a digit, . + -
abbrev pub is_literal_byte : ℕ → Bool
is_literal_byte b = (((is_letter b || is_digit b) || b == 46) || b == 43) || b == 45

-- printable ASCII, from the space to ~, but for "
abbrev pub is_text_byte : ℕ → Bool
is_text_byte b = (nat_le 32 b && nat_le b 126) && not (b == 34)

-- space, tab, carriage return
abbrev pub is_blank : ℕ → Bool
is_blank b = (b == 32 || b == 9) || b == 13

abbrev pub is_mark : ℕ → Bool
is_mark b = list_any (λ m. m == b) (codes "=,(){}[]<>:!*|")

-- What a byte starts.
abbrev pub start_of : ℕ → Start
start_of b =
    if is_letter b then start.Letter else
    if is_digit b then start.Digit else
    if b == 37 then start.Percent else
    if b == 64 then start.At else
    if b == 33 then start.Bang else
    if b == 35 then start.Hash else
    if b == 45 then start.Minus else
    if b == 34 then start.Quote else
    if b == 10 then start.Feed else
    if is_mark b then start.Mark else start.Nothing
