-- Decimal numbers.
use Rattle.std.specs.Prelude.{ℕ, ◌+◌, ◌-◌, ◌*◌, ◌&&◌, nat_le, if◌then◌else◌, List, [], ◌∷◌, Option, Some, None}
use Rattle.ax_lex.specs.Bytes.{is_digit}

-- the decimal number, up to a greatest one, that these digits give behind a front of the value n
abbrev pub number_from : ℕ → ℕ → List ℕ → Option ℕ
number_from most n [] = Some n
number_from most n (b ∷ bs) = if is_digit b && nat_le (10 * n + (b - 48)) most then number_from most (10 * n + (b - 48)) bs else None

-- one or more digits
abbrev pub number_of : ℕ → List ℕ → Option ℕ
number_of most [] = None
number_of most (b ∷ bs) = number_from most 0 (b ∷ bs)
