-- What the instruction sets compute alike, from numbers of 64 bits.
use Rattle.std.specs.Prelude.{ℕ, ◌+◌, ◌-◌, ◌/◌, ◌%◌, ◌^◌, if◌then◌else◌, nat_lt, ℤ, pos, negsuc}

-- a number with a signed one added, mod 2 ^ 64: an address with its displacement, or the place that a jump at a place names
abbrev pub displaced : ℕ → ℤ → ℕ
displaced n (pos d) = (n + d) % 2 ^ 64
displaced n (negsuc d) = (n + (2 ^ 64 - 1 - d)) % 2 ^ 64

-- a shift to the right that fills with the sign: the complement of a negative number is shifted
abbrev pub shifted_by_sign : ℕ → ℕ → ℕ
shifted_by_sign n count = if nat_lt n (2 ^ 63) then n / 2 ^ count else 2 ^ 64 - 1 - (2 ^ 64 - 1 - n) / 2 ^ count
