-- The generator SplitMix64 (Steele, Lea, Flood, "Fast splittable pseudorandom number generators", 2014).
use Rattle.std.specs.Prelude.{ℕ, ◌+◌, ◌*◌, ◌/◌, ◌%◌, ◌^◌, bit_xor}

-- the numbers of the machine words
abbrev pub cut : ℕ → ℕ
cut x = x % 2 ^ 64

-- x, in exclusive or with x moved k bits to the right
abbrev pub folded : ℕ → ℕ → ℕ
folded k x = bit_xor x (x / 2 ^ k)

-- number n with this seed, counted from 0; the factors are 0x9E3779B97F4A7C15, 0xBF58476D1CE4E5B9 and 0x94D049BB133111EB
abbrev pub mix : ℕ → ℕ → ℕ
mix seed n = folded 31 (cut (folded 27 (cut (folded 30 (cut (seed + (n + 1) * 11400714819323198485)) * 13787848793156543929)) * 10723151780598845931))
