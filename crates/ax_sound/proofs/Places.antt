-- Distances that lead from a place of a code to a place of it.
use Rattle.std.proofs.Common.{◌≡◌, ℕ, ◌+◌, ◌-◌, ◌%◌, ◌^◌, ◌<◌, ◌≤◌, ℤ, pos, negsuc, arith}
use Rattle.ax_isa.specs.Numbers.{displaced}

abbrev pub IsLed : ℕ → ℕ → ℤ → Type 0
IsLed size place d = (1 ≤ displaced place d) × (displaced place d ≤ size)

pub forward : (size place k : ℕ) → size < 2 ^ 31 → 1 ≤ k → place + k ≤ size → IsLed size place (pos k)
forward size place k short some le = let q : (place + k) % 2 ^ 64 ≡ place + k = omega (arith, short, le) in (omega (arith, q, some), omega (arith, q, le))

pub backward : (size place k : ℕ) → size < 2 ^ 31 → k + 2 ≤ place → place ≤ size → IsLed size place (negsuc k)
backward size place k short some le = let q : (place + (2 ^ 64 - 1 - k)) % 2 ^ 64 ≡ place - 1 - k = omega (arith, short, some, le) in (omega (arith, q, some), omega (arith, q, le))
