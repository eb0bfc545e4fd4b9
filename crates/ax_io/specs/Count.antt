-- A count of faults, kept in a u64 that stays at its greatest value once it stands there.
use Rattle.std.specs.Prelude.{◌≡◌, ℕ, ◌+◌, ◌-◌, ◌^◌, ◌<◌, ◌≤◌, ◌⊎◌, min}

-- the count after one more fault
abbrev pub raised : ℕ → ℕ
raised count = min (count + 1) (2 ^ 64 - 1)

-- the count is higher than before, or stands at the greatest value
abbrev pub Rose : ℕ → ℕ → Type 0
Rose before now = (before < now) ⊎ (2 ^ 64 - 1 ≤ now)

-- a call never lowers the count, and leaves it as it was unless the call failed
abbrev pub RaisesOnly : ℕ → ℕ → Type 0 → Type 0
RaisesOnly before now failed = (before ≤ now) × (¬ failed → now ≡ before)
