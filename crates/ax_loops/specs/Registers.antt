-- The registers that a loop leaves as they are until its event.
use Rattle.std.specs.Prelude.{ℕ, Bool, ◌&&◌, not, nat_eq}

-- all that are kept, but the one that gets the result
abbrev pub all_but : ℕ → (ℕ → Bool) → ℕ → Bool
all_but result keeps q = keeps q && not (nat_eq q result)
