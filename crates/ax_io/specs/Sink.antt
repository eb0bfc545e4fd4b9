-- What one call of `Sink::put` does, by its answer.
use Rattle.std.specs.Prelude.{◌≡◌, ℕ, List, ◌++◌, take, Option, Some, None, Result, Ok, Err}

-- what was written, where it is told, grows by all bytes at an `Ok`, and by the first of them at an `Err`
abbrev pub Adds : {V E : Type 0} → Option (List ℕ) → Option (List ℕ) → List ℕ → Result V E → Type 0
Adds None now bytes _ = now ≡ None
Adds (Some before) now bytes (Ok _) = now ≡ Some (before ++ bytes)
Adds (Some before) now bytes (Err _) = (n : ℕ) × (now ≡ Some (before ++ take n bytes))
