-- What one call of `Files::read` does, by its answer.
use Rattle.std.specs.Prelude.{◌≡◌, ℕ, ◌<◌, ◌≤◌, ◌⊎◌, List, [], ◌∷◌, ◌++◌, Ok, Err}
use Rattle.std.specs.declared.vec.Vec.{Vec}
use Rattle.std.specs.Prelude.{Result, vec_len, ⊤}
use Rattle.ax_io.specs.declared.fault.FileFault.{FileFault}
use Rattle.ax_io.specs.declared.fault.FileFault.TheVariants.{Failed, TooLong, Memory}

-- the name joins what was asked; where memory is wanting the call may have ended before, and then nothing was taken
abbrev pub Asks : {V : Type 0} → List (List ℕ) → List (List ℕ) → ℕ → ℕ → List ℕ → Result V FileFault → Type 0
Asks before now took takes name (Ok _) = now ≡ before ++ name ∷ []
Asks before now took takes name (Err Failed) = now ≡ before ++ name ∷ []
Asks before now took takes name (Err TooLong) = now ≡ before ++ name ∷ []
Asks before now took takes name (Err Memory) = (now ≡ before ++ name ∷ []) ⊎ ((now ≡ before) × (takes ≡ took))

-- a file is too long exactly where more bytes than the limit were taken, and all bytes of an answer were taken
abbrev pub Takes : {A : Type 0} → ℕ → ℕ → Result (Vec ℕ A) FileFault → Type 0
Takes limit taken (Ok bytes) = (taken ≡ vec_len bytes) × (taken ≤ limit)
Takes limit taken (Err Failed) = taken ≤ limit
Takes limit taken (Err TooLong) = limit < taken
Takes limit taken (Err Memory) = ⊤
