-- One file of a command that is read.
use Rattle.std.specs.Prelude.{◌≡◌, ℕ, ◌<◌, ◌≤◌, ◌⊎◌, List, [], ◌∷◌, ◌++◌, length, Some}
use Rattle.ax_io.specs.Count.{Rose}
use Rattle.ax_app.specs.declared.verdict.Part.{Part}
use Rattle.ax_app.specs.declared.verdict.Verdict.{Verdict}
use Rattle.ax_app.specs.declared.verdict.Verdict.TheVariants as verdict
use Rattle.ax_app.specs.Serve.{Reading, limit_of}

-- its bytes were read to their end
pub record ReadWhole (r : Reading) (part : Part) (name bytes : List ℕ) : Type 0 where
  pub asked : r.asked ≡ r.asked_before ++ name ∷ []
  pub faults : r.faults ≡ r.faults_before
  pub told : (c : List ℕ) → r.held name ≡ Some c → bytes ≡ c
  pub within : (c : List ℕ) → r.held name ≡ Some c → length c ≤ limit_of part

-- or it could not be read
abbrev pub ReadFails : Reading → Part → List ℕ → Verdict → Type 0
ReadFails r part name (verdict.ReadFault p) = (p ≡ part) × (r.asked ≡ r.asked_before ++ name ∷ []) × Rose r.faults_before r.faults
ReadFails r part name (verdict.TooLong p) =
    (p ≡ part) × (r.asked ≡ r.asked_before ++ name ∷ []) × (limit_of part < r.taken) × ((c : List ℕ) → r.held name ≡ Some c → limit_of part < length c)
ReadFails r part name verdict.Memory = (r.asked ≡ r.asked_before ++ name ∷ []) ⊎ (r.asked ≡ r.asked_before)
ReadFails r part name _ = ⊥
