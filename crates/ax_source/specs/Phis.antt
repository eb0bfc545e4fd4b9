-- Phis that are set together, by the numbers that come to them.
use Rattle.std.specs.Prelude.{ℕ, List, [], ◌∷◌, Option, Some, None, if◌then◌else◌}
use Rattle.ax_module.specs.declared.inst.Inst.{Inst}
use Rattle.ax_source_run.specs.SourceInstructions.{is_phi, phi_number}
use Rattle.ax_source_run.specs.SourceState.{SourceValue}

-- the number that comes to a phi
abbrev pub phi_number_of : ℕ → (ℕ → SourceValue) → Inst → Option ℕ
phi_number_of from values i = if is_phi i then Some (phi_number from values i) else None

-- the numbers that come to the phis at the head of a block
abbrev pub phi_numbers : ℕ → (ℕ → SourceValue) → List Inst → List ℕ
phi_numbers from values [] = []
phi_numbers from values (i ∷ insts) = if is_phi i then phi_number from values i ∷ phi_numbers from values insts else []
