-- THE SELECTED CODE OF EACH ACCEPTED MODULE IS WELL FORMED.
use Rattle.std.specs.Prelude.{◌≡◌, ℕ, ◌≤◌, true, length}
use Rattle.ax_source_run.specs.SourceState.{SourceProgram}
use Rattle.ax_check.specs.Accepted.{IsAccepted}
use Rattle.ax_mid.specs.declared.code.Mid.{Mid}
use Rattle.ax_mid.specs.declared.registers.Virtual.{Virtual}
use Rattle.ax_mid.specs.WellFormed.{HasRoom, HasShape, IsWellFormed, LabelsStandInTheirFunctions, weight_of}
use Rattle.ax_selected.specs.Direct.{needs_no_routine}
use Rattle.ax_selected.specs.Formed.{IsFormed}
use Rattle.ax_selected.specs.Registers.{key}
use Rattle.ax_selected.specs.Selected.{selected}

-- the bytes of a function's virtual registers and of its frame
abbrev pub most_room : ℕ
most_room = 114688

-- of 64 functions of 2,048 instructions, each of which weighs at most 520, and 1 the label of its block; where a line takes at most 31 places for each unit of its weight an image has fewer than 2 ^ 31
abbrev pub most_selected : ℕ
most_selected = 68288512

-- the rules of well formed middle code, of which those on ways hold where no routine is needed
pub record KeepsRules (program : SourceProgram) (m : Mid Virtual) : Type 0 where
  pub formed : IsFormed program m
  pub named : LabelsStandInTheirFunctions m
  pub room : (f : ℕ) → HasRoom key most_room m f
  pub shape : HasShape m
  pub few : length m.lines ≤ most_selected
  pub light : weight_of m.lines ≤ most_selected

abbrev pub SelectedCodeKeepsRules : Type 0
SelectedCodeKeepsRules = (program : SourceProgram) → IsAccepted program → KeepsRules program (selected program)

abbrev pub SelectedCodeIsWellFormed : Type 0
SelectedCodeIsWellFormed = (program : SourceProgram) → IsAccepted program → needs_no_routine program ≡ true → IsWellFormed key most_room program.target (selected program)
