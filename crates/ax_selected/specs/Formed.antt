-- The rules of a well formed middle module that the selected code keeps.
use Rattle.std.specs.Prelude.{◌≡◌, ℕ, ◌<◌, ◌≤◌, ◌^◌, true, Contains, IsTrue, Some, slice_get}
use Rattle.ax_source_run.specs.SourceState.{SourceProgram}
use Rattle.ax_mid.specs.declared.code.Line.{Line}
use Rattle.ax_mid.specs.declared.code.Mid.{Mid}
use Rattle.ax_mid.specs.declared.instruction.MidInst.TheVariants as mid
use Rattle.ax_mid.specs.declared.registers.Virtual.{Virtual}
use Rattle.ax_mid.specs.WellFormed.{GlobalsLie, LabelsStandOnce, OperationsHaveWays, SitesNeverFall, is_shaped, registers_of}
use Rattle.ax_check.specs.Accepted.{IsAccepted}
use Rattle.ax_selected.specs.Direct.{needs_no_routine}
use Rattle.ax_selected.specs.Registers.{key}
use Rattle.ax_selected.specs.Selected.{selected}

-- of middle code on a program's target
pub record IsFormed (program : SourceProgram) (m : Mid Virtual) : Type 0 where
  pub sites : SitesNeverFall m
  pub labels : LabelsStandOnce m
  pub globals : GlobalsLie program.target m
  pub ways : needs_no_routine program ≡ true → OperationsHaveWays program.target m

abbrev pub SelectedCodeIsFormed : Type 0
SelectedCodeIsFormed = (program : SourceProgram) → IsAccepted program → IsFormed program (selected program)

-- a line's numbers: a constant fits a register, an address of the frame is of its 32 kilobytes for allocas or of their end, where an alloca without elements can lie, and there are four registers an instruction
pub record IsSmallLine (line : Line Virtual) : Type 0 where
  pub shaped : IsTrue (is_shaped line.tag line.inst)
  pub constant : (to : Virtual) (n : ℕ) → line.inst ≡ mid.Const to n → n < 2 ^ 64
  pub frame : (to : Virtual) (offset : ℕ) → line.inst ≡ mid.FrameAddress to offset → offset ≤ 32768
  pub registers : (r : Virtual) → Contains (registers_of line.inst) r → key r < 8208

abbrev pub LinesAreSmall : Mid Virtual → Type 0
LinesAreSmall m = (place : ℕ) (line : Line Virtual) → slice_get m.lines place ≡ Some line → IsSmallLine line

abbrev pub SelectedLinesAreSmall : Type 0
SelectedLinesAreSmall = (program : SourceProgram) → IsAccepted program → LinesAreSmall (selected program)
