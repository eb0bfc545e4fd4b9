-- What contracts see of the source machine.
use Rattle.std.specs.Prelude.{◌≡◌, ◌≤◌, ℕ, true, All, List, Option, Some, None, slice_get}
use Rattle.ax_target.specs.Targets.{is_buffered}
use Rattle.ax_source_run.specs.SourceRun.{first_processor}
use Rattle.ax_source_run.specs.SourceState.{SourceProcessor, SourceProgram, SourceState}
use Rattle.ax_source.specs.ProcessorState.{ProcessorState, state_of as processor_of}
use Rattle.ax_source.specs.Runnable.{IsRunnable}
use Rattle.ax_cells.specs.Shapes.{ArrayState, cells_of, global_shapes, shapes_of}

-- an array for each global, the outputs with their processors, and how many events still fit
pub record MachineState : Type 0 where
  pub program : SourceProgram
  pub room : ℕ
  pub globals : List ArrayState
  pub outputs : List (ℕ × ℕ)
  pub processors : List ProcessorState

-- the processor at a position; there is none past the last
abbrev pub processor_at : Option ProcessorState → SourceProcessor
processor_at None = first_processor None
processor_at (Some c) = processor_of c

abbrev pub processors_of : List ProcessorState → ℕ → SourceProcessor
processors_of cs p = processor_at (slice_get cs p)

-- the source state that a machine stands for
abbrev pub state_of : MachineState → SourceState
state_of m = record { numbers = cells_of m.globals; outputs = m.outputs; processors = processors_of m.processors }

-- a processor of the program that has memory for as many stores that wait as events still fit
pub record Belongs (program : SourceProgram) (room : ℕ) (c : ProcessorState) : Type 0 where
  pub same : c.program ≡ program
  pub enough : is_buffered program.target ≡ true → room ≤ c.waiting.room

-- what every machine keeps
pub record IsWhole (m : MachineState) : Type 0 where
  pub runnable : IsRunnable m.program
  pub globals : shapes_of m.globals ≡ global_shapes m.program.source
  pub processors : All (Belongs m.program m.room) m.processors
