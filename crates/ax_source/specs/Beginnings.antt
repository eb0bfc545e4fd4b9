-- Processors at their first instructions.
use Rattle.std.specs.Prelude.{ℕ, [], None, if◌then◌else◌, length, map, replicate}
use Rattle.ax_words.specs.declared.source.SourceStatus.TheVariants.{Running}
use Rattle.ax_target.specs.Targets.{is_buffered}
use Rattle.ax_source_run.specs.SourcePointers.{insts_of}
use Rattle.ax_source_run.specs.SourceState.{SourceProgram}
use Rattle.ax_cells.specs.declared.value.Value.TheVariants as value
use Rattle.ax_cells.specs.Memories.{zeros_of}
use Rattle.ax_cells.specs.PendingState.{counts_for}
use Rattle.ax_source.specs.ProcessorState.{ProcessorState}

-- a processor at the first instruction of a function
abbrev pub begun : SourceProgram → ℕ → ℕ → ProcessorState
begun program room f = record {
  program = program;
  function = f;
  block = 0;
  index = 0;
  results = replicate (length (insts_of program.source f)) (value.Number 0);
  arrays = map zeros_of (insts_of program.source f);
  status = Running;
  seen = None;
  waiting = record { stores = []; room = room; counts = counts_for room program.source.globals };
}

-- where the target has no buffers no store waits
abbrev pub room_for : SourceProgram → ℕ → ℕ
room_for program events = if is_buffered program.target then events else 0
