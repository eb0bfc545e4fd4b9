-- What an event does to a machine.
pub use Rattle.ax_source.specs.MachineState.{processor_at, processors_of, state_of}
use Rattle.std.specs.Prelude.{◌≡◌, ◌<◌, ℕ, false, nat_eq, if◌then◌else◌, Option, Some, None, length, drop, take}
use Rattle.ax_module.specs.declared.inst.Inst.{Inst}
use Rattle.ax_words.specs.declared.source.SourceEvent.{SourceEvent}
use Rattle.ax_words.specs.declared.source.SourceEvent.TheVariants.{Act, Look, Miss, Drain}
use Rattle.ax_source_run.specs.SourceAccess.{Deed, gets, written_out}
use Rattle.ax_source_run.specs.SourceEvent.{expected_by, next_inst, number_of_next, seen_by}
use Rattle.ax_source_run.specs.SourcePointers.{elements_of}
use Rattle.ax_source_run.specs.SourceState.{Pair, Shared, SourceProcessor, SourceProgram}
use Rattle.ax_source.specs.Accesses.{act_deed}
use Rattle.ax_source.specs.MachineState.{MachineState}

-- the processor that an event names
abbrev pub named_by : SourceEvent → ℕ
named_by (Act p) = p
named_by (Look p) = p
named_by (Miss p) = p
named_by (Drain p) = p

-- the program and the number of processors stay
pub record Stays (old new : MachineState) : Type 0 where
  pub program : new.program ≡ old.program
  pub count : length new.processors ≡ length old.processors

-- there is an element i of global g
pub record HasElement (program : SourceProgram) (g i : ℕ) : Type 0 where
  pub element : i < (elements_of program.source 0 (Shared g)).count

-- what a look does to a processor that stands at this instruction
abbrev pub looked_at : Option ℕ → SourceProcessor → SourceProcessor
looked_at None s = s
looked_at (Some n) s = record s { seen = Some n }

abbrev pub look_of : SourceProgram → SourceProcessor → Option Inst → (ℕ → ℕ → ℕ) → SourceProcessor
look_of program s None numbers = s
look_of program s (Some i) numbers = looked_at (seen_by program i s numbers) s

-- and what a miss does
abbrev pub missed_at : ℕ → Option ℕ → Option ℕ → SourceProcessor → SourceProcessor
missed_at k None seen s = s
missed_at k (Some expected) None s = s
missed_at k (Some expected) (Some seen) s = if nat_eq expected seen then gets k (Pair expected false) s else s

abbrev pub miss_of : SourceProgram → SourceProcessor → Option Inst → SourceProcessor
miss_of program s None = s
miss_of program s (Some i) = missed_at (number_of_next program s) (expected_by program i s) s.seen s

-- what an event does to the processor that it names, to the objects, and what it writes out
abbrev pub alone : SourceProcessor → (ℕ → ℕ → ℕ) → Deed
alone s numbers = record { processor = s; numbers = numbers; output = None }

abbrev pub event_deed : SourceProgram → SourceEvent → SourceProcessor → (ℕ → ℕ → ℕ) → Deed
event_deed program (Act p) s numbers = act_deed program s (next_inst program s) numbers
event_deed program (Look p) s numbers = alone (look_of program s (next_inst program s) numbers) numbers
event_deed program (Miss p) s numbers = alone (miss_of program s (next_inst program s)) numbers
event_deed program (Drain p) s numbers = record { processor = record s { pending = drop 1 s.pending }; numbers = written_out (take 1 s.pending) numbers; output = None }
