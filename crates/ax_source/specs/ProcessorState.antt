-- What contracts see of a processor.
use Rattle.std.specs.Prelude.{◌≡◌, ◌<◌, ℕ, List, [], Option, Some, None, IsSome, IsTrue, length}
use Rattle.ax_module.specs.declared.inst.Inst.{Inst}
use Rattle.ax_module.specs.declared.module.Block.{Block}
use Rattle.ax_words.specs.declared.source.SourceStatus.{SourceStatus}
use Rattle.ax_source_run.specs.SourceEvent.{inst_at}
use Rattle.ax_source_run.specs.SourcePointers.{insts_of}
use Rattle.ax_source_run.specs.SourceState.{SourceProcessor, SourceProgram}
use Rattle.ax_cells.specs.declared.value.Value.{Value}
use Rattle.ax_cells.specs.PendingState.{PendingState, HaveCells, counts_in}
use Rattle.ax_source.specs.Runnable.{IsRunnable, is_narrow_inst}
use Rattle.ax_cells.specs.Shapes.{ArrayState, alloca_shapes, cells_of, global_shapes, shapes_of, values_of}

-- a processor of a program, with its results and arrays by the numbers of instructions
pub record ProcessorState : Type 0 where
  pub program : SourceProgram
  pub function : ℕ
  pub block : ℕ
  pub index : ℕ
  pub results : List Value
  pub arrays : List ArrayState
  pub status : SourceStatus
  pub seen : Option ℕ
  pub waiting : PendingState

-- the processor that it is
abbrev pub state_of : ProcessorState → SourceProcessor
state_of c = record {
  function = c.function;
  block = c.block;
  index = c.index;
  values = values_of c.results;
  allocas = cells_of c.arrays;
  status = c.status;
  seen = c.seen;
  pending = c.waiting.stores;
}

-- what isn't there has none
abbrev pub insts_in : Option Block → List Inst
insts_in None = []
insts_in (Some block) = block.insts

-- what every processor keeps: a result for each instruction of its function, an array for each alloca, an element for each store that waits, and where more may wait a place for each element of the globals
pub record IsSound (c : ProcessorState) : Type 0 where
  pub runnable : IsRunnable c.program
  pub results : length c.results ≡ length (insts_of c.program.source c.function)
  pub arrays : shapes_of c.arrays ≡ alloca_shapes c.program.source c.function
  pub pending : HaveCells (global_shapes c.program.source) c.waiting.stores
  pub counts : 0 < c.waiting.room → c.waiting.counts ≡ counts_in c.program.source.globals

-- the program and the room for stores that wait stay
pub record Kept (old new : ProcessorState) : Type 0 where
  pub program : new.program ≡ old.program
  pub room : new.waiting.room ≡ old.waiting.room

-- instruction k of its function, at which it stands
pub record Stands (c : ProcessorState) (k : ℕ) : Type 0 where
  pub index : c.index < 2048
  pub result : k < length (insts_of c.program.source c.function)

-- an instruction at which it stands
pub record IsFound (c : ProcessorState) (inst : Inst) : Type 0 where
  pub narrow : IsTrue (is_narrow_inst inst)
  pub here : IsSome (inst_at c.program (state_of c))
