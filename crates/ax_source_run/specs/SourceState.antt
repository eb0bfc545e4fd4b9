-- What the source machine's state consists of: *Source state*.
use Rattle.std.specs.Prelude.{ℕ, Bool, List, Option}
use Rattle.ax_module.specs.declared.module.Module.{Module}
use Rattle.ax_words.specs.declared.source.SourceStatus.{SourceStatus}
use Rattle.ax_target.specs.declared.target.Target.{Target}
use Rattle.ax_layout.specs.LayoutState.{LayoutState}

-- a module with a layout on a target
pub record SourceProgram : Type 0 where
  pub source : Module
  pub layout : LayoutState
  pub target : Target

-- what a pointer points into: a global, or the alloca of an instruction of the running function
pub data Object : Type 0 where
  Shared : ℕ → Object
  Private : ℕ → Object

-- an element of an object; its index may lie past the last
pub record Pointer : Type 0 where
  pub object : Object
  pub index : ℕ

-- an instruction's result: a number, the pair of a compare-exchange, or a pointer
pub data SourceValue : Type 0 where
  Number : ℕ → SourceValue
  Pair : ℕ → Bool → SourceValue
  PointsTo : Pointer → SourceValue

-- a store of a processor that has not reached its object, an element of a global
pub record PendingStore : Type 0 where
  pub global : ℕ
  pub element : ℕ
  pub number : ℕ

-- a processor: its function, the place of its next instruction there, the results of instructions and the contents of allocas, both by the instruction's number, its status, what a look saw, and the stores that have not reached their objects, the oldest first; where the target has no buffers there are none
pub record SourceProcessor : Type 0 where
  pub function : ℕ
  pub block : ℕ
  pub index : ℕ
  pub values : ℕ → SourceValue
  pub allocas : ℕ → ℕ → ℕ
  pub status : SourceStatus
  pub seen : Option ℕ
  pub pending : List PendingStore

-- a number for each element of each global, the outputs with their processors, and the processors
pub record SourceState : Type 0 where
  pub numbers : ℕ → ℕ → ℕ
  pub outputs : List (ℕ × ℕ)
  pub processors : ℕ → SourceProcessor
