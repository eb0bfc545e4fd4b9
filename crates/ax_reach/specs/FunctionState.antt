-- What contracts see of the pointers of a function.
use Rattle.std.specs.Prelude.{ℕ}
use Rattle.ax_source_run.specs.SourceState.{SourceProgram}

-- a function of a program
pub record FunctionState : Type 0 where
  pub program : SourceProgram
  pub function : ℕ
