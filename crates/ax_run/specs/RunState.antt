-- What contracts see of a run.
use Rattle.std.specs.Prelude.{Bool}
use Rattle.ax_source_run.specs.SourceState.{SourceProgram}
use Rattle.ax_lowered.specs.declared.lowered.Code.{Code}
use Rattle.ax_sched.specs.declared.plan.Plan.{Plan}
use Rattle.ax_run.specs.MachineState.{MachineState}

pub record RunState : Type 0 where
  pub code : Code
  pub program : SourceProgram
  pub plan : Plan
  pub machine : MachineState
  pub ended : Bool
