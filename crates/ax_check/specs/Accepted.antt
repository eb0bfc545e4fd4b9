-- Accepted modules, and why a module isn't one.
use Rattle.std.specs.Prelude.{◌≡◌, []}
use Rattle.ax_module.specs.WellFormed.{IsModule}
use Rattle.ax_layout.specs.Layout.{layout_of}
use Rattle.ax_source_run.specs.SourceState.{SourceProgram}
use Rattle.ax_check.specs.Faults.{AreFaults}

-- a well formed module without faults on its target, with its layout
pub record IsAccepted (program : SourceProgram) : Type 0 where
  pub formed : IsModule program.source
  pub faults : AreFaults program.source program.target []
  pub layout : program.layout ≡ layout_of program.source
