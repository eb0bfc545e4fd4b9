-- What is finished is the selected code.
use Rattle.std.proofs.Common.{◌≡◌, List, [], ◌++◌, ap, ◌∙◌}
use Rattle.ax_module.specs.declared.module.Function.{Function}
use Rattle.ax_mid.specs.Built.{pushed}
use Rattle.ax_mid.specs.declared.code.Line.{Line}
use Rattle.ax_mid.specs.declared.code.Mid.{Mid}
use Rattle.ax_mid.specs.declared.code.MidGlobal.{MidGlobal}
use Rattle.ax_mid.specs.declared.registers.Virtual.{Virtual}
use Rattle.ax_source_run.specs.SourceState.{SourceProgram}
use Rattle.ax_selected.specs.Selected.{functions_lines, globals_from, selected}

pub selects : (program : SourceProgram) (globals : List MidGlobal) (functions : List Function) (start code m : Mid Virtual) → globals ≡ globals_from program 0 program.layout.spans → start.globals ≡ globals → start.lines ≡ [] → functions ≡ program.source.functions → code ≡ pushed (functions_lines program 0 functions) start → m ≡ code → m ≡ selected program
selects program globals functions start code m made given none all pushes ends =
    let lines = functions_lines program 0 program.source.functions in
    ends ∙ (pushes ∙ (ap (λ (fs : List Function). pushed (functions_lines program 0 fs) start) all ∙ (λ d. record { globals = (given ∙ made) d; lines = ap (λ (ls : List (Line Virtual)). ls ++ lines) none d })))
