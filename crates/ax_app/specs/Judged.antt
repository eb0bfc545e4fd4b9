-- What the stages of a command come to.
use Rattle.std.specs.Prelude.{◌≡◌, List, [], ◌∷◌, ℕ, None, true}
use Rattle.std.specs.String.{string_bytes}
use Rattle.ax_module.specs.declared.module.Module.{Module}
use Rattle.ax_source_run.specs.SourceState.{SourceProgram}
use Rattle.ax_read.specs.Derivation.{Derives}
use Rattle.ax_check.specs.Faults.{IsFirstOfFaults}
use Rattle.ax_direct_rv.specs.Direct.{is_built}
use Rattle.ax_app.specs.declared.verdict.Verdict.{Verdict}
use Rattle.ax_app.specs.declared.verdict.Verdict.TheVariants as verdict
use Rattle.ax_target.specs.declared.target.Target.{Target}
use Rattle.ax_app.specs.Serve.{HasRefusal, IsAssemblyOf, IsModuleVerdict, IsRunVerdict, OfFile, Reading, HasAsked, on}
use Rattle.ax_app.specs.declared.verdict.Part.TheVariants.{Module as ModuleFile}

-- a module that has no fault on a target, and its program there
pub record IsAcceptedAs (target : Target) (m : Module) (program : SourceProgram) : Type 0 where
  pub is : program ≡ on target m
  pub none : IsFirstOfFaults m target None

-- the module without faults that a text derives, and which is built
pub record IsBuiltAs (target : Target) (bytes : List ℕ) (program : SourceProgram) : Type 0 where
  pub derives : Derives bytes program.source
  pub is : program ≡ on target program.source
  pub none : IsFirstOfFaults program.source target None
  pub built : is_built program ≡ true

-- a module's first fault, or want of memory
abbrev pub RefusesSource : Target → Module → Verdict → Type 0
RefusesSource target m (verdict.Refused number place) = HasRefusal target m number (string_bytes place)
RefusesSource target m verdict.Memory = Unit {0}
RefusesSource target m _ = ⊥

-- a refusal of the bytes, or want of memory
abbrev pub RefusesModule : Target → List ℕ → Verdict → Type 0
RefusesModule target bytes verdict.Memory = Unit {0}
RefusesModule target bytes v = IsModuleVerdict target bytes v

-- the file of this name, within its limit, holds a module that is built as this program
pub record HasModule (r : Reading) (target : Target) (name : List ℕ) (program : SourceProgram) : Type 0 where
  pub asked : HasAsked r (name ∷ [])
  pub faults : r.faults ≡ r.faults_before
  pub is : program ≡ on target program.source
  pub built : is_built program ≡ true
  pub told : OfFile r ModuleFile (name ∷ []) (λ bytes. IsBuiltAs target bytes program)

abbrev pub JudgesLower : SourceProgram → Verdict → Type 0
JudgesLower program (verdict.Text text) = IsAssemblyOf program (string_bytes text)
JudgesLower program verdict.Memory = Unit {0}
JudgesLower program _ = ⊥

abbrev pub JudgesRun : SourceProgram → List ℕ → Verdict → Type 0
JudgesRun program schedule verdict.Memory = Unit {0}
JudgesRun program schedule v = IsRunVerdict program schedule v
