-- What holds of every accepted module.
use Rattle.std.specs.List.{list_any}
use Rattle.std.specs.Prelude.{◌≡◌, ℕ, false, Contains, Some, slice_get, ◌≤◌, true, [], nat_eq}
use Rattle.ax_module.specs.declared.module.Function.{Function}
use Rattle.ax_module.specs.declared.module.Module.{Module}
use Rattle.ax_target.specs.declared.target.Target.{Target}
use Rattle.ax_source_run.specs.SourceState.{SourceProgram}
use Rattle.ax_access_rules.specs.Alignment.{overstated, plain_locked}
use Rattle.ax_access_rules.specs.Allocas.{alloca_fault}
use Rattle.ax_rules.specs.Facts.{scope_of}
use Rattle.ax_rules.specs.Kind.{kind_fault}
use Rattle.ax_rules.specs.Limits.{limit_fault, bytes_of_allocas, has_many_phis, instruction_count}
use Rattle.ax_access_rules.specs.Mixed.{mixed_fault}
use Rattle.ax_access_rules.specs.Orders.{order_fault}
use Rattle.ax_rules.specs.Points.{Point, Spot, points, spots}
use Rattle.ax_rules.specs.Signatures.{user_call}
use Rattle.ax_rules.specs.Width.{returns_value, shift_fault, width_fault}
use Rattle.ax_check.specs.declared.defined.Use.{Use}
use Rattle.ax_check.specs.Accepted.{IsAccepted}
use Rattle.ax_check.specs.Defined.{IsDefined, uses}

-- at each point of each accepted module
abbrev pub AtPoints : (Module → Target → Point → Type 0) → Type 0
AtPoints P = (program : SourceProgram) (p : Point) → IsAccepted program → Contains (points program.source) p → P program.source program.target p

-- at each instruction of each function of each accepted module
abbrev pub AtInstructions : (SourceProgram → Function → Spot → Type 0) → Type 0
AtInstructions P =
    (program : SourceProgram) (k : ℕ) (f : Function) (s : Spot) → IsAccepted program → slice_get program.source.functions k ≡ Some f → Contains (spots f) s → P program f s

-- an instruction breaks no rule, and each of its uses is defined on each walk from the entry
pub record IsSound (program : SourceProgram) (f : Function) (s : Spot) : Type 0 where
  pub width : width_fault s.inst ≡ false
  pub kind : kind_fault (scope_of program.source f) s.inst ≡ false
  pub shift : shift_fault s.inst ≡ false
  pub call : user_call s.inst ≡ false
  pub value : returns_value s.inst ≡ false
  pub order : order_fault s.inst ≡ false
  pub mixed : mixed_fault (scope_of program.source f) s.inst ≡ false
  pub aligned : overstated program.layout (scope_of program.source f) s.inst ≡ false
  pub plain : plain_locked program.layout program.target (scope_of program.source f) s.inst ≡ false
  pub alloca : alloca_fault (scope_of program.source f) s.block s.inst ≡ false
  pub limit : limit_fault s.inst ≡ false
  pub defined : (u : Use) → Contains (uses s.inst) u → IsDefined f s u

-- the head of function k breaks no rule: it has neither parameters nor a result, and its counts are within the limits
pub record IsSoundHead (k : ℕ) (f : Function) : Type 0 where
  pub void : f.is_void ≡ true
  pub params : f.params ≡ []
  pub number : nat_eq k 64 ≡ false
  pub instructions : instruction_count f ≤ 2048
  pub phis : list_any has_many_phis f.blocks ≡ false
  pub bytes : bytes_of_allocas f ≤ 32768
