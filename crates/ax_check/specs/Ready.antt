-- What the instructions of one function are checked by.
use Rattle.std.specs.Prelude.{◌≡◌, true, List, [], ◌∷◌}
use Rattle.ax_module.specs.declared.module.Function.{Function}
use Rattle.ax_module.specs.declared.module.Module.{Module}
use Rattle.ax_target.specs.declared.target.Target.{Target}
use Rattle.ax_layout.specs.Layout.{LayoutState, layout_of}
use Rattle.ax_rules.specs.declared.facts.FunctionScope.{FunctionScope}
use Rattle.ax_rules.specs.declared.rule.Rule.{Rule}
use Rattle.ax_rules.specs.declared.rule.Rule.TheVariants.{Width, Kind, DynamicShift, UserCall, Parameter, BadOrdering, MixedWidth, AlignOverstated, PlainLocked, NotDefined, Alloca, Limit}
use Rattle.ax_access_rules.specs.Alignment.{LaysOut, overstated, plain_locked}
use Rattle.ax_access_rules.specs.Allocas.{alloca_fault}
use Rattle.ax_rules.specs.Facts.{scope_of}
use Rattle.ax_rules.specs.Kind.{kind_fault}
use Rattle.ax_rules.specs.Limits.{limit_fault}
use Rattle.ax_access_rules.specs.Mixed.{mixed_fault}
use Rattle.ax_access_rules.specs.Orders.{order_fault}
use Rattle.ax_rules.specs.Points.{Spot}
use Rattle.ax_rules.specs.Signatures.{user_call}
use Rattle.ax_access_rules.specs.RulesAtPoints.{are_globals_fine}
use Rattle.ax_rules.specs.Width.{returns_value, shift_fault, width_fault}
use Rattle.ax_check.specs.declared.faults.Setting.{Setting}
use Rattle.ax_check.specs.Defined.{IsNotDefined}
use Rattle.ax_check.specs.Facts.{Describes}
use Rattle.ax_check.specs.Graph.{IsGraph}

-- the condition of a rule at an instruction, by what it can name and where globals lie
abbrev pub IsFaultHere : Target → LayoutState → FunctionScope → Function → Spot → Rule → Type 0
IsFaultHere t layout scope f s Width = width_fault s.inst ≡ true
IsFaultHere t layout scope f s Kind = kind_fault scope s.inst ≡ true
IsFaultHere t layout scope f s DynamicShift = shift_fault s.inst ≡ true
IsFaultHere t layout scope f s UserCall = user_call s.inst ≡ true
IsFaultHere t layout scope f s Parameter = returns_value s.inst ≡ true
IsFaultHere t layout scope f s BadOrdering = order_fault s.inst ≡ true
IsFaultHere t layout scope f s MixedWidth = mixed_fault scope s.inst ≡ true
IsFaultHere t layout scope f s AlignOverstated = overstated layout scope s.inst ≡ true
IsFaultHere t layout scope f s PlainLocked = plain_locked layout t scope s.inst ≡ true
IsFaultHere t layout scope f s NotDefined = IsNotDefined f s
IsFaultHere t layout scope f s Alloca = alloca_fault scope s.block s.inst ≡ true
IsFaultHere t layout scope f s Limit = limit_fault s.inst ≡ true

-- the rules N1 to N7, and N8 to N12
abbrev pub early_rules : List Rule
early_rules = Width ∷ Kind ∷ DynamicShift ∷ UserCall ∷ Parameter ∷ BadOrdering ∷ MixedWidth ∷ []

abbrev pub late_rules : List Rule
late_rules = AlignOverstated ∷ PlainLocked ∷ NotDefined ∷ Alloca ∷ Limit ∷ []

-- what a function's instructions can be checked by, in a module whose globals have no fault
pub record IsReady (m : Module) (layout : LayoutState) (f : Function) (setting : Setting) : Type 0 where
  pub facts : Describes setting.facts f
  pub graph : IsGraph f
  pub scope : setting.scope ≡ scope_of m f
  pub laid : layout ≡ layout_of m
  pub fine : are_globals_fine m ≡ true
  pub lays : LaysOut layout setting.scope
