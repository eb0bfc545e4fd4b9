-- What an instruction can name, and what a pointer comes from.
use Rattle.std.specs.Prelude.{ℕ, Bool, true, false, nat_eq, if◌then◌else◌, map, Option, Some, None, slice_get, slice_index_or}
use Rattle.ax_module.specs.declared.inst.Inst.{Inst}
use Rattle.ax_module.specs.declared.inst.Inst.TheVariants as inst
use Rattle.ax_module.specs.declared.module.Function.{Function}
use Rattle.ax_module.specs.declared.module.Global.{Global}
use Rattle.ax_module.specs.declared.module.Module.{Module}
use Rattle.ax_module.specs.declared.operand.Base.{Base}
use Rattle.ax_module.specs.declared.operand.Base.TheVariants as base
use Rattle.ax_module.specs.declared.types.Ty.{Ty}
use Rattle.ax_module.specs.declared.types.Ty.TheVariants.{I1}
use Rattle.ax_module.specs.WellFormed.{insts_of}
use Rattle.ax_rules.specs.declared.facts.Extent.{Extent}
use Rattle.ax_rules.specs.declared.facts.Outcome.{Outcome}
use Rattle.ax_rules.specs.declared.facts.Outcome.TheVariants as outcome
use Rattle.ax_rules.specs.declared.facts.Origin.{Origin}
use Rattle.ax_rules.specs.declared.facts.Origin.TheVariants as origin
use Rattle.ax_rules.specs.declared.facts.FunctionScope.{FunctionScope}

abbrev pub part_type : Ty → ℕ → Ty
part_type t part = if nat_eq part 0 then t else I1

abbrev pub call_outcome : Option Ty → Outcome
call_outcome None = outcome.Nothing
call_outcome (Some t) = outcome.Number t

-- what an instruction's result is
unfoldable pub outcome_of : Inst → Outcome
outcome_of (inst.Bin op t v w) = outcome.Number t
outcome_of (inst.Icmp condition t v w) = outcome.Number I1
outcome_of (inst.Select c t v u w) = outcome.Number t
outcome_of (inst.Convert cast t v u) = outcome.Number u
outcome_of (inst.Phi t entries) = outcome.Number t
outcome_of (inst.Alloca t count align) = outcome.Alloca (record { elem = t; count = count })
outcome_of (inst.Gep elem count b t v) = outcome.Gep b elem t v
outcome_of (inst.Load t a align) = outcome.Number t
outcome_of (inst.LoadAtomic t a order align) = outcome.Number t
outcome_of (inst.Cmpxchg weak a t v u w success failure align) = outcome.Pair t
outcome_of (inst.Rmw op a t v order align) = outcome.Number t
outcome_of (inst.Extract t v part) = outcome.Number (part_type t part)
outcome_of (inst.Call t name args) = call_outcome t
outcome_of _ = outcome.Nothing

abbrev pub extent_of_global : Global → Extent
extent_of_global variable = record { elem = variable.elem; count = variable.count }

-- what a function's instructions can name
abbrev pub scope_of : Module → Function → FunctionScope
scope_of m f = record { globals = map extent_of_global m.globals; params = f.params; outcomes = map outcome_of (insts_of f) }

abbrev pub outcome_at : FunctionScope → ℕ → Outcome
outcome_at scope k = slice_index_or scope.outcomes k outcome.Nothing

-- the base of a getelementptr comes from a global or an alloca, and not from a getelementptr
abbrev pub origin_of_alloca : ℕ → Outcome → Origin
origin_of_alloca k (outcome.Alloca e) = origin.Alloca k
origin_of_alloca k _ = origin.Neither

abbrev pub origin_of_step : FunctionScope → Base → Origin
origin_of_step scope (base.Global g) = origin.Global g
origin_of_step scope (base.Value k) = origin_of_alloca k (outcome_at scope k)
origin_of_step scope (base.Param k) = origin.Neither

-- a pointer comes from what its base is, or where that is a getelementptr, from that one's base
abbrev pub origin_of_value : FunctionScope → ℕ → Outcome → Origin
origin_of_value scope k (outcome.Alloca e) = origin.Alloca k
origin_of_value scope k (outcome.Gep b elem t v) = origin_of_step scope b
origin_of_value scope k _ = origin.Neither

abbrev pub origin_of : FunctionScope → Base → Origin
origin_of scope (base.Global g) = origin.Global g
origin_of scope (base.Value k) = origin_of_value scope k (outcome_at scope k)
origin_of scope (base.Param k) = origin.Neither

-- the elements of what a pointer comes from
abbrev pub extent_of_outcome : Outcome → Option Extent
extent_of_outcome (outcome.Alloca e) = Some e
extent_of_outcome _ = None

abbrev pub extent_of : FunctionScope → Origin → Option Extent
extent_of scope (origin.Global g) = slice_get scope.globals g
extent_of scope (origin.Alloca k) = extent_of_outcome (outcome_at scope k)
extent_of scope origin.Neither = None

abbrev pub is_alloca : Origin → Bool
is_alloca (origin.Alloca k) = true
is_alloca _ = false

abbrev pub is_shared : Origin → Bool
is_shared (origin.Global g) = true
is_shared _ = false
