-- N2 Kind.
use Rattle.std.specs.Prelude.{ℕ, Bool, true, false, not, ◌&&◌, ◌||◌, Option, Some, None}
use Rattle.std.specs.List.{list_any}
use Rattle.ax_module.specs.declared.inst.Inst.{Inst}
use Rattle.ax_module.specs.declared.inst.Inst.TheVariants as inst
use Rattle.ax_module.specs.declared.operand.Addr.{Addr}
use Rattle.ax_module.specs.declared.operand.Base.{Base}
use Rattle.ax_module.specs.declared.operand.Base.TheVariants as base
use Rattle.ax_module.specs.declared.operand.Operand.{Operand}
use Rattle.ax_module.specs.declared.types.Ty.{Ty}
use Rattle.ax_rules.specs.declared.facts.Outcome.{Outcome}
use Rattle.ax_rules.specs.declared.facts.Outcome.TheVariants as outcome
use Rattle.ax_rules.specs.declared.facts.FunctionScope.{FunctionScope}
use Rattle.ax_rules.specs.Constants.{is_integer}
use Rattle.ax_rules.specs.Facts.{outcome_at}
use Rattle.ax_rules.specs.Parts.{types_of, pointers_of}

-- a Float, Double, Vector or Ptr where a value's type stands
abbrev pub is_other : Ty → Bool
is_other t = not (is_integer t)

abbrev pub is_alloca_address : Outcome → Bool
is_alloca_address (outcome.Alloca e) = true
is_alloca_address _ = false

abbrev pub is_gep_address : Outcome → Bool
is_gep_address (outcome.Gep b elem t v) = true
is_gep_address _ = false

-- a getelementptr's result
abbrev pub is_gep : FunctionScope → Base → Bool
is_gep scope (base.Value k) = is_gep_address (outcome_at scope k)
is_gep scope (base.Global g) = false
is_gep scope (base.Param k) = false

-- a global or an alloca
abbrev pub is_object : FunctionScope → Base → Bool
is_object scope (base.Global g) = true
is_object scope (base.Value k) = is_alloca_address (outcome_at scope k)
is_object scope (base.Param k) = false

abbrev pub is_step : Option (Ty × ℕ × Ty × Operand) → Bool
is_step None = false
is_step (Some s) = true

-- a base that is neither a global, an alloca nor a getelementptr's result, or a getelementptr on a getelementptr
abbrev pub is_bad_pointer : FunctionScope → Addr → Bool
is_bad_pointer scope a = not (is_object scope a.base || (not (is_step a.step) && is_gep scope a.base))

unfoldable pub is_bad_gep : FunctionScope → Inst → Bool
is_bad_gep scope (inst.Gep elem count b t v) = not (is_object scope b)
is_bad_gep scope _ = false

abbrev pub kind_fault : FunctionScope → Inst → Bool
kind_fault scope i = list_any is_other (types_of i) || is_bad_gep scope i || list_any (is_bad_pointer scope) (pointers_of i)
