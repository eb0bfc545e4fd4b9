-- N7 MixedWidth.
use Rattle.std.specs.Prelude.{ℕ, ◌*◌, Bool, true, false, not, ◌&&◌, ◌||◌, nat_eq, nat_lt, List, Option, Some, None, slice_get}
use Rattle.std.specs.List.{list_any}
use Rattle.ax_module.specs.declared.inst.Cast.{Cast}
use Rattle.ax_module.specs.declared.inst.Cast.TheVariants.{Zext, Sext, Trunc}
use Rattle.ax_module.specs.declared.inst.Inst.{Inst}
use Rattle.ax_module.specs.declared.inst.Inst.TheVariants as inst
use Rattle.ax_module.specs.declared.operand.Addr.{Addr}
use Rattle.ax_module.specs.declared.operand.Arg.{Arg}
use Rattle.ax_module.specs.declared.operand.Arg.TheVariants as arg
use Rattle.ax_module.specs.declared.operand.Operand.{Operand}
use Rattle.ax_module.specs.declared.operand.Operand.TheVariants as operand
use Rattle.ax_module.specs.declared.types.Ty.{Ty}
use Rattle.ax_module.specs.Types.{type_bytes}
use Rattle.ax_words.specs.declared.routine.RoutineName.{RoutineName}
use Rattle.ax_source_run.specs.SourcePointers.{is_i8}
use Rattle.ax_source_run.specs.SourceValues.{type_bits}
use Rattle.ax_rules.specs.declared.facts.Extent.{Extent}
use Rattle.ax_rules.specs.declared.facts.Outcome.{Outcome}
use Rattle.ax_rules.specs.declared.facts.Outcome.TheVariants as outcome
use Rattle.ax_rules.specs.declared.facts.FunctionScope.{FunctionScope}
use Rattle.ax_rules.specs.declared.facts.Shape.{Shape}
use Rattle.ax_rules.specs.declared.facts.Shape.TheVariants as shape
use Rattle.ax_rules.specs.Constants.{constant_index, constant_of, is_multiple}
use Rattle.ax_rules.specs.Facts.{extent_of, origin_of, origin_of_step, outcome_at}
use Rattle.ax_rules.specs.Parts.{operands_of, pointers_of, same_type}
use Rattle.ax_rules.specs.Signatures.{called, shape_of, type_of_routine}

-- whether a result is a number of a type, or a pair whose first part is
abbrev pub is_number_of : Ty → Outcome → Bool
is_number_of t (outcome.Number u) = same_type t u
is_number_of t _ = false

abbrev pub is_pair_of : Ty → Outcome → Bool
is_pair_of t (outcome.Pair u) = same_type t u
is_pair_of t _ = false

abbrev pub is_param_of : Ty → Option Ty → Bool
is_param_of t None = false
is_param_of t (Some u) = same_type t u

-- an operand of another type than required; a constant is of any type
abbrev pub is_mistyped : FunctionScope → Ty × Operand → Bool
is_mistyped scope (t, operand.Const n) = false
is_mistyped scope (t, operand.Wide n) = false
is_mistyped scope (t, operand.Value k) = not (is_number_of t (outcome_at scope k))
is_mistyped scope (t, operand.Param k) = not (is_param_of t (slice_get scope.params k))

-- the operand of an extractvalue is the pair of a compare-exchange
abbrev pub is_pair : FunctionScope → Ty → Operand → Bool
is_pair scope t (operand.Value k) = is_pair_of t (outcome_at scope k)
is_pair scope t _ = false

-- whether a cast widens or narrows as named
abbrev pub converts : Cast → Ty → Ty → Bool
converts Zext t u = nat_lt (type_bits t) (type_bits u)
converts Sext t u = nat_lt (type_bits t) (type_bits u)
converts Trunc t u = nat_lt (type_bits u) (type_bits t)

-- an access of another type than the element's
abbrev pub is_other_element : Ty → Option Extent → Bool
is_other_element t None = false
is_other_element t (Some e) = not (same_type t e.elem)

abbrev pub is_mixed_access : FunctionScope → Ty → Addr → Bool
is_mixed_access scope t a = is_other_element t (extent_of scope (origin_of scope a.base))

-- the element type, and the array's length where there is one
abbrev pub is_same_extent : Ty → ℕ → Extent → Bool
is_same_extent elem count e = same_type elem e.elem && (nat_eq count 0 || nat_eq count e.count)

-- a number of bytes that is a multiple of the element's, and in range
abbrev pub is_byte_index : Option ℕ → Extent → Bool
is_byte_index None e = false
is_byte_index (Some n) e = is_multiple n (type_bytes e.elem) && nat_lt n (e.count * type_bytes e.elem)

-- the i8 form, whose constant is a number of bytes
abbrev pub is_byte_step : Ty → ℕ → Ty → Operand → Extent → Bool
is_byte_step elem count t v e = is_i8 elem && nat_eq count 0 && is_byte_index (constant_index t v) e

abbrev pub is_other_step : Ty → ℕ → Ty → Operand → Option Extent → Bool
is_other_step elem count t v None = false
is_other_step elem count t v (Some e) = not (is_same_extent elem count e || is_byte_step elem count t v e)

-- a constant getelementptr with another element type or array length
abbrev pub is_mixed_step : FunctionScope → Addr → Option (Ty × ℕ × Ty × Operand) → Bool
is_mixed_step scope a None = false
is_mixed_step scope a (Some s) = is_other_step s.0 s.1 s.2 s.3 (extent_of scope (origin_of_step scope a.base))

abbrev pub is_mixed_pointer : FunctionScope → Addr → Bool
is_mixed_pointer scope a = is_mixed_step scope a a.step

abbrev pub is_element_of : ℕ → Option Extent → Bool
is_element_of size None = true
is_element_of size (Some e) = nat_eq (type_bytes e.elem) size

-- the size isn't stated as a constant, or isn't the number of bytes of each element that is named
abbrev pub is_mixed_size : FunctionScope → Option ℕ → List Addr → Bool
is_mixed_size scope None pointers = true
is_mixed_size scope (Some size) pointers = list_any (λ a. not (is_element_of size (extent_of scope (origin_of scope a.base)))) pointers

abbrev pub constant_in : Option Arg → Option ℕ
constant_in (Some (arg.Value t v)) = constant_of 64 v
constant_in _ = None

abbrev pub is_sized : Shape → Bool
is_sized shape.Load = true
is_sized shape.Store = true
is_sized shape.Update = true
is_sized shape.Compare = true
is_sized _ = false

-- the size of a call: the routine's, or its first argument
abbrev pub size_by : Bool → Ty → List Arg → Option ℕ
size_by true t args = Some (type_bytes t)
size_by false t args = constant_in (slice_get args 0)

abbrev pub size_of : RoutineName → List Arg → Option ℕ
size_of routine args = size_by (is_sized (shape_of routine)) (type_of_routine routine) args

abbrev pub is_mixed_call : FunctionScope → Option RoutineName → List Arg → List Addr → Bool
is_mixed_call scope None args pointers = false
is_mixed_call scope (Some routine) args pointers = is_mixed_size scope (size_of routine args) pointers

unfoldable pub is_mixed_inst : FunctionScope → Inst → Bool
is_mixed_inst scope (inst.Select c t v u w) = not (same_type t u)
is_mixed_inst scope (inst.Convert cast t v u) = not (converts cast t u)
is_mixed_inst scope (inst.Gep elem count b t v) = is_other_step elem count t v (extent_of scope (origin_of_step scope b))
is_mixed_inst scope (inst.Load t a align) = is_mixed_access scope t a
is_mixed_inst scope (inst.LoadAtomic t a order align) = is_mixed_access scope t a
is_mixed_inst scope (inst.Store t v a align) = is_mixed_access scope t a
is_mixed_inst scope (inst.StoreAtomic t v a order align) = is_mixed_access scope t a
is_mixed_inst scope (inst.Cmpxchg weak a t v u w success failure align) = is_mixed_access scope t a || not (same_type t u)
is_mixed_inst scope (inst.Rmw op a t v order align) = is_mixed_access scope t a
is_mixed_inst scope (inst.Extract t v part) = not (is_pair scope t v)
is_mixed_inst scope (inst.Call t name args) = is_mixed_call scope (called t name args) args (pointers_of (inst.Call t name args))
is_mixed_inst scope _ = false

abbrev pub mixed_fault : FunctionScope → Inst → Bool
mixed_fault scope i = list_any (is_mistyped scope) (operands_of i) || is_mixed_inst scope i || list_any (is_mixed_pointer scope) (pointers_of i)
