-- N1 Width, N3 DynamicShift and N5 Parameter.
use Rattle.std.specs.Prelude.{ℕ, Bool, true, false, not, ◌&&◌, ◌||◌, nat_eq, nat_lt, if◌then◌else◌, pos, List, [], ◌∷◌, Option, Some, None}
use Rattle.std.specs.List.{list_any}
use Rattle.ax_module.specs.declared.inst.BinOp.{BinOp}
use Rattle.ax_module.specs.declared.inst.BinOp.TheVariants as bin
use Rattle.ax_module.specs.declared.inst.Pred.{Pred}
use Rattle.ax_module.specs.declared.inst.Pred.TheVariants as condition
use Rattle.ax_module.specs.declared.inst.Cast.TheVariants.{Sext}
use Rattle.ax_module.specs.declared.inst.Inst.{Inst}
use Rattle.ax_module.specs.declared.inst.Inst.TheVariants as inst
use Rattle.ax_module.specs.declared.operand.Addr.{Addr}
use Rattle.ax_module.specs.declared.operand.Operand.{Operand}
use Rattle.ax_module.specs.declared.operand.Operand.TheVariants as operand
use Rattle.ax_module.specs.declared.types.Ty.{Ty}
use Rattle.ax_module.specs.declared.types.Ty.TheVariants.{I128, Int}
use Rattle.ax_module.specs.WellFormed.{is_bit}
use Rattle.ax_source_run.specs.SourceValues.{type_bits}
use Rattle.ax_rules.specs.Parts.{types_of, pointers_of}

-- a type of a width that has no name of its own
abbrev pub is_odd : Ty → Bool
is_odd (Int bits) = true
is_odd _ = false

abbrev pub is_i128 : Ty → Bool
is_i128 I128 = true
is_i128 _ = false

-- an alloca's, a load's, a store's, a cmpxchg's or an atomicrmw's types, which may not be i1
unfoldable pub memory_types : Inst → List Ty
memory_types (inst.Alloca t count align) = t ∷ []
memory_types (inst.Load t a align) = t ∷ []
memory_types (inst.LoadAtomic t a order align) = t ∷ []
memory_types (inst.Store t v a align) = t ∷ []
memory_types (inst.StoreAtomic t v a order align) = t ∷ []
memory_types (inst.Cmpxchg weak a t v u w success failure align) = t ∷ u ∷ []
memory_types (inst.Rmw op a t v order align) = t ∷ []
memory_types _ = []

abbrev pub is_mul : BinOp → Bool
is_mul bin.Mul = true
is_mul _ = false

abbrev pub is_equality : Pred → Bool
is_equality condition.Eq = true
is_equality condition.Ne = true
is_equality _ = false

abbrev pub is_wide_step : Option (Ty × ℕ × Ty × Operand) → Bool
is_wide_step None = false
is_wide_step (Some s) = is_i128 s.2

abbrev pub has_wide_step : Addr → Bool
has_wide_step a = is_wide_step a.step

-- an operation on i128 that is left out: mul, icmp but eq and ne, sext, an index
unfoldable pub is_left_out : Inst → Bool
is_left_out (inst.Bin op t v w) = is_mul op && is_i128 t
is_left_out (inst.Icmp condition t v w) = not (is_equality condition) && is_i128 t
is_left_out (inst.Convert Sext t v u) = is_i128 t || is_i128 u
is_left_out (inst.Gep elem count b t v) = is_i128 t
is_left_out _ = false

-- a type of another width, an i1 in memory, an operation on i128 that is left out
abbrev pub width_fault : Inst → Bool
width_fault i = list_any is_odd (types_of i) || list_any is_bit (memory_types i) || is_left_out i || list_any has_wide_step (pointers_of i)

abbrev pub is_shift : BinOp → Bool
is_shift bin.Shl = true
is_shift bin.Lshr = true
is_shift bin.Ashr = true
is_shift _ = false

-- the constant 64 on i128, else a constant from 0 to the width - 1
abbrev pub is_amount : Ty → ℕ → Bool
is_amount t n = if is_i128 t then nat_eq n 64 else nat_lt n (type_bits t)

abbrev pub is_shift_amount : Ty → Operand → Bool
is_shift_amount t (operand.Const (pos n)) = is_amount t n
is_shift_amount t _ = false

-- a shift amount that is no such constant, as it is written
unfoldable pub shift_fault : Inst → Bool
shift_fault (inst.Bin op t v w) = is_shift op && not (is_shift_amount t w)
shift_fault _ = false

-- `ret` with a value
unfoldable pub returns_value : Inst → Bool
returns_value (inst.Ret t v) = true
returns_value _ = false
