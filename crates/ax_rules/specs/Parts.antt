-- The parts of an instruction: the types that stand in it, its operands with their types, its pointers.
pub use Rattle.ax_source_run.specs.SourceInstructions.{pointers_of}
use Rattle.std.specs.Prelude.{◌≡◌, ℕ, Bool, ◌+◌, nat_eq, List, [], ◌∷◌, ◌++◌, map, Option, Some, None}
use Rattle.std.specs.List.{flat_map}
use Rattle.ax_module.specs.declared.inst.Inst.{Inst}
use Rattle.ax_module.specs.declared.inst.Inst.TheVariants as inst
use Rattle.ax_module.specs.declared.operand.Arg.{Arg}
use Rattle.ax_module.specs.declared.operand.Arg.TheVariants as arg
use Rattle.ax_module.specs.declared.operand.Operand.{Operand}
use Rattle.ax_module.specs.declared.types.Ty.{Ty}
use Rattle.ax_rules.specs.declared.facts.Parts.{Parts}
use Rattle.ax_module.specs.declared.types.Ty.TheVariants.{I1, I8, I16, I32, I64, I128, Int, Float, Double, Ptr, Vector}

-- a type's number tells it from all others
abbrev pub type_number : Ty → ℕ
type_number I1 = 0
type_number I8 = 1
type_number I16 = 2
type_number I32 = 3
type_number I64 = 4
type_number I128 = 5
type_number Float = 6
type_number Double = 7
type_number Ptr = 8
type_number Vector = 9
type_number (Int bits) = 10 + bits

abbrev pub same_type : Ty → Ty → Bool
same_type t u = nat_eq (type_number t) (type_number u)

-- the types of a step to an element, which is that of a constant getelementptr, and its index
abbrev pub step_types : Option (Ty × ℕ × Ty × Operand) → List Ty
step_types None = []
step_types (Some s) = s.0 ∷ s.2 ∷ []

abbrev pub step_operands : Option (Ty × ℕ × Ty × Operand) → List (Ty × Operand)
step_operands None = []
step_operands (Some s) = (s.2, s.3) ∷ []

abbrev pub arg_types : Arg → List Ty
arg_types (arg.Pointer a) = step_types a.step
arg_types (arg.Value t v) = t ∷ []

abbrev pub arg_operands : Arg → List (Ty × Operand)
arg_operands (arg.Pointer a) = step_operands a.step
arg_operands (arg.Value t v) = (t, v) ∷ []

abbrev pub result_types : Option Ty → List Ty
result_types None = []
result_types (Some t) = t ∷ []

-- the types that stand in an instruction
unfoldable pub types_of : Inst → List Ty
types_of (inst.Bin op t v w) = t ∷ []
types_of (inst.Icmp condition t v w) = t ∷ []
types_of (inst.Select c t v u w) = t ∷ u ∷ []
types_of (inst.Convert cast t v u) = t ∷ u ∷ []
types_of (inst.Phi t entries) = t ∷ []
types_of (inst.Ret t v) = t ∷ []
types_of (inst.Alloca t count align) = t ∷ []
types_of (inst.Gep elem count b t v) = elem ∷ t ∷ []
types_of (inst.Load t a align) = t ∷ step_types a.step
types_of (inst.LoadAtomic t a order align) = t ∷ step_types a.step
types_of (inst.Store t v a align) = t ∷ step_types a.step
types_of (inst.StoreAtomic t v a order align) = t ∷ step_types a.step
types_of (inst.Cmpxchg weak a t v u w success failure align) = t ∷ u ∷ step_types a.step
types_of (inst.Rmw op a t v order align) = t ∷ step_types a.step
types_of (inst.Extract t v part) = t ∷ []
types_of (inst.Call t name args) = result_types t ++ flat_map arg_types args
types_of _ = []

-- its operands that are numbers, each with the type that it has to have
unfoldable pub operands_of : Inst → List (Ty × Operand)
operands_of (inst.Bin op t v w) = (t, v) ∷ (t, w) ∷ []
operands_of (inst.Icmp condition t v w) = (t, v) ∷ (t, w) ∷ []
operands_of (inst.Select c t v u w) = (I1, c) ∷ (t, v) ∷ (u, w) ∷ []
operands_of (inst.Convert cast t v u) = (t, v) ∷ []
operands_of (inst.Phi t entries) = map (λ e. (t, e.0)) entries
operands_of (inst.Branch v b c) = (I1, v) ∷ []
operands_of (inst.Ret t v) = (t, v) ∷ []
operands_of (inst.Gep elem count b t v) = (t, v) ∷ []
operands_of (inst.Load t a align) = step_operands a.step
operands_of (inst.LoadAtomic t a order align) = step_operands a.step
operands_of (inst.Store t v a align) = (t, v) ∷ step_operands a.step
operands_of (inst.StoreAtomic t v a order align) = (t, v) ∷ step_operands a.step
operands_of (inst.Cmpxchg weak a t v u w success failure align) = (t, v) ∷ (u, w) ∷ step_operands a.step
operands_of (inst.Rmw op a t v order align) = (t, v) ∷ step_operands a.step
operands_of (inst.Call t name args) = flat_map arg_operands args
operands_of _ = []

-- the parts are those of the instruction
pub record AreParts (parts : Parts) (i : Inst) : Type 0 where
  pub types : parts.types ≡ types_of i
  pub operands : parts.operands ≡ operands_of i
  pub pointers : parts.pointers ≡ pointers_of i
