-- N11 Alloca.
use Rattle.std.specs.Prelude.{ℕ, Bool, false, not, ◌||◌, nat_eq, List, [], ◌∷◌, Option, Some, None}
use Rattle.std.specs.List.{list_any}
use Rattle.ax_module.specs.declared.inst.Inst.{Inst}
use Rattle.ax_module.specs.declared.inst.Inst.TheVariants as inst
use Rattle.ax_module.specs.declared.operand.Addr.{Addr}
use Rattle.ax_module.specs.declared.operand.Base.TheVariants as base
use Rattle.ax_module.specs.declared.operand.Operand.{Operand}
use Rattle.ax_module.specs.declared.operand.Operand.TheVariants as operand
use Rattle.ax_module.specs.declared.types.Ty.{Ty}
use Rattle.ax_words.specs.declared.routine.RoutineName.{RoutineName}
use Rattle.ax_rules.specs.declared.facts.FunctionScope.{FunctionScope}
use Rattle.ax_rules.specs.Facts.{is_alloca, is_shared, origin_of}
use Rattle.ax_rules.specs.Parts.{operands_of, pointers_of}
use Rattle.ax_rules.specs.Signatures.{called}

-- an alloca outside the entry block
unfoldable pub is_late_alloca : ℕ → Inst → Bool
is_late_alloca b (inst.Alloca t count align) = not (nat_eq b 0)
is_late_alloca b _ = false

-- a pointer that comes from an alloca, or from a global
abbrev pub to_alloca : FunctionScope → Addr → Bool
to_alloca scope a = is_alloca (origin_of scope a.base)

abbrev pub to_global : FunctionScope → Addr → Bool
to_global scope a = is_shared (origin_of scope a.base)

-- an alloca's address as an operand
abbrev pub is_address : FunctionScope → Ty × Operand → Bool
is_address scope (t, operand.Value k) = is_alloca (origin_of scope (base.Value k))
is_address scope (t, _) = false

-- the object of a routine is of a global, its other pointers are of allocas
abbrev pub is_misplaced : FunctionScope → List Addr → Bool
is_misplaced scope [] = false
is_misplaced scope (a ∷ more) = to_alloca scope a || list_any (to_global scope) more

-- another call takes no alloca
abbrev pub is_misplaced_in : FunctionScope → Option RoutineName → List Addr → Bool
is_misplaced_in scope (Some routine) pointers = is_misplaced scope pointers
is_misplaced_in scope None pointers = list_any (to_alloca scope) pointers

-- an alloca's address where an atomic instruction's or a call's pointer stands
unfoldable pub misplaced : FunctionScope → Inst → Bool
misplaced scope (inst.LoadAtomic t a order align) = to_alloca scope a
misplaced scope (inst.StoreAtomic t v a order align) = to_alloca scope a
misplaced scope (inst.Cmpxchg weak a t v u w success failure align) = to_alloca scope a
misplaced scope (inst.Rmw op a t v order align) = to_alloca scope a
misplaced scope (inst.Call t name args) = is_misplaced_in scope (called t name args) (pointers_of (inst.Call t name args))
misplaced scope _ = false

abbrev pub alloca_fault : FunctionScope → ℕ → Inst → Bool
alloca_fault scope b i = is_late_alloca b i || misplaced scope i || list_any (is_address scope) (operands_of i)
