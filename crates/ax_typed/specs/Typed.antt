-- Typed numbers: in each state of an accepted module's source machine each number is one of its type (LLVM Language Reference, Integer Type).
use Rattle.std.specs.Prelude.{◌≡◌, ℕ, ◌<◌, ◌^◌, All, Option, Some, None, slice_get}
use Rattle.ax_module.specs.declared.inst.Inst.{Inst}
use Rattle.ax_module.specs.declared.module.Module.{Module}
use Rattle.ax_module.specs.declared.operand.Base.{Base}
use Rattle.ax_module.specs.declared.operand.Base.TheVariants as base
use Rattle.ax_module.specs.declared.types.Ty.{Ty}
use Rattle.ax_source_run.specs.SourcePointers.{elements_of, insts_of}
use Rattle.ax_source_run.specs.SourceState.{Object, Shared, Private, PendingStore, SourceProcessor, SourceState, SourceValue, Number, Pair, PointsTo}
use Rattle.ax_source_run.specs.SourceValues.{number_of, part_of, type_bits}
use Rattle.ax_rules.specs.declared.facts.Outcome.{Outcome}
use Rattle.ax_rules.specs.declared.facts.Outcome.TheVariants as outcome
use Rattle.ax_rules.specs.Facts.{outcome_of, part_type}

-- a number of a type's bits
abbrev pub IsOf : Ty → ℕ → Type 0
IsOf t n = n < 2 ^ type_bits t

-- the type of an object's elements, where function f runs
abbrev pub elem_of : Module → ℕ → Object → Ty
elem_of m f o = (elements_of m f o).elem

-- what the result of instruction k of function f is
abbrev pub outcome_if : Option Inst → Outcome
outcome_if None = outcome.Nothing
outcome_if (Some i) = outcome_of i

abbrev pub outcome_in : Module → ℕ → ℕ → Outcome
outcome_in m f k = outcome_if (slice_get (insts_of m f) k)

-- a value that is no pointer, or one into this object
abbrev pub IsInto : Object → SourceValue → Type 0
IsInto o (PointsTo p) = p.object ≡ o
IsInto o (Number n) = Unit {0}
IsInto o (Pair n flag) = Unit {0}

-- one that is no pointer, or one into what a base names
abbrev pub IsIntoBase : Base → SourceValue → Type 0
IsIntoBase (base.Global g) v = IsInto (Shared g) v
IsIntoBase (base.Value k) v = IsInto (Private k) v
IsIntoBase (base.Param k) (PointsTo p) = ⊥
IsIntoBase (base.Param k) v = Unit {0}

-- instruction k's value: before it has a result, 0, which is a number of each type
abbrev pub IsResultOf : Outcome → ℕ → SourceValue → Type 0
IsResultOf (outcome.Number t) k v = IsOf t (number_of v)
IsResultOf (outcome.Pair t) k v = (part : ℕ) → IsOf (part_type t part) (part_of part v)
IsResultOf (outcome.Alloca e) k v = IsInto (Private k) v
IsResultOf (outcome.Gep b elem t index) k v = IsIntoBase b v
IsResultOf outcome.Nothing k v = Unit {0}

-- instruction k's value is the address of its alloca
abbrev pub address_of : ℕ → SourceValue
address_of k = PointsTo (record { object = Private k; index = 0 })

-- whether instruction k is an alloca
abbrev pub IsAllocaOutcome : Outcome → Type 0
IsAllocaOutcome (outcome.Alloca e) = Unit {0}
IsAllocaOutcome (outcome.Number t) = ⊥
IsAllocaOutcome (outcome.Pair t) = ⊥
IsAllocaOutcome (outcome.Gep b elem t index) = ⊥
IsAllocaOutcome outcome.Nothing = ⊥

-- each result of an instruction, each element of an alloca and each store that waits has a number of its type; the allocas that come before its place in the entry block, or in a later block all, have their addresses
pub record IsTypedProcessor (m : Module) (c : SourceProcessor) : Type 0 where
  pub values : (k : ℕ) → IsResultOf (outcome_in m c.function k) k (c.values k)
  pub addresses : (k : ℕ) → IsAllocaOutcome (outcome_in m c.function k) → (c.block ≡ 0 → k < c.index) → c.values k ≡ address_of k
  pub allocas : (k i : ℕ) → IsOf (elem_of m c.function (Private k)) (c.allocas k i)
  pub pending : All (λ (store : PendingStore). IsOf (elem_of m c.function (Shared store.global)) store.number) c.pending

-- each element of a global has a number of its type, which is the same in all functions
abbrev pub AreTyped : Module → (ℕ → ℕ → ℕ) → Type 0
AreTyped m numbers = (g i : ℕ) → IsOf (elem_of m 0 (Shared g)) (numbers g i)

-- and each number that was written out has 64 bits
pub record IsTyped (m : Module) (s : SourceState) : Type 0 where
  pub numbers : AreTyped m s.numbers
  pub outputs : All (λ (out : ℕ × ℕ). out.1 < 2 ^ 64) s.outputs
  pub processors : (p : ℕ) → IsTypedProcessor m (s.processors p)
