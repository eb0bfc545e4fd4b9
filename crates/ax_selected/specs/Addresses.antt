-- Where a pointer operand points: its object, which the text fixes, and its index, which the text fixes or which is brought into register 1. And where the elements of objects lie.
use Rattle.std.specs.Prelude.{ℕ, zero, suc, ◌+◌, ◌*◌, true, List, [], ◌∷◌, Option, Some, None}
use Rattle.ax_module.specs.declared.inst.Inst.{Inst}
use Rattle.ax_module.specs.declared.module.Module.{Module}
use Rattle.ax_module.specs.declared.operand.Addr.{Addr}
use Rattle.ax_module.specs.declared.operand.Base.{Base}
use Rattle.ax_module.specs.declared.operand.Base.TheVariants as base
use Rattle.ax_module.specs.declared.operand.Operand.{Operand}
use Rattle.ax_module.specs.declared.operand.Operand.TheVariants as operand
use Rattle.ax_module.specs.declared.types.Ty.{Ty}
use Rattle.ax_module.specs.Types.{type_bytes}
use Rattle.ax_layout.specs.Layout.{address_in, next_multiple}
use Rattle.ax_source_run.specs.SourcePointers.{Elements, elements_of, elements_of_alloca, insts_of, scaled}
use Rattle.ax_source_run.specs.SourceState.{Object, Private, Shared, SourceProgram}
use Rattle.ax_source_run.specs.SourceValues.{index_of, type_bits}
use Rattle.ax_mid.specs.declared.instruction.MidInst.{MidInst}
use Rattle.ax_mid.specs.declared.instruction.MidInst.TheVariants as mid
use Rattle.ax_mid.specs.declared.registers.Virtual.{Virtual}
use Rattle.ax_rules.specs.declared.facts.Outcome.{Outcome}
use Rattle.ax_rules.specs.declared.facts.Outcome.TheVariants as outcome
use Rattle.ax_typed.specs.Typed.{outcome_in}
use Rattle.ax_selected.specs.Operands.{constant_of, low_into}
use Rattle.ax_selected.specs.Registers.{low_of, virtual}

-- ---- allocas lie one after the other in the frame, each rounded up to 16 bytes
abbrev pub rounded_bytes : Elements → ℕ
rounded_bytes e = next_multiple 16 (e.count * type_bytes e.elem)

abbrev pub offset_in : List Inst → ℕ → ℕ
offset_in [] k = 0
offset_in (i ∷ insts) zero = 0
offset_in (i ∷ insts) (suc k) = rounded_bytes (elements_of_alloca (Some i)) + offset_in insts k

abbrev pub frame_offset : Module → ℕ → ℕ → ℕ
frame_offset m f r = offset_in (insts_of m f) r

-- ---- indexes
pub data IndexAt : Type 0 where
  Fixed : ℕ → IndexAt
  Brought : List (MidInst Virtual) → IndexAt

pub record Pointing : Type 0 where
  pub object : Object
  pub index : IndexAt

-- the object of a getelementptr's base
abbrev pub stepped_object : Base → Object
stepped_object (base.Global g) = Shared g
stepped_object (base.Value r) = Private r
stepped_object (base.Param k) = Private 0

abbrev pub object_of_value : Outcome → ℕ → Object
object_of_value (outcome.Gep b elem t v) r = stepped_object b
object_of_value _ r = Private r

-- an alloca's address has index 0, a getelementptr's value is its index
abbrev pub index_of_value : Outcome → ℕ → IndexAt
index_of_value (outcome.Gep b elem t v) r = Brought (mid.Copy (virtual 1) (virtual (low_of r)) ∷ [])
index_of_value _ r = Fixed 0

module _ (program : SourceProgram) (f : ℕ) where
  abbrev pub m : Module
  m = program.source

  abbrev pub object_of : Base → Object
  object_of (base.Global g) = Shared g
  object_of (base.Value r) = object_of_value (outcome_in m f r) r
  object_of (base.Param k) = Private 0

  -- an index that is a result is of elements: one of bytes is a constant or its elements are bytes
  abbrev pub index_of_step : Object → Ty → Ty → Operand → IndexAt
  index_of_step object ty index_ty (operand.Value r) = Brought (low_into 1 index_ty (operand.Value r) ∷ mid.Extend (virtual 1) (virtual 1) (type_bits index_ty) true ∷ [])
  index_of_step object ty index_ty v = Fixed (scaled ty (type_bytes (elements_of m f object).elem) (index_of index_ty (constant_of index_ty v)))

  abbrev pub index_of_base : Base → IndexAt
  index_of_base (base.Value r) = index_of_value (outcome_in m f r) r
  index_of_base (base.Global g) = Fixed 0
  index_of_base (base.Param k) = Fixed 0

  abbrev pub index_at : Base → Option (Ty × ℕ × Ty × Operand) → IndexAt
  index_at b None = index_of_base b
  index_at b (Some step) = index_of_step (object_of b) step.0 step.2 step.3

  abbrev pub pointing : Addr → Pointing
  pointing a = record { object = object_of a.base; index = index_at a.base a.step }

  -- the address of an element, into register 0
  abbrev pub address_of : Object → ℕ → MidInst Virtual
  address_of (Shared g) i = mid.Const (virtual 0) (address_in program.layout g i)
  address_of (Private r) i = mid.FrameAddress (virtual 0) (frame_offset m f r + i * type_bytes (elements_of m f (Private r)).elem)

  abbrev pub count_of : Object → ℕ
  count_of object = (elements_of m f object).count

  abbrev pub bytes_of : Object → ℕ
  bytes_of object = type_bytes (elements_of m f object).elem
