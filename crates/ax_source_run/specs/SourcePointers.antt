-- Which element a pointer points to, and whether there is one (LLVM Language Reference, `getelementptr`).
use Rattle.std.specs.Prelude.{ℕ, ◌/◌, ◌^◌, Bool, true, false, nat_lt, if◌then◌else◌, List, [], Option, Some, None, slice_get}
use Rattle.std.specs.List.{flat_map}
use Rattle.ax_module.specs.declared.inst.Inst.{Inst}
use Rattle.ax_module.specs.declared.inst.Inst.TheVariants as inst
use Rattle.ax_module.specs.declared.module.Block.{Block}
use Rattle.ax_module.specs.declared.module.Function.{Function}
use Rattle.ax_module.specs.declared.module.Global.{Global}
use Rattle.ax_module.specs.declared.module.Module.{Module}
use Rattle.ax_module.specs.declared.operand.Addr.{Addr}
use Rattle.ax_module.specs.declared.operand.Base.{Base}
use Rattle.ax_module.specs.declared.operand.Base.TheVariants as base
use Rattle.ax_module.specs.declared.operand.Operand.{Operand}
use Rattle.ax_module.specs.declared.types.Ty.{Ty}
use Rattle.ax_module.specs.declared.types.Ty.TheVariants.{I8}
use Rattle.ax_module.specs.Types.{type_bytes}
use Rattle.ax_source_run.specs.SourceState.{Object, Shared, Private, Pointer, SourceValue, Number, Pair, PointsTo, SourceProcessor}
use Rattle.ax_source_run.specs.SourceValues.{index_of, operand_of}

abbrev pub blocks_in : Option Function → List Block
blocks_in None = []
blocks_in (Some function) = function.blocks

abbrev pub blocks_of : Module → ℕ → List Block
blocks_of m f = blocks_in (slice_get m.functions f)

-- a function's instructions, block after block; their places in this list are their numbers
abbrev pub insts_of : Module → ℕ → List Inst
insts_of m f = flat_map (λ block. block.insts) (blocks_of m f)

-- an object's elements: of which type, and how many
pub record Elements : Type 0 where
  pub elem : Ty
  pub count : ℕ

-- what isn't there has none
abbrev pub no_elements : Elements
no_elements = record { elem = I8; count = 0 }

abbrev pub elements_of_global : Option Global → Elements
elements_of_global None = no_elements
elements_of_global (Some global) = record { elem = global.elem; count = global.count }

unfoldable pub elements_of_alloca : Option Inst → Elements
elements_of_alloca (Some (inst.Alloca ty count align)) = record { elem = ty; count = count }
elements_of_alloca _ = no_elements

-- of an object of a running function
abbrev pub elements_of : Module → ℕ → Object → Elements
elements_of m f (Shared g) = elements_of_global (slice_get m.globals g)
elements_of m f (Private r) = elements_of_alloca (slice_get (insts_of m f) r)

-- a value that is no pointer points to no element
abbrev pub pointed : SourceValue → Pointer
pointed (PointsTo p) = p
pointed (Number n) = record { object = Private n; index = 2 ^ 64 }
pointed (Pair n flag) = record { object = Private n; index = 2 ^ 64 }

-- an absent index is the constant 0
abbrev pub base_of : Base → (ℕ → SourceValue) → Pointer
base_of (base.Global g) values = record { object = Shared g; index = 0 }
base_of (base.Value r) values = pointed (values r)
base_of (base.Param k) values = pointed (Number 0)

abbrev pub is_i8 : Ty → Bool
is_i8 I8 = true
is_i8 _ = false

-- an index of bytes is one of elements: it is divided by an element's bytes
abbrev pub scaled : Ty → ℕ → ℕ → ℕ
scaled ty bytes index = if is_i8 ty then index / bytes else index

-- the step to an element: its type, the index's type and the index
abbrev pub stepped : Module → Ty → Ty → Operand → SourceProcessor → Pointer → Pointer
stepped m ty index_ty index s p =
    record p { index = scaled ty (type_bytes (elements_of m s.function p.object).elem) (index_of index_ty (operand_of index_ty index s.values)) }

abbrev pub stepped_if : Module → Option (Ty × ℕ × Ty × Operand) → SourceProcessor → Pointer → Pointer
stepped_if m None s p = p
stepped_if m (Some step) s p = stepped m step.0 step.2 step.3 s p

abbrev pub pointer_of : Module → Addr → SourceProcessor → Pointer
pointer_of m addr s = stepped_if m addr.step s (base_of addr.base s.values)

abbrev pub is_element : Module → ℕ → Pointer → Bool
is_element m f p = nat_lt p.index (elements_of m f p.object).count
