-- The atomic operations and the plain accesses of source and middle code.
use Rattle.std.specs.Prelude.{◌≡◌, ℕ, Bool, true, false, if◌then◌else◌, Option, Some, None, slice_get}
use Rattle.ax_module.specs.declared.inst.Inst.{Inst}
use Rattle.ax_module.specs.declared.inst.Inst.TheVariants as inst
use Rattle.ax_module.specs.declared.operand.Addr.{Addr}
use Rattle.ax_module.specs.declared.types.Ty.{Ty}
use Rattle.ax_module.specs.declared.types.Ty.TheVariants.{I64}
use Rattle.ax_source_run.specs.SourceInstructions.{width_of}
use Rattle.ax_source_run.specs.SourcePointers.{insts_of}
use Rattle.ax_source_run.specs.SourceState.{SourceProgram}
use Rattle.ax_mid.specs.declared.code.Line.{Line}
use Rattle.ax_mid.specs.declared.code.Mid.{Mid}
use Rattle.ax_mid.specs.declared.instruction.MidInst.{MidInst}
use Rattle.ax_mid.specs.declared.instruction.MidInst.TheVariants as mid
use Rattle.ax_mid.specs.declared.registers.Virtual.{Virtual}
use Rattle.ax_target.specs.Decisions.{decided}
use Rattle.ax_words.specs.declared.mark.Op.{Op}
use Rattle.ax_words.specs.declared.mark.Op.TheVariants as op
use Rattle.ax_words.specs.declared.order.Order.{Order}
use Rattle.ax_words.specs.declared.place.Site.{Site}
use Rattle.ax_words.specs.declared.width.Width.{Width}
use Rattle.ax_words.specs.Orders.{merged_order}
use Rattle.ax_words.specs.Width.{bytes_of}
use Rattle.ax_selected.specs.Addresses.{bytes_of as element_bytes, object_of}
use Rattle.ax_selected.specs.Direct.{is_direct_way, needs_no_routine}
use Rattle.ax_selected.specs.Operands.{is_narrow}
use Rattle.ax_selected.specs.Selected.{selected}

-- an operation, its width and order, and whether it may fail without a cause
pub record Operation : Type 0 where
  pub op : Op
  pub width : Width
  pub order : Order
  pub weak : Bool

-- that of an instruction of the source; a fence of one thread has none
unfoldable pub operation_of : Inst → Option Operation
operation_of (inst.LoadAtomic ty a order align) = Some (record { op = op.Load; width = width_of ty; order = order; weak = false })
operation_of (inst.StoreAtomic ty v a order align) = Some (record { op = op.Store; width = width_of ty; order = order; weak = false })
operation_of (inst.Cmpxchg weak a ty x new_ty y success failure align) = Some (record { op = op.Cmpxchg; width = width_of ty; order = merged_order success failure; weak = weak })
operation_of (inst.Rmw o a ty v order align) = Some (record { op = op.Rmw o; width = width_of ty; order = order; weak = false })
operation_of (inst.Fence false order) = Some (record { op = op.Fence; width = width_of I64; order = order; weak = false })
operation_of _ = None

-- that of an instruction of middle code
unfoldable pub operation_in : MidInst Virtual → Option Operation
operation_in (mid.Atomic o width order weak address args results) = Some (record { op = o; width = width; order = order; weak = weak })
operation_in _ = None

-- the instruction at a site
abbrev pub inst_of_site : SourceProgram → Site → Option Inst
inst_of_site program site = slice_get (insts_of program.source site.function) site.instruction

-- an operation is that of the instruction at a site, and where the program needs no routine the decision table has a way for it that calls none
pub record IsOperationAt (program : SourceProgram) (site : Site) (o : Operation) : Type 0 where
  pub inst : Inst
  pub at : inst_of_site program site ≡ Some inst
  pub operation : operation_of inst ≡ Some o
  pub way : needs_no_routine program ≡ true → is_direct_way (decided program.target o.op o.width (bytes_of o.width)) ≡ true

-- each atomic operation of middle code is that of the instruction at its site
abbrev pub OperationsAreAtSites : SourceProgram → Mid Virtual → Type 0
OperationsAreAtSites program m =
    (place : ℕ) (line : Line Virtual) (o : Operation) → slice_get m.lines place ≡ Some line → operation_in line.inst ≡ Some o → IsOperationAt program line.site o

abbrev pub SelectedOperationsAreAtSites : Type 0
SelectedOperationsAreAtSites = (program : SourceProgram) → OperationsAreAtSites program (selected program)

-- ---- a plain access: a load or a store, of so many bytes
pub record PlainAccess : Type 0 where
  pub stores : Bool
  pub bytes : ℕ

-- that of an instruction of middle code
unfoldable pub access_in : MidInst Virtual → Option PlainAccess
access_in (mid.Load to address bytes) = Some (record { stores = false; bytes = bytes })
access_in (mid.Store address from bytes) = Some (record { stores = true; bytes = bytes })
access_in _ = None

-- an access of a function's object: at 16 bytes it is two of 8
abbrev pub IsOfElement : SourceProgram → ℕ → Bool → Ty → Addr → PlainAccess → Type 0
IsOfElement program f stores ty a x = (x.stores ≡ stores) × (x.bytes ≡ (if is_narrow ty then element_bytes program f (object_of program f a.base) else 8))

-- one of a source instruction of a function; others have none
unfoldable pub IsAccessOf : SourceProgram → ℕ → Inst → PlainAccess → Type 0
IsAccessOf program f (inst.Load ty a align) x = IsOfElement program f false ty a x
IsAccessOf program f (inst.Store ty v a align) x = IsOfElement program f true ty a x
IsAccessOf program f _ x = ⊥

-- a plain access is one of the instruction at a site
pub record IsAccessAt (program : SourceProgram) (site : Site) (x : PlainAccess) : Type 0 where
  pub inst : Inst
  pub at : inst_of_site program site ≡ Some inst
  pub access : IsAccessOf program site.function inst x

-- so is each plain access of middle code
abbrev pub AccessesAreAtSites : SourceProgram → Mid Virtual → Type 0
AccessesAreAtSites program m = (place : ℕ) (line : Line Virtual) (x : PlainAccess) → slice_get m.lines place ≡ Some line → access_in line.inst ≡ Some x → IsAccessAt program line.site x

abbrev pub SelectedAccessesAreAtSites : Type 0
SelectedAccessesAreAtSites = (program : SourceProgram) → AccessesAreAtSites program (selected program)
