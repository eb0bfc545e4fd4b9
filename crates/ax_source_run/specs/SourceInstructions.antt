-- What an instruction of a processor does (LLVM Language Reference, Instruction Reference).
use Rattle.std.specs.Prelude.{ℕ, zero, suc, ◌+◌, Bool, true, false, not, ◌&&◌, nat_eq, if◌then◌else◌, List, [], ◌∷◌, Option, Some, None, codes, length}
use Rattle.std.specs.List.{flat_map, list_any}
use Rattle.std.specs.Cmp.Lexicographic.{pointwise}
use Rattle.ax_module.specs.declared.inst.Inst.{Inst}
use Rattle.ax_module.specs.declared.inst.Inst.TheVariants as inst
use Rattle.ax_module.specs.declared.module.Block.{Block}
use Rattle.ax_module.specs.declared.operand.Addr.{Addr}
use Rattle.ax_module.specs.declared.operand.Arg.{Arg}
use Rattle.ax_module.specs.declared.operand.Arg.TheVariants as arg
use Rattle.ax_module.specs.declared.operand.Operand.{Operand}
use Rattle.ax_module.specs.declared.types.Ty.{Ty}
use Rattle.ax_module.specs.declared.types.Ty.TheVariants.{I1, I16, I32, I64, I128}
use Rattle.ax_words.specs.declared.mark.Op.TheVariants as op
use Rattle.ax_words.specs.declared.order.Order.{Order}
use Rattle.ax_words.specs.declared.order.Order.TheVariants.{SeqCst}
use Rattle.ax_words.specs.declared.routine.RoutineName.{RoutineName}
use Rattle.ax_words.specs.Routine.{routine_named}
use Rattle.ax_words.specs.declared.source.SourceStatus.TheVariants.{Ended, Trapped}
use Rattle.ax_words.specs.declared.width.Width.{Width}
use Rattle.ax_words.specs.declared.width.Width.TheVariants.{W8, W16, W32, W64, W128}
use Rattle.ax_target.specs.declared.decision.Way.{Way}
use Rattle.ax_target.specs.declared.decision.Way.TheVariants.{Inline}
use Rattle.ax_target.specs.declared.target.Target.{Target}
use Rattle.ax_target.specs.Decisions.{decided}
use Rattle.ax_source_run.specs.SourceAccess.{Access, Deed, Reads, Writes, Updates, Compares, Silent, Found, FoundEqual, accessed, gets, goes_on, is_native_element, put_at, written_out}
use Rattle.ax_source_run.specs.SourceCalls.{RoutineKind, IsLockFree, call_of, kind_of, pointer_at}
use Rattle.ax_source_run.specs.SourcePointers.{base_of, blocks_of, is_element, pointer_of, stepped}
use Rattle.ax_source_run.specs.SourceState.{Object, Shared, Private, Pointer, SourceProcessor, SourceProgram, SourceValue, Number, PointsTo}
use Rattle.ax_source_run.specs.SourceValues.{computed, converted, holds, number_of_flag, operand_of, part_in, type_bits}

abbrev pub width_of : Ty → Width
width_of I16 = W16
width_of I32 = W32
width_of I64 = W64
width_of I128 = W128
width_of _ = W8

abbrev pub is_inline : Way → Bool
is_inline Inline = true
is_inline _ = false

abbrev pub is_seq_cst : Order → Bool
is_seq_cst SeqCst = true
is_seq_cst _ = false

-- an atomic store waits where it is below seq_cst and one access
abbrev pub store_may_wait : Target → Ty → Order → ℕ → Bool
store_may_wait target ty order align = not (is_seq_cst order) && is_inline (decided target op.Store (width_of ty) align)

-- a call of `@out`
abbrev pub is_out : List ℕ → Bool
is_out name = pointwise nat_eq name (codes "out")

abbrev pub pointers_of_arg : Arg → List Addr
pointers_of_arg (arg.Pointer addr) = addr ∷ []
pointers_of_arg (arg.Value ty operand) = []

-- the pointers that an instruction or a library call goes through
unfoldable pub pointers_of : Inst → List Addr
pointers_of (inst.Load ty addr align) = addr ∷ []
pointers_of (inst.LoadAtomic ty addr order align) = addr ∷ []
pointers_of (inst.Store ty v addr align) = addr ∷ []
pointers_of (inst.StoreAtomic ty v addr order align) = addr ∷ []
pointers_of (inst.Cmpxchg weak addr ty expected new_ty new success failure align) = addr ∷ []
pointers_of (inst.Rmw operation addr ty v order align) = addr ∷ []
pointers_of (inst.Call result name args) = flat_map pointers_of_arg args
pointers_of _ = []

unfoldable pub is_unreachable : Inst → Bool
is_unreachable inst.Unreachable = true
is_unreachable _ = false

-- where a branch comes from a block: the first entry for it
abbrev pub incoming : Ty → ℕ → List (Operand × ℕ) → (ℕ → SourceValue) → ℕ
incoming ty from [] values = 0
incoming ty from (entry ∷ entries) values = if nat_eq entry.1 from then operand_of ty entry.0 values else incoming ty from entries values

unfoldable pub is_phi : Inst → Bool
is_phi (inst.Phi ty entries) = true
is_phi _ = false

unfoldable pub phi_number : ℕ → (ℕ → SourceValue) → Inst → ℕ
phi_number from values (inst.Phi ty entries) = incoming ty from entries values
phi_number from values _ = 0

abbrev pub phi_count : List Inst → ℕ
phi_count [] = 0
phi_count (i ∷ insts) = if is_phi i then phi_count insts + 1 else 0

-- the phis at the head of a block, from instruction k on, are set together: each from the values before
abbrev pub phis_set : ℕ → ℕ → (ℕ → SourceValue) → List Inst → (ℕ → SourceValue) → ℕ → SourceValue
phis_set from k old [] values = values
phis_set from k old (i ∷ insts) values = if is_phi i then phis_set from (k + 1) old insts (put_at values k (Number (phi_number from old i))) else values

-- the number of a block's first instruction
abbrev pub first_number : List Block → ℕ → ℕ
first_number [] b = 0
first_number (block ∷ blocks) zero = 0
first_number (block ∷ blocks) (suc b) = length block.insts + first_number blocks b

abbrev pub insts_of_block : List Block → ℕ → List Inst
insts_of_block [] b = []
insts_of_block (block ∷ blocks) zero = block.insts
insts_of_block (block ∷ blocks) (suc b) = insts_of_block blocks b

-- the block b of a function with these blocks, behind its phis
abbrev pub entered : List Block → ℕ → SourceProcessor → SourceProcessor
entered blocks b s = record s {
  block = b;
  index = phi_count (insts_of_block blocks b);
  values = phis_set s.block (first_number blocks b) s.values (insts_of_block blocks b) s.values;
  seen = None;
}

module _ (program : SourceProgram) (s : SourceProcessor) where
  abbrev pub is_inside : Addr → Bool
  is_inside addr = is_element program.source s.function (pointer_of program.source addr s)

  abbrev pub traps : Inst → Bool
  traps i = if is_unreachable i then true else list_any (λ addr. not (is_inside addr)) (pointers_of i)

  abbrev pub routine_access : Option RoutineName → List Arg → Option Access
  routine_access None args = None
  routine_access (Some routine) args = call_of program s (kind_of routine) args

  -- the operation on an object that an instruction is
  unfoldable pub access_of : Inst → Option Access
  access_of (inst.Load ty addr align) = Some (record { pointer = pointer_of program.source addr s; operation = Reads; may_wait = false; reply = Found })
  access_of (inst.LoadAtomic ty addr order align) = Some (record { pointer = pointer_of program.source addr s; operation = Reads; may_wait = false; reply = Found })
  access_of (inst.Store ty v addr align) = Some (record { pointer = pointer_of program.source addr s; operation = Writes (operand_of ty v s.values); may_wait = true; reply = Silent })
  access_of (inst.StoreAtomic ty v addr order align) = Some (record { pointer = pointer_of program.source addr s; operation = Writes (operand_of ty v s.values); may_wait = store_may_wait program.target ty order align; reply = Silent })
  access_of (inst.Cmpxchg weak addr ty expected new_ty new success failure align) = Some (record { pointer = pointer_of program.source addr s; operation = Compares (operand_of ty expected s.values) (operand_of new_ty new s.values); may_wait = false; reply = FoundEqual })
  access_of (inst.Rmw operation addr ty v order align) = Some (record { pointer = pointer_of program.source addr s; operation = Updates operation (operand_of ty v s.values); may_wait = false; reply = Found })
  access_of (inst.Call result name args) = routine_access (routine_named name) args
  access_of _ = None

  abbrev pub lock_free_at : Object → ℕ → Bool
  lock_free_at (Shared g) i = is_native_element program g i
  lock_free_at (Private r) i = false

  abbrev pub lock_free_result : RoutineKind → Pointer → Option SourceValue
  lock_free_result IsLockFree p = Some (Number (number_of_flag (lock_free_at p.object p.index)))
  lock_free_result _ p = None

  -- whether an object is native; it is not looked at
  abbrev pub routine_result : Option RoutineName → List Arg → Option SourceValue
  routine_result None args = None
  routine_result (Some routine) args = lock_free_result (kind_of routine) (pointer_at program s args 1)

  -- the result of instruction k where it is no operation on an object
  unfoldable pub result_in : ℕ → Inst → Option SourceValue
  result_in k (inst.Bin operation ty a b) = Some (Number (computed operation (type_bits ty) (operand_of ty a s.values) (operand_of ty b s.values)))
  result_in k (inst.Icmp condition ty a b) = Some (Number (number_of_flag (holds condition (type_bits ty) (operand_of ty a s.values) (operand_of ty b s.values))))
  result_in k (inst.Select condition ty a other_ty b) = Some (Number (if nat_eq (operand_of I1 condition s.values) 0 then operand_of other_ty b s.values else operand_of ty a s.values))
  result_in k (inst.Convert cast ty a to) = Some (Number (converted cast (type_bits ty) (type_bits to) (operand_of ty a s.values)))
  result_in k (inst.Alloca ty count align) = Some (PointsTo (record { object = Private k; index = 0 }))
  result_in k (inst.Gep ty length base index_ty index) = Some (PointsTo (stepped program.source ty index_ty index s (base_of base s.values)))
  result_in k (inst.Extract ty pair part) = Some (Number (part_in part pair s.values))
  result_in k (inst.Call result name args) = routine_result (routine_named name) args
  result_in k _ = None

  abbrev pub changed : SourceProcessor → (ℕ → ℕ → ℕ) → Deed
  changed new numbers = record { processor = new; numbers = numbers; output = None }

  abbrev pub resulted : Option SourceValue → ℕ → SourceProcessor
  resulted (Some v) k = gets k v s
  resulted None k = goes_on s

  abbrev pub done_by : Option Access → Option SourceValue → ℕ → (ℕ → ℕ → ℕ) → Deed
  done_by (Some access) result k numbers = accessed program access k s numbers
  done_by None result k numbers = changed (resulted result k) numbers

  -- all stores that wait reach their objects, in order
  abbrev pub fenced : Bool → (ℕ → ℕ → ℕ) → Deed
  fenced true numbers = changed (goes_on (record s { pending = [] })) (written_out s.pending numbers)
  fenced false numbers = changed (goes_on s) numbers

  abbrev pub out_number : List Arg → ℕ
  out_number (arg.Value ty v ∷ args) = operand_of ty v s.values
  out_number _ = 0

  abbrev pub written : List Arg → (ℕ → ℕ → ℕ) → Deed
  written args numbers = record { processor = goes_on s; numbers = numbers; output = Some (out_number args) }

  -- instruction k, which does not trap
  unfoldable pub deed_of : ℕ → (ℕ → ℕ → ℕ) → Inst → Deed
  deed_of k numbers (inst.Jump b) = changed (entered (blocks_of program.source s.function) b s) numbers
  deed_of k numbers (inst.Branch condition a b) = changed (entered (blocks_of program.source s.function) (if nat_eq (operand_of I1 condition s.values) 0 then b else a) s) numbers
  deed_of k numbers inst.RetVoid = changed (record s { status = Ended; seen = None }) numbers
  deed_of k numbers (inst.Fence single order) = fenced (not single && is_seq_cst order) numbers
  deed_of k numbers (inst.Call result name args) = if is_out name then written args numbers else done_by (access_of (inst.Call result name args)) (result_in k (inst.Call result name args)) k numbers
  deed_of k numbers i = done_by (access_of i) (result_in k i) k numbers

  abbrev pub deed : ℕ → (ℕ → ℕ → ℕ) → Inst → Deed
  deed k numbers i = if traps i then changed (record s { status = Trapped }) numbers else deed_of k numbers i
