-- The middle code of a module, and where each instruction's code begins.
use Rattle.std.specs.Prelude.{ℕ, ◌+◌, Bool, true, false, nat_eq, nat_lt, if◌then◌else◌, List, [], ◌∷◌, ◌++◌, map, take, length, slice_get}
use Rattle.ax_module.specs.declared.inst.Inst.{Inst}
use Rattle.ax_module.specs.declared.inst.Inst.TheVariants as inst
use Rattle.ax_module.specs.declared.module.Block.{Block}
use Rattle.ax_module.specs.declared.module.Function.{Function}
use Rattle.ax_module.specs.declared.operand.Addr.{Addr}
use Rattle.ax_module.specs.declared.operand.Arg.{Arg}
use Rattle.ax_module.specs.declared.operand.Arg.TheVariants as arg
use Rattle.ax_module.specs.declared.operand.Operand.{Operand}
use Rattle.ax_module.specs.declared.operand.Operand.TheVariants as operand
use Rattle.ax_module.specs.declared.types.Ty.{Ty}
use Rattle.ax_module.specs.declared.types.Ty.TheVariants.{I1, I64}
use Rattle.ax_tags.specs.declared.tags.Tag.TheVariants as tag
use Rattle.ax_layout.specs.LayoutState.{LayoutState}
use Rattle.ax_layout.specs.declared.address_range.AddressRange.{AddressRange}
use Rattle.ax_source_run.specs.SourceAccess.{is_native_element}
use Rattle.ax_source_run.specs.SourceInstructions.{first_number, insts_of_block, is_out, width_of}
use Rattle.ax_source_run.specs.SourcePointers.{blocks_in}
use Rattle.ax_source_run.specs.SourceState.{Object, SourceProgram}
use Rattle.ax_mid.specs.declared.code.Line.{Line}
use Rattle.ax_mid.specs.declared.code.Mid.{Mid}
use Rattle.ax_mid.specs.declared.code.MidGlobal.{MidGlobal}
use Rattle.ax_mid.specs.declared.instruction.MidInst.{MidInst}
use Rattle.ax_mid.specs.declared.instruction.MidInst.TheVariants as mid
use Rattle.ax_mid.specs.declared.instruction.MidOp.TheVariants as op
use Rattle.ax_mid.specs.declared.registers.Virtual.{Virtual}
use Rattle.ax_words.specs.declared.mark.Op.{Op}
use Rattle.ax_words.specs.declared.mark.Op.TheVariants as operation
use Rattle.ax_words.specs.declared.order.Order.{Order}
use Rattle.ax_words.specs.Orders.{merged_order}
use Rattle.ax_selected.specs.Addresses.{Brought, Fixed, IndexAt, address_of, bytes_of, count_of, pointing, index_of_step, object_of}
use Rattle.ax_selected.specs.Edges.{edge_lines}
use Rattle.ax_selected.specs.Operands.{high_into, is_narrow, low_into}
use Rattle.ax_selected.specs.Pieces.{Straight, apply, bin_lines, convert_lines, copy, extract_lines, icmp_lines, select_lines}
use Rattle.ax_selected.specs.Registers.{block_label, first_label, flag_of, high_of, low_of, second_label, virtual}

-- ---- accesses, through the address in register 0
-- a register for each half of a number
abbrev pub halves : Ty → ℕ → ℕ → List Virtual
halves ty low high = if is_narrow ty then virtual low ∷ [] else virtual low ∷ virtual high ∷ []

-- the address of the other 8 bytes of 16
abbrev pub next_half : List (MidInst Virtual)
next_half = mid.Const (virtual 1) 8 ∷ apply op.Add 1 0 1 ∷ []

abbrev pub load_lines : ℕ → Ty → ℕ → Straight
load_lines k ty bytes =
    if is_narrow ty then record { silent = []; last = mid.Load (virtual (low_of k)) (virtual 0) bytes }
    else record { silent = mid.Load (virtual (low_of k)) (virtual 0) 8 ∷ next_half; last = mid.Load (virtual (high_of k)) (virtual 1) 8 }

abbrev pub store_lines : Ty → Operand → ℕ → Straight
store_lines ty v bytes =
    if is_narrow ty then record { silent = low_into 3 ty v ∷ []; last = mid.Store (virtual 0) (virtual 3) bytes }
    else record { silent = low_into 3 ty v ∷ high_into 4 ty v ∷ mid.Store (virtual 0) (virtual 3) 8 ∷ next_half; last = mid.Store (virtual 1) (virtual 4) 8 }

abbrev pub atomic : Op → Ty → Order → Bool → List Virtual → List Virtual → MidInst Virtual
atomic o ty order weak args results = mid.Atomic o (width_of ty) order weak (virtual 0) args results

abbrev pub halves_into : ℕ → ℕ → Ty → Operand → List (MidInst Virtual)
halves_into low high ty v = if is_narrow ty then low_into low ty v ∷ [] else low_into low ty v ∷ high_into high ty v ∷ []

abbrev pub atomic_load_lines : ℕ → Ty → Order → Straight
atomic_load_lines k ty order = record { silent = []; last = atomic operation.Load ty order false [] (halves ty (low_of k) (high_of k)) }

abbrev pub atomic_store_lines : Ty → Operand → Order → Straight
atomic_store_lines ty v order = record { silent = halves_into 3 4 ty v; last = atomic operation.Store ty order false (halves ty 3 4) [] }

abbrev pub update_lines : ℕ → Op → Ty → Operand → Order → Straight
update_lines k o ty v order = record { silent = halves_into 3 4 ty v; last = atomic o ty order false (halves ty 3 4) (halves ty (low_of k) (high_of k)) }

abbrev pub exchange_lines : ℕ → Bool → Ty → Operand → Ty → Operand → Order → Straight
exchange_lines k weak ty expected new_ty new order = record {
  silent = halves_into 3 4 ty expected ++ halves_into 5 6 new_ty new;
  last = atomic operation.Cmpxchg ty order weak (halves ty 3 4 ++ halves ty 5 6) (halves ty (low_of k) (high_of k) ++ virtual (flag_of k) ∷ []);
}

-- one line that has the event
abbrev pub lone : MidInst Virtual → Straight
lone i = record { silent = []; last = i }

module _ (f k : ℕ) where
  abbrev pub silent : MidInst Virtual → Line Virtual
  silent i = record { inst = i; site = record { function = f; instruction = k }; tag = tag.Silent }

  abbrev pub acting : MidInst Virtual → Line Virtual
  acting i = record { inst = i; site = record { function = f; instruction = k }; tag = tag.Act }

  abbrev pub straight : Straight → List (Line Virtual)
  straight s = map silent s.silent ++ acting s.last ∷ []

  -- the index in register 1 is compared with the count; the address of the element comes into register 0
  abbrev pub compared : ℕ → List (MidInst Virtual)
  compared count = mid.Const (virtual 2) count ∷ apply op.Ult 2 1 2 ∷ []

  abbrev pub found : MidInst Virtual → ℕ → List (MidInst Virtual)
  found first bytes = mid.Const (virtual 2) bytes ∷ apply op.Mul 1 1 2 ∷ first ∷ apply op.Add 0 0 1 ∷ []

  -- an index that is brought is compared with the count: where it is no element's, there is a trap
  abbrev pub guarded : SourceProgram → Object → List (MidInst Virtual) → Straight → List (Line Virtual)
  guarded program object lines rest =
      map silent (lines ++ compared (count_of program f object))
      ++ silent (mid.Branch (virtual 2) (second_label f k) (first_label f k)) ∷ silent (mid.Label (first_label f k)) ∷ acting mid.Trap ∷ silent (mid.Label (second_label f k)) ∷
      straight (record { silent = found (address_of program f object 0) (bytes_of program f object) ++ rest.silent; last = rest.last })

  -- the access's own code stands behind the trap also where the text fixes an index that is no element's
  abbrev pub chosen_by : Bool → SourceProgram → Object → ℕ → Straight → List (Line Virtual)
  chosen_by true program object i rest = straight (record { silent = address_of program f object i ∷ rest.silent; last = rest.last })
  chosen_by false program object i rest = guarded program object (mid.Const (virtual 1) i ∷ []) rest

  abbrev pub through : SourceProgram → Object → IndexAt → Straight → List (Line Virtual)
  through program object (Fixed i) rest = chosen_by (nat_lt i (count_of program f object)) program object i rest
  through program object (Brought lines) rest = guarded program object lines rest

  abbrev pub gep_lines : IndexAt → Straight
  gep_lines (Fixed i) = lone (mid.Const (virtual (low_of k)) i)
  gep_lines (Brought lines) = record { silent = lines; last = copy (low_of k) 1 }

  abbrev pub branch_lines : Operand → Straight → Straight → List (Line Virtual)
  branch_lines test a b =
      map silent (low_into 0 I1 test ∷ mid.Branch (virtual 0) (first_label f k) (second_label f k) ∷ mid.Label (first_label f k) ∷ []) ++ straight a
      ++ (silent (mid.Label (second_label f k)) ∷ straight b)

  abbrev pub out_operand : List Arg → Straight
  out_operand (arg.Value ty v ∷ args) = record { silent = low_into 0 ty v ∷ []; last = mid.Out (virtual 0) }
  out_operand _ = lone mid.Nop

  abbrev pub fence_lines : Bool → Order → Straight
  fence_lines true order = lone mid.Nop
  fence_lines false order = lone (mid.Atomic operation.Fence (width_of I64) order false (virtual 0) [] [])

  -- the lines of an instruction in block b of a function with these blocks; a phi has none
  module _ (program : SourceProgram) (blocks : List Block) (b : ℕ) where
    abbrev pub reach : Addr → Straight → List (Line Virtual)
    reach a rest = through program (pointing program f a).object (pointing program f a).index rest

    abbrev pub bytes_at : Addr → ℕ
    bytes_at a = bytes_of program f (pointing program f a).object

    unfoldable pub piece : Inst → List (Line Virtual)
    piece (inst.Bin o ty x y) = straight (bin_lines o k ty x y)
    piece (inst.Icmp condition ty x y) = straight (icmp_lines condition k ty x y)
    piece (inst.Select test ty x other y) = straight (select_lines k test ty x other y)
    piece (inst.Convert cast ty x to) = straight (convert_lines cast k ty x to)
    piece (inst.Phi ty entries) = []
    piece (inst.Jump d) = straight (edge_lines f blocks b d)
    -- a branch to one block from both sides is a jump
    piece (inst.Branch test d e) = if nat_eq d e then straight (edge_lines f blocks b d) else branch_lines test (edge_lines f blocks b d) (edge_lines f blocks b e)
    piece inst.RetVoid = straight (lone mid.Ret)
    piece (inst.Ret ty x) = straight (lone mid.Trap)
    piece inst.Unreachable = straight (lone mid.Trap)
    piece (inst.Alloca ty count align) = straight (lone mid.Nop)
    piece (inst.Gep ty count a index_ty x) = straight (gep_lines (index_of_step program f (object_of program f a) ty index_ty x))
    piece (inst.Load ty a align) = reach a (load_lines k ty (bytes_at a))
    piece (inst.LoadAtomic ty a order align) = reach a (atomic_load_lines k ty order)
    piece (inst.Store ty x a align) = reach a (store_lines ty x (bytes_at a))
    piece (inst.StoreAtomic ty x a order align) = reach a (atomic_store_lines ty x order)
    piece (inst.Cmpxchg weak a ty x new_ty y success failure align) = reach a (exchange_lines k weak ty x new_ty y (merged_order success failure))
    piece (inst.Rmw o a ty x order align) = reach a (update_lines k (operation.Rmw o) ty x order)
    piece (inst.Fence single order) = straight (fence_lines single order)
    piece (inst.Extract ty (operand.Value r) part) = straight (extract_lines k r part)
    piece (inst.Extract ty x part) = straight (lone mid.Nop)
    piece (inst.Call result name args) = if is_out name then straight (out_operand args) else straight (lone mid.Nop)

-- ---- the whole code
module _ (program : SourceProgram) where
  abbrev pub insts_lines : ℕ → List Block → ℕ → ℕ → List Inst → List (Line Virtual)
  insts_lines f blocks b k [] = []
  insts_lines f blocks b k (i ∷ insts) = piece f k program blocks b i ++ insts_lines f blocks b (k + 1) insts

  -- the label of a block stands before its code
  abbrev pub label_line : ℕ → ℕ → Line Virtual
  label_line f k = silent f k (mid.Label (block_label f k))

  -- block b and those behind it, of which the first instruction is k
  abbrev pub blocks_lines : ℕ → List Block → ℕ → ℕ → List Block → List (Line Virtual)
  blocks_lines f all b k [] = []
  blocks_lines f all b k (block ∷ blocks) = label_line f k ∷ insts_lines f all b k block.insts ++ blocks_lines f all (b + 1) (k + length block.insts) blocks

  abbrev pub function_lines : ℕ → Function → List (Line Virtual)
  function_lines f function = blocks_lines f function.blocks 0 0 function.blocks

  abbrev pub functions_lines : ℕ → List Function → List (Line Virtual)
  functions_lines f [] = []
  functions_lines f (function ∷ functions) = function_lines f function ++ functions_lines (f + 1) functions

  abbrev pub mid_global : LayoutState → ℕ → AddressRange → MidGlobal
  mid_global layout g span = record { address = span.start; bytes = span.bytes; count = span.count; native = is_native_element program g 0 }

  abbrev pub globals_from : ℕ → List AddressRange → List MidGlobal
  globals_from g [] = []
  globals_from g (span ∷ spans) = mid_global program.layout g span ∷ globals_from (g + 1) spans

  abbrev pub selected : Mid Virtual
  selected = record { globals = globals_from 0 program.layout.spans; lines = functions_lines 0 program.source.functions }

  -- ---- places
  abbrev pub function_begins : ℕ → ℕ
  function_begins f = length (functions_lines 0 (take f program.source.functions))

  abbrev pub begins_in : ℕ → List Block → ℕ → ℕ → ℕ
  begins_in f blocks b index =
      length (blocks_lines f blocks 0 0 (take b blocks)) + (1 + length (insts_lines f blocks b (first_number blocks b) (take index (insts_of_block blocks b))))

  abbrev pub begins : ℕ → ℕ → ℕ → ℕ
  begins f b index = function_begins f + begins_in f (blocks_in (slice_get program.source.functions f)) b index
