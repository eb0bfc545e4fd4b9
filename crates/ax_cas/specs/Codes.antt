-- THE CODE OF ATOMIC OPERATIONS ON X86-64, by operation and width (Intel SDM volume 2: MOV, XCHG, XADD, CMPXCHG, CMPXCHG16B, MFENCE; volume 3, "Memory Ordering"), and of plain accesses, on the registers that emission gives them: the address in rsi, what an operation takes, as what it gives, in rax, rdx, rbx and rcx. Registers 0 to 7 are rax, rcx, rdx, rbx, rsp, rbp, rsi, rdi. Up to 8 bytes a register may have any bits above the number that it brings.
use Rattle.std.specs.Prelude.{◌≡◌, ℕ, ◌≤◌, Bool, true, false, List, [], ◌∷◌, ◌++◌}
use Rattle.ax_words.specs.declared.mark.Op.{Op}
use Rattle.ax_words.specs.declared.mark.Op.TheVariants as op
use Rattle.ax_words.specs.declared.operation.RmwOp.{RmwOp}
use Rattle.ax_words.specs.declared.operation.RmwOp.TheVariants as rmw
use Rattle.ax_words.specs.declared.order.Order.{Order}
use Rattle.ax_words.specs.declared.width.Width.{Width}
use Rattle.ax_words.specs.declared.width.Width.TheVariants.{W8, W16}
use Rattle.ax_words.specs.Width.{bytes_of}
use Rattle.ax_target.specs.declared.target.Target.TheVariants.{X86}
use Rattle.ax_target.specs.declared.decision.Way.{Way}
use Rattle.ax_target.specs.declared.decision.Way.TheVariants.{CasLoop, Inline}
use Rattle.ax_target.specs.Decisions.{decided}
use Rattle.ax_source_run.specs.SourceInstructions.{is_seq_cst}
use Rattle.ax_mid.specs.Machine.{is_wide}
use Rattle.ax_x86.specs.declared.instructions.Condition.TheVariants as condition
use Rattle.ax_x86.specs.declared.instructions.Extension.TheVariants.{ZeroByte}
use Rattle.ax_x86.specs.declared.instructions.X86Instr.{X86Instr}
use Rattle.ax_x86.specs.declared.instructions.X86Instr.TheVariants.{Extend, LockCmpxchg, LockCmpxchg16b, LockXadd, Mfence, Mov, Neg, Nop, Setcc, Xchg}
use Rattle.ax_fine.specs.OnBytes.{atomic_doing, load_doing, store_doing}
use Rattle.ax_expand.specs.Doing.{Doing, on_registers}
use Rattle.ax_expand.specs.Operation.{Operation}
use Rattle.ax_expand.specs.Shared.{Shared}
use Rattle.ax_emit_x86.specs.Code.{Expansion, at_address, load_in, size_of_bytes, store_in}
use Rattle.ax_emit_x86.specs.Laws.{every, is_kept}
use Rattle.ax_loops.specs.Updating.{AreNumbers}
use Rattle.ax_cas.specs.Compares.{Loop, loop_code, loop_most, loop_size}
use Rattle.ax_cas.specs.Loops.{low_bits, narrow_loop, restored, saved, wide_loop, wide_store, zeroed}
use Rattle.ax_cas.specs.Rounds.{Straight, straight_code, straight_most, straight_size}

-- an atomic operation, or a plain access
pub data Coded : Type 0 where
  Atomic : Op → Width → Order → Bool → Coded
  PlainLoad : Width → Coded
  PlainStore : Width → Coded

-- ---- what it does
-- what it takes are numbers of registers
abbrev pub numbered : Doing Shared → Doing Shared
numbered doing = record { happens = doing.happens; fits = λ a args w. doing.fits a args w × AreNumbers args }

-- 16 bytes are taken in two registers, which hold words
abbrev pub asking : Bool → Doing Shared → Doing Shared
asking true doing = numbered doing
asking false doing = doing

abbrev pub doing_of : Bool → Coded → Doing Shared
doing_of cx16 (Atomic o width order weak) = asking (is_wide width) (atomic_doing (X86 cx16) o width order weak)
doing_of cx16 (PlainLoad width) = load_doing (X86 cx16) (bytes_of width)
doing_of cx16 (PlainStore width) = store_doing (X86 cx16) (bytes_of width)

-- ---- registers
abbrev pub one_number : Bool → List ℕ
one_number true = 0 ∷ 2 ∷ []
one_number false = 0 ∷ []

abbrev pub two_numbers : Bool → List ℕ
two_numbers true = 0 ∷ 2 ∷ 3 ∷ 1 ∷ []
two_numbers false = 0 ∷ 2 ∷ []

abbrev pub number_and_flag : Bool → List ℕ
number_and_flag true = 0 ∷ 2 ∷ 3 ∷ []
number_and_flag false = 0 ∷ 2 ∷ []

-- the registers with what it takes, and those that get what it gives
abbrev pub args_of_op : Op → Bool → List ℕ
args_of_op op.Load wide = []
args_of_op op.Store wide = one_number wide
args_of_op op.Cmpxchg wide = two_numbers wide
args_of_op (op.Rmw o) wide = one_number wide
args_of_op op.Fence wide = []

abbrev pub results_of_op : Op → Bool → List ℕ
results_of_op op.Load wide = one_number wide
results_of_op op.Store wide = []
results_of_op op.Cmpxchg wide = number_and_flag wide
results_of_op (op.Rmw o) wide = one_number wide
results_of_op op.Fence wide = []

abbrev pub args_of : Coded → List ℕ
args_of (Atomic o width order weak) = args_of_op o (is_wide width)
args_of (PlainLoad width) = []
args_of (PlainStore width) = 0 ∷ []

abbrev pub results_of : Coded → List ℕ
results_of (Atomic o width order weak) = results_of_op o (is_wide width)
results_of (PlainLoad width) = 0 ∷ []
results_of (PlainStore width) = []

-- what its code keeps
abbrev pub keeps_of : Coded → ℕ → Bool
keeps_of (Atomic o width order weak) = is_kept
keeps_of (PlainLoad width) = every
keeps_of (PlainStore width) = every

abbrev pub operation_of : Bool → Coded → Operation Shared
operation_of cx16 x = on_registers (doing_of cx16 x) 6 (args_of x) (results_of x)

-- ---- the code, up to 8 bytes
abbrev pub lone : X86Instr → Straight X86Instr
lone access = record { before = []; access = access; after = [] }

-- above a result of 1 or 2 bytes an instruction leaves what was there; above one of 4 are zeros
abbrev pub widened : Width → List X86Instr
widened W8 = low_bits false W8 0 ∷ []
widened W16 = low_bits false W16 0 ∷ []
widened _ = []

-- a register tells whether the numbers last compared were equal
abbrev pub flag_in : ℕ → List X86Instr
flag_in r = Setcc condition.Equal r ∷ Extend ZeroByte r r ∷ []

-- a store that is seq_cst is an exchange, behind which no own store waits; what it takes stays in rax
abbrev pub narrow_store : Bool → Width → Straight X86Instr
narrow_store true width = record { before = Mov 0 8 ∷ []; access = Xchg (size_of_bytes (bytes_of width)) 8 at_address; after = [] }
narrow_store false width = lone (store_in (bytes_of width))

abbrev pub narrow_exchange : Width → Straight X86Instr
narrow_exchange width = record { before = []; access = LockCmpxchg (size_of_bytes (bytes_of width)) 2 at_address; after = flag_in 2 ++ (low_bits false width 0 ∷ []) }

abbrev pub swap : Width → Straight X86Instr
swap width = record { before = []; access = Xchg (size_of_bytes (bytes_of width)) 0 at_address; after = widened width }

abbrev pub addition : Width → List X86Instr → Straight X86Instr
addition width before = record { before = before; access = LockXadd (size_of_bytes (bytes_of width)) 0 at_address; after = widened width }

-- a subtraction adds the number's negative
abbrev pub negated : Width → List X86Instr
negated width = low_bits false width 0 ∷ Neg 0 ∷ []

abbrev pub fence_of : Bool → X86Instr
fence_of true = Mfence
fence_of false = Nop

-- ---- 16 bytes
abbrev pub wide_load : Straight X86Instr
wide_load = record { before = saved ++ zeroed; access = LockCmpxchg16b at_address; after = restored }

abbrev pub wide_exchange : Straight X86Instr
wide_exchange = record { before = []; access = LockCmpxchg16b at_address; after = flag_in 3 }

-- ---- as emission takes it
abbrev pub once : Straight X86Instr → Expansion
once z = record { piece = λ start. straight_code z; size = straight_size z; most = straight_most z }

abbrev pub looped : Loop X86Instr → Expansion
looped z = record { piece = λ start. loop_code z; size = loop_size z; most = loop_most z }

-- by whether it has 16 bytes
abbrev pub load_of : Bool → Width → Expansion
load_of true width = once wide_load
load_of false width = once (lone (load_in (bytes_of width)))

abbrev pub store_of : Bool → Width → Order → Expansion
store_of true width order = looped wide_store
store_of false width order = once (narrow_store (is_seq_cst order) width)

abbrev pub exchange_of : Bool → Width → Expansion
exchange_of true width = once wide_exchange
exchange_of false width = once (narrow_exchange width)

-- three have an instruction up to 8 bytes
abbrev pub narrow_update : RmwOp → Width → Expansion
narrow_update rmw.Xchg width = once (swap width)
narrow_update rmw.Add width = once (addition width [])
narrow_update rmw.Sub width = once (addition width (negated width))
narrow_update o width = looped (narrow_loop o width)

abbrev pub update_of : Bool → RmwOp → Width → Expansion
update_of true o width = looped (wide_loop o)
update_of false o width = narrow_update o width

abbrev pub expansion_of : Coded → Expansion
expansion_of (Atomic op.Load width order weak) = load_of (is_wide width) width
expansion_of (Atomic op.Store width order weak) = store_of (is_wide width) width order
expansion_of (Atomic op.Cmpxchg width order weak) = exchange_of (is_wide width) width
expansion_of (Atomic (op.Rmw o) width order weak) = update_of (is_wide width) o width
expansion_of (Atomic op.Fence width order weak) = once (lone (fence_of (is_seq_cst order)))
expansion_of (PlainLoad width) = once (lone (load_in (bytes_of width)))
expansion_of (PlainStore width) = once (lone (store_in (bytes_of width)))

-- the ways that call no routine on x86-64
abbrev pub is_coded_way : Way → Bool
is_coded_way Inline = true
is_coded_way CasLoop = true
is_coded_way _ = false

-- it has such a way, at the object's own alignment
abbrev pub IsCoded : Bool → Coded → Type 0
IsCoded cx16 (Atomic o width order weak) = is_coded_way (decided (X86 cx16) o width (bytes_of width)) ≡ true
IsCoded cx16 (PlainLoad width) = bytes_of width ≤ 8
IsCoded cx16 (PlainStore width) = bytes_of width ≤ 8
