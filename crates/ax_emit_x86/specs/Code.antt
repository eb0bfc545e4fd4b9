-- X86-64 CODE OF MIDDLE CODE, a line at a time (Intel SDM volume 2). Registers 0 to 7 are rax, rcx, rdx, rbx, rsp, rbp, rsi, rdi.
use Rattle.std.specs.Prelude.{ℕ, ◌+◌, ◌-◌, Bool, true, false, if◌then◌else◌, nat_eq, nat_le, ℤ, pos, negsuc, List, [], ◌∷◌, ◌++◌, length}
use Rattle.ax_words.specs.declared.mark.Op.{Op}
use Rattle.ax_words.specs.declared.order.Order.{Order}
use Rattle.ax_words.specs.declared.width.Width.{Width}
use Rattle.ax_tags.specs.declared.tags.Tag.{Tag}
use Rattle.ax_x86.specs.declared.instructions.Alu.TheVariants as alu
use Rattle.ax_x86.specs.declared.instructions.Condition.{Condition}
use Rattle.ax_x86.specs.declared.instructions.Condition.TheVariants as condition
use Rattle.ax_x86.specs.declared.instructions.Extension.TheVariants.{ZeroByte}
use Rattle.ax_x86.specs.declared.instructions.MemoryOperand.{MemoryOperand}
use Rattle.ax_x86.specs.declared.instructions.Shift.{Shift as ShiftOp}
use Rattle.ax_x86.specs.declared.instructions.Shift.TheVariants as shift
use Rattle.ax_x86.specs.declared.instructions.Size.{Size}
use Rattle.ax_x86.specs.declared.instructions.Size.TheVariants.{Byte, Word, Long, Quad}
use Rattle.ax_x86.specs.declared.instructions.X86Instr.{X86Instr}
use Rattle.ax_x86.specs.declared.instructions.X86Instr.TheVariants.{Movabs, Alu, Shift, Extend, Cmp, Setcc, Cmovcc, Load, Store, Jmp, Jcc, Ret, Syscall, Ud2, Nop}
use Rattle.ax_mid.specs.declared.code.Line.{Line}
use Rattle.ax_mid.specs.declared.instruction.MidInst.{MidInst}
use Rattle.ax_mid.specs.declared.instruction.MidInst.TheVariants as mid
use Rattle.ax_mid.specs.declared.instruction.MidOp.{MidOp}
use Rattle.ax_mid.specs.declared.instruction.MidOp.TheVariants as op
use Rattle.ax_mid.specs.declared.instruction.MidShift.{MidShift}
use Rattle.ax_mid.specs.declared.instruction.MidShift.TheVariants as mid_shift
use Rattle.ax_mid.specs.Machine.{behind_label}
use Rattle.ax_expand.specs.Standing.{wrap}
use Rattle.ax_fine.specs.Fine.{Program}
use Rattle.ax_emit.specs.Atomics.{gets_all, puts_all}
use Rattle.ax_emit.specs.Lines.{access_code, branch_code, ended_code, performed_code}
use Rattle.ax_emit_x86.specs.Slots.{down, put_last, x86_table}

-- the distance of a jump from its own place
abbrev pub distance : ℕ → ℕ → ℤ
distance place target = if nat_le place target then pos (target - place) else negsuc (place - target - 1)

abbrev pub jump_to : ℕ → ℕ → X86Instr
jump_to place target = Jmp (distance place target)

-- rax becomes 1 or 0 by a condition on rax and rdx
abbrev pub flag_code : Condition → List X86Instr
flag_code c = Cmp 2 0 ∷ Setcc c 0 ∷ Extend ZeroByte 0 0 ∷ []

-- rax gets the result of an operation on rax and rdx
abbrev pub op_code : MidOp → List X86Instr
op_code op.Add = Alu alu.Add 2 0 ∷ []
op_code op.Sub = Alu alu.Sub 2 0 ∷ []
op_code op.Mul = Alu alu.Imul 2 0 ∷ []
op_code op.And = Alu alu.And 2 0 ∷ []
op_code op.Or = Alu alu.Or 2 0 ∷ []
op_code op.Xor = Alu alu.Xor 2 0 ∷ []
op_code op.Eq = flag_code condition.Equal
op_code op.Ne = flag_code condition.NotEqual
op_code op.Ult = flag_code condition.Below
op_code op.Ule = flag_code condition.BelowOrEqual
op_code op.Slt = flag_code condition.Less
op_code op.Sle = flag_code condition.LessOrEqual

abbrev pub shift_of : MidShift → ShiftOp
shift_of mid_shift.Shl = shift.Shl
shift_of mid_shift.Lshr = shift.Shr
shift_of mid_shift.Ashr = shift.Sar

-- the low bits go up to the top and come down again; all 64 stay where they are
abbrev pub extend_down : Bool → ShiftOp
extend_down false = shift.Shr
extend_down true = shift.Sar

abbrev pub extend_code : ℕ → Bool → List X86Instr
extend_code bits signed = Shift shift.Shl (64 - bits) 0 ∷ Shift (extend_down signed) (64 - bits) 0 ∷ []

-- rax gets the number of rdx where the test in rcx isn't 0
abbrev pub select_code : List X86Instr
select_code = Movabs 0 3 ∷ Cmp 3 1 ∷ Cmovcc condition.NotEqual 2 0 ∷ []

-- rax is compared with 0
abbrev pub test_code : List X86Instr
test_code = Movabs 0 2 ∷ Cmp 2 0 ∷ []

-- over one jump where rax wasn't 0
abbrev pub turn : X86Instr
turn = Jcc condition.NotEqual (pos 2)

-- bytes at the address in rsi: rax gets them, with zeros above, and they get those of rax
abbrev pub size_of_bytes : ℕ → Size
size_of_bytes n = if nat_eq n 1 then Byte else (if nat_eq n 2 then Word else (if nat_eq n 4 then Long else Quad))

abbrev pub at_address : MemoryOperand
at_address = record { displacement = pos 0; base = 6 }

abbrev pub load_in : ℕ → X86Instr
load_in n = Load (size_of_bytes n) at_address 0

abbrev pub store_in : ℕ → X86Instr
store_in n = Store (size_of_bytes n) 0 at_address

-- the code of an atomic operation on registers: its address in rsi, what it takes and what it gives in rax, rdx, rbx, rcx
pub record Expansion : Type 0 where
  pub piece : ℕ → List (X86Instr × Tag)
  pub size : ℕ
  -- so many idle steps in a row at most
  pub most : ℕ

-- so an exchange finds what it expects where cmpxchg and cmpxchg16b want it, rax and rdx:rax, a pair that it writes in rcx:rbx, and leaves what it found where it is given
abbrev pub home : ℕ → ℕ
home k = if nat_eq k 0 then 0 else (if nat_eq k 1 then 2 else (if nat_eq k 2 then 3 else 1))

-- registers of the machine get the numbers of registers, each in its slot
abbrev pub get_one : {R : Type 0} → (R → ℕ) → ℕ → R → List X86Instr
get_one key t r = gets_all x86_table ((t, key r) ∷ [])

abbrev pub get_two : {R : Type 0} → (R → ℕ) → R → R → List X86Instr
get_two key left right = gets_all x86_table ((0, key left) ∷ (2, key right) ∷ [])

-- the homes of numbers from the k-th on, with their slots
abbrev pub homes_from : {R : Type 0} → (R → ℕ) → ℕ → List R → List (ℕ × ℕ)
homes_from key k [] = []
homes_from key k (r ∷ rs) = (home k, key r) ∷ homes_from key (k + 1) rs

-- code that leaves a number in rax, which then goes to its slot
abbrev pub computed : {R : Type 0} → (R → ℕ) → R → List X86Instr → List (X86Instr × Tag)
computed key to is = performed_code is (put_last (key to) 0) []

-- register r has slot `key r`; the frame lies `depth` below the stack pointer; the line behind label n is `behind n`
module _ {R : Type 0} (key : R → ℕ) (depth : ℕ) (behind : ℕ → ℕ) (expansions : Op → Width → Order → Bool → Expansion) where
  -- the code of an instruction, from a place on, where the lines' code begins at these places
  unfoldable pub piece_of : MidInst R → (ℕ → ℕ) → ℕ → List (X86Instr × Tag)
  piece_of (mid.Const to n) places start = computed key to (Movabs n 0 ∷ [])
  piece_of (mid.Copy to from) places start = computed key to (get_one key 0 from)
  piece_of (mid.Apply o to left right) places start = computed key to (get_two key left right ++ op_code o)
  piece_of (mid.Shift o to from by) places start = computed key to (get_one key 0 from ++ Shift (shift_of o) by 0 ∷ [])
  piece_of (mid.Extend to from bits signed) places start = computed key to (get_one key 0 from ++ extend_code bits signed)
  piece_of (mid.Select to test x y) places start = computed key to (gets_all x86_table ((1, key test) ∷ (2, key x) ∷ (0, key y) ∷ []) ++ select_code)
  piece_of (mid.FrameAddress to offset) places start = computed key to (Movabs (down (depth - offset)) 0 ∷ Alu alu.Add 4 0 ∷ [])
  piece_of (mid.Load to address n) places start = wrap (get_one key 6 address) (access_code (load_in n) []) (puts_all x86_table ((0, key to) ∷ [])) start
  piece_of (mid.Store address from n) places start = wrap (gets_all x86_table ((6, key address) ∷ (0, key from) ∷ [])) (access_code (store_in n) []) [] start
  piece_of (mid.Label n) places start = []
  piece_of (mid.Jump n) places start = ended_code [] (λ places start. jump_to start (places (behind n))) places start
  piece_of (mid.Branch test a b) places start = branch_code (get_one key 0 test ++ test_code) turn jump_to (places (behind a)) (places (behind b)) start
  piece_of (mid.Atomic o width order weak address args results) places start =
      wrap (gets_all x86_table ((6, key address) ∷ homes_from key 0 args)) (expansions o width order weak).piece (puts_all x86_table (homes_from key 0 results)) start
  piece_of (mid.Out from) places start = ended_code (get_one key 7 from) (λ places start. Syscall) places start
  piece_of mid.Trap places start = ended_code [] (λ places start. Ud2) places start
  piece_of mid.Ret places start = ended_code [] (λ places start. Ret) places start
  piece_of mid.Nop places start = ended_code [] (λ places start. Nop) places start
  -- a call of a routine has no code here
  piece_of (mid.Call routine role args results) places start = []

  -- THE CODE OF A LINE
  abbrev pub line_code : (ℕ → ℕ) → ℕ → Line R → List (X86Instr × Tag)
  line_code places start line = piece_of line.inst places start

  -- how many instructions that is, wherever it stands
  abbrev pub line_size : Line R → ℕ
  line_size line = length (piece_of line.inst (λ j. 0) 0)

-- of the lines of a program
module _ {R W : Type 0} (m : Program R W) (expansions : Op → Width → Order → Bool → Expansion) where
  abbrev pub inst_code : MidInst R → (ℕ → ℕ) → ℕ → List (X86Instr × Tag)
  inst_code i places start = piece_of m.key m.depth (λ n. behind_label m.key m.code.lines n 0) expansions i places start

  abbrev pub code_of : (ℕ → ℕ) → ℕ → Line R → List (X86Instr × Tag)
  code_of places start line = inst_code line.inst places start

  abbrev pub size_of : Line R → ℕ
  size_of line = length (inst_code line.inst (λ j. 0) 0)
