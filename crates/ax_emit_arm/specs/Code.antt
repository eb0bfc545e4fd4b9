-- AARCH64 CODE OF MIDDLE CODE, a line at a time (Arm Architecture Reference Manual for A-profile, A64 base instructions).
use Rattle.std.specs.Prelude.{ℕ, ◌+◌, ◌-◌, Bool, true, false, if◌then◌else◌, nat_eq, nat_le, ℤ, pos, negsuc, List, [], ◌∷◌, ◌++◌, length}
use Rattle.ax_words.specs.declared.mark.Op.{Op}
use Rattle.ax_words.specs.declared.order.Order.{Order}
use Rattle.ax_words.specs.declared.width.Width.{Width}
use Rattle.ax_tags.specs.declared.tags.Tag.{Tag}
use Rattle.ax_arm.specs.declared.instructions.Alu.TheVariants as alu
use Rattle.ax_arm.specs.declared.instructions.ArmInstr.{ArmInstr}
use Rattle.ax_arm.specs.declared.instructions.ArmInstr.TheVariants.{Constant, Alu, Shift, Cmp, Cset, Csel, Ldr, Str, B, Cbnz, Ret, Svc, Brk, Nop}
use Rattle.ax_arm.specs.declared.instructions.Condition.{Condition}
use Rattle.ax_arm.specs.declared.instructions.Condition.TheVariants as condition
use Rattle.ax_arm.specs.declared.instructions.Shift.{Shift as ShiftOp}
use Rattle.ax_arm.specs.declared.instructions.Shift.TheVariants as shift
use Rattle.ax_arm.specs.declared.instructions.Size.{Size}
use Rattle.ax_arm.specs.declared.instructions.Size.TheVariants.{Byte, Half, Word, Double}
use Rattle.ax_mid.specs.declared.code.Line.{Line}
use Rattle.ax_mid.specs.declared.instruction.MidInst.{MidInst}
use Rattle.ax_mid.specs.declared.instruction.MidInst.TheVariants as mid
use Rattle.ax_mid.specs.declared.instruction.MidOp.{MidOp}
use Rattle.ax_mid.specs.declared.instruction.MidOp.TheVariants as op
use Rattle.ax_mid.specs.declared.instruction.MidShift.{MidShift}
use Rattle.ax_mid.specs.declared.instruction.MidShift.TheVariants as mid_shift
use Rattle.ax_mid.specs.Machine.{behind_label}
use Rattle.ax_expand.specs.Standing.{wrap}
use Rattle.ax_fine.specs.Fine.{Program}
use Rattle.ax_emit.specs.Atomics.{gets_all, puts_all}
use Rattle.ax_emit.specs.Lines.{access_code, branch_code, ended_code, performed_code}
use Rattle.ax_emit_arm.specs.Slots.{arm_table, put_first, put_last}

-- the distance of a jump from its own place
abbrev pub distance : ℕ → ℕ → ℤ
distance place target = if nat_le place target then pos (target - place) else negsuc (place - target - 1)

abbrev pub jump_to : ℕ → ℕ → ArmInstr
jump_to place target = B (distance place target)

-- register 0 becomes 1 or 0 by a condition on registers 1 and 2
abbrev pub flag_code : Condition → List ArmInstr
flag_code c = Cmp 1 2 ∷ Cset 0 c ∷ []

-- register 0 gets the result of an operation on registers 1 and 2
abbrev pub op_code : MidOp → List ArmInstr
op_code op.Add = Alu alu.Add 0 1 2 ∷ []
op_code op.Sub = Alu alu.Sub 0 1 2 ∷ []
op_code op.Mul = Alu alu.Mul 0 1 2 ∷ []
op_code op.And = Alu alu.And 0 1 2 ∷ []
op_code op.Or = Alu alu.Orr 0 1 2 ∷ []
op_code op.Xor = Alu alu.Eor 0 1 2 ∷ []
op_code op.Eq = flag_code condition.Eq
op_code op.Ne = flag_code condition.Ne
op_code op.Ult = flag_code condition.Lo
op_code op.Ule = flag_code condition.Ls
op_code op.Slt = flag_code condition.Lt
op_code op.Sle = flag_code condition.Le

abbrev pub shift_of : MidShift → ShiftOp
shift_of mid_shift.Shl = shift.Lsl
shift_of mid_shift.Lshr = shift.Lsr
shift_of mid_shift.Ashr = shift.Asr

-- the low bits go up to the top and come down again; all 64 stay where they are
abbrev pub extend_down : Bool → ShiftOp
extend_down false = shift.Lsr
extend_down true = shift.Asr

abbrev pub extend_code : ℕ → Bool → List ArmInstr
extend_code bits signed = Shift shift.Lsl 0 0 (64 - bits) ∷ Shift (extend_down signed) 0 0 (64 - bits) ∷ []

-- register 0 gets the number of register 1 where the test in register 3 isn't 0, else that of register 2
abbrev pub select_code : List ArmInstr
select_code = Constant 0 0 ∷ Cmp 3 0 ∷ Csel 0 1 2 condition.Ne ∷ []

-- over one jump where the test in register 0 isn't 0
abbrev pub turn : ArmInstr
turn = Cbnz 0 (pos 2)

-- bytes at the address in register 1: register 0 gets them, with zeros above, and they get those of register 0
abbrev pub size_of_bytes : ℕ → Size
size_of_bytes n = if nat_eq n 1 then Byte else (if nat_eq n 2 then Half else (if nat_eq n 4 then Word else Double))

abbrev pub load_in : ℕ → ArmInstr
load_in n = Ldr (size_of_bytes n) 0 1 0

abbrev pub store_in : ℕ → ArmInstr
store_in n = Str (size_of_bytes n) 0 1 0

-- the code of an atomic operation on registers: its address in register 1, what it takes in 2 to 5, and what it gives in 6 to 8. So each number of 16 bytes is in an even register and the next one, as casp has them: what an exchange expects in 2 and 3, what it stores in 4 and 5, and what it finds in 6 and 7. Registers 0 and 9 to 28 are scratch
pub record Expansion : Type 0 where
  pub piece : ℕ → List (ArmInstr × Tag)
  pub size : ℕ
  -- so many idle steps in a row at most
  pub most : ℕ

abbrev pub address_register : ℕ
address_register = 1

abbrev pub first_argument : ℕ
first_argument = 2

abbrev pub first_result : ℕ
first_result = 6

-- registers of the machine get the numbers of registers, each in its slot
abbrev pub get_one : {R : Type 0} → (R → ℕ) → ℕ → R → List ArmInstr
get_one key t r = gets_all arm_table ((t, key r) ∷ [])

abbrev pub get_two : {R : Type 0} → (R → ℕ) → R → R → List ArmInstr
get_two key left right = gets_all arm_table ((1, key left) ∷ (2, key right) ∷ [])

-- registers of the machine from a number on, with their slots
abbrev pub homes_from : {R : Type 0} → (R → ℕ) → ℕ → List R → List (ℕ × ℕ)
homes_from key t [] = []
homes_from key t (r ∷ rs) = (t, key r) ∷ homes_from key (t + 1) rs

-- code that leaves a number in register 0, which then goes to its slot
abbrev pub computed : {R : Type 0} → (R → ℕ) → R → List ArmInstr → List (ArmInstr × Tag)
computed key to is = performed_code (is ++ put_first (key to) 0) (put_last (key to) 0) []

-- register r has slot `key r`; the frame lies `depth` below the stack pointer; the line behind label n is `behind n`
module _ {R : Type 0} (key : R → ℕ) (depth : ℕ) (behind : ℕ → ℕ) (expansions : Op → Width → Order → Bool → Expansion) where
  -- the code of an instruction, from a place on, where the lines' code begins at these places
  unfoldable pub piece_of : MidInst R → (ℕ → ℕ) → ℕ → List (ArmInstr × Tag)
  piece_of (mid.Const to n) places start = computed key to (Constant 0 n ∷ [])
  piece_of (mid.Copy to from) places start = computed key to (get_one key 0 from)
  piece_of (mid.Apply o to left right) places start = computed key to (get_two key left right ++ op_code o)
  piece_of (mid.Shift o to from by) places start = computed key to (get_one key 0 from ++ Shift (shift_of o) 0 0 by ∷ [])
  piece_of (mid.Extend to from bits signed) places start = computed key to (get_one key 0 from ++ extend_code bits signed)
  piece_of (mid.Select to test x y) places start = computed key to (gets_all arm_table ((3, key test) ∷ (1, key x) ∷ (2, key y) ∷ []) ++ select_code)
  piece_of (mid.FrameAddress to offset) places start = computed key to (Constant 0 (depth - offset) ∷ Alu alu.Sub 0 31 0 ∷ [])
  piece_of (mid.Load to address n) places start = wrap (get_one key address_register address) (access_code (load_in n) []) (puts_all arm_table ((0, key to) ∷ [])) start
  piece_of (mid.Store address from n) places start = wrap (gets_all arm_table ((address_register, key address) ∷ (0, key from) ∷ [])) (access_code (store_in n) []) [] start
  piece_of (mid.Label n) places start = []
  piece_of (mid.Jump n) places start = ended_code [] (λ places start. jump_to start (places (behind n))) places start
  piece_of (mid.Branch test a b) places start = branch_code (get_one key 0 test) turn jump_to (places (behind a)) (places (behind b)) start
  piece_of (mid.Atomic o width order weak address args results) places start =
      wrap (gets_all arm_table ((address_register, key address) ∷ homes_from key first_argument args)) (expansions o width order weak).piece (puts_all arm_table (homes_from key first_result results)) start
  piece_of (mid.Out from) places start = ended_code (get_one key 0 from) (λ places start. Svc) places start
  piece_of mid.Trap places start = ended_code [] (λ places start. Brk) places start
  piece_of mid.Ret places start = ended_code [] (λ places start. Ret) places start
  piece_of mid.Nop places start = ended_code [] (λ places start. Nop) places start
  -- a call of a routine has no code here
  piece_of (mid.Call routine role args results) places start = []

  -- THE CODE OF A LINE
  abbrev pub line_code : (ℕ → ℕ) → ℕ → Line R → List (ArmInstr × Tag)
  line_code places start line = piece_of line.inst places start

  -- how many instructions that is, wherever it stands
  abbrev pub line_size : Line R → ℕ
  line_size line = length (piece_of line.inst (λ j. 0) 0)

-- of the lines of a program
module _ {R W : Type 0} (m : Program R W) (expansions : Op → Width → Order → Bool → Expansion) where
  abbrev pub inst_code : MidInst R → (ℕ → ℕ) → ℕ → List (ArmInstr × Tag)
  inst_code i places start = piece_of m.key m.depth (λ n. behind_label m.key m.code.lines n 0) expansions i places start

  abbrev pub code_of : (ℕ → ℕ) → ℕ → Line R → List (ArmInstr × Tag)
  code_of places start line = inst_code line.inst places start

  abbrev pub size_of : Line R → ℕ
  size_of line = length (inst_code line.inst (λ j. 0) 0)
