-- RV64 CODE OF MIDDLE CODE, a line at a time (RISC-V Unprivileged ISA: RV64I and M).
use Rattle.std.specs.Prelude.{ℕ, ◌+◌, ◌-◌, Bool, true, false, if◌then◌else◌, nat_eq, nat_le, ℤ, pos, negsuc, List, [], ◌∷◌, ◌++◌, length}
use Rattle.ax_words.specs.declared.mark.Op.{Op}
use Rattle.ax_words.specs.declared.order.Order.{Order}
use Rattle.ax_words.specs.declared.width.Width.{Width}
use Rattle.ax_tags.specs.declared.tags.Tag.{Tag}
use Rattle.ax_rv.specs.declared.instructions.Binary.TheVariants as binary
use Rattle.ax_rv.specs.declared.instructions.Condition.TheVariants as condition
use Rattle.ax_rv.specs.declared.instructions.LoadForm.{LoadForm}
use Rattle.ax_rv.specs.declared.instructions.LoadForm.TheVariants as load
use Rattle.ax_rv.specs.declared.instructions.RvInstr.{RvInstr}
use Rattle.ax_rv.specs.declared.instructions.RvInstr.TheVariants.{Li, Unary, Binary, Shift, Load, Store, Jump, Ret, Branch, Ecall, Ebreak, Nop}
use Rattle.ax_rv.specs.declared.instructions.Shift.{Shift as ShiftOp}
use Rattle.ax_rv.specs.declared.instructions.Shift.TheVariants as shift
use Rattle.ax_rv.specs.declared.instructions.StoreForm.{StoreForm}
use Rattle.ax_rv.specs.declared.instructions.StoreForm.TheVariants as store
use Rattle.ax_rv.specs.declared.instructions.Unary.TheVariants as unary
use Rattle.ax_mid.specs.declared.code.Line.{Line}
use Rattle.ax_mid.specs.declared.instruction.MidInst.{MidInst}
use Rattle.ax_mid.specs.declared.instruction.MidInst.TheVariants as mid
use Rattle.ax_mid.specs.declared.instruction.MidOp.{MidOp}
use Rattle.ax_mid.specs.declared.instruction.MidOp.TheVariants as op
use Rattle.ax_mid.specs.declared.instruction.MidShift.{MidShift}
use Rattle.ax_mid.specs.declared.instruction.MidShift.TheVariants as mid_shift
use Rattle.ax_mid.specs.Machine.{behind_label}
use Rattle.ax_expand.specs.Standing.{wrap}
use Rattle.ax_emit.specs.Atomics.{gets_all, puts_all}
use Rattle.ax_fine.specs.Fine.{Program}
use Rattle.ax_emit.specs.Lines.{access_code, branch_code, ended_code, performed_code}
use Rattle.ax_emit_rv.specs.Slots.{down, put_first, put_last, rv_table}

-- the distance of a jump from its own place
abbrev pub distance : ℕ → ℕ → ℤ
distance place target = if nat_le place target then pos (target - place) else negsuc (place - target - 1)

abbrev pub jump_to : ℕ → ℕ → RvInstr
jump_to place target = Jump (distance place target)

-- register 7 gets the result of an operation on registers 5 and 6
abbrev pub op_code : MidOp → List RvInstr
op_code op.Add = Binary binary.Add 7 5 6 ∷ []
op_code op.Sub = Binary binary.Subtract 7 5 6 ∷ []
op_code op.Mul = Binary binary.Multiply 7 5 6 ∷ []
op_code op.And = Binary binary.And 7 5 6 ∷ []
op_code op.Or = Binary binary.Or 7 5 6 ∷ []
op_code op.Xor = Binary binary.Xor 7 5 6 ∷ []
op_code op.Eq = Binary binary.Subtract 7 5 6 ∷ Unary unary.IsZero 7 7 ∷ []
op_code op.Ne = Binary binary.Subtract 7 5 6 ∷ Unary unary.IsNotZero 7 7 ∷ []
op_code op.Ult = Binary binary.IsBelow 7 5 6 ∷ []
op_code op.Ule = Binary binary.IsBelow 7 6 5 ∷ Unary unary.IsZero 7 7 ∷ []
op_code op.Slt = Binary binary.IsLess 7 5 6 ∷ []
op_code op.Sle = Binary binary.IsLess 7 6 5 ∷ Unary unary.IsZero 7 7 ∷ []

abbrev pub shift_of : MidShift → ShiftOp
shift_of mid_shift.Shl = shift.Left
shift_of mid_shift.Lshr = shift.Right
shift_of mid_shift.Ashr = shift.RightSigned

-- the low bits go up to the top and come down again; all 64 stay where they are
abbrev pub extend_down : Bool → ShiftOp
extend_down false = shift.Right
extend_down true = shift.RightSigned

abbrev pub extend_code : ℕ → Bool → List RvInstr
extend_code bits signed = Shift shift.Left 7 7 (64 - bits) ∷ Shift (extend_down signed) 7 7 (64 - bits) ∷ []

-- register 7 gets that of register 6 where the test in register 5 isn't 0: 7 + ((6 - 7) and a mask)
abbrev pub select_code : List RvInstr
select_code = Unary unary.IsNotZero 5 5 ∷ Unary unary.Negate 5 5 ∷ Binary binary.Subtract 6 6 7 ∷ Binary binary.And 6 6 5 ∷ Binary binary.Add 7 7 6 ∷ []

-- bytes at the address in register 5: register 7 gets them, and they get those of register 6
abbrev pub load_form : ℕ → LoadForm
load_form n = if nat_eq n 1 then load.Byte else (if nat_eq n 2 then load.Half else (if nat_eq n 4 then load.Word else load.Double))

abbrev pub store_form : ℕ → StoreForm
store_form n = if nat_eq n 1 then store.Byte else (if nat_eq n 2 then store.Half else (if nat_eq n 4 then store.Word else store.Double))

abbrev pub load_in : ℕ → RvInstr
load_in n = Load (load_form n) 7 (pos 0) 5

abbrev pub store_in : ℕ → RvInstr
store_in n = Store (store_form n) 6 (pos 0) 5

-- a loaded word is extended by its sign, and middle code wants zeros
abbrev pub cleared : ℕ → List RvInstr
cleared n = if nat_eq n 4 then extend_code 32 false else []

-- the code of an atomic operation on registers: its address in 10, what it takes in 11 to 14, and what it gives in 15 to 17
pub record Expansion : Type 0 where
  pub piece : ℕ → List (RvInstr × Tag)
  pub size : ℕ
  -- so many idle steps in a row at most
  pub most : ℕ

abbrev pub first_argument : ℕ
first_argument = 11

abbrev pub first_result : ℕ
first_result = 15

-- registers of the machine get the numbers of registers, each in its slot
abbrev pub get_one : {R : Type 0} → (R → ℕ) → ℕ → R → List RvInstr
get_one key t r = gets_all rv_table ((t, key r) ∷ [])

abbrev pub get_two : {R : Type 0} → (R → ℕ) → R → R → List RvInstr
get_two key left right = gets_all rv_table ((5, key left) ∷ (6, key right) ∷ [])

-- registers of the machine from a number on, with their slots
abbrev pub homes_from : {R : Type 0} → (R → ℕ) → ℕ → List R → List (ℕ × ℕ)
homes_from key t [] = []
homes_from key t (r ∷ rs) = (t, key r) ∷ homes_from key (t + 1) rs

-- code that leaves a number in register 7, which then goes to its slot
abbrev pub computed : {R : Type 0} → (R → ℕ) → R → List RvInstr → List (RvInstr × Tag)
computed key to is = performed_code (is ++ put_first (key to) 7) (put_last (key to) 7) []

-- register r has slot `key r`; the frame lies `depth` below the stack pointer; the line behind label n is `behind n`
module _ {R : Type 0} (key : R → ℕ) (depth : ℕ) (behind : ℕ → ℕ) (expansions : Op → Width → Order → Bool → Expansion) where
  -- the code of an instruction, from a place on, where the lines' code begins at these places
  unfoldable pub piece_of : MidInst R → (ℕ → ℕ) → ℕ → List (RvInstr × Tag)
  piece_of (mid.Const to n) places start = computed key to (Li 7 n ∷ [])
  piece_of (mid.Copy to from) places start = computed key to (get_one key 7 from ++ [])
  piece_of (mid.Apply o to left right) places start = computed key to (get_two key left right ++ op_code o)
  piece_of (mid.Shift o to from by) places start = computed key to (get_one key 7 from ++ Shift (shift_of o) 7 7 by ∷ [])
  piece_of (mid.Extend to from bits signed) places start = computed key to (get_one key 7 from ++ extend_code bits signed)
  piece_of (mid.Select to test x y) places start = computed key to (gets_all rv_table ((5, key test) ∷ (6, key x) ∷ (7, key y) ∷ []) ++ select_code)
  piece_of (mid.FrameAddress to offset) places start = computed key to (Li 7 (down (depth - offset)) ∷ Binary binary.Add 7 2 7 ∷ [])
  piece_of (mid.Load to address n) places start = wrap (get_one key 5 address) (access_code (load_in n) (cleared n)) (puts_all rv_table ((7, key to) ∷ [])) start
  piece_of (mid.Store address from n) places start = wrap (get_two key address from) (access_code (store_in n) []) [] start
  piece_of (mid.Label n) places start = []
  piece_of (mid.Jump n) places start = ended_code [] (λ places start. jump_to start (places (behind n))) places start
  piece_of (mid.Branch test a b) places start = branch_code (get_one key 5 test) (Branch condition.NotEqual 5 0 (pos 2)) jump_to (places (behind a)) (places (behind b)) start
  piece_of (mid.Atomic o width order weak address args results) places start =
      wrap (gets_all rv_table ((10, key address) ∷ homes_from key first_argument args)) (expansions o width order weak).piece (puts_all rv_table (homes_from key first_result results)) start
  piece_of (mid.Out from) places start = ended_code (get_one key 10 from) (λ places start. Ecall) places start
  piece_of mid.Trap places start = ended_code [] (λ places start. Ebreak) places start
  piece_of mid.Ret places start = ended_code [] (λ places start. Ret) places start
  piece_of mid.Nop places start = ended_code [] (λ places start. Nop) places start
  -- a call of a routine has no code here
  piece_of (mid.Call routine role args results) places start = []

  -- THE CODE OF A LINE
  abbrev pub line_code : (ℕ → ℕ) → ℕ → Line R → List (RvInstr × Tag)
  line_code places start line = piece_of line.inst places start

  -- how many instructions that is, wherever it stands
  abbrev pub line_size : Line R → ℕ
  line_size line = length (piece_of line.inst (λ j. 0) 0)

-- of the lines of a program
module _ {R W : Type 0} (m : Program R W) (expansions : Op → Width → Order → Bool → Expansion) where
  abbrev pub inst_code : MidInst R → (ℕ → ℕ) → ℕ → List (RvInstr × Tag)
  inst_code i places start = piece_of m.key m.depth (λ n. behind_label m.key m.code.lines n 0) expansions i places start

  abbrev pub code_of : (ℕ → ℕ) → ℕ → Line R → List (RvInstr × Tag)
  code_of places start line = inst_code line.inst places start

  abbrev pub size_of : Line R → ℕ
  size_of line = length (inst_code line.inst (λ j. 0) 0)
