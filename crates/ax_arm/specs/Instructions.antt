-- AArch64 as an instruction set of the machine: the ranges of its registers and numbers, and the facts of it that other layers ask for.
use Rattle.std.specs.Prelude.{◌≡◌, ◌≢◌, ℕ, ◌*◌, ◌%◌, ◌^◌, ◌<◌, ◌≤◌, ℤ, Bool, true, false, ◌||◌, nat_eq}
use Rattle.std.specs.Int.{w32}
use Rattle.std.specs.Prelude.{FitsSigned}
use Rattle.ax_isa.specs.Steps.{Kind}
use Rattle.ax_arm.specs.declared.instructions.ArmInstr.{ArmInstr}
use Rattle.ax_arm.specs.declared.instructions.ArmInstr.TheVariants as arm
use Rattle.ax_arm.specs.declared.instructions.Extension.{Extension}
use Rattle.ax_arm.specs.declared.instructions.Extension.TheVariants as extension
use Rattle.ax_arm.specs.declared.instructions.Size.{Size}
use Rattle.ax_arm.specs.declared.instructions.Size.TheVariants as sizes
use Rattle.ax_arm.specs.Effects.{bytes_of, effect_of}
use Rattle.ax_arm.specs.Skeletons.{mark_of}

-- a 64-bit name is of one of 31 registers or of the stack pointer
abbrev pub IsX : ℕ → Type 0
IsX r = r < 32

-- a 32-bit name is of one of the 31 registers
abbrev pub IsW : ℕ → Type 0
IsW r = r < 31

-- the register of an access
abbrev pub IsMoved : Size → ℕ → Type 0
IsMoved sizes.Byte r = IsW r
IsMoved sizes.Half r = IsW r
IsMoved sizes.Word r = IsW r
IsMoved sizes.Double r = IsX r

-- the register of which the low 4 bytes are extended
abbrev pub IsExtended : Extension → ℕ → Type 0
IsExtended extension.Uxtb r = IsW r
IsExtended extension.Uxth r = IsW r
IsExtended extension.Sxtb r = IsX r
IsExtended extension.Sxth r = IsX r
IsExtended extension.Sxtw r = IsX r

-- the distance of a load or a store is a number of 12 bits, times the size
abbrev pub IsDistance : Size → ℕ → Type 0
IsDistance size d = (d % bytes_of size ≡ 0) × (d ≤ 4095 * bytes_of size)

abbrev pub IsJump : ℤ → Type 0
IsJump d = FitsSigned w32 d

-- the first register of two
abbrev pub IsEven : ℕ → Type 0
IsEven r = (r < 32) × (r % 2 ≡ 0)

-- a linked load of 16 bytes sets its first register before it reads the base again
abbrev pub IsLinkedPair : ℕ → ℕ → ℕ → Type 0
IsLinkedPair rt rt2 rn = IsX rt × IsX rt2 × IsX rn × (rt ≢ rt2) × (rt ≢ rn)

-- an instruction whose registers and numbers are in their ranges
unfoldable pub IsInstr : ArmInstr → Type 0
IsInstr (arm.Constant rd n) = IsX rd × (n < 2 ^ 64)
IsInstr (arm.Mov rd rn) = IsX rd × IsX rn
IsInstr (arm.MovWord rd rn) = IsW rd × IsW rn
IsInstr (arm.Alu op rd rn rm) = IsX rd × IsX rn × IsX rm
IsInstr (arm.Neg rd rm) = IsX rd × IsX rm
IsInstr (arm.Mvn rd rm) = IsX rd × IsX rm
IsInstr (arm.Shift op rd rn k) = IsX rd × IsX rn × (k ≤ 63)
IsInstr (arm.Extend op rd rn) = IsExtended op rd × IsW rn
IsInstr (arm.Cmp rn rm) = IsX rn × IsX rm
IsInstr (arm.Cset rd condition) = IsX rd
IsInstr (arm.Csel rd rn rm condition) = IsX rd × IsX rn × IsX rm
IsInstr (arm.Ldr size rt rn d) = IsMoved size rt × IsX rn × IsDistance size d
IsInstr (arm.Ldar size rt rn) = IsMoved size rt × IsX rn
IsInstr (arm.Str size rt rn d) = IsMoved size rt × IsX rn × IsDistance size d
IsInstr (arm.Stlr size rt rn) = IsMoved size rt × IsX rn
IsInstr (arm.Ldxr size rt rn) = IsMoved size rt × IsX rn
IsInstr (arm.Ldaxr size rt rn) = IsMoved size rt × IsX rn
IsInstr (arm.Ldxp rt rt2 rn) = IsLinkedPair rt rt2 rn
IsInstr (arm.Ldaxp rt rt2 rn) = IsLinkedPair rt rt2 rn
IsInstr (arm.Stxr size rs rt rn) = IsW rs × IsMoved size rt × IsX rn
IsInstr (arm.Stlxr size rs rt rn) = IsW rs × IsMoved size rt × IsX rn
IsInstr (arm.Stxp rs rt rt2 rn) = IsW rs × IsX rt × IsX rt2 × IsX rn
IsInstr (arm.Stlxp rs rt rt2 rn) = IsW rs × IsX rt × IsX rt2 × IsX rn
IsInstr (arm.Lse op ending size rs rt rn) = IsMoved size rs × IsMoved size rt × IsX rn
IsInstr (arm.Cas ending size rs rt rn) = IsMoved size rs × IsMoved size rt × IsX rn
IsInstr (arm.Casp ending rs rt rn) = IsEven rs × IsEven rt × IsX rn
IsInstr (arm.Dmb barrier) = Unit {0}
IsInstr (arm.B d) = IsJump d
IsInstr (arm.BCond condition d) = IsJump d
IsInstr (arm.Cbz rt d) = IsX rt × IsJump d
IsInstr (arm.Cbnz rt d) = IsX rt × IsJump d
IsInstr (arm.Bl routine place) = place < 2 ^ 32
IsInstr arm.Ret = Unit {0}
IsInstr arm.Svc = Unit {0}
IsInstr arm.Brk = Unit {0}
IsInstr arm.Nop = Unit {0}

-- the registers that are bases of accesses to the frame: the stack pointer, and the one for what lies far from it
abbrev pub is_frame_register : ℕ → Bool
is_frame_register r = nat_eq r 31 || nat_eq r 29

-- AArch64: one flat memory, linked loads and pair stores, register 31 is the stack pointer, and arguments are in registers 0 up
abbrev pub arm_kind : Kind ArmInstr
arm_kind = record { effect_of = effect_of; buffered = false; pairs = true; stack = 31; frame = is_frame_register; argument = λ k. k; marks_of = mark_of }
