-- *AArch64 instructions*: the one effect of each instruction, as a function of the registers (Arm Architecture Reference Manual for A-profile, A64 base instructions and FEAT_LSE). Numbers wrap at 2 ^ 64.
use Rattle.std.specs.Prelude.{ℕ, ◌+◌, ◌-◌, ◌*◌, ◌/◌, ◌%◌, ◌^◌, ℤ, Bool, true, false, not, if◌then◌else◌, nat_eq, nat_lt, nat_le, int_lt, int_le, bit_and, bit_or, bit_xor}
use Rattle.std.specs.Int.{cast_signed, cast_unsigned, int_shr, w8, w16, w32, w64}
use Rattle.ax_words.specs.declared.operation.RmwOp.{RmwOp}
use Rattle.ax_words.specs.declared.operation.RmwOp.TheVariants as rmw
use Rattle.ax_isa.specs.declared.effects.Back.TheVariants.{Place}
use Rattle.ax_isa.specs.declared.effects.Change.TheVariants.{Update, Exchange}
use Rattle.ax_isa.specs.declared.effects.Effect.{Effect}
use Rattle.ax_isa.specs.declared.effects.Effect.TheVariants as effect
use Rattle.ax_isa.specs.declared.effects.Rest.TheVariants.{Zeros}
use Rattle.ax_isa.specs.declared.effects.Saved.TheVariants.{Register}
use Rattle.ax_isa.specs.Numbers.{displaced}
use Rattle.ax_isa.specs.Processor.{Processor}
use Rattle.ax_arm.specs.declared.instructions.Alu.{Alu}
use Rattle.ax_arm.specs.declared.instructions.Alu.TheVariants as alu
use Rattle.ax_arm.specs.declared.instructions.ArmInstr.{ArmInstr}
use Rattle.ax_arm.specs.declared.instructions.ArmInstr.TheVariants as arm
use Rattle.ax_arm.specs.declared.instructions.Condition.{Condition}
use Rattle.ax_arm.specs.declared.instructions.Condition.TheVariants as conditions
use Rattle.ax_arm.specs.declared.instructions.Extension.{Extension}
use Rattle.ax_arm.specs.declared.instructions.Extension.TheVariants as extension
use Rattle.ax_arm.specs.declared.instructions.Lse.{Lse}
use Rattle.ax_arm.specs.declared.instructions.Lse.TheVariants as lse
use Rattle.ax_arm.specs.declared.instructions.Shift.{Shift}
use Rattle.ax_arm.specs.declared.instructions.Shift.TheVariants as shift
use Rattle.ax_arm.specs.declared.instructions.Size.{Size}
use Rattle.ax_arm.specs.declared.instructions.Size.TheVariants as sizes

abbrev pub bytes_of : Size → ℕ
bytes_of sizes.Byte = 1
bytes_of sizes.Half = 2
bytes_of sizes.Word = 4
bytes_of sizes.Double = 8

abbrev pub combined : Alu → ℕ → ℕ → ℕ
combined alu.Add a b = (a + b) % 2 ^ 64
combined alu.Sub a b = (a + (2 ^ 64 - b)) % 2 ^ 64
combined alu.And a b = bit_and a b
combined alu.Orr a b = bit_or a b
combined alu.Eor a b = bit_xor a b
combined alu.Mul a b = a * b % 2 ^ 64

abbrev pub shifted : Shift → ℕ → ℕ → ℕ
shifted shift.Lsl a k = a * 2 ^ k % 2 ^ 64
shifted shift.Lsr a k = a / 2 ^ k
shifted shift.Asr a k = cast_unsigned w64 (int_shr (cast_signed w64 a) k)

abbrev pub extended : Extension → ℕ → ℕ
extended extension.Uxtb a = a % 2 ^ 8
extended extension.Uxth a = a % 2 ^ 16
extended extension.Sxtb a = cast_unsigned w64 (cast_signed w8 (a % 2 ^ 8))
extended extension.Sxth a = cast_unsigned w64 (cast_signed w16 (a % 2 ^ 16))
extended extension.Sxtw a = cast_unsigned w64 (cast_signed w32 (a % 2 ^ 32))

-- a condition, of the two numbers last compared
abbrev pub holds : Condition → ℕ × ℕ → Bool
holds conditions.Eq p = nat_eq p.0 p.1
holds conditions.Ne p = not (nat_eq p.0 p.1)
holds conditions.Lo p = nat_lt p.0 p.1
holds conditions.Hs p = nat_le p.1 p.0
holds conditions.Ls p = nat_le p.0 p.1
holds conditions.Hi p = nat_lt p.1 p.0
holds conditions.Lt p = int_lt (cast_signed w64 p.0) (cast_signed w64 p.1)
holds conditions.Ge p = int_le (cast_signed w64 p.1) (cast_signed w64 p.0)
holds conditions.Le p = int_le (cast_signed w64 p.0) (cast_signed w64 p.1)
holds conditions.Gt p = int_lt (cast_signed w64 p.1) (cast_signed w64 p.0)

-- a base and its distance
abbrev pub moved : ℕ → ℕ → ℕ
moved a d = (a + d) % 2 ^ 64

abbrev pub jump_if : Bool → ℕ → ℤ → Effect
jump_if true place d = effect.Jump (displaced place d)
jump_if false place d = effect.Nop

-- the 16 bytes of two registers, low first
abbrev pub pair_of : ℕ → ℕ → ℕ
pair_of low high = low + 2 ^ 64 * high

-- the register after r; its number has 5 bits
abbrev pub next_register : ℕ → ℕ
next_register r = (r + 1) % 32

-- the linked load of 16 bytes, of which the processor tells whether its first half is done
abbrev pub linked_pair : Bool → ℕ → ℕ → ℕ → Effect
linked_pair false rt rt2 a = effect.LinkHalf rt a
linked_pair true rt rt2 a = effect.Load rt2 (moved a 8) 8 Zeros true

-- the compare-and-swap of 16 bytes
abbrev pub locked_pair : ℕ → ℕ → ℕ → (ℕ → ℕ) → Effect
locked_pair rs rt a regs = effect.Locked rs (next_register rs) a 16 Zeros (Exchange (pair_of (regs rs) (regs (next_register rs))) (pair_of (regs rt) (regs (next_register rt))) false)

-- what an LSE instruction does with the number in memory and its operand
abbrev pub operation_of : Lse → RmwOp
operation_of lse.Swp = rmw.Xchg
operation_of lse.Ldadd = rmw.Add
operation_of lse.Ldclr = rmw.And
operation_of lse.Ldset = rmw.Or
operation_of lse.Ldeor = rmw.Xor
operation_of lse.Ldsmax = rmw.Max
operation_of lse.Ldsmin = rmw.Min
operation_of lse.Ldumax = rmw.UMax
operation_of lse.Ldumin = rmw.UMin

-- LDCLR is an AND with the complement
abbrev pub operand_of : Lse → ℕ → ℕ
operand_of lse.Ldclr a = 2 ^ 64 - 1 - a
operand_of _ a = a

-- THE TABLE
unfoldable pub effect_of : ArmInstr → Processor → Effect
effect_of (arm.Constant rd n) c = effect.Set rd n
effect_of (arm.Mov rd rn) c = effect.Set rd (c.regs rn)
effect_of (arm.MovWord rd rn) c = effect.Set rd (c.regs rn % 2 ^ 32)
effect_of (arm.Alu op rd rn rm) c = effect.Set rd (combined op (c.regs rn) (c.regs rm))
effect_of (arm.Neg rd rm) c = effect.Set rd ((2 ^ 64 - c.regs rm) % 2 ^ 64)
effect_of (arm.Mvn rd rm) c = effect.Set rd (2 ^ 64 - 1 - c.regs rm)
effect_of (arm.Shift op rd rn k) c = effect.Set rd (shifted op (c.regs rn) (k % 64))
effect_of (arm.Extend op rd rn) c = effect.Set rd (extended op (c.regs rn))
effect_of (arm.Cmp rn rm) c = effect.Compare (c.regs rn) (c.regs rm)
effect_of (arm.Cset rd condition) c = effect.Set rd (if holds condition c.compared then 1 else 0)
effect_of (arm.Csel rd rn rm condition) c = effect.Set rd (if holds condition c.compared then c.regs rn else c.regs rm)
effect_of (arm.Ldr size rt rn d) c = effect.Load rt (moved (c.regs rn) d) (bytes_of size) Zeros false
effect_of (arm.Ldar size rt rn) c = effect.Load rt (c.regs rn) (bytes_of size) Zeros false
effect_of (arm.Str size rt rn d) c = effect.Store (moved (c.regs rn) d) (bytes_of size) (c.regs rt)
effect_of (arm.Stlr size rt rn) c = effect.Store (c.regs rn) (bytes_of size) (c.regs rt)
effect_of (arm.Ldxr size rt rn) c = effect.Link rt (c.regs rn) (bytes_of size) Zeros
effect_of (arm.Ldaxr size rt rn) c = effect.Link rt (c.regs rn) (bytes_of size) Zeros
effect_of (arm.Ldxp rt rt2 rn) c = linked_pair c.half rt rt2 (c.regs rn)
effect_of (arm.Ldaxp rt rt2 rn) c = linked_pair c.half rt rt2 (c.regs rn)
effect_of (arm.Stxr size rs rt rn) c = effect.PairStore rs (c.regs rn) (bytes_of size) (c.regs rt)
effect_of (arm.Stlxr size rs rt rn) c = effect.PairStore rs (c.regs rn) (bytes_of size) (c.regs rt)
effect_of (arm.Stxp rs rt rt2 rn) c = effect.PairStore rs (c.regs rn) 16 (pair_of (c.regs rt) (c.regs rt2))
effect_of (arm.Stlxp rs rt rt2 rn) c = effect.PairStore rs (c.regs rn) 16 (pair_of (c.regs rt) (c.regs rt2))
effect_of (arm.Lse op ending size rs rt rn) c = effect.Locked rt 0 (c.regs rn) (bytes_of size) Zeros (Update (operation_of op) (operand_of op (c.regs rs)))
effect_of (arm.Cas ending size rs rt rn) c = effect.Locked rs 0 (c.regs rn) (bytes_of size) Zeros (Exchange (c.regs rs) (c.regs rt) false)
effect_of (arm.Casp ending rs rt rn) c = locked_pair rs rt (c.regs rn) c.regs
effect_of (arm.Dmb barrier) c = effect.Nop
effect_of (arm.B d) c = effect.Jump (displaced c.place d)
effect_of (arm.BCond condition d) c = jump_if (holds condition c.compared) c.place d
effect_of (arm.Cbz rt d) c = jump_if (nat_eq (c.regs rt) 0) c.place d
effect_of (arm.Cbnz rt d) c = jump_if (not (nat_eq (c.regs rt) 0)) c.place d
effect_of (arm.Bl routine place) c = effect.CallTo place (Register 30)
effect_of arm.Ret c = effect.Return (Place (c.regs 30))
effect_of arm.Svc c = effect.Output (c.regs 0)
effect_of arm.Brk c = effect.Trap
effect_of arm.Nop c = effect.Nop
