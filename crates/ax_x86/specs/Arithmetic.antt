-- What the instructions compute from numbers of 64 bits (Intel SDM volume 2: ADD, SUB, AND, OR, XOR, IMUL, NEG, NOT, SAL/SAR/SHL/SHR, MOVZX, MOVSX/MOVSXD, MOV, SETcc).
use Rattle.std.specs.Prelude.{ℕ, ◌+◌, ◌-◌, ◌*◌, ◌/◌, ◌%◌, ◌^◌, Bool, bit_and, bit_or, bit_xor, if◌then◌else◌}
use Rattle.ax_isa.specs.declared.effects.Rest.TheVariants.{Signs, Stays}
use Rattle.ax_isa.specs.Numbers.{shifted_by_sign}
use Rattle.ax_isa.specs.Steps.{extended}
use Rattle.ax_x86.specs.declared.instructions.Alu.{Alu}
use Rattle.ax_x86.specs.declared.instructions.Alu.TheVariants.{Add, Sub, And, Or, Xor, Imul}
use Rattle.ax_x86.specs.declared.instructions.Extension.{Extension}
use Rattle.ax_x86.specs.declared.instructions.Extension.TheVariants.{ZeroByte, ZeroWord, ZeroLong, SignByte, SignWord, SignLong}
use Rattle.ax_x86.specs.declared.instructions.Shift.{Shift}
use Rattle.ax_x86.specs.declared.instructions.Shift.TheVariants.{Shl, Shr, Sar}

-- what the second operand of AT&T's syntax becomes
abbrev pub alu_result : Alu → ℕ → ℕ → ℕ
alu_result Add to from = (to + from) % 2 ^ 64
alu_result Sub to from = (to + (2 ^ 64 - from)) % 2 ^ 64
alu_result And to from = bit_and to from
alu_result Or to from = bit_or to from
alu_result Xor to from = bit_xor to from
alu_result Imul to from = to * from % 2 ^ 64

abbrev pub negative : ℕ → ℕ
negative n = (2 ^ 64 - n) % 2 ^ 64

abbrev pub complement : ℕ → ℕ
complement n = 2 ^ 64 - 1 - n

-- the count is masked to 6 bits
abbrev pub shift_result : Shift → ℕ → ℕ → ℕ
shift_result Shl n count = n * 2 ^ (count % 64) % 2 ^ 64
shift_result Shr n count = n / 2 ^ (count % 64)
shift_result Sar n count = shifted_by_sign n (count % 64)

-- a result of 32 bits clears the upper half
abbrev pub extension_result : Extension → ℕ → ℕ
extension_result ZeroByte n = n % 2 ^ 8
extension_result ZeroWord n = n % 2 ^ 16
extension_result ZeroLong n = n % 2 ^ 32
extension_result SignByte n = extended 1 Signs 0 (n % 2 ^ 8)
extension_result SignWord n = extended 2 Signs 0 (n % 2 ^ 16)
extension_result SignLong n = extended 4 Signs 0 (n % 2 ^ 32)

-- the low byte becomes 1 or 0, and the rest stays
abbrev pub low_byte_set : ℕ → Bool → ℕ
low_byte_set n flag = extended 1 Stays n (if flag then 1 else 0)
