-- What instructions on registers compute (RISC-V Unprivileged ISA: RV64I and M). Numbers are of 64 bits.
use Rattle.std.specs.Prelude.{ℕ, ◌+◌, ◌-◌, ◌*◌, ◌/◌, ◌%◌, ◌^◌, Bool, true, false, not, nat_eq, nat_lt, nat_le, int_lt, ℤ, bit_and, bit_or, bit_xor}
use Rattle.ax_ops.specs.Operation.{signed}
use Rattle.ax_isa.specs.declared.effects.Rest.TheVariants.{Signs}
use Rattle.ax_isa.specs.Numbers.{displaced, shifted_by_sign}
use Rattle.ax_isa.specs.Steps.{extended}
use Rattle.ax_rv.specs.declared.instructions.Binary.{Binary}
use Rattle.ax_rv.specs.declared.instructions.Binary.TheVariants as binary_op
use Rattle.ax_rv.specs.declared.instructions.Condition.{Condition}
use Rattle.ax_rv.specs.declared.instructions.Condition.TheVariants as condition
use Rattle.ax_rv.specs.declared.instructions.Immediate.{Immediate}
use Rattle.ax_rv.specs.declared.instructions.Immediate.TheVariants as immediate_op
use Rattle.ax_rv.specs.declared.instructions.Shift.{Shift}
use Rattle.ax_rv.specs.declared.instructions.Shift.TheVariants as shift_op
use Rattle.ax_rv.specs.declared.instructions.Unary.{Unary}
use Rattle.ax_rv.specs.declared.instructions.Unary.TheVariants as unary_op

abbrev pub one_if : Bool → ℕ
one_if true = 1
one_if false = 0

abbrev pub signed_less : ℕ → ℕ → Bool
signed_less a b = int_lt (signed 64 a) (signed 64 b)

abbrev pub shifted_left : ℕ → ℕ → ℕ
shifted_left a k = a * 2 ^ k % 2 ^ 64

abbrev pub shifted_right : ℕ → ℕ → ℕ
shifted_right a k = a / 2 ^ k

abbrev pub unary_of : Unary → ℕ → ℕ
unary_of unary_op.Move a = a
unary_of unary_op.Negate a = (2 ^ 64 - a) % 2 ^ 64
unary_of unary_op.Not a = 2 ^ 64 - 1 - a
unary_of unary_op.SignExtendWord a = extended 4 Signs 0 (a % 2 ^ 32)
unary_of unary_op.IsZero a = one_if (nat_eq a 0)
unary_of unary_op.IsNotZero a = one_if (not (nat_eq a 0))

-- shifts by the low 6 bits
abbrev pub binary_of : Binary → ℕ → ℕ → ℕ
binary_of binary_op.Add a b = (a + b) % 2 ^ 64
binary_of binary_op.Subtract a b = (a + (2 ^ 64 - b)) % 2 ^ 64
binary_of binary_op.And a b = bit_and a b
binary_of binary_op.Or a b = bit_or a b
binary_of binary_op.Xor a b = bit_xor a b
binary_of binary_op.Multiply a b = a * b % 2 ^ 64
binary_of binary_op.ShiftLeft a b = shifted_left a (b % 64)
binary_of binary_op.ShiftRight a b = shifted_right a (b % 64)
binary_of binary_op.ShiftRightSigned a b = shifted_by_sign a (b % 64)
binary_of binary_op.IsLess a b = one_if (signed_less a b)
binary_of binary_op.IsBelow a b = one_if (nat_lt a b)

abbrev pub shifted : Shift → ℕ → ℕ → ℕ
shifted shift_op.Left a k = shifted_left a k
shifted shift_op.Right a k = shifted_right a k
shifted shift_op.RightSigned a k = shifted_by_sign a k

abbrev pub immediate_of : Immediate → ℕ → ℤ → ℕ
immediate_of immediate_op.And a n = bit_and a (displaced 0 n)
immediate_of immediate_op.Add a n = displaced a n

abbrev pub holds : Condition → ℕ → ℕ → Bool
holds condition.Equal a b = nat_eq a b
holds condition.NotEqual a b = not (nat_eq a b)
holds condition.Less a b = signed_less a b
holds condition.GreaterEqual a b = not (signed_less a b)
holds condition.Below a b = nat_lt a b
holds condition.AboveEqual a b = nat_le b a
