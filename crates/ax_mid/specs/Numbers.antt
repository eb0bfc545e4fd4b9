-- What instructions compute from numbers of 64 bits.
use Rattle.std.specs.Prelude.{ℕ, ◌+◌, ◌-◌, ◌*◌, ◌/◌, ◌%◌, ◌^◌, Bool, true, false, not, nat_eq, nat_lt, nat_le, int_lt, if◌then◌else◌, bit_and, bit_or, bit_xor}
use Rattle.ax_ops.specs.Operation.{signed}
use Rattle.ax_source_run.specs.SourceValues.{number_of_flag, shifted_down, wrapped}
use Rattle.ax_mid.specs.declared.instruction.MidOp.{MidOp}
use Rattle.ax_mid.specs.declared.instruction.MidOp.TheVariants.{Add, Sub, Mul, And, Or, Xor, Eq, Ne, Ult, Ule, Slt, Sle}
use Rattle.ax_mid.specs.declared.instruction.MidShift.{MidShift}
use Rattle.ax_mid.specs.declared.instruction.MidShift.TheVariants.{Shl, Lshr, Ashr}

abbrev pub applied : MidOp → ℕ → ℕ → ℕ
applied Add a b = (a + b) % 2 ^ 64
applied Sub a b = (a + (2 ^ 64 - b)) % 2 ^ 64
applied Mul a b = a * b % 2 ^ 64
applied And a b = bit_and a b
applied Or a b = bit_or a b
applied Xor a b = bit_xor a b
applied Eq a b = number_of_flag (nat_eq a b)
applied Ne a b = number_of_flag (not (nat_eq a b))
applied Ult a b = number_of_flag (nat_lt a b)
applied Ule a b = number_of_flag (nat_le a b)
applied Slt a b = number_of_flag (int_lt (signed 64 a) (signed 64 b))
applied Sle a b = number_of_flag (not (int_lt (signed 64 b) (signed 64 a)))

abbrev pub shifted : MidShift → ℕ → ℕ → ℕ
shifted Shl a by = a * 2 ^ by % 2 ^ 64
shifted Lshr a by = a / 2 ^ by
shifted Ashr a by = shifted_down 64 a by

-- the low bits, extended by zeros or by their sign
abbrev pub extended : ℕ → Bool → ℕ → ℕ
extended bits false a = a % 2 ^ bits
extended bits true a = wrapped 64 (signed bits (a % 2 ^ bits))

abbrev pub selected : ℕ → ℕ → ℕ → ℕ
selected test a b = if nat_eq test 0 then b else a
