-- Constants: those that a type has, and which element a constant index names.
use Rattle.std.specs.Prelude.{ℕ, ◌-◌, ◌%◌, ◌^◌, Bool, true, false, nat_eq, nat_lt, if◌then◌else◌, pos, negsuc, Option, Some, None}
use Rattle.ax_module.specs.declared.operand.Operand.{Operand}
use Rattle.ax_module.specs.declared.operand.Operand.TheVariants as operand
use Rattle.ax_module.specs.declared.types.Ty.{Ty}
use Rattle.ax_module.specs.declared.types.Ty.TheVariants.{I1, I8, I16, I32, I64, I128, Int}
use Rattle.ax_source_run.specs.SourceValues.{index_of, type_bits, wrapped}

abbrev pub is_integer : Ty → Bool
is_integer I1 = true
is_integer I8 = true
is_integer I16 = true
is_integer I32 = true
is_integer I64 = true
is_integer I128 = true
is_integer (Int bits) = true
is_integer _ = false

-- a constant of N bits is from -2^(N-1) to 2^N - 1
abbrev pub fits_bits : ℕ → Operand → Bool
fits_bits bits (operand.Const (pos n)) = nat_lt n (2 ^ bits)
fits_bits bits (operand.Const (negsuc n)) = nat_lt n (2 ^ (bits - 1))
fits_bits bits (operand.Wide n) = nat_lt n (2 ^ bits)
fits_bits bits (operand.Value k) = true
fits_bits bits (operand.Param k) = true

abbrev pub fits_type : Ty → Operand → Bool
fits_type t v = if is_integer t then fits_bits (type_bits t) v else true

-- the number of so many bits that a constant stands for
abbrev pub constant_of : ℕ → Operand → Option ℕ
constant_of bits (operand.Const n) = Some (wrapped bits n)
constant_of bits (operand.Wide n) = Some (n % 2 ^ bits)
constant_of bits (operand.Value k) = None
constant_of bits (operand.Param k) = None

-- the types of an index; one of another type is no number of an element
abbrev pub is_index_type : Ty → Bool
is_index_type I1 = true
is_index_type I8 = true
is_index_type I16 = true
is_index_type I32 = true
is_index_type I64 = true
is_index_type _ = false

abbrev pub index_if : Ty → Option ℕ → Option ℕ
index_if t None = None
index_if t (Some n) = Some (index_of t n)

-- a constant index as it counts: extended by sign to 64 bits, and taken as unsigned
abbrev pub constant_index : Ty → Operand → Option ℕ
constant_index t v = if is_index_type t then index_if t (constant_of (type_bits t) v) else None

-- 0 alone is a multiple of 0
abbrev pub is_multiple : ℕ → ℕ → Bool
is_multiple a n = if nat_eq n 0 then nat_eq a 0 else nat_eq (a % n) 0
