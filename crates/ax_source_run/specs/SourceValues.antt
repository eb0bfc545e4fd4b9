-- Operands, and the instructions that compute with numbers (LLVM Language Reference, Binary Operations, Conversion Operations, `icmp`, `select`).
use Rattle.std.specs.Prelude.{ℕ, ◌-◌, ◌*◌, ◌/◌, ◌%◌, ◌^◌, Bool, true, false, not, nat_eq, nat_lt, nat_le, int_lt, if◌then◌else◌, ℤ, pos, negsuc}
use Rattle.ax_module.specs.declared.inst.BinOp.{BinOp}
use Rattle.ax_module.specs.declared.inst.BinOp.TheVariants as bin
use Rattle.ax_module.specs.declared.inst.Pred.{Pred}
use Rattle.ax_module.specs.declared.inst.Pred.TheVariants.{Eq, Ne, Ugt, Uge, Ult, Ule, Sgt, Sge, Slt, Sle}
use Rattle.ax_module.specs.declared.inst.Cast.{Cast}
use Rattle.ax_module.specs.declared.inst.Cast.TheVariants.{Zext, Sext, Trunc}
use Rattle.ax_module.specs.declared.operand.Operand.{Operand}
use Rattle.ax_module.specs.declared.operand.Operand.TheVariants as operand
use Rattle.ax_module.specs.declared.types.Ty.{Ty}
use Rattle.ax_module.specs.declared.types.Ty.TheVariants.{I1, Int}
use Rattle.ax_module.specs.Types.{type_bytes}
use Rattle.ax_words.specs.declared.operation.RmwOp.TheVariants as rmw
use Rattle.ax_ops.specs.Operation.{result_of, signed}
use Rattle.ax_source_run.specs.SourceState.{SourceValue, Number, Pair, PointsTo}

-- how many bits a value has
abbrev pub type_bits : Ty → ℕ
type_bits I1 = 1
type_bits (Int bits) = bits
type_bits ty = 8 * type_bytes ty

-- a whole number mod 2 ^ bits
abbrev pub wrapped : ℕ → ℤ → ℕ
wrapped bits (pos n) = n % 2 ^ bits
wrapped bits (negsuc n) = 2 ^ bits - 1 - n % 2 ^ bits

abbrev pub number_of : SourceValue → ℕ
number_of (Number n) = n
number_of (Pair n flag) = n
number_of (PointsTo p) = 0

abbrev pub number_of_flag : Bool → ℕ
number_of_flag true = 1
number_of_flag false = 0

-- a part of a pair
abbrev pub part_of : ℕ → SourceValue → ℕ
part_of part (Number n) = n
part_of part (Pair n flag) = if nat_eq part 0 then n else number_of_flag flag
part_of part (PointsTo p) = 0

-- an operand of a type; a constant stands for its number mod 2 ^ bits, and no function has parameters
abbrev pub operand_of : Ty → Operand → (ℕ → SourceValue) → ℕ
operand_of ty (operand.Const n) values = wrapped (type_bits ty) n
operand_of ty (operand.Wide n) values = n % 2 ^ type_bits ty
operand_of ty (operand.Value r) values = number_of (values r)
operand_of ty (operand.Param k) values = 0

-- a pair as an operand
abbrev pub part_in : ℕ → Operand → (ℕ → SourceValue) → ℕ
part_in part (operand.Value r) values = part_of part (values r)
part_in part (operand.Const n) values = 0
part_in part (operand.Wide n) values = 0
part_in part (operand.Param k) values = 0

-- a shift to the right that fills with the sign: the complement of a negative number is shifted
abbrev pub shifted_down : ℕ → ℕ → ℕ → ℕ
shifted_down bits a n = if nat_lt a (2 ^ (bits - 1)) then a / 2 ^ n else 2 ^ bits - 1 - (2 ^ bits - 1 - a) / 2 ^ n

abbrev pub computed : BinOp → ℕ → ℕ → ℕ → ℕ
computed bin.Add bits a b = result_of bits rmw.Add a b
computed bin.Sub bits a b = result_of bits rmw.Sub a b
computed bin.Mul bits a b = a * b % 2 ^ bits
computed bin.And bits a b = result_of bits rmw.And a b
computed bin.Or bits a b = result_of bits rmw.Or a b
computed bin.Xor bits a b = result_of bits rmw.Xor a b
computed bin.Shl bits a b = a * 2 ^ b % 2 ^ bits
computed bin.Lshr bits a b = a / 2 ^ b
computed bin.Ashr bits a b = shifted_down bits a b

-- whether a condition holds; the last four compare two's complement numbers
abbrev pub holds : Pred → ℕ → ℕ → ℕ → Bool
holds Eq bits a b = nat_eq a b
holds Ne bits a b = not (nat_eq a b)
holds Ugt bits a b = nat_lt b a
holds Uge bits a b = nat_le b a
holds Ult bits a b = nat_lt a b
holds Ule bits a b = nat_le a b
holds Sgt bits a b = int_lt (signed bits b) (signed bits a)
holds Sge bits a b = not (int_lt (signed bits a) (signed bits b))
holds Slt bits a b = int_lt (signed bits a) (signed bits b)
holds Sle bits a b = not (int_lt (signed bits b) (signed bits a))

-- from a type's bits to a type's bits
abbrev pub converted : Cast → ℕ → ℕ → ℕ → ℕ
converted Zext from to n = n
converted Sext from to n = wrapped to (signed from n)
converted Trunc from to n = n % 2 ^ to

-- an index as it counts: extended by sign to 64 bits, and taken as unsigned
abbrev pub index_of : Ty → ℕ → ℕ
index_of ty n = wrapped 64 (signed (type_bits ty) n)
