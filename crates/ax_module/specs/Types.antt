-- The sizes of types, and the types that `i` and a number of bits spell.
use Rattle.std.specs.Prelude.{ℕ, ◌+◌, ◌/◌, ◌==◌, if◌then◌else◌}
use Rattle.ax_module.specs.declared.types.Ty.{Ty}
use Rattle.ax_module.specs.declared.types.Ty.TheVariants.{I1, I8, I16, I32, I64, I128, Int, Float, Double, Ptr, Vector}

-- the size in bytes: a type of n bits has n / 8 bytes, rounded up
abbrev pub type_bytes : Ty → ℕ
type_bytes I1 = 1
type_bytes I8 = 1
type_bytes I16 = 2
type_bytes I32 = 4
type_bytes I64 = 8
type_bytes I128 = 16
type_bytes (Int bits) = (bits + 7) / 8
type_bytes Float = 4
type_bytes Double = 8
type_bytes Ptr = 8
type_bytes Vector = 1

-- the type that is spelled `i` and this number
abbrev pub whole_number_type : ℕ → Ty
whole_number_type bits =
    if bits == 1 then I1 else
    if bits == 8 then I8 else
    if bits == 16 then I16 else
    if bits == 32 then I32 else
    if bits == 64 then I64 else
    if bits == 128 then I128 else Int bits
