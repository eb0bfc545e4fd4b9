-- The names of the registers by their numbers.
use Rattle.std.specs.Prelude.{ℕ, List, [], ◌∷◌, codes, slice_index_or}
use Rattle.ax_arm.specs.declared.instructions.Size.{Size}
use Rattle.ax_arm.specs.declared.instructions.Size.TheVariants.{Byte, Half, Word, Double}

-- of 64 bits, 0 to 31, the last being the stack pointer
abbrev pub x_names : List (List ℕ)
x_names =
    codes "x0" ∷ codes "x1" ∷ codes "x2" ∷ codes "x3" ∷ codes "x4" ∷ codes "x5" ∷ codes "x6" ∷ codes "x7" ∷ codes "x8" ∷ codes "x9" ∷ codes "x10" ∷ codes "x11" ∷ codes "x12" ∷ codes "x13" ∷ codes "x14" ∷ codes "x15" ∷ codes "x16" ∷ codes "x17" ∷ codes "x18" ∷ codes "x19" ∷ codes "x20" ∷ codes "x21" ∷ codes "x22" ∷ codes "x23" ∷ codes "x24" ∷ codes "x25" ∷ codes "x26" ∷ codes "x27" ∷ codes "x28" ∷ codes "x29" ∷ codes "x30" ∷ codes "sp" ∷ []

-- of 32 bits, 0 to 30
abbrev pub w_names : List (List ℕ)
w_names =
    codes "w0" ∷ codes "w1" ∷ codes "w2" ∷ codes "w3" ∷ codes "w4" ∷ codes "w5" ∷ codes "w6" ∷ codes "w7" ∷ codes "w8" ∷ codes "w9" ∷ codes "w10" ∷ codes "w11" ∷ codes "w12" ∷ codes "w13" ∷ codes "w14" ∷ codes "w15" ∷ codes "w16" ∷ codes "w17" ∷ codes "w18" ∷ codes "w19" ∷ codes "w20" ∷ codes "w21" ∷ codes "w22" ∷ codes "w23" ∷ codes "w24" ∷ codes "w25" ∷ codes "w26" ∷ codes "w27" ∷ codes "w28" ∷ codes "w29" ∷ codes "w30" ∷ []

-- another number has no name
abbrev pub x_name : ℕ → List ℕ
x_name r = slice_index_or x_names r []

abbrev pub w_name : ℕ → List ℕ
w_name r = slice_index_or w_names r []

-- 8 bytes are moved by a 64-bit name, fewer by a 32-bit one
abbrev pub register_of : Size → ℕ → List ℕ
register_of Byte r = w_name r
register_of Half r = w_name r
register_of Word r = w_name r
register_of Double r = x_name r
