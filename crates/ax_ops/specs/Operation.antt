-- Read-modify-write operations on whole numbers below 2 ^ width, the width in bits
-- (LLVM Language Reference, "atomicrmw").
use Rattle.std.specs.Prelude.{ℕ, ◌+◌, ◌-◌, ◌%◌, ◌^◌, ℤ, pos, ◌-ℤ◌, if◌then◌else◌, nat_lt, int_lt, bit_and, bit_or, bit_xor}
use Rattle.ax_words.specs.declared.operation.RmwOp.{RmwOp}
use Rattle.ax_words.specs.declared.operation.RmwOp.TheVariants.{Xchg, Add, Sub, And, Nand, Or, Xor, Max, Min, UMax, UMin}

-- the two's complement number of this width
abbrev pub signed : ℕ → ℕ → ℤ
signed width n = if nat_lt n (2 ^ (width - 1)) then pos n else pos n -ℤ pos (2 ^ width)

-- what the operation leaves where it found `old`
abbrev pub result_of : ℕ → RmwOp → ℕ → ℕ → ℕ
result_of width Xchg old v = v
result_of width Add old v = (old + v) % 2 ^ width
result_of width Sub old v = (old + (2 ^ width - v)) % 2 ^ width
result_of width And old v = bit_and old v
result_of width Nand old v = 2 ^ width - 1 - bit_and old v
result_of width Or old v = bit_or old v
result_of width Xor old v = bit_xor old v
result_of width Max old v = if int_lt (signed width old) (signed width v) then v else old
result_of width Min old v = if int_lt (signed width v) (signed width old) then v else old
result_of width UMax old v = if nat_lt old v then v else old
result_of width UMin old v = if nat_lt v old then v else old
