-- What an operation leaves is a value of the same width.
use Rattle.std.proofs.Common.{ℕ, ◌^◌, ◌<◌, Bool, true, false, cond, arith}
use Rattle.std.proofs.lemmas.Nat.{and_le_l, or_lt, xor_lt, pow_pos, mod_below}
use Rattle.ax_words.specs.declared.operation.RmwOp.{RmwOp}
use Rattle.ax_words.specs.declared.operation.RmwOp.TheVariants.{Xchg, Add, Sub, And, Nand, Or, Xor, Max, Min, UMax, UMin}
use Rattle.ax_ops.specs.Operation.{result_of}

one_of : (choice : Bool) (a b bound : ℕ) → a < bound → b < bound → cond choice a b < bound
one_of true a b bound below _ = below
one_of false a b bound _ below = below

pub result_of-fits : (width : ℕ) (op : RmwOp) (old v : ℕ) → old < 2 ^ width → v < 2 ^ width → result_of width op old v < 2 ^ width
result_of-fits width Xchg old v h k = k
result_of-fits width Add old v h k = mod_below _ _ (pow_pos width)
result_of-fits width Sub old v h k = mod_below _ _ (pow_pos width)
result_of-fits width And old v h k = omega (arith, and_le_l old v)
result_of-fits width Nand old v h k = omega (arith, pow_pos width)
result_of-fits width Or old v h k = or_lt width old v h k
result_of-fits width Xor old v h k = xor_lt width old v h k
result_of-fits width Max old v h k = one_of _ v old (2 ^ width) k h
result_of-fits width Min old v h k = one_of _ v old (2 ^ width) k h
result_of-fits width UMax old v h k = one_of _ v old (2 ^ width) k h
result_of-fits width UMin old v h k = one_of _ v old (2 ^ width) k h
