-- Constants of types of many bits.
use Rattle.std.proofs.Common.{◌≡◌, ℕ, ◌^◌, ◌≤◌, ◌<◌, ◌-◌, true, IsTrue, refl, arith, rules, pos, negsuc}
use Rattle.std.specs.Prelude.{nat_lt}
use Rattle.std.proofs.Math.Nat.{pow-le-pow_right}
use Rattle.std.proofs.lemmas.Bool.Decides.{nat_tests}
use Rattle.ax_module.specs.declared.operand.Operand.{Operand}
use Rattle.ax_module.specs.declared.operand.Operand.TheVariants.{Const, Wide, Value, Param}
use Rattle.ax_module.specs.Ranges.{is_in_range}
use Rattle.ax_rules.specs.Constants.{fits_bits}

below : (n a b : ℕ) → n < 2 ^ a → a ≤ b → nat_lt n (2 ^ b) ≡ true
below n a b h l = let p : 2 ^ a ≤ 2 ^ b = pow-le-pow_right {n = 2} (omega arith) {i = a} {j = b} l in grind (arith, nat_tests)

pos_below : (n : ℕ) → IsTrue (is_in_range (Const (pos n))) → n < 2 ^ 127
pos_below n h = search rules

negsuc_below : (n : ℕ) → IsTrue (is_in_range (Const (negsuc n))) → n < 2 ^ 127
negsuc_below n h = search rules

wide_below : (n : ℕ) → IsTrue (is_in_range (Wide n)) → n < 2 ^ 128
wide_below n h = search rules

-- each constant that a text can state is one of a type of 128 bits and more
pub all_fit : (bits : ℕ) (v : Operand) → 127 < bits → IsTrue (is_in_range v) → fits_bits bits v ≡ true
all_fit bits (Const (pos n)) l h = below n 127 bits (pos_below n h) (omega arith)
all_fit bits (Const (negsuc n)) l h = below n 127 (bits - 1) (negsuc_below n h) (omega arith)
all_fit bits (Wide n) l h = below n 128 bits (wide_below n h) (omega arith)
all_fit bits (Value k) l h = refl
all_fit bits (Param k) l h = refl
