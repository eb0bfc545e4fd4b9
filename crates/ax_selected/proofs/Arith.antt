-- Numbers of 64 bits that stand for numbers of fewer bits, and two of them for one of 128.
use Rattle.std.proofs.Common.{◌≡◌, ℕ, zero, suc, ◌+◌, ◌-◌, ◌*◌, ◌/◌, ◌%◌, ◌^◌, ◌<◌, ◌≤◌, Bool, true, false, refl, ap, ◌∙◌, subst, arith}
use Rattle.std.specs.Prelude.{nat_lt}
use Rattle.std.proofs.lemmas.Bool.Decides.{nat_tests}
use Rattle.std.proofs.lemmas.Nat.{pow-add, pow_pos}
use Rattle.std.proofs.Math.Pow.{mod-mod-pow}
use Rattle.std.proofs.Math.Nat.{add-mul-mod_self_right}
use Rattle.ax_source_run.specs.SourceValues.{number_of_flag}

-- what wraps at 64 bits wraps at fewer bits
pub wrapped_64 : (x n : ℕ) → n ≤ 64 → x % 2 ^ 64 % 2 ^ n ≡ x % 2 ^ n
wrapped_64 x n small =
    let parts : (64 - n) + n ≡ 64 = omega arith in
    let P : ℕ → Type 0 = λ k. x % 2 ^ k % 2 ^ n ≡ x % 2 ^ n in
    subst P parts (mod-mod-pow x (64 - n) n)

-- 2 ^ 64 is a multiple of a smaller power
split : (q m : ℕ) → 0 < q → q * m ≡ (q - 1) * m + m
split zero m positive = absurd (omega arith)
split (suc p) m positive = let e : suc p - 1 ≡ p = omega arith in rw e (omega arith)

pub whole_64 : (n : ℕ) → n ≤ 64 → 2 ^ 64 ≡ (2 ^ (64 - n) - 1) * 2 ^ n + 2 ^ n
whole_64 n small =
    let parts : 64 ≡ (64 - n) + n = omega arith in
    ap (λ k. 2 ^ k) parts ∙ pow-add 2 (64 - n) n ∙ split (2 ^ (64 - n)) (2 ^ n) (pow_pos (64 - n))

differ : (a b m p whole : ℕ) → b < m → whole ≡ p * m + m → (a + (whole - b)) % m ≡ (a + (m - b)) % m
differ a b m p whole below parts =
    let more : a + (whole - b) ≡ (a + (m - b)) + p * m = omega arith in
    rw more (add-mul-mod_self_right (a + (m - b)) p m)

pub sub_64 : (a b n : ℕ) → n ≤ 64 → b < 2 ^ n → (a + (2 ^ 64 - b)) % 2 ^ 64 % 2 ^ n ≡ (a + (2 ^ n - b)) % 2 ^ n
sub_64 a b n small below = wrapped_64 (a + (2 ^ 64 - b)) n small ∙ differ a b (2 ^ n) (2 ^ (64 - n) - 1) (2 ^ 64) below (whole_64 n small)

-- ---- sums of 128 bits, in halves
pub add_low : (a b : ℕ) → (a % 2 ^ 64 + b % 2 ^ 64) % 2 ^ 64 ≡ (a + b) % 2 ^ 128 % 2 ^ 64
add_low a b = omega arith

pub add_high : (a b : ℕ) → a < 2 ^ 128 → b < 2 ^ 128 → ((a / 2 ^ 64 + b / 2 ^ 64) % 2 ^ 64 + number_of_flag (nat_lt ((a % 2 ^ 64 + b % 2 ^ 64) % 2 ^ 64) (a % 2 ^ 64))) % 2 ^ 64 ≡ (a + b) % 2 ^ 128 / 2 ^ 64
add_high a b h g = by (nat_lt ((a % 2 ^ 64 + b % 2 ^ 64) % 2 ^ 64) (a % 2 ^ 64)) refl
  where
    by : (t : Bool) → nat_lt ((a % 2 ^ 64 + b % 2 ^ 64) % 2 ^ 64) (a % 2 ^ 64) ≡ t → ((a / 2 ^ 64 + b / 2 ^ 64) % 2 ^ 64 + number_of_flag t) % 2 ^ 64 ≡ (a + b) % 2 ^ 128 / 2 ^ 64
    by true e = let less : (a % 2 ^ 64 + b % 2 ^ 64) % 2 ^ 64 < a % 2 ^ 64 = grind (arith, nat_tests) in omega (arith, less, h, g)
    by false e = let le : a % 2 ^ 64 ≤ (a % 2 ^ 64 + b % 2 ^ 64) % 2 ^ 64 = grind (arith, nat_tests) in omega (arith, le, h, g)

pub sub_low : (a b : ℕ) → a < 2 ^ 128 → b < 2 ^ 128 → (a % 2 ^ 64 + (2 ^ 64 - b % 2 ^ 64)) % 2 ^ 64 ≡ (a + (2 ^ 128 - b)) % 2 ^ 128 % 2 ^ 64
sub_low a b h g = omega (arith, h, g)

pub sub_high : (a b : ℕ) → a < 2 ^ 128 → b < 2 ^ 128 →
    ((a / 2 ^ 64 + (2 ^ 64 - b / 2 ^ 64)) % 2 ^ 64 + (2 ^ 64 - number_of_flag (nat_lt (a % 2 ^ 64) (b % 2 ^ 64)))) % 2 ^ 64 ≡ (a + (2 ^ 128 - b)) % 2 ^ 128 / 2 ^ 64
sub_high a b h g = by (nat_lt (a % 2 ^ 64) (b % 2 ^ 64)) refl
  where
    by : (t : Bool) → nat_lt (a % 2 ^ 64) (b % 2 ^ 64) ≡ t → ((a / 2 ^ 64 + (2 ^ 64 - b / 2 ^ 64)) % 2 ^ 64 + (2 ^ 64 - number_of_flag t)) % 2 ^ 64 ≡ (a + (2 ^ 128 - b)) % 2 ^ 128 / 2 ^ 64
    by true e = let less : a % 2 ^ 64 < b % 2 ^ 64 = grind (arith, nat_tests) in omega (arith, less, h, g)
    by false e = let le : b % 2 ^ 64 ≤ a % 2 ^ 64 = grind (arith, nat_tests) in omega (arith, le, h, g)
