-- Words of 128 bits cut to fewer bits.
use Rattle.std.proofs.Common.{◌≡◌, ℕ, ◌+◌, ◌-◌, ◌*◌, ◌/◌, ◌%◌, ◌^◌, ◌<◌, ◌≤◌, ◌∙◌, ap, sym, subst, arith}
use Rattle.std.specs.Prelude.{bit_and, zero, suc}
use Rattle.std.proofs.lemmas.Nat.{and_mask, pow-add, pow_pos, mod_below}
use Rattle.std.proofs.Math.Pow.{mod-mod-pow}
use Rattle.std.proofs.Math.Nat.{add-mul-mod_self_right, pow-le-pow_right, div-eq_of_lt}

pub cut : (x n : ℕ) → bit_and x (2 ^ n - 1) ≡ x % 2 ^ n
cut x n = and_mask x n

-- what wraps at 128 bits wraps at fewer bits
pub wrapped : (x n : ℕ) → n ≤ 128 → x % 2 ^ 128 % 2 ^ n ≡ x % 2 ^ n
wrapped x n small =
    let parts : (128 - n) + n ≡ 128 = omega arith in
    let P : ℕ → Type 0 = λ k. x % 2 ^ k % 2 ^ n ≡ x % 2 ^ n in
    subst P parts (mod-mod-pow x (128 - n) n)

-- a product by a positive number has one more part
split : (q m : ℕ) → 0 < q → q * m ≡ (q - 1) * m + m
split zero m positive = absurd (omega arith)
split (suc p) m positive = let e : suc p - 1 ≡ p = omega arith in rw e (omega arith)

differ : (a b m p whole : ℕ) → b < m → whole ≡ p * m + m → (a + (whole - b)) % m ≡ (a + (m - b)) % m
differ a b m p whole below parts =
    let more : a + (whole - b) ≡ (a + (m - b)) + p * m = omega arith in
    rw more (add-mul-mod_self_right (a + (m - b)) p m)

-- a difference that wraps at 128 bits wraps at fewer bits
pub sub_wrapped : (a b n : ℕ) → n ≤ 128 → b ≤ 2 ^ n - 1 → (a + (2 ^ 128 - b)) % 2 ^ 128 % 2 ^ n ≡ (a + (2 ^ n - b)) % 2 ^ n
sub_wrapped a b n small below =
    let parts : 128 ≡ (128 - n) + n = omega arith in
    let powers : 2 ^ 128 ≡ 2 ^ (128 - n) * 2 ^ n = ap (λ k. 2 ^ k) parts ∙ pow-add 2 (128 - n) n in
    let e : 2 ^ 128 ≡ (2 ^ (128 - n) - 1) * 2 ^ n + 2 ^ n = powers ∙ split (2 ^ (128 - n)) (2 ^ n) (pow_pos (128 - n)) in
    let positive : 0 < 2 ^ n = pow_pos n in
    let less : b < 2 ^ n = omega arith in
    wrapped (a + (2 ^ 128 - b)) n small ∙ differ a b (2 ^ n) (2 ^ (128 - n) - 1) (2 ^ 128) less e

-- past the modulus nothing is taken away
pub none_taken : (a b n : ℕ) → 2 ^ n - 1 < b → a % 2 ^ n ≡ (a + (2 ^ n - b)) % 2 ^ n
none_taken a b n above = let e : 2 ^ n - b ≡ 0 = omega arith in ap (λ x. x % 2 ^ n) (omega (arith, e))

pub ruleset sums = (wrapped, sub_wrapped, none_taken)

-- a shift that reaches the modulus leaves nothing
pub shifted_out : (a n k : ℕ) → k ≤ 128 → 128 ≤ n → a * 2 ^ n % 2 ^ k ≡ 0
shifted_out a n k small far =
    let parts : n ≡ (n - k) + k = omega arith in
    let powers : 2 ^ n ≡ 2 ^ (n - k) * 2 ^ k = ap (λ j. 2 ^ j) parts ∙ pow-add 2 (n - k) k in
    let e : a * 2 ^ n ≡ 0 + (a * 2 ^ (n - k)) * 2 ^ k = ap (λ x. a * x) powers ∙ omega arith in
    let positive : 0 < 2 ^ k = pow_pos k in
    rw e (add-mul-mod_self_right 0 (a * 2 ^ (n - k)) (2 ^ k) ∙ omega arith)

-- and one to the right leaves nothing of a word
pub shifted_off : (a n : ℕ) → a < 2 ^ 128 → 128 ≤ n → a / 2 ^ n ≡ 0
shifted_off a n fits far =
    let most : 2 ^ 128 ≤ 2 ^ n = pow-le-pow_right {n = 2} (omega arith) {i = 128} {j = n} far in
    let less : a < 2 ^ n = omega arith in
    div-eq_of_lt less

pub quotient_le : (a n : ℕ) → a / 2 ^ n ≤ a
quotient_le a n = let positive : 0 < 2 ^ n = pow_pos n in omega arith

pub ruleset shifts = (wrapped, shifted_out, shifted_off, quotient_le)
