-- Words of 128 bits cut to the width of a value.
use Rattle.std.proofs.Common.{◌≡◌, ℕ, ◌+◌, ◌-◌, ◌*◌, ◌%◌, ◌^◌, ◌<◌, ◌≤◌, List, length, drop, get_or, ◌∙◌, ap, subst, add-one, arith}
use Rattle.std.specs.Prelude.{bit_and, zero, suc}
use Rattle.std.proofs.lemmas.Nat.{and_mask, and_le_l, or_lt, xor_lt, pow-add, pow_pos, mod_below}
use Rattle.std.proofs.Math.Pow.{mod-mod-pow}
use Rattle.std.proofs.Math.Nat.{add-mul-mod_self_right, pow-le-pow_right}
use Rattle.std.proofs.Math.Seq.{drop-cons}
use Rattle.ax_words.specs.Width.{IsWidth}
use Rattle.ax_ops.specs.Bytes.{number_of}

-- a mask of n bytes leaves the number mod 2 ^ (8 * n)
pub cut : (x n : ℕ) → bit_and x (2 ^ (8 * n) - 1) ≡ x % 2 ^ (8 * n)
cut x n = and_mask x (8 * n)

pub width_le : (n : ℕ) → IsWidth n → n ≤ 16
width_le n width = grind arith

-- what wraps at 128 bits wraps at fewer bits
pub wrapped : (x n : ℕ) → IsWidth n → x % 2 ^ 128 % 2 ^ (8 * n) ≡ x % 2 ^ (8 * n)
wrapped x n width =
    let small : n ≤ 16 = width_le n width in
    let parts : (128 - 8 * n) + 8 * n ≡ 128 = omega arith in
    let P : ℕ → Type 0 = λ k. x % 2 ^ k % 2 ^ (8 * n) ≡ x % 2 ^ (8 * n) in
    subst P parts (mod-mod-pow x (128 - 8 * n) (8 * n))

-- a product by a positive number has one more part
split : (q m : ℕ) → 0 < q → q * m ≡ (q - 1) * m + m
split zero m positive = absurd (omega arith)
split (suc p) m positive = let e : suc p - 1 ≡ p = omega arith in rw e (omega arith)

differ : (a b m p whole : ℕ) → b < m → whole ≡ p * m + m → (a + (whole - b)) % m ≡ (a + (m - b)) % m
differ a b m p whole below parts =
    let more : a + (whole - b) ≡ (a + (m - b)) + p * m = omega arith in
    rw more (add-mul-mod_self_right (a + (m - b)) p m)

-- a difference that wraps at 128 bits wraps at fewer bits
pub sub_wrapped : (a b n : ℕ) → IsWidth n → b < 2 ^ (8 * n) → (a + (2 ^ 128 - b)) % 2 ^ 128 % 2 ^ (8 * n) ≡ (a + (2 ^ (8 * n) - b)) % 2 ^ (8 * n)
sub_wrapped a b n width below =
    let small : n ≤ 16 = width_le n width in
    let parts : 128 ≡ (128 - 8 * n) + 8 * n = omega arith in
    let powers : 2 ^ 128 ≡ 2 ^ (128 - 8 * n) * 2 ^ (8 * n) = ap (λ k. 2 ^ k) parts ∙ pow-add 2 (128 - 8 * n) (8 * n) in
    let e : 2 ^ 128 ≡ (2 ^ (128 - 8 * n) - 1) * 2 ^ (8 * n) + 2 ^ (8 * n) = powers ∙ split (2 ^ (128 - 8 * n)) (2 ^ (8 * n)) (pow_pos (128 - 8 * n)) in
    wrapped (a + (2 ^ 128 - b)) n width ∙ differ a b (2 ^ (8 * n)) (2 ^ (128 - 8 * n) - 1) (2 ^ 128) below e

pub mod_fits : (x n : ℕ) → x % 2 ^ (8 * n) < 2 ^ (8 * n)
mod_fits x n = mod_below x (2 ^ (8 * n)) (pow_pos (8 * n))

-- one byte more below the others
pub byte_more : (byte n k j : ℕ) → byte < 256 → n < 2 ^ (8 * k) → j ≡ k + 1 → n * 256 + byte < 2 ^ (8 * j)
byte_more byte n k j below fits next =
    let bits : 8 * j ≡ 8 * k + 8 = omega arith in
    let power : 2 ^ (8 * k + 8) ≡ 2 ^ (8 * k) * 256 = pow-add 2 (8 * k) 8 in
    rw (bits, power) (omega arith)

-- while bytes are left of a width's bytes, there is room for one more
pub room : (n size i : ℕ) → IsWidth size → 0 < i → i ≤ size → n < 2 ^ (8 * (size - i)) → n * 256 < 2 ^ 128
room n size i width left within fits =
    let small : size ≤ 16 = width_le size width in
    let bits : 8 * (size - i) ≤ 120 = omega arith in
    let most : 2 ^ (8 * (size - i)) ≤ 2 ^ 120 = pow-le-pow_right {n = 2} (omega arith) {i = 8 * (size - i)} {j = 120} bits in
    omega arith

pub number_of-drop : (bytes : List ℕ) (i j : ℕ) → j ≡ i + 1 → i < length bytes → number_of (drop i bytes) ≡ number_of (drop j bytes) * 256 + get_or bytes i 0
number_of-drop bytes i j next within =
    rw (next, add-one, drop-cons bytes i 0 within) (omega arith)

pub ruleset applied = (wrapped, sub_wrapped, mod_fits, and_le_l)

pub ruleset read = (byte_more, number_of-drop)
