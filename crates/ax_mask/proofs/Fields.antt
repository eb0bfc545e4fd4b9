-- Fields of bits, and what bit operations and sums make of them.
use Rattle.std.proofs.Common.{◌≡◌, ℕ, ◌+◌, ◌-◌, ◌*◌, ◌/◌, ◌%◌, ◌^◌, ◌<◌, ◌≤◌, sym, ap, ◌∙◌, subst, arith}
use Rattle.std.specs.Prelude.{bit_and, bit_or, bit_xor}
use Rattle.std.specs.Int.Bits.{and_zero_r, xor_assoc, xor_self, xor_zero_l, xor_zero_r}
use Rattle.std.proofs.lemmas.Nat.{pow_pos, pow-add, shl-shr, shr-shr, mod-pow-add, field_of, and_mask, and_shr, or_shr, xor_shr, and_mod, or_mod, xor_mod, mod_below, div_below, shl_below, div-mul-add, mod-mul-add}
use Rattle.std.proofs.lemmas.Nat.Bits.{ones_shr}
use Rattle.std.proofs.Math.Nat.{add-mul, mul-add, div-add-mod', mul_assoc, add_comm, mod-mod, mod-add-mod, mod-eq_of_lt, add-mul-div_right, add-mul-mod_self_left, mul-mod_left, pow-le-pow_right, div-eq_of_lt}
use Rattle.std.proofs.Math.Pow.{mod-mod-pow}
use Rattle.ax_store.specs.Bytes.{byte_of}

-- the k bits of a number from bit s on
abbrev pub field : ℕ → ℕ → ℕ → ℕ
field k s x = x / 2 ^ s % 2 ^ k

-- the bits of x where the mask has ones, else those of w
abbrev pub merged : ℕ → ℕ → ℕ → ℕ
merged w x mask = bit_xor w (bit_and (bit_xor w x) mask)

-- a number that is shifted up as far as it goes
pub top_of : (v k u : ℕ) → v * 2 ^ u % 2 ^ (k + u) ≡ v % 2 ^ k * 2 ^ u
top_of v k u =
    mod-pow-add (v * 2 ^ u) k u ∙ ap (λ x. x % 2 ^ k * 2 ^ u + v * 2 ^ u % 2 ^ u) (shl-shr v u) ∙ ap (λ x. v % 2 ^ k * 2 ^ u + x) (mul-mod_left v (2 ^ u)) ∙ (let e : v % 2 ^ k * 2 ^ u + 0 ≡ v % 2 ^ k * 2 ^ u = omega arith in e)

pub shifted_back : (x s t : ℕ) → x * 2 ^ (s + t) / 2 ^ t ≡ x * 2 ^ s
shifted_back x s t = ap (λ y. x * y / 2 ^ t) (pow-add 2 s t) ∙ ap (λ y. y / 2 ^ t) (sym (mul_assoc x (2 ^ s) (2 ^ t))) ∙ shl-shr (x * 2 ^ s) t

-- a field that is shifted up to the top and then down
pub taken : (r k s t : ℕ) → r * 2 ^ t % 2 ^ (k + (s + t)) / 2 ^ (s + t) ≡ field k s r
taken r k s t =
    field_of (r * 2 ^ t) k (s + t) ∙ ap (λ x. r * 2 ^ t / 2 ^ x % 2 ^ k) (add_comm s t) ∙ ap (λ x. x % 2 ^ k) (sym (shr-shr (r * 2 ^ t) t s)) ∙ ap (λ x. x / 2 ^ s % 2 ^ k) (shl-shr r t)

-- a field doesn't see what is cut off above it
pub field_cut : (y k s t : ℕ) → field k s (y % 2 ^ (k + (s + t))) ≡ field k s y
field_cut y k s t =
    (let e : k + (s + t) ≡ t + k + s = omega arith in ap (λ x. y % 2 ^ x / 2 ^ s % 2 ^ k) e)
    ∙ ap (λ x. x % 2 ^ k) (field_of y (t + k) s) ∙ mod-mod-pow (y / 2 ^ s) t k

pub field_small : (x k s : ℕ) → field k s x < 2 ^ k
field_small x k s = mod_below (x / 2 ^ s) (2 ^ k) (pow_pos k)

pub field_placed : (v k s : ℕ) → v < 2 ^ k → field k s (v * 2 ^ s) ≡ v
field_placed v k s h = ap (λ x. x % 2 ^ k) (shl-shr v s) ∙ mod-eq_of_lt h

-- ---- bits
pub field_and : (a b k s : ℕ) → field k s (bit_and a b) ≡ bit_and (field k s a) (field k s b)
field_and a b k s = ap (λ x. x % 2 ^ k) (and_shr a b s) ∙ and_mod (a / 2 ^ s) (b / 2 ^ s) k

pub field_or : (a b k s : ℕ) → field k s (bit_or a b) ≡ bit_or (field k s a) (field k s b)
field_or a b k s = ap (λ x. x % 2 ^ k) (or_shr a b s) ∙ or_mod (a / 2 ^ s) (b / 2 ^ s) k

pub field_xor : (a b k s : ℕ) → field k s (bit_xor a b) ≡ bit_xor (field k s a) (field k s b)
field_xor a b k s = ap (λ x. x % 2 ^ k) (xor_shr a b s) ∙ xor_mod (a / 2 ^ s) (b / 2 ^ s) k

-- ---- sums and differences
field_plus : (r v k s : ℕ) → field k s (r + v * 2 ^ s) ≡ (field k s r + v) % 2 ^ k
field_plus r v k s = ap (λ x. x % 2 ^ k) (add-mul-div_right r v {z = 2 ^ s} (pow_pos s)) ∙ sym (mod-add-mod (r / 2 ^ s) (2 ^ k) v)

pub field_add : (r v k s t : ℕ) → field k s ((r + v * 2 ^ s) % 2 ^ (k + (s + t))) ≡ (field k s r + v) % 2 ^ k
field_add r v k s t = field_cut (r + v * 2 ^ s) k s t ∙ field_plus r v k s

lifted : (v k s t : ℕ) → v < 2 ^ k → 2 ^ (k + (s + t)) - v * 2 ^ s ≡ (2 ^ (k + t) - v) * 2 ^ s
lifted v k s t h =
    let d = 2 ^ (k + t) - v in
    let b : 2 ^ k ≤ 2 ^ (k + t) = pow-le-pow_right {n = 2} (omega arith) {i = k} {j = k + t} (omega arith) in
    let e : 2 ^ (k + t) ≡ d + v = omega arith in
    let w : k + (s + t) ≡ k + t + s = omega arith in
    let p : 2 ^ (k + (s + t)) ≡ d * 2 ^ s + v * 2 ^ s = ap (λ x. 2 ^ x) w ∙ pow-add 2 (k + t) s ∙ ap (λ x. x * 2 ^ s) e ∙ add-mul d v (2 ^ s) in
    omega (arith, p)

lowered : (v k t : ℕ) → v < 2 ^ k → (x : ℕ) → (x + (2 ^ (k + t) - v)) % 2 ^ k ≡ (x + (2 ^ k - v)) % 2 ^ k
lowered v k t h x =
    let o = pow_pos t in
    let c = 2 ^ t - 1 in
    let e : 2 ^ t ≡ c + 1 = omega arith in
    let p : 2 ^ (k + t) ≡ 2 ^ k * c + 2 ^ k = pow-add 2 k t ∙ ap (λ y. 2 ^ k * y) e ∙ mul-add (2 ^ k) c 1 ∙ (let one : 2 ^ k * c + 2 ^ k * 1 ≡ 2 ^ k * c + 2 ^ k = omega arith in one) in
    let q : x + (2 ^ (k + t) - v) ≡ x + (2 ^ k - v) + 2 ^ k * c = omega (arith, p) in
    ap (λ y. y % 2 ^ k) q ∙ add-mul-mod_self_left (x + (2 ^ k - v)) (2 ^ k) c

pub field_sub : (r v k s t : ℕ) → v < 2 ^ k → field k s ((r + (2 ^ (k + (s + t)) - v * 2 ^ s)) % 2 ^ (k + (s + t))) ≡ (field k s r + (2 ^ k - v)) % 2 ^ k
field_sub r v k s t h =
    field_cut (r + (2 ^ (k + (s + t)) - v * 2 ^ s)) k s t ∙ ap (λ x. field k s (r + x)) (lifted v k s t h) ∙ field_plus r (2 ^ (k + t) - v) k s ∙ lowered v k t h (field k s r)

-- ---- the complement
turned : (a b q l : ℕ) → q < a → l < b → a * b - 1 - (q * b + l) ≡ (a - 1 - q) * b + (b - 1 - l)
turned a b q l h g =
    let d = a - 1 - q in
    let e : a ≡ d + (q + 1) = omega arith in
    let p : a * b ≡ d * b + (q * b + b) = ap (λ x. x * b) e ∙ add-mul d (q + 1) b ∙ ap (λ x. d * b + x) (add-mul q 1 b ∙ (let one : q * b + 1 * b ≡ q * b + b = omega arith in one)) in
    let r : d * b + (q * b + b) - 1 - (q * b + l) ≡ d * b + (b - 1 - l) = omega arith in
    ap (λ x. x - 1 - (q * b + l)) p ∙ r

module _ (y a b : ℕ) (positive : 0 < b) (h : y < a * b) where
  halves : a * b - 1 - y ≡ (a - 1 - y / b) * b + (b - 1 - y % b)
  halves =
      let l : y % b < b = mod_below y b positive in
      let q : y / b < a = div_below y b a positive h in
      ap (λ x. a * b - 1 - x) (sym (div-add-mod' y b)) ∙ turned a b (y / b) (y % b) q l

  turned_div : (a * b - 1 - y) / b ≡ a - 1 - y / b
  turned_div = let p = positive in ap (λ x. x / b) halves ∙ div-mul-add (a - 1 - y / b) b (b - 1 - y % b) (omega arith)

  turned_mod : (a * b - 1 - y) % b ≡ b - 1 - y % b
  turned_mod = let p = positive in ap (λ x. x % b) halves ∙ mod-mul-add (a - 1 - y / b) b (b - 1 - y % b) (omega arith)

pub field_not : (y k s t : ℕ) → y < 2 ^ (k + (s + t)) → field k s (2 ^ (k + (s + t)) - 1 - y) ≡ 2 ^ k - 1 - field k s y
field_not y k s t h =
    let e : k + (s + t) ≡ k + t + s = omega arith in
    let p : 2 ^ (k + (s + t)) ≡ 2 ^ (k + t) * 2 ^ s = ap (λ x. 2 ^ x) e ∙ pow-add 2 (k + t) s in
    let w : 2 ^ (k + t) ≡ 2 ^ t * 2 ^ k = ap (λ x. 2 ^ x) (add_comm k t) ∙ pow-add 2 t k in
    let f : y < 2 ^ (k + t) * 2 ^ s = subst (λ x. y < x) p h in
    let q : y / 2 ^ s < 2 ^ (k + t) = div_below y (2 ^ s) (2 ^ (k + t)) (pow_pos s) f in
    ap (λ x. (x - 1 - y) / 2 ^ s % 2 ^ k) p ∙ ap (λ x. x % 2 ^ k) (turned_div y (2 ^ (k + t)) (2 ^ s) (pow_pos s) f)
    ∙ ap (λ x. (x - 1 - y / 2 ^ s) % 2 ^ k) w ∙ turned_mod (y / 2 ^ s) (2 ^ t) (2 ^ k) (pow_pos k) (subst (λ x. y / 2 ^ s < x) w q)

-- ---- bytes
byte_and : (a b j : ℕ) → byte_of (bit_and a b) j ≡ bit_and (byte_of a j) (byte_of b j)
byte_and a b j = field_and a b 8 (8 * j)

byte_xor : (a b j : ℕ) → byte_of (bit_xor a b) j ≡ bit_xor (byte_of a j) (byte_of b j)
byte_xor a b j = field_xor a b 8 (8 * j)

pub xor_twice : (a x : ℕ) → bit_xor a (bit_xor a x) ≡ x
xor_twice a x = sym (xor_assoc a a x) ∙ ap (λ y. bit_xor y x) (xor_self a) ∙ xor_zero_l x

byte_merged : (w x m j : ℕ) → byte_of (merged w x m) j ≡ bit_xor (byte_of w j) (bit_and (byte_of (bit_xor w x) j) (byte_of m j))
byte_merged w x m j = byte_xor w (bit_and (bit_xor w x) m) j ∙ ap (bit_xor (byte_of w j)) (byte_and (bit_xor w x) m j)

-- where the mask has ones
pub merged_inside : (w x m j : ℕ) → byte_of m j ≡ 255 → byte_of (merged w x m) j ≡ byte_of x j
merged_inside w x m j e =
    byte_merged w x m j
    ∙ ap (λ y. bit_xor (byte_of w j) (bit_and (byte_of (bit_xor w x) j) y)) e
    ∙ ap (bit_xor (byte_of w j)) (and_mask (byte_of (bit_xor w x) j) 8 ∙ mod-mod (bit_xor w x / 2 ^ (8 * j)) (2 ^ 8) ∙ byte_xor w x j)
    ∙ xor_twice (byte_of w j) (byte_of x j)

-- where it has zeros
pub merged_outside : (w x m j : ℕ) → byte_of m j ≡ 0 → byte_of (merged w x m) j ≡ byte_of w j
merged_outside w x m j e =
    byte_merged w x m j
    ∙ ap (λ y. bit_xor (byte_of w j) (bit_and (byte_of (bit_xor w x) j) y)) e
    ∙ ap (bit_xor (byte_of w j)) (and_zero_r (byte_of (bit_xor w x) j))
    ∙ xor_zero_r (byte_of w j)

-- the bytes of a mask
pub mask_inside : (o n i : ℕ) → i < n → byte_of ((2 ^ (8 * n) - 1) * 2 ^ (8 * o)) (o + i) ≡ 255
mask_inside o n i h =
    let a : 8 * (o + i) ≡ 8 * o + 8 * i = omega arith in
    let b : 8 * n - 8 * i ≡ 8 * (n - (i + 1)) + 8 = omega arith in
    let c : 8 * i ≤ 8 * n = omega arith in
    let m = 2 ^ (8 * (n - (i + 1))) in
    let p : 0 < m = pow_pos (8 * (n - (i + 1))) in
    let r : m * 2 ^ 8 - 1 ≡ (m - 1) * 2 ^ 8 + 255 = omega arith in
    ap (λ y. (2 ^ (8 * n) - 1) * 2 ^ (8 * o) / 2 ^ y % 2 ^ 8) a
    ∙ ap (λ y. y % 2 ^ 8) (sym (shr-shr ((2 ^ (8 * n) - 1) * 2 ^ (8 * o)) (8 * o) (8 * i)))
    ∙ ap (λ y. y / 2 ^ (8 * i) % 2 ^ 8) (shl-shr (2 ^ (8 * n) - 1) (8 * o))
    ∙ ap (λ y. y % 2 ^ 8) (ones_shr (8 * n) (8 * i) c)
    ∙ ap (λ y. (2 ^ y - 1) % 2 ^ 8) b ∙ ap (λ y. (y - 1) % 2 ^ 8) (pow-add 2 (8 * (n - (i + 1))) 8)
    ∙ ap (λ y. y % 2 ^ 8) r ∙ mod-mul-add (m - 1) (2 ^ 8) 255 (omega arith)

pub mask_below : (x o j : ℕ) → j < o → byte_of (x * 2 ^ (8 * o)) j ≡ 0
mask_below x o j h =
    let e : 8 * o ≡ 8 * (o - (j + 1)) + 8 + 8 * j = omega arith in
    let m = 2 ^ (8 * (o - (j + 1))) in
    ap (λ y. x * 2 ^ y / 2 ^ (8 * j) % 2 ^ 8) e ∙ ap (λ y. y % 2 ^ 8) (shifted_back x (8 * (o - (j + 1)) + 8) (8 * j))
    ∙ ap (λ y. x * y % 2 ^ 8) (pow-add 2 (8 * (o - (j + 1))) 8) ∙ ap (λ y. y % 2 ^ 8) (sym (mul_assoc x m (2 ^ 8))) ∙ mul-mod_left (x * m) (2 ^ 8)

pub mask_above : (x o n j : ℕ) → x < 2 ^ (8 * n) → o + n ≤ j → byte_of (x * 2 ^ (8 * o)) j ≡ 0
mask_above x o n j h g =
    let a : x * 2 ^ (8 * o) < 2 ^ (8 * n + 8 * o) = shl_below x (8 * n) (8 * o) h in
    let b : 2 ^ (8 * n + 8 * o) ≤ 2 ^ (8 * j) = pow-le-pow_right {n = 2} (omega arith) {i = 8 * n + 8 * o} {j = 8 * j} (omega arith) in
    ap (λ y. y % 2 ^ 8) (div-eq_of_lt (let r : x * 2 ^ (8 * o) < 2 ^ (8 * j) = omega arith in r))
