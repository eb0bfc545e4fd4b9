-- Numbers that are extended by their sign or shifted, and then cut; halves of numbers of 128 bits.
use Rattle.std.proofs.Common.{◌≡◌, ℕ, ◌+◌, ◌-◌, ◌*◌, ◌/◌, ◌%◌, ◌^◌, ◌<◌, ◌≤◌, ℤ, Bool, true, false, inl, inr, refl, sym, ap, ◌∙◌, arith}
use Rattle.std.specs.Prelude.{if◌then◌else◌, nat_eq, nat_lt, bit_and, bit_or, bit_xor}
use Rattle.std.proofs.lemmas.Bool.{cases_Bool, cases_eq, eqb-true}
use Rattle.std.proofs.lemmas.Bool.Decides.{nat_tests}
use Rattle.std.proofs.lemmas.Nat.{and_mod, and_shr, le_or_l, le_or_r, or_mod, or_shr, xor_mod, xor_shr}
use Rattle.std.proofs.Math.Nat.{add-mul-mod_self_right, div-le_self, mod-eq_of_lt, pow-le-pow_right}
use Rattle.std.specs.Int.Bits.{or_zero_l, xor_assoc, xor_self, xor_zero_l, xor_zero_r}
use Rattle.ax_ops.specs.Operation.{signed}
use Rattle.ax_source_run.specs.SourceValues.{shifted_down, wrapped}
use Rattle.ax_selected.proofs.Arith.{whole_64, wrapped_64}
use Rattle.ax_selected.proofs.Signs.{double, sign_of, signed_is}

-- the complement of a small number, at fewer bits
cut_down : (r m p whole : ℕ) → r < m → whole ≡ p * m + m → (whole - 1 - r) % m ≡ m - 1 - r
cut_down r m p whole below parts =
    let more : whole - 1 - r ≡ (m - 1 - r) + p * m = omega (arith, below, parts) in
    let less : m - 1 - r < m = omega (arith, below) in
    ap (λ (n : ℕ). n % m) more ∙ (add-mul-mod_self_right (m - 1 - r) p m ∙ mod-eq_of_lt less)

power : (a b : ℕ) → a ≤ b → 2 ^ a ≤ 2 ^ b
power a b h = pow-le-pow_right {n = 2} (omega arith) {i = a} {j = b} h

is_less : (x y : ℕ) → nat_lt x y ≡ true → x < y
is_less x y q = grind (arith, nat_tests)

is_not_less : (x y : ℕ) → nat_lt x y ≡ false → y ≤ x
is_not_less x y q = grind (arith, nat_tests)

less_is : (x y : ℕ) → x < y → nat_lt x y ≡ true
less_is x y q = grind (arith, nat_tests)

not_less_is : (x y : ℕ) → y ≤ x → nat_lt x y ≡ false
not_less_is x y q = grind (arith, nat_tests)

-- a number that is extended by its sign to 64 bits, cut to at least as many as it had
pub sign_cut : (bits to a : ℕ) → 1 ≤ bits → bits ≤ to → to ≤ 64 → a < 2 ^ bits → wrapped 64 (signed bits a) % 2 ^ to ≡ wrapped to (signed bits a)
unfolding sign_of
sign_cut bits to a some le few h = by (nat_lt a (2 ^ (bits - 1))) refl
  where
    by : (t : Bool) → nat_lt a (2 ^ (bits - 1)) ≡ t → wrapped 64 (signed bits a) % 2 ^ to ≡ wrapped to (signed bits a)
    by true e =
        let is = signed_is bits a h true e in
        ap (λ (z : ℤ). wrapped 64 z % 2 ^ to) is ∙ (wrapped_64 a to few ∙ sym (ap (wrapped to) is))
    by false e =
        let is = signed_is bits a h false e in
        let wide = power bits to le in
        let most = power to 64 few in
        let q = 2 ^ bits - 1 - a in
        let below : q < 2 ^ to = omega (arith, wide, h) in
        let small : q % 2 ^ 64 ≡ q = mod-eq_of_lt (omega (arith, below, most)) in
        let same : q % 2 ^ to ≡ q = mod-eq_of_lt below in
        ap (λ (z : ℤ). wrapped 64 z % 2 ^ to) is
        ∙ (ap (λ (n : ℕ). (2 ^ 64 - 1 - n) % 2 ^ to) small ∙ (cut_down q (2 ^ to) (2 ^ (64 - to) - 1) (2 ^ 64) below (whole_64 to few)
        ∙ sym (ap (wrapped to) is ∙ ap (λ (n : ℕ). 2 ^ to - 1 - n) same)))

-- a shift to the right of a number that is extended by its sign
pub shift_cut : (bits a by : ℕ) → 1 ≤ bits → bits ≤ 64 → a < 2 ^ bits → shifted_down 64 (wrapped 64 (signed bits a)) by % 2 ^ bits ≡ shifted_down bits a by
unfolding sign_of
shift_cut bits a by some few h = cases (nat_lt a (2 ^ (bits - 1))) refl
  where
    half : 2 ^ (bits - 1) ≤ 2 ^ 63
    half = power (bits - 1) 63 (omega (arith, few))

    cases : (t : Bool) → nat_lt a (2 ^ (bits - 1)) ≡ t → shifted_down 64 (wrapped 64 (signed bits a)) by % 2 ^ bits ≡ shifted_down bits a by
    cases true e =
        let is = signed_is bits a h true e in
        let le = half in
        let less = is_less a (2 ^ (bits - 1)) e in
        let same : a % 2 ^ 64 ≡ a = mod-eq_of_lt (omega (arith, le, less)) in
        let test : nat_lt a (2 ^ 63) ≡ true = less_is a (2 ^ 63) (omega (arith, le, less)) in
        let down = div-le_self a (2 ^ by) in
        let below : a / 2 ^ by < 2 ^ bits = omega (arith, down, h) in
        ap (λ (z : ℤ). shifted_down 64 (wrapped 64 z) by % 2 ^ bits) is
        ∙ (ap (λ (n : ℕ). shifted_down 64 n by % 2 ^ bits) same
        ∙ (ap (λ (b : Bool). (if b then a / 2 ^ by else 2 ^ 64 - 1 - (2 ^ 64 - 1 - a) / 2 ^ by) % 2 ^ bits) test
        ∙ (mod-eq_of_lt below ∙ sym (ap (λ (b : Bool). if b then a / 2 ^ by else 2 ^ bits - 1 - (2 ^ bits - 1 - a) / 2 ^ by) e))))
    cases false e =
        let is = signed_is bits a h false e in
        let le = half in
        let two = double bits some in
        let above = is_not_less a (2 ^ (bits - 1)) e in
        let q = 2 ^ bits - 1 - a in
        let small : q < 2 ^ 63 = omega (arith, le, two, above, h) in
        let same : q % 2 ^ 64 ≡ q = mod-eq_of_lt (omega (arith, small)) in
        let w = 2 ^ 64 - 1 - q in
        let test : nat_lt w (2 ^ 63) ≡ false = not_less_is w (2 ^ 63) (omega (arith, small)) in
        let back : 2 ^ 64 - 1 - w ≡ q = omega (arith, small) in
        let down = div-le_self q (2 ^ by) in
        let below : q / 2 ^ by < 2 ^ bits = omega (arith, down, h) in
        ap (λ (z : ℤ). shifted_down 64 (wrapped 64 z) by % 2 ^ bits) is
        ∙ (ap (λ (n : ℕ). shifted_down 64 (2 ^ 64 - 1 - n) by % 2 ^ bits) same
        ∙ (ap (λ (b : Bool). (if b then w / 2 ^ by else 2 ^ 64 - 1 - (2 ^ 64 - 1 - w) / 2 ^ by) % 2 ^ bits) test
        ∙ (ap (λ (n : ℕ). (2 ^ 64 - 1 - n / 2 ^ by) % 2 ^ bits) back
        ∙ (cut_down (q / 2 ^ by) (2 ^ bits) (2 ^ (64 - bits) - 1) (2 ^ 64) below (whole_64 bits few)
        ∙ sym (ap (λ (b : Bool). if b then a / 2 ^ by else 2 ^ bits - 1 - (2 ^ bits - 1 - a) / 2 ^ by) e)))))

-- ---- halves
pub shl_halves : (a : ℕ) → a < 2 ^ 128 → (0 ≡ a * 2 ^ 64 % 2 ^ 128 % 2 ^ 64) × (a % 2 ^ 64 ≡ a * 2 ^ 64 % 2 ^ 128 / 2 ^ 64)
shl_halves a h = (omega (arith, h), omega (arith, h))

pub lshr_halves : (a : ℕ) → a < 2 ^ 128 → (a / 2 ^ 64 ≡ a / 2 ^ 64 % 2 ^ 64) × (0 ≡ a / 2 ^ 64 / 2 ^ 64)
lshr_halves a h = (omega (arith, h), omega (arith, h))

pub ashr_halves : (a : ℕ) → a < 2 ^ 128 → (a / 2 ^ 64 ≡ shifted_down 128 a 64 % 2 ^ 64) × (shifted_down 64 (a / 2 ^ 64) 63 ≡ shifted_down 128 a 64 / 2 ^ 64)
ashr_halves a h = by (nat_lt a (2 ^ 127)) (nat_lt (a / 2 ^ 64) (2 ^ 63)) refl refl
  where
    by : (t u : Bool) → nat_lt a (2 ^ 127) ≡ t → nat_lt (a / 2 ^ 64) (2 ^ 63) ≡ u
        → (a / 2 ^ 64 ≡ (if t then a / 2 ^ 64 else 2 ^ 128 - 1 - (2 ^ 128 - 1 - a) / 2 ^ 64) % 2 ^ 64)
        × ((if u then a / 2 ^ 64 / 2 ^ 63 else 2 ^ 64 - 1 - (2 ^ 64 - 1 - a / 2 ^ 64) / 2 ^ 63) ≡ (if t then a / 2 ^ 64 else 2 ^ 128 - 1 - (2 ^ 128 - 1 - a) / 2 ^ 64) / 2 ^ 64)
    by true true e g = let l = is_less a (2 ^ 127) e in (omega (arith, h), omega (arith, l))
    by true false e g = let l = is_less a (2 ^ 127) e in let m = is_not_less (a / 2 ^ 64) (2 ^ 63) g in absurd (omega (arith, l, m))
    by false true e g = let l = is_not_less a (2 ^ 127) e in let m = is_less (a / 2 ^ 64) (2 ^ 63) g in absurd (omega (arith, l, m))
    by false false e g = let l = is_not_less a (2 ^ 127) e in (omega (arith, l, h), omega (arith, l, h))

pub and_halves : (a b : ℕ) → (bit_and (a % 2 ^ 64) (b % 2 ^ 64) ≡ bit_and a b % 2 ^ 64) × (bit_and (a / 2 ^ 64) (b / 2 ^ 64) ≡ bit_and a b / 2 ^ 64)
and_halves a b = (sym (and_mod a b 64), sym (and_shr a b 64))

pub or_halves : (a b : ℕ) → (bit_or (a % 2 ^ 64) (b % 2 ^ 64) ≡ bit_or a b % 2 ^ 64) × (bit_or (a / 2 ^ 64) (b / 2 ^ 64) ≡ bit_or a b / 2 ^ 64)
or_halves a b = (sym (or_mod a b 64), sym (or_shr a b 64))

pub xor_halves : (a b : ℕ) → (bit_xor (a % 2 ^ 64) (b % 2 ^ 64) ≡ bit_xor a b % 2 ^ 64) × (bit_xor (a / 2 ^ 64) (b / 2 ^ 64) ≡ bit_xor a b / 2 ^ 64)
xor_halves a b = (sym (xor_mod a b 64), sym (xor_shr a b 64))

same_by_xor : (x y : ℕ) → bit_xor x y ≡ 0 → x ≡ y
same_by_xor x y e = sym (xor_zero_r x) ∙ (ap (bit_xor x) (sym (xor_self y)) ∙ (sym (xor_assoc x y y) ∙ (ap (λ (n : ℕ). bit_xor n y) e ∙ xor_zero_l y)))

-- two numbers are equal where their halves are
pub equal_halves : (a b : ℕ) → nat_eq (bit_or (bit_xor (a % 2 ^ 64) (b % 2 ^ 64)) (bit_xor (a / 2 ^ 64) (b / 2 ^ 64))) 0 ≡ nat_eq a b
equal_halves a b = elim (cases_eq a b) [ inl e ↦ same e | inr differ ↦ other differ ]
  where
    is_zero : (x y : ℕ) → x ≡ 0 → y ≡ 0 → bit_or x y ≡ 0
    is_zero x y e g = ap (λ (n : ℕ). bit_or n y) e ∙ (or_zero_l y ∙ g)

    true_by : (x y : ℕ) → x ≡ y → nat_eq x y ≡ true
    true_by x y e = grind (arith, nat_tests, e)

    false_by : (x y : ℕ) → (x ≡ y → ⊥) → nat_eq x y ≡ false
    false_by x y n = elim (cases_Bool (nat_eq x y)) [ inl e ↦ absurd (n (eqb-true x y e)) | inr e ↦ e ]

    same : a ≡ b → nat_eq (bit_or (bit_xor (a % 2 ^ 64) (b % 2 ^ 64)) (bit_xor (a / 2 ^ 64) (b / 2 ^ 64))) 0 ≡ nat_eq a b
    same e =
        let low : bit_xor (a % 2 ^ 64) (b % 2 ^ 64) ≡ 0 = ap (λ (n : ℕ). bit_xor (a % 2 ^ 64) (n % 2 ^ 64)) (sym e) ∙ xor_self (a % 2 ^ 64) in
        let high : bit_xor (a / 2 ^ 64) (b / 2 ^ 64) ≡ 0 = ap (λ (n : ℕ). bit_xor (a / 2 ^ 64) (n / 2 ^ 64)) (sym e) ∙ xor_self (a / 2 ^ 64) in
        true_by (bit_or (bit_xor (a % 2 ^ 64) (b % 2 ^ 64)) (bit_xor (a / 2 ^ 64) (b / 2 ^ 64))) 0 (is_zero (bit_xor (a % 2 ^ 64) (b % 2 ^ 64)) (bit_xor (a / 2 ^ 64) (b / 2 ^ 64)) low high) ∙ sym (true_by a b e)

    other : (a ≡ b → ⊥) → nat_eq (bit_or (bit_xor (a % 2 ^ 64) (b % 2 ^ 64)) (bit_xor (a / 2 ^ 64) (b / 2 ^ 64))) 0 ≡ nat_eq a b
    other differ =
        let x = bit_xor (a % 2 ^ 64) (b % 2 ^ 64) in
        let y = bit_xor (a / 2 ^ 64) (b / 2 ^ 64) in
        let left = le_or_l x y in
        let right = le_or_r x y in
        false_by (bit_or x y) 0 (λ e.
        let low = same_by_xor (a % 2 ^ 64) (b % 2 ^ 64) (omega (arith, left, e)) in
        let high = same_by_xor (a / 2 ^ 64) (b / 2 ^ 64) (omega (arith, right, e)) in
        differ (omega (arith, low, high)))
        ∙ sym (false_by a b differ)
