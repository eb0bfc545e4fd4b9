-- Comparisons, signed ones too.
use Rattle.std.proofs.Common.{◌≡◌, ℕ, ◌+◌, ◌-◌, ◌%◌, ◌^◌, ◌<◌, ◌≤◌, ℤ, pos, negsuc, Bool, true, false, refl, sym, ap, ◌∙◌, arith}
use Rattle.std.specs.Prelude.{if◌then◌else◌, nat_lt, ◌-ℤ◌}
use Rattle.std.proofs.lemmas.Bool.Decides.{nat_tests}
use Rattle.std.proofs.lemmas.Int.{ints}
use Rattle.std.proofs.lemmas.Nat.{pow-add}
use Rattle.std.proofs.Math.Nat.{mod-eq_of_lt, pow-le-pow_right}
use Rattle.ax_ops.specs.Operation.{signed}
use Rattle.ax_source_run.specs.SourceValues.{wrapped}

negative : (a p : ℕ) → a < p → pos a -ℤ pos p ≡ negsuc (p - 1 - a)
negative a p h = omega (arith, ints, h)

-- two's complement numbers of 64 bits
unfoldable pub sign_of : (a half whole : ℕ) (t : Bool) → nat_lt a half ≡ t → ℤ
sign_of a half whole true e = pos a
sign_of a half whole false e = negsuc (whole - 1 - a)

pub signed_is : (bits a : ℕ) → a < 2 ^ bits → (t : Bool) → (e : nat_lt a (2 ^ (bits - 1)) ≡ t) → signed bits a ≡ sign_of a (2 ^ (bits - 1)) (2 ^ bits) t e
unfolding sign_of
signed_is bits a h true e = ap (λ (b : Bool). if b then pos a else pos a -ℤ pos (2 ^ bits)) e
signed_is bits a h false e = ap (λ (b : Bool). if b then pos a else pos a -ℤ pos (2 ^ bits)) e ∙ negative a (2 ^ bits) h

pub double : (bits : ℕ) → 1 ≤ bits → 2 ^ bits ≡ 2 ^ (bits - 1) + 2 ^ (bits - 1)
double bits h =
    let parts : bits ≡ (bits - 1) + 1 = omega (arith, h) in
    ap (λ k. 2 ^ k) parts ∙ pow-add 2 (bits - 1) 1 ∙ omega arith

-- a number that is extended by its sign has its two's complement number
pub sign_kept : (bits a : ℕ) → 1 ≤ bits → bits ≤ 64 → a < 2 ^ bits → signed 64 (wrapped 64 (signed bits a)) ≡ signed bits a
unfolding sign_of
sign_kept bits a some few h = by (nat_lt a (2 ^ (bits - 1))) refl
  where
    half : 2 ^ (bits - 1) ≤ 2 ^ 63
    half = pow-le-pow_right {n = 2} (omega arith) {i = bits - 1} {j = 63} (omega (arith, few))

    by : (t : Bool) → nat_lt a (2 ^ (bits - 1)) ≡ t → signed 64 (wrapped 64 (signed bits a)) ≡ signed bits a
    by true e =
        let is = signed_is bits a h true e in
        let le = half in
        let below : a < 2 ^ (bits - 1) = less a (2 ^ (bits - 1)) e in
        let small : a < 2 ^ 64 = omega (arith, le, below) in
        let same : a % 2 ^ 64 ≡ a = mod-eq_of_lt small in
        let test : nat_lt a (2 ^ 63) ≡ true = let b : a < 2 ^ 63 = omega (arith, le, below) in test_true a (2 ^ 63) b in
        ap (λ z. signed 64 (wrapped 64 z)) is ∙ (ap (signed 64) same ∙ (signed_is 64 a small true test ∙ sym is))
      where
        less : (x y : ℕ) → nat_lt x y ≡ true → x < y
        less x y q = grind (arith, nat_tests)

        test_true : (x y : ℕ) → x < y → nat_lt x y ≡ true
        test_true x y q = grind (arith, nat_tests)
    by false e =
        let is = signed_is bits a h false e in
        let le = half in
        let two = double bits some in
        let above : 2 ^ (bits - 1) ≤ a = least a (2 ^ (bits - 1)) e in
        let q = 2 ^ bits - 1 - a in
        let small : q < 2 ^ 63 = omega (arith, le, two, above, h) in
        let same : q % 2 ^ 64 ≡ q = mod-eq_of_lt (omega (arith, small)) in
        let w = 2 ^ 64 - 1 - q in
        let test : nat_lt w (2 ^ 63) ≡ false = test_false w (2 ^ 63) (omega (arith, small)) in
        let back : 2 ^ 64 - 1 - w ≡ q = omega (arith, small) in
        ap (λ z. signed 64 (wrapped 64 z)) is ∙ (ap (λ (n : ℕ). signed 64 (2 ^ 64 - 1 - n)) same ∙ (signed_is 64 w (omega arith) false test ∙ (ap negsuc back ∙ sym is)))
      where
        least : (x y : ℕ) → nat_lt x y ≡ false → y ≤ x
        least x y r = grind (arith, nat_tests)

        test_false : (x y : ℕ) → y ≤ x → nat_lt x y ≡ false
        test_false x y r = grind (arith, nat_tests)
