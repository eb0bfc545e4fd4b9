-- What a loop over 16 bytes computes from the halves of two numbers is the operation's result.
use Rattle.std.proofs.Common.{◌≡◌, ℕ, ◌+◌, ◌-◌, ◌*◌, ◌/◌, ◌%◌, ◌^◌, ◌<◌, ◌≤◌, pos, negsuc, Bool, true, false, refl, sym, ap, ◌∙◌, ⊎_elim, arith}
use Rattle.std.specs.Prelude.{◌≢◌, ◌-ℤ◌, if◌then◌else◌, int_lt, nat_eq, nat_lt, not, bit_and, bit_or, bit_xor}
use Rattle.std.proofs.lemmas.Bool.{cases_eq, eq-eqb, ne_eqb}
use Rattle.std.proofs.lemmas.Bool.Decides.{nat_tests}
use Rattle.std.proofs.lemmas.Int.{ints}
use Rattle.std.proofs.lemmas.Nat.{and_block, and_le_l, or_block, xor_block}
use Rattle.ax_words.specs.declared.operation.RmwOp.{RmwOp}
use Rattle.ax_words.specs.declared.operation.RmwOp.TheVariants as rmw
use Rattle.ax_ops.specs.Operation.{result_of, signed}
use Rattle.ax_x86.specs.Arithmetic.{low_byte_set}

-- a number by its halves
abbrev pub whole : ℕ → ℕ → ℕ
whole low high = low + 2 ^ 64 * high

pub halves_are : (n : ℕ) → whole (n % 2 ^ 64) (n / 2 ^ 64) ≡ n
halves_are n = omega arith

-- a flag in a register that was 0
abbrev pub flag : Bool → ℕ
flag t = low_byte_set 0 t

-- ---- comparisons
-- by the high halves, and where these are equal by the low ones
abbrev by_halves : Bool → ℕ → ℕ → ℕ → ℕ → Bool
by_halves less low high than_low than_high = if nat_eq high than_high then nat_lt low than_low else less

unsigned_less : (a b c d : ℕ) → a < 2 ^ 64 → c < 2 ^ 64 → by_halves (nat_lt b d) a b c d ≡ nat_lt (whole a b) (whole c d)
unsigned_less a b c d h g = ⊎_elim equal other (cases_eq b d)
  where
    equal : b ≡ d → by_halves (nat_lt b d) a b c d ≡ nat_lt (whole a b) (whole c d)
    equal e = ap (λ (t : Bool). if t then nat_lt a c else nat_lt b d) (eq-eqb b d e) ∙ grind (arith, nat_tests, e)

    other : b ≢ d → by_halves (nat_lt b d) a b c d ≡ nat_lt (whole a b) (whole c d)
    other ne = ap (λ (t : Bool). if t then nat_lt a c else nat_lt b d) (ne_eqb b d ne) ∙ by (nat_lt b d) refl
      where
        by : (t : Bool) → nat_lt b d ≡ t → t ≡ nat_lt (whole a b) (whole c d)
        by true e = (let l : b < d = grind (arith, nat_tests, e) in let m : whole a b < whole c d = omega (arith, l, h) in grind (arith, nat_tests, m))
        by false e = (let l : d ≤ b = grind (arith, nat_tests, e) in let m : whole c d ≤ whole a b = omega (arith, l, ne, g) in grind (arith, nat_tests, m))

-- in two's complement, by which of both are not negative
abbrev order : Bool → Bool → Bool → Bool
order true true l = l
order true false l = false
order false true l = true
order false false l = l

negative : (a p : ℕ) → a < p → pos a -ℤ pos p ≡ negsuc (p - 1 - a)
negative a p h = omega (arith, ints, h)

in_order : (w a b : ℕ) (x y : Bool) → a < w → b < w → int_lt (if x then pos a else pos a -ℤ pos w) (if y then pos b else pos b -ℤ pos w) ≡ order x y (nat_lt a b)
in_order w a b true true h g = refl
in_order w a b true false h g = ap (λ z. int_lt (pos a) z) (negative b w g)
in_order w a b false true h g = ap (λ z. int_lt z (pos b)) (negative a w h)
in_order w a b false false h g =
    let r : nat_lt (w - 1 - b) (w - 1 - a) ≡ nat_lt a b = grind (arith, nat_tests) in
    ap (λ z. int_lt z (pos b -ℤ pos w)) (negative a w h) ∙ ap (λ z. int_lt (negsuc (w - 1 - a)) z) (negative b w g) ∙ r

signed_order : (k a b : ℕ) → a < 2 ^ k → b < 2 ^ k → int_lt (signed k a) (signed k b) ≡ order (nat_lt a (2 ^ (k - 1))) (nat_lt b (2 ^ (k - 1))) (nat_lt a b)
signed_order k a b h g = in_order (2 ^ k) a b (nat_lt a (2 ^ (k - 1))) (nat_lt b (2 ^ (k - 1))) h g

same_sign : (a b : ℕ) → a < 2 ^ 64 → nat_lt (whole a b) (2 ^ 127) ≡ nat_lt b (2 ^ 63)
same_sign a b h = by (nat_lt b (2 ^ 63)) refl
  where
    by : (t : Bool) → nat_lt b (2 ^ 63) ≡ t → nat_lt (whole a b) (2 ^ 127) ≡ t
    by true e = (let l : b < 2 ^ 63 = grind (arith, nat_tests, e) in let m : whole a b < 2 ^ 127 = omega (arith, l, h) in grind (arith, nat_tests, m))
    by false e = (let l : 2 ^ 63 ≤ b = grind (arith, nat_tests, e) in let m : 2 ^ 127 ≤ whole a b = omega (arith, l) in grind (arith, nat_tests, m))

-- where the high halves are equal so are the signs
order_same : (x l : Bool) → order x x l ≡ l
order_same true l = refl
order_same false l = refl

signed_less : (a b c d : ℕ) → a < 2 ^ 64 → b < 2 ^ 64 → c < 2 ^ 64 → d < 2 ^ 64 → by_halves (int_lt (signed 64 b) (signed 64 d)) a b c d ≡ int_lt (signed 128 (whole a b)) (signed 128 (whole c d))
signed_less a b c d ha hb hc hd = ⊎_elim equal other (cases_eq b d) ∙ sym signs
  where
    small : (x y : ℕ) → x < 2 ^ 64 → y < 2 ^ 64 → whole x y < 2 ^ 128
    small x y h g = omega (arith, h, g)

    signs : int_lt (signed 128 (whole a b)) (signed 128 (whole c d)) ≡ order (nat_lt b (2 ^ 63)) (nat_lt d (2 ^ 63)) (nat_lt (whole a b) (whole c d))
    signs = signed_order 128 (whole a b) (whole c d) (small a b ha hb) (small c d hc hd) ∙ ap (λ t. order t (nat_lt (whole c d) (2 ^ 127)) (nat_lt (whole a b) (whole c d))) (same_sign a b ha) ∙ ap (λ t. order (nat_lt b (2 ^ 63)) t (nat_lt (whole a b) (whole c d))) (same_sign c d hc)

    equal : b ≡ d → by_halves (int_lt (signed 64 b) (signed 64 d)) a b c d ≡ order (nat_lt b (2 ^ 63)) (nat_lt d (2 ^ 63)) (nat_lt (whole a b) (whole c d))
    equal e =
        ap (λ (t : Bool). if t then nat_lt a c else int_lt (signed 64 b) (signed 64 d)) (eq-eqb b d e) ∙ sym (ap (λ (t : Bool). if t then nat_lt a c else nat_lt b d) (eq-eqb b d e)) ∙ unsigned_less a b c d ha hc ∙ sym (order_same (nat_lt b (2 ^ 63)) (nat_lt (whole a b) (whole c d)))
        ∙ ap (λ m. order (nat_lt b (2 ^ 63)) (nat_lt m (2 ^ 63)) (nat_lt (whole a b) (whole c d))) e

    other : b ≢ d → by_halves (int_lt (signed 64 b) (signed 64 d)) a b c d ≡ order (nat_lt b (2 ^ 63)) (nat_lt d (2 ^ 63)) (nat_lt (whole a b) (whole c d))
    other ne =
        ap (λ (t : Bool). if t then nat_lt a c else int_lt (signed 64 b) (signed 64 d)) (ne_eqb b d ne) ∙ signed_order 64 b d hb hd
        ∙ ap (order (nat_lt b (2 ^ 63)) (nat_lt d (2 ^ 63))) (sym (ap (λ (t : Bool). if t then nat_lt a c else nat_lt b d) (ne_eqb b d ne)) ∙ unsigned_less a b c d ha hc)

-- ---- what the computation leaves in rbx and rcx, by the halves of the number found and of the operand
-- the number of r13
abbrev pub lesser_of : Bool → ℕ → ℕ → ℕ → ℕ → ℕ
lesser_of less low high than_low than_high = if nat_eq high than_high then flag (nat_lt low than_low) else flag less

abbrev pub chosen_of : ℕ → ℕ → ℕ → ℕ
chosen_of test operand found = if not (nat_eq test 0) then operand else found

abbrev pub new_low : RmwOp → ℕ → ℕ → ℕ → ℕ → ℕ
new_low rmw.Xchg a b c d = c
new_low rmw.Add a b c d = (a + c) % 2 ^ 64
new_low rmw.Sub a b c d = (a + (2 ^ 64 - c)) % 2 ^ 64
new_low rmw.And a b c d = bit_and a c
new_low rmw.Nand a b c d = 2 ^ 64 - 1 - bit_and a c
new_low rmw.Or a b c d = bit_or a c
new_low rmw.Xor a b c d = bit_xor a c
new_low rmw.Max a b c d = chosen_of (lesser_of (int_lt (signed 64 b) (signed 64 d)) a b c d) c a
new_low rmw.Min a b c d = chosen_of (lesser_of (int_lt (signed 64 d) (signed 64 b)) c d a b) c a
new_low rmw.UMax a b c d = chosen_of (lesser_of (nat_lt b d) a b c d) c a
new_low rmw.UMin a b c d = chosen_of (lesser_of (nat_lt d b) c d a b) c a

abbrev pub new_high : RmwOp → ℕ → ℕ → ℕ → ℕ → ℕ
new_high rmw.Xchg a b c d = d
new_high rmw.Add a b c d = ((b + d) % 2 ^ 64 + flag (nat_lt ((a + c) % 2 ^ 64) c)) % 2 ^ 64
new_high rmw.Sub a b c d = ((b + (2 ^ 64 - d)) % 2 ^ 64 + (2 ^ 64 - flag (nat_lt a c))) % 2 ^ 64
new_high rmw.And a b c d = bit_and b d
new_high rmw.Nand a b c d = 2 ^ 64 - 1 - bit_and b d
new_high rmw.Or a b c d = bit_or b d
new_high rmw.Xor a b c d = bit_xor b d
new_high rmw.Max a b c d = chosen_of (lesser_of (int_lt (signed 64 b) (signed 64 d)) a b c d) d b
new_high rmw.Min a b c d = chosen_of (lesser_of (int_lt (signed 64 d) (signed 64 b)) c d a b) d b
new_high rmw.UMax a b c d = chosen_of (lesser_of (nat_lt b d) a b c d) d b
new_high rmw.UMin a b c d = chosen_of (lesser_of (nat_lt d b) c d a b) d b

-- a choice of both halves is one of the numbers
chosen_by : (less : Bool) (low high than_low than_high a b c d : ℕ) (t : Bool) → by_halves less low high than_low than_high ≡ t
    → (let test = lesser_of less low high than_low than_high in whole (chosen_of test c a) (chosen_of test d b) ≡ (if t then whole c d else whole a b))
chosen_by less low high than_low than_high a b c d t e = ap (λ m. whole (chosen_of m c a) (chosen_of m d b)) (test_is (nat_eq high than_high) ∙ ap flag e) ∙ by t
  where
    test_is : (u : Bool) → (if u then flag (nat_lt low than_low) else flag less) ≡ flag (if u then nat_lt low than_low else less)
    test_is true = refl
    test_is false = refl

    by : (t : Bool) → whole (chosen_of (flag t) c a) (chosen_of (flag t) d b) ≡ (if t then whole c d else whole a b)
    by true = refl
    by false = refl

turned : (a b : ℕ) → whole a b ≡ b * 2 ^ 64 + a
turned a b = omega arith

add_whole : (t : Bool) (a b c d : ℕ) → a < 2 ^ 64 → b < 2 ^ 64 → c < 2 ^ 64 → d < 2 ^ 64 → nat_lt ((a + c) % 2 ^ 64) c ≡ t → whole ((a + c) % 2 ^ 64) (((b + d) % 2 ^ 64 + flag t) % 2 ^ 64) ≡ (whole a b + whole c d) % 2 ^ 128
add_whole true a b c d ha hb hc hd e = (let l : (a + c) % 2 ^ 64 < c = grind (arith, nat_tests, e) in omega (arith, l, ha, hb, hc, hd))
add_whole false a b c d ha hb hc hd e = (let l : c ≤ (a + c) % 2 ^ 64 = grind (arith, nat_tests, e) in omega (arith, l, ha, hb, hc, hd))

sub_whole : (t : Bool) (a b c d : ℕ) → a < 2 ^ 64 → b < 2 ^ 64 → c < 2 ^ 64 → d < 2 ^ 64 → nat_lt a c ≡ t → whole ((a + (2 ^ 64 - c)) % 2 ^ 64) (((b + (2 ^ 64 - d)) % 2 ^ 64 + (2 ^ 64 - flag t)) % 2 ^ 64) ≡ (whole a b + (2 ^ 128 - whole c d)) % 2 ^ 128
sub_whole true a b c d ha hb hc hd e = (let l : a < c = grind (arith, nat_tests, e) in omega (arith, l, ha, hb, hc, hd))
sub_whole false a b c d ha hb hc hd e = (let l : c ≤ a = grind (arith, nat_tests, e) in omega (arith, l, ha, hb, hc, hd))

-- SO BOTH HALVES ARE THE RESULT's
pub wide_leaves : (o : RmwOp) (a b c d : ℕ) → a < 2 ^ 64 → b < 2 ^ 64 → c < 2 ^ 64 → d < 2 ^ 64 → whole (new_low o a b c d) (new_high o a b c d) ≡ result_of 128 o (whole a b) (whole c d)
wide_leaves rmw.Xchg a b c d ha hb hc hd = refl
wide_leaves rmw.Add a b c d ha hb hc hd = add_whole _ a b c d ha hb hc hd refl
wide_leaves rmw.Sub a b c d ha hb hc hd = sub_whole _ a b c d ha hb hc hd refl
wide_leaves rmw.And a b c d ha hb hc hd = turned (bit_and a c) (bit_and b d) ∙ sym (and_block 64 b d a c ha hc) ∙ ap (λ m. bit_and m (d * 2 ^ 64 + c)) (sym (turned a b)) ∙ ap (bit_and (whole a b)) (sym (turned c d))
wide_leaves rmw.Nand a b c d ha hb hc hd =
    let both = turned (bit_and a c) (bit_and b d) ∙ sym (and_block 64 b d a c ha hc) ∙ ap (λ m. bit_and m (d * 2 ^ 64 + c)) (sym (turned a b)) ∙ ap (bit_and (whole a b)) (sym (turned c d)) in
    let low = and_le_l a c in
    let high = and_le_l b d in
    let e : whole (2 ^ 64 - 1 - bit_and a c) (2 ^ 64 - 1 - bit_and b d) ≡ 2 ^ 128 - 1 - whole (bit_and a c) (bit_and b d) = omega (arith, low, high, ha, hb) in
    e ∙ ap (λ m. 2 ^ 128 - 1 - m) both
wide_leaves rmw.Or a b c d ha hb hc hd = turned (bit_or a c) (bit_or b d) ∙ sym (or_block 64 b d a c ha hc) ∙ ap (λ m. bit_or m (d * 2 ^ 64 + c)) (sym (turned a b)) ∙ ap (bit_or (whole a b)) (sym (turned c d))
wide_leaves rmw.Xor a b c d ha hb hc hd = turned (bit_xor a c) (bit_xor b d) ∙ sym (xor_block 64 b d a c ha hc) ∙ ap (λ m. bit_xor m (d * 2 ^ 64 + c)) (sym (turned a b)) ∙ ap (bit_xor (whole a b)) (sym (turned c d))
wide_leaves rmw.Max a b c d ha hb hc hd = chosen_by _ a b c d a b c d _ (signed_less a b c d ha hb hc hd)
wide_leaves rmw.Min a b c d ha hb hc hd = chosen_by _ c d a b a b c d _ (signed_less c d a b hc hd ha hb)
wide_leaves rmw.UMax a b c d ha hb hc hd = chosen_by _ a b c d a b c d _ (unsigned_less a b c d ha hc)
wide_leaves rmw.UMin a b c d ha hb hc hd = chosen_by _ c d a b a b c d _ (unsigned_less c d a b hc ha)
