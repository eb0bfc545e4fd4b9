-- What AArch64's instructions compute for middle code, on numbers of 64 bits.
use Rattle.std.proofs.Common.{◌≡◌, ℕ, ◌+◌, ◌-◌, ◌*◌, ◌/◌, ◌%◌, ◌^◌, ◌<◌, ◌≤◌, ℤ, pos, negsuc, Bool, true, false, refl, sym, ap, ◌∙◌, suc, mod-lt, mul-le-mul_right, arith}
use Rattle.std.specs.Prelude.{if◌then◌else◌, int_le, int_lt, nat_eq, nat_le, nat_lt, not, ◌-ℤ◌}
use Rattle.std.specs.Int.{cast_signed, cast_unsigned, int_shr, w64}
use Rattle.std.proofs.lemmas.Bool.Decides.{nat_tests}
use Rattle.std.proofs.lemmas.Int.{ints, to_z-of_z}
use Rattle.std.proofs.Math.Nat.{pow-le-pow_right}
use Rattle.std.proofs.lemmas.Nat.{div-mul-add, mod-mul-add, mod-pow-add, pow-add, pow_pos}
use Rattle.ax_ops.specs.Operation.{signed}
use Rattle.ax_isa.specs.Numbers.{shifted_by_sign}
use Rattle.ax_source_run.specs.SourceValues.{number_of_flag, wrapped}
use Rattle.ax_arm.specs.declared.instructions.Alu.TheVariants as alu
use Rattle.ax_arm.specs.declared.instructions.Condition.{Condition}
use Rattle.ax_arm.specs.declared.instructions.Condition.TheVariants as condition
use Rattle.ax_arm.specs.declared.instructions.Shift.TheVariants as shift
use Rattle.ax_arm.specs.Effects.{combined, holds, shifted}
use Rattle.ax_mid.specs.declared.instruction.MidOp.{MidOp}
use Rattle.ax_mid.specs.declared.instruction.MidOp.TheVariants as mid
use Rattle.ax_mid.specs.declared.instruction.MidShift.{MidShift}
use Rattle.ax_mid.specs.declared.instruction.MidShift.TheVariants as mid_shift
use Rattle.ax_mid.specs.Numbers as middle
use Rattle.ax_mid.specs.Numbers.{applied, selected}
use Rattle.ax_emit_arm.specs.Code.{extend_down, shift_of}

-- ---- tests
less : (x y : ℕ) → nat_lt x y ≡ true → x < y
less x y q = grind (arith, nat_tests)

not_less : (x y : ℕ) → nat_lt x y ≡ false → y ≤ x
not_less x y q = grind (arith, nat_tests)

less_test : (x y : ℕ) → x < y → nat_lt x y ≡ true
less_test x y q = grind (arith, nat_tests)

not_less_test : (x y : ℕ) → y ≤ x → nat_lt x y ≡ false
not_less_test x y q = grind (arith, nat_tests)

-- ---- two's complement numbers
negative : (a p : ℕ) → a < p → pos a -ℤ pos p ≡ negsuc (p - 1 - a)
negative a p h = omega (arith, ints, h)

low_is : (n : ℕ) → n < 2 ^ 63 → cast_signed w64 n ≡ pos n
low_is n h = to_z-of_z w64 (pos n) (record { sfits = h })

high_is : (n : ℕ) → 2 ^ 63 ≤ n → n < 2 ^ 64 → cast_signed w64 n ≡ negsuc (2 ^ 64 - 1 - n)
high_is n h k = ap (cast_signed w64) (let q : n ≡ 2 ^ 64 - suc (2 ^ 64 - 1 - n) = omega (arith, k) in q) ∙ to_z-of_z w64 (negsuc (2 ^ 64 - 1 - n)) (record { sfits = omega (arith, h, k) })

signed_is : (n : ℕ) → n < 2 ^ 64 → cast_signed w64 n ≡ signed 64 n
signed_is n h = go (nat_lt n (2 ^ 63)) refl
  where
    go : (t : Bool) → nat_lt n (2 ^ 63) ≡ t → cast_signed w64 n ≡ (if t then pos n else pos n -ℤ pos (2 ^ 64))
    go true e = low_is n (less n (2 ^ 63) e)
    go false e = high_is n (not_less n (2 ^ 63) e) h ∙ sym (negative n (2 ^ 64) h)

not_lt : (a b : ℕ) → nat_le a b ≡ not (nat_lt b a)
not_lt a b = go (nat_lt b a) refl
  where
    go : (t : Bool) → nat_lt b a ≡ t → nat_le a b ≡ not t
    go true e = grind (arith, nat_tests, e)
    go false e = grind (arith, nat_tests, e)

at_most : (x y : ℤ) → int_le x y ≡ not (int_lt y x)
at_most (pos a) (pos b) = not_lt a b
at_most (pos a) (negsuc b) = refl
at_most (negsuc a) (pos b) = refl
at_most (negsuc a) (negsuc b) = not_lt b a

-- ---- operations
abbrev pub flag_number : Condition → ℕ → ℕ → ℕ
flag_number c a b = if holds c (a, b) then 1 else 0

-- what the code of an operation leaves in register 0
abbrev pub op_number : MidOp → ℕ → ℕ → ℕ
op_number mid.Add a b = combined alu.Add a b
op_number mid.Sub a b = combined alu.Sub a b
op_number mid.Mul a b = combined alu.Mul a b
op_number mid.And a b = combined alu.And a b
op_number mid.Or a b = combined alu.Orr a b
op_number mid.Xor a b = combined alu.Eor a b
op_number mid.Eq a b = flag_number condition.Eq a b
op_number mid.Ne a b = flag_number condition.Ne a b
op_number mid.Ult a b = flag_number condition.Lo a b
op_number mid.Ule a b = flag_number condition.Ls a b
op_number mid.Slt a b = flag_number condition.Lt a b
op_number mid.Sle a b = flag_number condition.Le a b

flag_is : (t : Bool) → (if t then 1 else 0) ≡ number_of_flag t
flag_is true = refl
flag_is false = refl

less_is : (a b : ℕ) → a < 2 ^ 64 → b < 2 ^ 64 → int_lt (cast_signed w64 a) (cast_signed w64 b) ≡ int_lt (signed 64 a) (signed 64 b)
less_is a b h k = ap (λ x. int_lt x (cast_signed w64 b)) (signed_is a h) ∙ ap (int_lt (signed 64 a)) (signed_is b k)

pub op_is : (o : MidOp) (a b : ℕ) → a < 2 ^ 64 → b < 2 ^ 64 → op_number o a b ≡ applied o a b
op_is mid.Add a b h k = refl
op_is mid.Sub a b h k = refl
op_is mid.Mul a b h k = refl
op_is mid.And a b h k = refl
op_is mid.Or a b h k = refl
op_is mid.Xor a b h k = refl
op_is mid.Eq a b h k = flag_is (nat_eq a b)
op_is mid.Ne a b h k = flag_is (not (nat_eq a b))
op_is mid.Ult a b h k = flag_is (nat_lt a b)
op_is mid.Ule a b h k = flag_is (nat_le a b)
op_is mid.Slt a b h k = flag_is (int_lt (cast_signed w64 a) (cast_signed w64 b)) ∙ ap number_of_flag (less_is a b h k)
op_is mid.Sle a b h k = flag_is (int_le (cast_signed w64 a) (cast_signed w64 b)) ∙ ap number_of_flag (at_most (cast_signed w64 a) (cast_signed w64 b) ∙ ap not (less_is b a k h))

-- a choice by a condition
pub choice_is : (test a b : ℕ) → (if not (nat_eq test 0) then a else b) ≡ selected test a b
choice_is test a b = go (nat_eq test 0)
  where
    go : (t : Bool) → (if not t then a else b) ≡ (if t then b else a)
    go true = refl
    go false = refl

-- ---- shifts
small_amount : (by : ℕ) → by < 64 → by % 64 ≡ by
small_amount by h = omega (arith, h)

by_sign : (a k : ℕ) → a < 2 ^ 64 → shifted shift.Asr a k ≡ shifted_by_sign a k
by_sign a k h = go (nat_lt a (2 ^ 63)) refl
  where
    go : (t : Bool) → nat_lt a (2 ^ 63) ≡ t → shifted shift.Asr a k ≡ (if t then a / 2 ^ k else 2 ^ 64 - 1 - (2 ^ 64 - 1 - a) / 2 ^ k)
    go true e = ap (λ z. cast_unsigned w64 (int_shr z k)) (low_is a (less a (2 ^ 63) e))
    go false e = ap (λ z. cast_unsigned w64 (int_shr z k)) (high_is a (not_less a (2 ^ 63) e) h) ∙ (let q : 2 ^ 64 - suc ((2 ^ 64 - 1 - a) / 2 ^ k) ≡ 2 ^ 64 - 1 - (2 ^ 64 - 1 - a) / 2 ^ k = omega arith in q)

pub shift_is : (o : MidShift) (a by : ℕ) → a < 2 ^ 64 → by < 64 → shifted (shift_of o) a (by % 64) ≡ middle.shifted o a by
shift_is mid_shift.Shl a by small h = ap (λ k. a * 2 ^ k % 2 ^ 64) (small_amount by h)
shift_is mid_shift.Lshr a by small h = ap (λ k. a / 2 ^ k) (small_amount by h)
shift_is mid_shift.Ashr a by small h = ap (shifted shift.Asr a) (small_amount by h) ∙ by_sign a by small

-- ---- numbers that are extended from their low bits: these go up to the top, which is 2 ^ 64 = q * p, and down again
-- the low bits at the top
up_is : (a bits k : ℕ) → bits + k ≡ 64 → a * 2 ^ k % 2 ^ 64 ≡ a % 2 ^ bits * 2 ^ k
up_is a bits k e =
    let p = 2 ^ k in
    let some : 0 < p = pow_pos k in
    let at : a * p ≡ a * p + 0 = omega arith in
    let down : a * p / p ≡ a = ap (λ n. n / p) at ∙ div-mul-add a p 0 some in
    let none : a * p % p ≡ 0 = ap (λ n. n % p) at ∙ mod-mul-add a p 0 some in
    ap (λ n. a * p % 2 ^ n) (sym e) ∙ mod-pow-add (a * p) bits k ∙ ap (λ n. n % 2 ^ bits * p + a * p % p) down ∙ ap (λ n. a % 2 ^ bits * p + n) none ∙ (let z : a % 2 ^ bits * p + 0 ≡ a % 2 ^ bits * p = omega arith in z)

down_is : (r p : ℕ) → 0 < p → r * p / p ≡ r
down_is r p some = ap (λ n. n / p) (let z : r * p ≡ r * p + 0 = omega arith in z) ∙ div-mul-add r p 0 some

unsigned_is : (a bits k : ℕ) → bits + k ≡ 64 → a * 2 ^ k % 2 ^ 64 / 2 ^ k ≡ middle.extended bits false a
unsigned_is a bits k e = ap (λ n. n / 2 ^ k) (up_is a bits k e) ∙ down_is (a % 2 ^ bits) (2 ^ k) (pow_pos k)

-- what is left of the complement of a number that stands at the top
complement_down : (r d p : ℕ) → 0 < p → (d * p + p + r * p - 1 - r * p) / p ≡ d
complement_down r d p some = ap (λ n. n / p) (let z : d * p + p + r * p - 1 - r * p ≡ d * p + (p - 1) = omega (arith, some) in z) ∙ div-mul-add d p (p - 1) (omega (arith, some))

module _ (a bits k : ℕ) (e : bits + k ≡ 64) (some_bits : 1 ≤ bits) where
  abbrev p : ℕ
  p = 2 ^ k

  abbrev r : ℕ
  r = a % 2 ^ bits

  abbrev half : ℕ
  half = 2 ^ (bits - 1)

  some : 0 < p
  some = pow_pos k

  small : r < 2 ^ bits
  small = mod-lt a (pow_pos bits)

  top : 2 ^ 64 ≡ 2 ^ bits * p
  top = ap (λ n. 2 ^ n) (sym e) ∙ pow-add 2 bits k

  middle_is : 2 ^ 63 ≡ half * p
  middle_is = ap (λ n. 2 ^ n) (let z : 63 ≡ (bits - 1) + k = omega (arith, e, some_bits) in z) ∙ pow-add 2 (bits - 1) k

  narrow : 2 ^ bits ≤ 2 ^ 64
  narrow = pow-le-pow_right {n = 2} (omega arith) {i = bits} {j = 64} (omega (arith, e))

  signed_by : (t : Bool) → nat_lt r half ≡ t → shifted_by_sign (r * p) k ≡ wrapped 64 (signed bits r)
  signed_by true lt =
      let up : suc r * p ≤ half * p = mul-le-mul_right p (less r half lt) in
      let below : r * p < 2 ^ 63 = let m = middle_is in let s = some in omega (arith, up, m, s) in
      let le = narrow in
      let lo = small in
      ap (λ t. if t then r * p / p else 2 ^ 64 - 1 - (2 ^ 64 - 1 - r * p) / p) (less_test (r * p) (2 ^ 63) below) ∙ down_is r p some ∙ sym (let z : r % 2 ^ 64 ≡ r = omega (arith, le, lo) in z) ∙ ap (wrapped 64) (sym (ap (λ t. if t then pos r else pos r -ℤ pos (2 ^ bits)) lt))
  signed_by false ge =
      let up : half * p ≤ r * p = mul-le-mul_right p (not_less r half ge) in
      let above : 2 ^ 63 ≤ r * p = let m = middle_is in omega (arith, up, m) in
      let le = narrow in
      let lo = small in
      let d = 2 ^ bits - 1 - r in
      let whole : 2 ^ bits ≡ d + 1 + r = omega (arith, lo) in
      let spread : (d + 1 + r) * p ≡ d * p + p + r * p = omega arith in
      let all : 2 ^ 64 ≡ d * p + p + r * p = top ∙ ap (λ n. n * p) whole ∙ spread in
      let rest : (2 ^ 64 - 1 - r * p) / p ≡ d = ap (λ n. (n - 1 - r * p) / p) all ∙ complement_down r d p some in
      ap (λ t. if t then r * p / p else 2 ^ 64 - 1 - (2 ^ 64 - 1 - r * p) / p) (not_less_test (r * p) (2 ^ 63) above) ∙ ap (λ n. 2 ^ 64 - 1 - n) rest ∙ sym (ap (λ n. 2 ^ 64 - 1 - n) (let z : d % 2 ^ 64 ≡ d = omega (arith, le) in z))
      ∙ ap (wrapped 64) (sym (ap (λ t. if t then pos r else pos r -ℤ pos (2 ^ bits)) ge ∙ negative r (2 ^ bits) lo))

  extended_signed : shifted_by_sign (a * 2 ^ k % 2 ^ 64) k ≡ middle.extended bits true a
  extended_signed = ap (λ n. shifted_by_sign n k) (up_is a bits k e) ∙ signed_by (nat_lt r half) refl

-- AN EXTENSION by two shifts
pub extend_is : (signed : Bool) (a bits : ℕ) → 1 ≤ bits → bits ≤ 64 → shifted (extend_down signed) (shifted shift.Lsl a ((64 - bits) % 64)) ((64 - bits) % 64) ≡ middle.extended bits signed a
extend_is signed a bits some few = ap (λ k. shifted (extend_down signed) (shifted shift.Lsl a k) k) (let z : (64 - bits) % 64 ≡ 64 - bits = omega (arith, some, few) in z) ∙ go signed
  where
    all : bits + (64 - bits) ≡ 64
    all = omega (arith, few)

    go : (signed : Bool) → shifted (extend_down signed) (shifted shift.Lsl a (64 - bits)) (64 - bits) ≡ middle.extended bits signed a
    go false = unsigned_is a bits (64 - bits) all
    go true = by_sign (shifted shift.Lsl a (64 - bits)) (64 - bits) (mod-lt (a * 2 ^ (64 - bits)) (pow_pos 64)) ∙ extended_signed a bits (64 - bits) all some
