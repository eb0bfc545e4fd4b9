-- What x86-64's instructions compute for middle code, on numbers of 64 bits.
use Rattle.std.proofs.Common.{◌≡◌, ℕ, ◌+◌, ◌-◌, ◌*◌, ◌/◌, ◌%◌, ◌^◌, ◌<◌, ◌≤◌, pos, negsuc, Bool, true, false, refl, sym, ap, ◌∙◌, suc, mod-lt, mul-le-mul_right, arith}
use Rattle.std.specs.Prelude.{if◌then◌else◌, nat_eq, nat_lt, not, ◌-ℤ◌}
use Rattle.std.proofs.lemmas.Bool.Decides.{nat_tests}
use Rattle.std.proofs.lemmas.Int.{ints}
use Rattle.std.proofs.Math.Nat.{pow-le-pow_right}
use Rattle.std.proofs.lemmas.Nat.{div-mul-add, mod-mul-add, mod-pow-add, pow-add, pow_pos}
use Rattle.ax_ops.specs.Operation.{signed}
use Rattle.ax_isa.specs.Numbers.{shifted_by_sign}
use Rattle.ax_source_run.specs.SourceValues.{number_of_flag, wrapped}
use Rattle.ax_mid.specs.declared.instruction.MidShift.{MidShift}
use Rattle.ax_mid.specs.declared.instruction.MidShift.TheVariants as mid_shift
use Rattle.ax_mid.specs.Numbers as middle
use Rattle.ax_mid.specs.Numbers.{selected}
use Rattle.ax_x86.specs.declared.instructions.Shift.TheVariants as shift
use Rattle.ax_x86.specs.Arithmetic.{low_byte_set, shift_result}
use Rattle.ax_emit_x86.specs.Code.{extend_down, shift_of}

-- a flag as a byte, with zeros above
pub flag_byte : (n : ℕ) (t : Bool) → low_byte_set n t % 2 ^ 8 ≡ number_of_flag t
flag_byte n true = (let q : (n - n % 2 ^ 8 + 1) % 2 ^ 8 ≡ 1 = omega arith in q)
flag_byte n false = (let q : (n - n % 2 ^ 8 + 0) % 2 ^ 8 ≡ 0 = omega arith in q)

-- a choice by a condition
pub choice_is : (test a b : ℕ) → (if not (nat_eq test 0) then a else b) ≡ selected test a b
choice_is test a b = go (nat_eq test 0)
  where
    go : (t : Bool) → (if not t then a else b) ≡ (if t then b else a)
    go true = refl
    go false = refl

-- ---- shifts
small_amount : (by : ℕ) → by < 64 → by % 64 ≡ by
small_amount by h = omega (arith, h)

pub shift_is : (o : MidShift) (a by : ℕ) → by < 64 → shift_result (shift_of o) a by ≡ middle.shifted o a by
shift_is mid_shift.Shl a by h = ap (λ k. a * 2 ^ k % 2 ^ 64) (small_amount by h)
shift_is mid_shift.Lshr a by h = ap (λ k. a / 2 ^ k) (small_amount by h)
shift_is mid_shift.Ashr a by h = ap (shifted_by_sign a) (small_amount by h)

-- ---- numbers that are extended from their low bits: these go up to the top, which is 2 ^ 64 = q * p, and down again
-- the low bits at the top
up_is : (a bits k : ℕ) → bits + k ≡ 64 → a * 2 ^ k % 2 ^ 64 ≡ a % 2 ^ bits * 2 ^ k
up_is a bits k e =
    let p = 2 ^ k in
    let some : 0 < p = pow_pos k in
    let at : a * p ≡ a * p + 0 = omega arith in
    let down : a * p / p ≡ a = ap (λ n. n / p) at ∙ div-mul-add a p 0 some in
    let none : a * p % p ≡ 0 = ap (λ n. n % p) at ∙ mod-mul-add a p 0 some in
    ap (λ n. a * p % 2 ^ n) (sym e) ∙ mod-pow-add (a * p) bits k ∙ ap (λ n. n % 2 ^ bits * p + a * p % p) down ∙ ap (λ n. a % 2 ^ bits * p + n) none ∙ (let z : a % 2 ^ bits * p + 0 ≡ a % 2 ^ bits * p = omega arith in z)

down_is : (r p : ℕ) → 0 < p → r * p / p ≡ r
down_is r p some = ap (λ n. n / p) (let z : r * p ≡ r * p + 0 = omega arith in z) ∙ div-mul-add r p 0 some

unsigned_is : (a bits k : ℕ) → bits + k ≡ 64 → a * 2 ^ k % 2 ^ 64 / 2 ^ k ≡ middle.extended bits false a
unsigned_is a bits k e = ap (λ n. n / 2 ^ k) (up_is a bits k e) ∙ down_is (a % 2 ^ bits) (2 ^ k) (pow_pos k)

negative : (a p : ℕ) → a < p → pos a -ℤ pos p ≡ negsuc (p - 1 - a)
negative a p h = omega (arith, ints, h)

less : (x y : ℕ) → nat_lt x y ≡ true → x < y
less x y q = grind (arith, nat_tests)

not_less : (x y : ℕ) → nat_lt x y ≡ false → y ≤ x
not_less x y q = grind (arith, nat_tests)

less_test : (x y : ℕ) → x < y → nat_lt x y ≡ true
less_test x y q = grind (arith, nat_tests)

not_less_test : (x y : ℕ) → y ≤ x → nat_lt x y ≡ false
not_less_test x y q = grind (arith, nat_tests)

-- what is left of the complement of a number that stands at the top
complement_down : (r d p : ℕ) → 0 < p → (d * p + p + r * p - 1 - r * p) / p ≡ d
complement_down r d p some = ap (λ n. n / p) (let z : d * p + p + r * p - 1 - r * p ≡ d * p + (p - 1) = omega (arith, some) in z) ∙ div-mul-add d p (p - 1) (omega (arith, some))

module _ (a bits k : ℕ) (e : bits + k ≡ 64) (some_bits : 1 ≤ bits) where
  abbrev p : ℕ
  p = 2 ^ k

  abbrev r : ℕ
  r = a % 2 ^ bits

  abbrev half : ℕ
  half = 2 ^ (bits - 1)

  some : 0 < p
  some = pow_pos k

  small : r < 2 ^ bits
  small = mod-lt a (pow_pos bits)

  top : 2 ^ 64 ≡ 2 ^ bits * p
  top = ap (λ n. 2 ^ n) (sym e) ∙ pow-add 2 bits k

  middle_is : 2 ^ 63 ≡ half * p
  middle_is = ap (λ n. 2 ^ n) (let z : 63 ≡ (bits - 1) + k = omega (arith, e, some_bits) in z) ∙ pow-add 2 (bits - 1) k

  narrow : 2 ^ bits ≤ 2 ^ 64
  narrow = pow-le-pow_right {n = 2} (omega arith) {i = bits} {j = 64} (omega (arith, e))

  signed_by : (t : Bool) → nat_lt r half ≡ t → shifted_by_sign (r * p) k ≡ wrapped 64 (signed bits r)
  signed_by true lt =
      let up : suc r * p ≤ half * p = mul-le-mul_right p (less r half lt) in
      let below : r * p < 2 ^ 63 = let m = middle_is in let s = some in omega (arith, up, m, s) in
      let le = narrow in
      let lo = small in
      ap (λ t. if t then r * p / p else 2 ^ 64 - 1 - (2 ^ 64 - 1 - r * p) / p) (less_test (r * p) (2 ^ 63) below) ∙ down_is r p some ∙ sym (let z : r % 2 ^ 64 ≡ r = omega (arith, le, lo) in z) ∙ ap (wrapped 64) (sym (ap (λ t. if t then pos r else pos r -ℤ pos (2 ^ bits)) lt))
  signed_by false ge =
      let up : half * p ≤ r * p = mul-le-mul_right p (not_less r half ge) in
      let above : 2 ^ 63 ≤ r * p = let m = middle_is in omega (arith, up, m) in
      let le = narrow in
      let lo = small in
      let d = 2 ^ bits - 1 - r in
      let whole : 2 ^ bits ≡ d + 1 + r = omega (arith, lo) in
      let spread : (d + 1 + r) * p ≡ d * p + p + r * p = omega arith in
      let all : 2 ^ 64 ≡ d * p + p + r * p = top ∙ ap (λ n. n * p) whole ∙ spread in
      let rest : (2 ^ 64 - 1 - r * p) / p ≡ d = ap (λ n. (n - 1 - r * p) / p) all ∙ complement_down r d p some in
      ap (λ t. if t then r * p / p else 2 ^ 64 - 1 - (2 ^ 64 - 1 - r * p) / p) (not_less_test (r * p) (2 ^ 63) above) ∙ ap (λ n. 2 ^ 64 - 1 - n) rest ∙ sym (ap (λ n. 2 ^ 64 - 1 - n) (let z : d % 2 ^ 64 ≡ d = omega (arith, le) in z))
      ∙ ap (wrapped 64) (sym (ap (λ t. if t then pos r else pos r -ℤ pos (2 ^ bits)) ge ∙ negative r (2 ^ bits) lo))

  extended_signed : shifted_by_sign (a * 2 ^ k % 2 ^ 64) k ≡ middle.extended bits true a
  extended_signed = ap (λ n. shifted_by_sign n k) (up_is a bits k e) ∙ signed_by (nat_lt r half) refl

-- AN EXTENSION by two shifts
pub extend_is : (signed : Bool) (a bits : ℕ) → 1 ≤ bits → bits ≤ 64 → shift_result (extend_down signed) (shift_result shift.Shl a (64 - bits)) (64 - bits) ≡ middle.extended bits signed a
extend_is signed a bits some few = go signed
  where
    all : bits + (64 - bits) ≡ 64
    all = omega (arith, few)

    amount : (64 - bits) % 64 ≡ 64 - bits
    amount = omega (arith, some, few)

    go : (signed : Bool) → shift_result (extend_down signed) (shift_result shift.Shl a (64 - bits)) (64 - bits) ≡ middle.extended bits signed a
    go false = ap (λ k. a * 2 ^ k % 2 ^ 64 / 2 ^ k) amount ∙ unsigned_is a bits (64 - bits) all
    go true = ap (λ k. shifted_by_sign (a * 2 ^ k % 2 ^ 64) k) amount ∙ extended_signed a bits (64 - bits) all some
