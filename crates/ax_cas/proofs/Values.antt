-- What the computation of a loop leaves has, in its low bits, the operation's result.
use Rattle.std.proofs.Common.{◌≡◌, ℕ, ◌+◌, ◌-◌, ◌*◌, ◌%◌, ◌^◌, ◌<◌, ◌≤◌, pos, Bool, true, false, List, [], ◌∷◌, mod-eq_of_lt, mod-lt, refl, sym, ap, ◌∙◌, subst, arith}
use Rattle.std.specs.Prelude.{◌≢◌, ◌-ℤ◌, if◌then◌else◌, int_lt, nat_eq, nat_le, nat_lt, bit_and, bit_or, bit_xor}
use Rattle.std.proofs.lemmas.Bool.{false≢true}
use Rattle.std.proofs.lemmas.Bool.Decides.{nat_tests}
use Rattle.std.proofs.lemmas.Int.{ints}
use Rattle.std.proofs.lemmas.Nat.{and_le_l, pow_pos}
use Rattle.ax_words.specs.declared.operation.RmwOp.{RmwOp}
use Rattle.ax_words.specs.declared.operation.RmwOp.TheVariants as rmw
use Rattle.ax_words.specs.declared.width.Width.{Width}
use Rattle.ax_words.specs.declared.width.Width.TheVariants.{W8, W16, W32, W64, W128}
use Rattle.ax_words.specs.Width.{bits_of, bytes_of}
use Rattle.ax_ops.specs.Operation.{result_of, signed}
use Rattle.ax_store.specs.Storage.{at_place}
use Rattle.ax_isa.specs.declared.effects.Rest.TheVariants.{Signs}
use Rattle.ax_isa.specs.Processor.{Processor}
use Rattle.ax_isa.specs.Steps.{extended, go_with}
use Rattle.ax_isa.proofs.Functions.{at_same, at_other}
use Rattle.ax_x86.specs.Instructions.{x86_kind}
use Rattle.ax_cas.specs.Loops.{combined, copied, is_signed}
use Rattle.ax_cas.specs.Rounds.{Reaches}
use Rattle.ax_cas.proofs.Running.{behind_all, reaches}
use Rattle.ax_cas.proofs.Widths.{Narrow, Results, low_of}

-- ---- a number that is extended by its sign
-- its low bits are the number's
low_again : (width : Width) (n : ℕ) → Narrow width → low_of true width n % 2 ^ bits_of width ≡ n % 2 ^ bits_of width
low_again W8 n f = go (nat_le (2 ^ 7) (n % 2 ^ 8))
  where
    go : (t : Bool) → (if t then n % 2 ^ 8 + (2 ^ 64 - 2 ^ 8) else n % 2 ^ 8) % 2 ^ 8 ≡ n % 2 ^ 8
    go true = omega arith
    go false = omega arith
low_again W16 n f = go (nat_le (2 ^ 15) (n % 2 ^ 16))
  where
    go : (t : Bool) → (if t then n % 2 ^ 16 + (2 ^ 64 - 2 ^ 16) else n % 2 ^ 16) % 2 ^ 16 ≡ n % 2 ^ 16
    go true = omega arith
    go false = omega arith
low_again W32 n f = go (nat_le (2 ^ 31) (n % 2 ^ 32))
  where
    go : (t : Bool) → (if t then n % 2 ^ 32 + (2 ^ 64 - 2 ^ 32) else n % 2 ^ 32) % 2 ^ 32 ≡ n % 2 ^ 32
    go true = omega arith
    go false = omega arith
low_again W64 n f = go (nat_le (2 ^ 63) (n % 2 ^ 64))
  where
    go : (t : Bool) → (if t then n % 2 ^ 64 + (2 ^ 64 - 2 ^ 64) else n % 2 ^ 64) % 2 ^ 64 ≡ n % 2 ^ 64
    go true = omega arith
    go false = omega arith
low_again W128 n f = absurd (false≢true (sym f.narrow))

-- and it is the number, in two's complement: of a half, with as much above it
sign_by : (t : Bool) (half all n : ℕ) → nat_le half n ≡ t → n < all → all ≡ half + half → 0 < half → all ≤ 2 ^ 64 → signed 64 (if t then n + (2 ^ 64 - all) else n) ≡ (if nat_lt n half then pos n else pos n -ℤ pos all)
sign_by true half all n high small twice some few =
    let a : nat_lt (n + (2 ^ 64 - all)) (2 ^ 63) ≡ false = (let h : half ≤ n = grind (arith, nat_tests, high) in let g : 2 ^ 63 ≤ n + (2 ^ 64 - all) = omega (arith, h, twice, few) in grind (arith, nat_tests, g)) in
    let b : nat_lt n half ≡ false = grind (arith, nat_tests, high) in
    ap (λ (u : Bool). if u then pos (n + (2 ^ 64 - all)) else pos (n + (2 ^ 64 - all)) -ℤ pos (2 ^ 64)) a ∙ omega (arith, ints, few) ∙ sym (ap (λ (u : Bool). if u then pos n else pos n -ℤ pos all) b)
sign_by false half all n high small twice some few =
    let a : nat_lt n (2 ^ 63) ≡ true = (let h : n < half = grind (arith, nat_tests, high) in let g : n < 2 ^ 63 = omega (arith, h, twice, few) in grind (arith, nat_tests, g)) in
    let b : nat_lt n half ≡ true = grind (arith, nat_tests, high) in
    ap (λ (u : Bool). if u then pos n else pos n -ℤ pos (2 ^ 64)) a ∙ sym (ap (λ (u : Bool). if u then pos n else pos n -ℤ pos all) b)

sign_of : (width : Width) (n : ℕ) → Narrow width → signed 64 (low_of true width n) ≡ signed (bits_of width) (n % 2 ^ bits_of width)
sign_of W8 n f = sign_by (nat_le (2 ^ 7) (n % 2 ^ 8)) (2 ^ 7) (2 ^ 8) (n % 2 ^ 8) refl (omega arith) refl (omega arith) (omega arith)
sign_of W16 n f = sign_by (nat_le (2 ^ 15) (n % 2 ^ 16)) (2 ^ 15) (2 ^ 16) (n % 2 ^ 16) refl (omega arith) refl (omega arith) (omega arith)
sign_of W32 n f = sign_by (nat_le (2 ^ 31) (n % 2 ^ 32)) (2 ^ 31) (2 ^ 32) (n % 2 ^ 32) refl (omega arith) refl (omega arith) (omega arith)
sign_of W64 n f = sign_by (nat_le (2 ^ 63) (n % 2 ^ 64)) (2 ^ 63) (2 ^ 64) (n % 2 ^ 64) refl (omega arith) refl (omega arith) (omega arith)
sign_of W128 n f = absurd (false≢true (sym f.narrow))

-- ---- what the computation leaves in r9, by the number found there and the operand in r8
abbrev pub combined_of : RmwOp → ℕ → ℕ → ℕ
combined_of rmw.Xchg found operand = operand
combined_of rmw.Add found operand = (found + operand) % 2 ^ 64
combined_of rmw.Sub found operand = (found + (2 ^ 64 - operand)) % 2 ^ 64
combined_of rmw.And found operand = bit_and found operand
combined_of rmw.Nand found operand = 2 ^ 64 - 1 - bit_and found operand
combined_of rmw.Or found operand = bit_or found operand
combined_of rmw.Xor found operand = bit_xor found operand
combined_of rmw.Max found operand = if int_lt (signed 64 found) (signed 64 operand) then operand else found
combined_of rmw.Min found operand = if int_lt (signed 64 operand) (signed 64 found) then operand else found
combined_of rmw.UMax found operand = if nat_lt found operand then operand else found
combined_of rmw.UMin found operand = if nat_lt operand found then operand else found

-- one instruction that sets r9, and two of them
set_one : (c : Processor) (v : ℕ) → Results 9 v c.regs (go_with 9 v c)
set_one c v = record { is = refl; others = λ q ne. at_other c.regs 9 v q ne }

pub combined_reaches : (o : RmwOp) (c : Processor) → Reaches x86_kind (combined o) c (Results 9 (combined_of o (c.regs 9) (c.regs 8)) c.regs)
combined_reaches rmw.Xchg c = reaches (combined rmw.Xchg) c _ refl (set_one c _)
combined_reaches rmw.Add c = reaches (combined rmw.Add) c _ refl (set_one c _)
combined_reaches rmw.Sub c = reaches (combined rmw.Sub) c _ refl (set_one c _)
combined_reaches rmw.And c = reaches (combined rmw.And) c _ refl (set_one c _)
combined_reaches rmw.Nand c = reaches (combined rmw.Nand) c _ refl (record { is = refl; others = λ q ne. at_other (at_place c.regs 9 (bit_and (c.regs 9) (c.regs 8))) 9 _ q ne ∙ at_other c.regs 9 (bit_and (c.regs 9) (c.regs 8)) q ne })
combined_reaches rmw.Or c = reaches (combined rmw.Or) c _ refl (set_one c _)
combined_reaches rmw.Xor c = reaches (combined rmw.Xor) c _ refl (set_one c _)
combined_reaches rmw.Max c = reaches (combined rmw.Max) c _ refl (record { is = refl; others = λ q ne. at_other c.regs 9 _ q ne })
combined_reaches rmw.Min c = reaches (combined rmw.Min) c _ refl (record { is = refl; others = λ q ne. at_other c.regs 9 _ q ne })
combined_reaches rmw.UMax c = reaches (combined rmw.UMax) c _ refl (record { is = refl; others = λ q ne. at_other c.regs 9 _ q ne })
combined_reaches rmw.UMin c = reaches (combined rmw.UMin) c _ refl (record { is = refl; others = λ q ne. at_other c.regs 9 _ q ne })

-- r9 gets the number that was found, as the comparison wants it
low_small : (width : Width) (n : ℕ) → n < 2 ^ bits_of width → n % 2 ^ bits_of width ≡ n
low_small width n h = mod-eq_of_lt h

signs_whole : (n : ℕ) → n < 2 ^ 64 → n ≡ low_of true W64 n
signs_whole n h = go (nat_le (2 ^ 63) (n % 2 ^ 64))
  where
    go : (t : Bool) → n ≡ (if t then n % 2 ^ 64 + (2 ^ 64 - 2 ^ 64) else n % 2 ^ 64)
    go true = omega (arith, h)
    go false = omega (arith, h)

pub copied_reaches : (signs : Bool) (width : Width) (n : ℕ) (c : Processor) (Q : Processor → Type 0) → Narrow width → n < 2 ^ bits_of width → c.regs 0 ≡ n → Q (go_with 9 (low_of signs width n) c) → Reaches x86_kind (copied signs width ∷ []) c Q
copied_reaches true W8 n c Q f small is h = reaches (copied true W8 ∷ []) c Q refl (subst (λ m. Q (go_with 9 (low_of true W8 m) c)) (sym is) h)
copied_reaches true W16 n c Q f small is h = reaches (copied true W16 ∷ []) c Q refl (subst (λ m. Q (go_with 9 (low_of true W16 m) c)) (sym is) h)
copied_reaches true W32 n c Q f small is h = reaches (copied true W32 ∷ []) c Q refl (subst (λ m. Q (go_with 9 (low_of true W32 m) c)) (sym is) h)
copied_reaches true W64 n c Q f small is h = reaches (copied true W64 ∷ []) c Q refl (subst (λ m. Q (go_with 9 m c)) (sym (is ∙ signs_whole n small)) h)
copied_reaches false W8 n c Q f small is h = reaches (copied false W8 ∷ []) c Q refl (subst (λ m. Q (go_with 9 m c)) (sym (is ∙ sym (low_small W8 n small))) h)
copied_reaches false W16 n c Q f small is h = reaches (copied false W16 ∷ []) c Q refl (subst (λ m. Q (go_with 9 m c)) (sym (is ∙ sym (low_small W16 n small))) h)
copied_reaches false W32 n c Q f small is h = reaches (copied false W32 ∷ []) c Q refl (subst (λ m. Q (go_with 9 m c)) (sym (is ∙ sym (low_small W32 n small))) h)
copied_reaches false W64 n c Q f small is h = reaches (copied false W64 ∷ []) c Q refl (subst (λ m. Q (go_with 9 m c)) (sym (is ∙ sym (low_small W64 n small))) h)
copied_reaches signs W128 n c Q f small is h = absurd (false≢true (sym f.narrow))

-- ---- its low bits
add_low : (width : Width) (a b : ℕ) → Narrow width → (a + b) % 2 ^ 64 % 2 ^ bits_of width ≡ (a + b) % 2 ^ bits_of width % 2 ^ bits_of width
add_low W8 a b f = (let e : (a + b) % 2 ^ 64 % 2 ^ 8 ≡ (a + b) % 2 ^ 8 % 2 ^ 8 = omega arith in e)
add_low W16 a b f = (let e : (a + b) % 2 ^ 64 % 2 ^ 16 ≡ (a + b) % 2 ^ 16 % 2 ^ 16 = omega arith in e)
add_low W32 a b f = (let e : (a + b) % 2 ^ 64 % 2 ^ 32 ≡ (a + b) % 2 ^ 32 % 2 ^ 32 = omega arith in e)
add_low W64 a b f = refl
add_low W128 a b f = absurd (false≢true (sym f.narrow))

sub_low : (width : Width) (a v : ℕ) → Narrow width → (let u = v % 2 ^ bits_of width in (a + (2 ^ 64 - u)) % 2 ^ 64 % 2 ^ bits_of width ≡ (a + (2 ^ bits_of width - u)) % 2 ^ bits_of width % 2 ^ bits_of width)
sub_low W8 a v f = (let e : (a + (2 ^ 64 - v % 2 ^ 8)) % 2 ^ 64 % 2 ^ 8 ≡ (a + (2 ^ 8 - v % 2 ^ 8)) % 2 ^ 8 % 2 ^ 8 = omega arith in e)
sub_low W16 a v f = (let e : (a + (2 ^ 64 - v % 2 ^ 16)) % 2 ^ 64 % 2 ^ 16 ≡ (a + (2 ^ 16 - v % 2 ^ 16)) % 2 ^ 16 % 2 ^ 16 = omega arith in e)
sub_low W32 a v f = (let e : (a + (2 ^ 64 - v % 2 ^ 32)) % 2 ^ 64 % 2 ^ 32 ≡ (a + (2 ^ 32 - v % 2 ^ 32)) % 2 ^ 32 % 2 ^ 32 = omega arith in e)
sub_low W64 a v f = refl
sub_low W128 a v f = absurd (false≢true (sym f.narrow))

nand_low : (width : Width) (x a : ℕ) → Narrow width → x ≤ a → a < 2 ^ bits_of width → (2 ^ 64 - 1 - x) % 2 ^ bits_of width ≡ (2 ^ bits_of width - 1 - x) % 2 ^ bits_of width
nand_low W8 x a f le small = (let h : a < 2 ^ 8 = small in let e : (2 ^ 64 - 1 - x) % 2 ^ 8 ≡ (2 ^ 8 - 1 - x) % 2 ^ 8 = omega (arith, le, h) in e)
nand_low W16 x a f le small = (let h : a < 2 ^ 16 = small in let e : (2 ^ 64 - 1 - x) % 2 ^ 16 ≡ (2 ^ 16 - 1 - x) % 2 ^ 16 = omega (arith, le, h) in e)
nand_low W32 x a f le small = (let h : a < 2 ^ 32 = small in let e : (2 ^ 64 - 1 - x) % 2 ^ 32 ≡ (2 ^ 32 - 1 - x) % 2 ^ 32 = omega (arith, le, h) in e)
nand_low W64 x a f le small = refl
nand_low W128 x a f le small = absurd (false≢true (sym f.narrow))

-- a choice by signs, of numbers that are extended by them
signed_choice : (width : Width) (f : Narrow width) (a v : ℕ) (less : Bool) → a < 2 ^ bits_of width → (if less then low_of true width v else low_of true width a) % 2 ^ bits_of width ≡ (if less then v % 2 ^ bits_of width else a) % 2 ^ bits_of width
signed_choice width f a v true small = low_again width v f ∙ sym (mod-eq_of_lt (mod-lt v (pow_pos (bits_of width))))
signed_choice width f a v false small = low_again width a f

pub combined_leaves : (o : RmwOp) (width : Width) (a v : ℕ) → Narrow width → a < 2 ^ bits_of width
    → combined_of o (low_of (is_signed o) width a) (low_of (is_signed o) width v) % 2 ^ bits_of width ≡ result_of (bits_of width) o a (v % 2 ^ bits_of width) % 2 ^ bits_of width
combined_leaves rmw.Xchg width a v f small = refl
combined_leaves rmw.Add width a v f small = ap (λ m. (m + v % 2 ^ bits_of width) % 2 ^ 64 % 2 ^ bits_of width) (low_small width a small) ∙ add_low width a (v % 2 ^ bits_of width) f
combined_leaves rmw.Sub width a v f small = ap (λ m. (m + (2 ^ 64 - v % 2 ^ bits_of width)) % 2 ^ 64 % 2 ^ bits_of width) (low_small width a small) ∙ sub_low width a v f
combined_leaves rmw.And width a v f small = ap (λ m. bit_and m (v % 2 ^ bits_of width) % 2 ^ bits_of width) (low_small width a small)
combined_leaves rmw.Nand width a v f small = ap (λ m. (2 ^ 64 - 1 - bit_and m (v % 2 ^ bits_of width)) % 2 ^ bits_of width) (low_small width a small) ∙ nand_low width (bit_and a (v % 2 ^ bits_of width)) a f (and_le_l a (v % 2 ^ bits_of width)) small
combined_leaves rmw.Or width a v f small = ap (λ m. bit_or m (v % 2 ^ bits_of width) % 2 ^ bits_of width) (low_small width a small)
combined_leaves rmw.Xor width a v f small = ap (λ m. bit_xor m (v % 2 ^ bits_of width) % 2 ^ bits_of width) (low_small width a small)
combined_leaves rmw.Max width a v f small =
    let A = sign_of width a f ∙ ap (signed (bits_of width)) (low_small width a small) in
    signed_choice width f a v _ small ∙ ap (λ i. (if int_lt i (signed 64 (low_of true width v)) then v % 2 ^ bits_of width else a) % 2 ^ bits_of width) A ∙ ap (λ i. (if int_lt (signed (bits_of width) a) i then v % 2 ^ bits_of width else a) % 2 ^ bits_of width) (sign_of width v f)
combined_leaves rmw.Min width a v f small =
    let A = sign_of width a f ∙ ap (signed (bits_of width)) (low_small width a small) in
    signed_choice width f a v _ small ∙ ap (λ i. (if int_lt (signed 64 (low_of true width v)) i then v % 2 ^ bits_of width else a) % 2 ^ bits_of width) A ∙ ap (λ i. (if int_lt i (signed (bits_of width) a) then v % 2 ^ bits_of width else a) % 2 ^ bits_of width) (sign_of width v f)
combined_leaves rmw.UMax width a v f small = ap (λ m. (if nat_lt m (v % 2 ^ bits_of width) then v % 2 ^ bits_of width else m) % 2 ^ bits_of width) (low_small width a small)
combined_leaves rmw.UMin width a v f small = ap (λ m. (if nat_lt (v % 2 ^ bits_of width) m then v % 2 ^ bits_of width else m) % 2 ^ bits_of width) (low_small width a small)
