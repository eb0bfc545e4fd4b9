-- Numbers of 1, 2, 4 and 8 bytes in registers: their low bits, and what instructions leave above them.
use Rattle.std.proofs.Common.{◌≡◌, ℕ, ◌+◌, ◌-◌, ◌*◌, ◌/◌, ◌%◌, ◌^◌, ◌<◌, ◌≤◌, Bool, true, false, List, [], ◌∷◌, ◌++◌, refl, sym, ap, ◌∙◌, subst, arith}
use Rattle.std.specs.Prelude.{◌≢◌, if◌then◌else◌, nat_eq, nat_le}
use Rattle.std.proofs.Math.Nat.{pow-le-pow_right}
use Rattle.std.proofs.lemmas.Bool.{false≢true}
use Rattle.ax_words.specs.declared.operation.RmwOp.{RmwOp}
use Rattle.ax_words.specs.declared.width.Width.{Width}
use Rattle.ax_words.specs.declared.width.Width.TheVariants.{W8, W16, W32, W64, W128}
use Rattle.ax_words.specs.Width.{bits_of, bytes_of}
use Rattle.ax_store.specs.Bytes.{IsWidth}
use Rattle.ax_store.specs.Storage.{at_place}
use Rattle.ax_isa.specs.declared.effects.Change.TheVariants.{Update}
use Rattle.ax_isa.specs.declared.effects.Rest.TheVariants.{Signs}
use Rattle.ax_isa.specs.Processor.{Processor}
use Rattle.ax_isa.specs.declared.effects.Rest.{Rest}
use Rattle.ax_isa.specs.Steps.{Kind, exchanged, extended, go_with, pair_of, taken, unequal}
use Rattle.ax_isa.proofs.Functions.{at_same, at_other}
use Rattle.ax_mid.specs.Machine.{is_wide}
use Rattle.ax_x86.specs.declared.instructions.X86Instr.{X86Instr}
use Rattle.ax_x86.specs.Instructions.{rest_of, x86_kind}
use Rattle.ax_x86.specs.Sizes.{size_bytes}
use Rattle.ax_expand.proofs.Straight.{goes_append}
use Rattle.ax_emit_x86.specs.Code.{size_of_bytes}
use Rattle.ax_loops.specs.Moving.{nowhere}
use Rattle.ax_cas.specs.Codes.{widened}
use Rattle.ax_cas.specs.Loops.{low_bits}
use Rattle.ax_cas.specs.Rounds.{Reaches}
use Rattle.ax_cas.proofs.Running.{reaches}

-- what is used of such a width
pub record Narrow (width : Width) : Type 0 where
  pub narrow : is_wide width ≡ false
  pub some : 1 ≤ bytes_of width
  pub is_width : IsWidth (bytes_of width)
  pub sized : size_bytes (size_of_bytes (bytes_of width)) ≡ bytes_of width
  pub one_register : nat_eq (bytes_of width) 16 ≡ false
  pub room : 2 ^ bits_of width ≤ 2 ^ 64

room_of : (bits : ℕ) → bits ≤ 64 → 2 ^ bits ≤ 2 ^ 64
room_of bits h = pow-le-pow_right {n = 2} (omega arith) {i = bits} {j = 64} h

pub narrow_width : (width : Width) → is_wide width ≡ false → Narrow width
narrow_width W8 e = record { narrow = refl; some = omega arith; is_width = refl; sized = refl; one_register = refl; room = room_of 8 (omega arith) }
narrow_width W16 e = record { narrow = refl; some = omega arith; is_width = refl; sized = refl; one_register = refl; room = room_of 16 (omega arith) }
narrow_width W32 e = record { narrow = refl; some = omega arith; is_width = refl; sized = refl; one_register = refl; room = room_of 32 (omega arith) }
narrow_width W64 e = record { narrow = refl; some = omega arith; is_width = refl; sized = refl; one_register = refl; room = room_of 64 (omega arith) }
narrow_width W128 e = absurd (false≢true (sym e))

-- such a number fits a register
pub fits_register : (width : Width) (n : ℕ) → Narrow width → n < 2 ^ bits_of width → n % 2 ^ 64 ≡ n
fits_register width n f small = (let room = f.room in let h : n < 2 ^ 64 = omega (arith, room, small) in omega (arith, h))

-- one piece of straight code behind another
pub reaches_then : {I : Type 0} (k : Kind I) (is js : List I) (c : Processor) (Q R : Processor → Type 0) → Reaches k is c Q → ((b : Processor) → Q b → Reaches k js b R) → Reaches k (is ++ js) c R
reaches_then k is js c Q R a next =
    (let b = next a.last a.known in
    record { last = b.last; goes = λ f. goes_append k nowhere is js (record { cpu = c; frame = f }) (record { cpu = a.last; frame = f }) (record { cpu = b.last; frame = f }) (a.goes f) (b.goes f); known = b.known })

-- ---- the low bits
abbrev pub low_of : Bool → Width → ℕ → ℕ
low_of false width n = n % 2 ^ bits_of width
low_of true width n = extended (bytes_of width) Signs 0 (n % 2 ^ bits_of width)

whole : (n : ℕ) → n * 2 ^ (0 % 64) % 2 ^ 64 ≡ n % 2 ^ 64
whole n = ap (λ m. m % 2 ^ 64) (let e : n * 1 ≡ n = omega arith in e)

whole_signed : (n : ℕ) → n ≡ (if nat_le (2 ^ 63) n then n + 0 else n)
whole_signed n = go (nat_le (2 ^ 63) n)
  where
    go : (t : Bool) → n ≡ (if t then n + 0 else n)
    go true = omega arith
    go false = refl

-- a register keeps them, extended
pub low_reaches : (signed : Bool) (width : Width) (r : ℕ) (c : Processor) (Q : Processor → Type 0) → Narrow width → Q (go_with r (low_of signed width (c.regs r)) c) → Reaches x86_kind (low_bits signed width r ∷ []) c Q
low_reaches false W8 r c Q f h = reaches (low_bits false W8 r ∷ []) c Q refl h
low_reaches false W16 r c Q f h = reaches (low_bits false W16 r ∷ []) c Q refl h
low_reaches false W32 r c Q f h = reaches (low_bits false W32 r ∷ []) c Q refl h
low_reaches false W64 r c Q f h = reaches (low_bits false W64 r ∷ []) c Q refl (subst (λ n. Q (go_with r n c)) (sym (whole (c.regs r))) h)
low_reaches true W8 r c Q f h = reaches (low_bits true W8 r ∷ []) c Q refl h
low_reaches true W16 r c Q f h = reaches (low_bits true W16 r ∷ []) c Q refl h
low_reaches true W32 r c Q f h = reaches (low_bits true W32 r ∷ []) c Q refl h
low_reaches true W64 r c Q f h = reaches (low_bits true W64 r ∷ []) c Q refl (subst (λ n. Q (go_with r n c)) (sym (whole (c.regs r) ∙ whole_signed (c.regs r % 2 ^ 64))) h)
low_reaches signed W128 r c Q f h = absurd (false≢true (sym f.narrow))

-- ---- what a locked instruction leaves of its register, and code that widens that
-- a register has a result, and all others what they had
pub record Results (r number : ℕ) (before : ℕ → ℕ) (c : Processor) : Type 0 where
  pub is : c.regs r ≡ number
  pub others : (q : ℕ) → q ≢ r → c.regs q ≡ before q

set_twice : (f : ℕ → ℕ) (v u : ℕ) (q : ℕ) → q ≢ 0 → at_place (at_place f 0 v) 0 u q ≡ f q
set_twice f v u q ne = at_other (at_place f 0 v) 0 u q ne ∙ at_other f 0 v q ne

byte_wide : (n b : ℕ) → n < 2 ^ 8 → (b - b % 2 ^ 8 + n) % 2 ^ 8 ≡ n
byte_wide n b h = (let q : (b - b % 2 ^ 8 + n) % 2 ^ 8 ≡ n = omega (arith, h) in q)

word_wide : (n b : ℕ) → n < 2 ^ 16 → (b - b % 2 ^ 16 + n) % 2 ^ 16 ≡ n
word_wide n b h = (let q : (b - b % 2 ^ 16 + n) % 2 ^ 16 ≡ n = omega (arith, h) in q)

pub widens : (width : Width) (o : RmwOp) (v number : ℕ) (b : Processor) → Narrow width → number < 2 ^ bits_of width
    → Reaches x86_kind (widened width) (exchanged (bytes_of width) 0 0 (rest_of (size_of_bytes (bytes_of width))) (Update o v) number b) (λ c. Results 0 number b.regs c)
widens W8 o v number b f small = reaches (widened W8) _ _ refl (record { is = byte_wide number (b.regs 0) small; others = λ q ne. set_twice b.regs _ _ q ne })
widens W16 o v number b f small = reaches (widened W16) _ _ refl (record { is = word_wide number (b.regs 0) small; others = λ q ne. set_twice b.regs _ _ q ne })
widens W32 o v number b f small = reaches (widened W32) _ _ refl (record { is = refl; others = λ q ne. at_other b.regs 0 number q ne })
widens W64 o v number b f small = reaches (widened W64) _ _ refl (record { is = refl; others = λ q ne. at_other b.regs 0 number q ne })
widens W128 o v number b f small = absurd (false≢true (sym f.narrow))

-- the result stands in its low bits
pub low_extended : (width : Width) (b number : ℕ) → Narrow width → number < 2 ^ bits_of width → extended (bytes_of width) (rest_of (size_of_bytes (bytes_of width))) b number % 2 ^ bits_of width ≡ number
low_extended W8 b number f small = byte_wide number b small
low_extended W16 b number f small = word_wide number b small
low_extended W32 b number f small = (let h : number < 2 ^ 32 = small in let q : number % 2 ^ 32 ≡ number = omega (arith, h) in q)
low_extended W64 b number f small = (let h : number < 2 ^ 64 = small in let q : number % 2 ^ 64 ≡ number = omega (arith, h) in q)
low_extended W128 b number f small = absurd (false≢true (sym f.narrow))

-- a number that is not of 16 bytes goes to one register, and the numbers compared are kept
pub taken_one : (width : Width) (to high : ℕ) (rest : Rest) (n : ℕ) (regs : ℕ → ℕ) → Narrow width → taken (bytes_of width) to high rest n regs ≡ at_place regs to (extended (bytes_of width) rest (regs to) n)
taken_one width to high rest n regs f = ap (λ (b : Bool). if b then at_place (at_place regs to (n % 2 ^ 64)) high (n / 2 ^ 64) else at_place regs to (extended (bytes_of width) rest (regs to) n)) f.one_register

pub pair_one : (width : Width) (expected old : ℕ) → Narrow width → pair_of (bytes_of width) expected old ≡ (expected, old)
pair_one width expected old f = ap (λ (b : Bool). if b then (0, unequal (nat_eq old expected)) else (expected, old)) f.one_register
