-- An object in the word that holds it: its number is a field of the word's, and to write the merged word is to write the object.
use Rattle.std.proofs.Common.{◌≡◌, ℕ, zero, suc, ◌+◌, ◌-◌, ◌*◌, ◌/◌, ◌%◌, ◌^◌, ◌<◌, ◌≤◌, Bool, true, false, sym, ap, ◌∙◌, inl, inr, ⊎_elim, arith}
use Rattle.std.specs.Prelude.{◌⊎◌, if◌then◌else◌, nat_eq, nat_le, bit_and, bit_xor}
use Rattle.std.proofs.lemmas.Bool.{cases_eq, eq-eqb, ne_eqb}
use Rattle.std.proofs.lemmas.Bool.Decides.{nat_tests}
use Rattle.std.specs.Int.Bits.{xor_self, xor_zero_r}
use Rattle.std.proofs.lemmas.Nat.{div-mul-add, pow_pos, pow-add, shl-shr, shr-shr}
use Rattle.std.proofs.lemmas.Nat.Bits.{and_high}
use Rattle.std.proofs.Math.Nat.{add-mul}
use Rattle.ax_store.specs.Bytes.{all_inside, byte_of, cut, number_at, put, written}
use Rattle.ax_store.proofs.Calls.{inside_at, inside_all, put_written}
use Rattle.ax_store.proofs.Numbers.{spelled}
use Rattle.ax_isa.specs.declared.effects.Rest.TheVariants.{Signs}
use Rattle.ax_isa.specs.Steps.{extended}
use Rattle.ax_mask.proofs.Fields.{field, field_cut, field_xor, field_placed, mask_above, mask_below, mask_inside, merged, merged_inside, merged_outside, xor_twice}

-- ones at the n bytes from byte o on
abbrev pub mask_at : ℕ → ℕ → ℕ
mask_at n o = (2 ^ (8 * n) - 1) * 2 ^ (8 * o)

-- ---- bytes of numbers
byte_below : (v k i : ℕ) → i < k → byte_of (v % 2 ^ (8 * k)) i ≡ byte_of v i
byte_below v k i h =
    let e : 8 * k ≡ 8 + (8 * i + 8 * (k - (i + 1))) = omega arith in
    ap (λ y. byte_of (v % 2 ^ y) i) e ∙ field_cut v 8 (8 * i) (8 * (k - (i + 1)))

-- the bytes of memory, out of the number that they spell
pub byte_of_number : (f : ℕ → ℕ) → ((b : ℕ) → f b < 2 ^ 8) → (a n i : ℕ) → i < n → byte_of (number_at f a n) i ≡ f (a + i)
byte_of_number f bytes a zero i h = absurd (omega (arith, h))
byte_of_number f bytes a (suc n) zero h =
    let small : f a < 2 ^ 8 = bytes a in
    let e : f a ≡ f (a + 0) = (let g : a ≡ a + 0 = omega arith in ap f g) in
    let whole : (f a + 2 ^ 8 * number_at f (a + 1) n) / 1 % 2 ^ 8 ≡ f a = omega (arith, small) in
    whole ∙ e
byte_of_number f bytes a (suc n) (suc i) h =
    let small : f a < 2 ^ 8 = bytes a in
    let rest = number_at f (a + 1) n in
    let up : 8 * suc i ≡ 8 + 8 * i = omega arith in
    let turn : f a + 2 ^ 8 * rest ≡ rest * 2 ^ 8 + f a = omega arith in
    let next : a + 1 + i ≡ a + suc i = omega arith in
    ap (λ y. (f a + 2 ^ 8 * rest) / 2 ^ y % 2 ^ 8) up
    ∙ ap (λ y. y % 2 ^ 8) (sym (shr-shr (f a + 2 ^ 8 * rest) 8 (8 * i)))
    ∙ ap (λ y. y / 2 ^ (8 * i) % 2 ^ 8) (ap (λ y. y / 2 ^ 8) turn ∙ div-mul-add rest (2 ^ 8) (f a) small)
    ∙ byte_of_number f bytes (a + 1) n i (omega (arith, h)) ∙ ap f next

byte_of_field : (x o n i : ℕ) → i < n → byte_of (field (8 * n) (8 * o) x) i ≡ byte_of x (o + i)
byte_of_field x o n i h =
    let b : 8 * o + 8 * i ≡ 8 * (o + i) = omega arith in
    byte_below (x / 2 ^ (8 * o)) n i h ∙ ap (λ y. y % 2 ^ 8) (shr-shr x (8 * o) (8 * i)) ∙ ap (λ y. x / 2 ^ y % 2 ^ 8) b

-- ---- a word, linked and extended by its sign
pub linked_low : (w : ℕ) → w < 2 ^ 32 → extended 4 Signs 0 w % 2 ^ 32 ≡ w
linked_low w h = go (nat_le (2 ^ 31) w)
  where
    go : (t : Bool) → (if t then w + (2 ^ 64 - 2 ^ 32) else w) % 2 ^ 32 ≡ w
    go true = omega (arith, h)
    go false = omega (arith, h)

pub linked_small : (w : ℕ) → w < 2 ^ 32 → extended 4 Signs 0 w < 2 ^ 64
linked_small w h = go (nat_le (2 ^ 31) w)
  where
    go : (t : Bool) → (if t then w + (2 ^ 64 - 2 ^ 32) else w) < 2 ^ 64
    go true = omega (arith, h)
    go false = omega (arith, h)

-- the register's field is that of the word
pub word_field : (r o n : ℕ) → o + n ≤ 4 → field (8 * n) (8 * o) r ≡ field (8 * n) (8 * o) (r % 2 ^ 32)
word_field r o n h =
    let a : 32 ≡ 8 * n + (8 * o + 8 * (4 - (o + n))) = omega (arith, h) in
    sym (ap (λ y. field (8 * n) (8 * o) (r % 2 ^ y)) a ∙ field_cut r (8 * n) (8 * o) (8 * (4 - (o + n))))

-- ---- in memory
module _ (mem : ℕ → ℕ) (bytes : (b : ℕ) → mem b < 2 ^ 8) (a o n : ℕ) (fits : o + n ≤ 4) where
  abbrev word : ℕ
  word = number_at mem a 4

  -- THE OBJECT'S NUMBER is a field of the word's
  pub object_field : number_at mem (a + o) n ≡ field (8 * n) (8 * o) word
  object_field = spelled mem (a + o) word o n (λ i h. (let e : a + o + i ≡ a + (o + i) = omega arith in ap mem e) ∙ sym (byte_of_number mem bytes a 4 (o + i) (omega (arith, h, fits))))

  -- and where the linked word has that field of x, memory holds x's number and all else that it held
  module _ (r x v : ℕ) (linked : r % 2 ^ 32 ≡ word) (field_is : field (8 * n) (8 * o) x ≡ v) where
    abbrev new : ℕ
    new = merged r x (mask_at n o)

    inside_is : (i : ℕ) → i < n → byte_of new (o + i) ≡ byte_of v i
    inside_is i h = merged_inside r x (mask_at n o) (o + i) (mask_inside o n i h) ∙ sym (byte_of_field x o n i h) ∙ ap (λ y. byte_of y i) field_is

    beside_is : (j : ℕ) → j < 4 → (j < o) ⊎ (o + n ≤ j) → byte_of new j ≡ mem (a + j)
    beside_is j h out =
        ⊎_elim (λ g. merged_outside r x (mask_at n o) j (mask_below (2 ^ (8 * n) - 1) o j g)) (λ g. merged_outside r x (mask_at n o) j (mask_above (2 ^ (8 * n) - 1) o n j (let p = pow_pos (8 * n) in omega (arith, p)) g)) out
        ∙ sym (byte_below r 4 j h) ∙ ap (λ y. byte_of y j) linked ∙ byte_of_number mem bytes a 4 j h

    pub word_written : written mem a 4 (new % 2 ^ 32) ≡ written mem (a + o) n (v % 2 ^ (8 * n))
    word_written = λ d b. at b d
      where
        here : (b : ℕ) → a + o ≤ b → b < a + o + n → byte_of (new % 2 ^ 32) (b - a) ≡ byte_of (v % 2 ^ (8 * n)) (b - (a + o))
        here b h g =
            let e : b - a ≡ o + (b - (a + o)) = omega (arith, h) in
            byte_below new 4 (b - a) (omega (arith, h, g, fits)) ∙ ap (byte_of new) e ∙ inside_is (b - (a + o)) (omega (arith, h, g)) ∙ sym (byte_below v n (b - (a + o)) (omega (arith, h, g)))

        beside : (b : ℕ) → a ≤ b → b < a + 4 → (b < a + o) ⊎ (a + o + n ≤ b) → byte_of (new % 2 ^ 32) (b - a) ≡ mem b
        beside b h g out =
            let e : a + (b - a) ≡ b = omega (arith, h) in
            byte_below new 4 (b - a) (omega (arith, h, g)) ∙ beside_is (b - a) (omega (arith, h, g)) (⊎_elim (λ x. inl (omega (arith, h, x))) (λ x. inr (omega (arith, h, x))) out) ∙ ap mem e

        at : (b : ℕ) → written mem a 4 (new % 2 ^ 32) b ≡ written mem (a + o) n (v % 2 ^ (8 * n)) b
        at b = grind (arith, nat_tests, here, beside, fits)

    -- TO WRITE THE MERGED WORD is to write the object
    pub word_put : (inside : ℕ → Bool) → all_inside inside a 4 ≡ true → put inside a 4 (cut 4 new) mem ≡ put inside (a + o) n (cut n v) mem
    word_put inside h =
        let within : all_inside inside (a + o) n ≡ true = inside_all inside (a + o) n (λ i g. (let e : a + o + i ≡ a + (o + i) = omega arith in ap inside e) ∙ inside_at inside a 4 (o + i) h (omega (arith, g, fits))) in
        put_written inside a 4 (cut 4 new) mem h ∙ word_written ∙ sym (put_written inside (a + o) n (cut n v) mem within)

-- ---- tests of a field
pub masked_field : (x n o : ℕ) → bit_and x (mask_at n o) ≡ field (8 * n) (8 * o) x * 2 ^ (8 * o)
masked_field x n o =
    let p : 2 ^ (8 * n + 8 * o) ≡ 2 ^ (8 * n) * 2 ^ (8 * o) = pow-add 2 (8 * n) (8 * o) in
    let h : 0 < 2 ^ (8 * n) = pow_pos (8 * n) in
    let c = 2 ^ (8 * n) - 1 in
    let e : 2 ^ (8 * n) ≡ c + 1 = omega (arith, h) in
    let q : 2 ^ (8 * n) * 2 ^ (8 * o) ≡ c * 2 ^ (8 * o) + 1 * 2 ^ (8 * o) = ap (λ y. y * 2 ^ (8 * o)) e ∙ add-mul c 1 (2 ^ (8 * o)) in
    let m : mask_at n o ≡ 2 ^ (8 * n + 8 * o) - 2 ^ (8 * o) = omega (arith, p, q) in
    ap (bit_and x) m ∙ and_high x (8 * n) (8 * o)

scaled_same : (a b s : ℕ) → nat_eq (a * 2 ^ s) (b * 2 ^ s) ≡ nat_eq a b
scaled_same a b s =
    ⊎_elim (λ e. eq-eqb (a * 2 ^ s) (b * 2 ^ s) (ap (λ y. y * 2 ^ s) e) ∙ sym (eq-eqb a b e)) (λ ne. ne_eqb (a * 2 ^ s) (b * 2 ^ s) (λ z. ne (sym (shl-shr a s) ∙ ap (λ y. y / 2 ^ s) z ∙ shl-shr b s)) ∙ sym (ne_eqb a b ne)) (cases_eq a b)

same_bits : (a b : ℕ) → nat_eq (bit_xor a b) 0 ≡ nat_eq a b
same_bits a b =
    ⊎_elim (λ e. eq-eqb (bit_xor a b) 0 (ap (bit_xor a) (sym e) ∙ xor_self a) ∙ sym (eq-eqb a b e)) (λ ne. ne_eqb (bit_xor a b) 0 (λ z. ne (sym (xor_zero_r a) ∙ sym (ap (bit_xor a) z) ∙ xor_twice a b)) ∙ sym (ne_eqb a b ne)) (cases_eq a b)

-- what the code tests against 0, and what the tag of the linked load compares: both tell whether the object is the expected number
pub masked_test : (r v n o : ℕ) → v < 2 ^ (8 * n) → nat_eq (bit_and (bit_xor r (v * 2 ^ (8 * o))) (mask_at n o)) 0 ≡ nat_eq (field (8 * n) (8 * o) r) v
masked_test r v n o h =
    let none : 0 * 2 ^ (8 * o) ≡ 0 = omega arith in
    ap (λ y. nat_eq y 0) (masked_field (bit_xor r (v * 2 ^ (8 * o))) n o)
    ∙ ap (nat_eq (field (8 * n) (8 * o) (bit_xor r (v * 2 ^ (8 * o))) * 2 ^ (8 * o))) (sym none)
    ∙ scaled_same (field (8 * n) (8 * o) (bit_xor r (v * 2 ^ (8 * o)))) 0 (8 * o)
    ∙ ap (λ y. nat_eq y 0) (field_xor r (v * 2 ^ (8 * o)) (8 * n) (8 * o) ∙ ap (bit_xor (field (8 * n) (8 * o) r)) (field_placed v (8 * n) (8 * o) h))
    ∙ same_bits (field (8 * n) (8 * o) r) v

pub linked_test : (w v n o : ℕ) → v < 2 ^ (8 * n) → nat_eq (bit_and w (mask_at n o)) (bit_and (v * 2 ^ (8 * o)) (mask_at n o)) ≡ nat_eq (field (8 * n) (8 * o) w) v
linked_test w v n o h =
    ap (λ y. nat_eq y (bit_and (v * 2 ^ (8 * o)) (mask_at n o))) (masked_field w n o)
    ∙ ap (nat_eq (field (8 * n) (8 * o) w * 2 ^ (8 * o))) (masked_field (v * 2 ^ (8 * o)) n o ∙ ap (λ y. y * 2 ^ (8 * o)) (field_placed v (8 * n) (8 * o) h))
    ∙ scaled_same (field (8 * n) (8 * o) w) v (8 * o)
