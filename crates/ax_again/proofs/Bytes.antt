-- Numbers and names are tokens of their kinds.
use Rattle.std.proofs.Common.{◌≡◌, ℕ, zero, suc, ◌+◌, ◌/◌, ◌%◌, ◌<◌, ◌≤◌, Bool, true, false, cond, List, [], ◌∷◌, ◌++◌, ℤ, pos, negsuc, refl, sym, subst, inl, inr, arith, decimal}
use Rattle.std.specs.Prelude.{◌&&◌, ◌||◌, ◌==◌, nat_le, codes, if◌then◌else◌}
use Rattle.std.specs.List.{list_all}
use Rattle.std.specs.Fmt.{digits, digits_onto, digit_glyph, signed_decimal}
use Rattle.std.proofs.lemmas.Bool.{and_parts, and_from, and_left, or_left, or_right, or_from, or_cases, cond_both, lt-ltb, le-leb, lt-leb, leb-true, ne_eqb}
use Rattle.ax_lex.specs.declared.bytes.Start.{Start}
use Rattle.ax_lex.specs.declared.bytes.Start.TheVariants as start
use Rattle.ax_lex.specs.Bytes.{is_letter, is_digit, is_name_byte, is_literal_byte, start_of}
use Rattle.ax_lex.specs.Tokens.{some_all, is_quoted, is_name, is_number, goes_on, is_token}
use Rattle.ax_lex.proofs.Written.{closed_from}
use Rattle.ax_module.specs.Names as names
use Rattle.ax_module.specs.Names.{is_printable, is_plain, global_token}
use Rattle.ax_again.specs.Pieces.{kind_from, kind_of}
use Rattle.ax_again.proofs.Fit.{IsFit}

every_one : (p q : ℕ → Bool) → ((b : ℕ) → p b ≡ true → q b ≡ true) → (bs : List ℕ) → list_all p bs ≡ true → list_all q bs ≡ true
every_one p q f [] h = refl
every_one p q f (b ∷ bs) h =
    let a = and_parts (p b) (list_all p bs) h in
    and_from (q b) (list_all q bs) (f b a.0) (every_one p q f bs a.1)

some_every : (p : ℕ → Bool) (bs : List ℕ) → some_all p bs ≡ true → list_all p bs ≡ true
some_every p [] h = refl
some_every p (b ∷ bs) h = h

-- ---- digits

low_digit : (d : ℕ) → d < 10 → is_digit (48 + d) ≡ true
low_digit d h = and_from (nat_le 48 (48 + d)) (nat_le (48 + d) 57) (le-leb 48 (48 + d) (omega (arith, h))) (le-leb (48 + d) 57 (omega (arith, h)))

glyph : (d : ℕ) → d < 10 → is_digit (digit_glyph false d) ≡ true
glyph d h = rw (lt-ltb d 10 h) (low_digit d h)

last_glyph : (n : ℕ) → is_digit (digit_glyph false (n % 10)) ≡ true
last_glyph n = let h : n % 10 < 10 = omega arith in glyph (n % 10) h

more_digits : (k n : ℕ) (acc : List ℕ) → some_all is_digit acc ≡ true → some_all is_digit (digits_onto k 10 false n acc) ≡ true
more_digits zero n acc h = h
more_digits (suc k) n acc h =
    let c : some_all is_digit (digit_glyph false (n % 10) ∷ acc) ≡ true = and_from (is_digit (digit_glyph false (n % 10))) (list_all is_digit acc) (last_glyph n) (some_every is_digit acc h) in
    cond_both (n / 10 == 0) (digit_glyph false (n % 10) ∷ acc) (digits_onto k 10 false (n / 10) (digit_glyph false (n % 10) ∷ acc)) (λ x. some_all is_digit x ≡ true) (λ e. c) (λ e. more_digits k (n / 10) (digit_glyph false (n % 10) ∷ acc) c)

first_digits : (k n : ℕ) → some_all is_digit (digits_onto (suc k) 10 false n []) ≡ true
first_digits k n =
    let c : some_all is_digit (digit_glyph false (n % 10) ∷ []) ≡ true = and_from (is_digit (digit_glyph false (n % 10))) true (last_glyph n) refl in
    cond_both (n / 10 == 0) (digit_glyph false (n % 10) ∷ []) (digits_onto k 10 false (n / 10) (digit_glyph false (n % 10) ∷ [])) (λ x. some_all is_digit x ≡ true) (λ e. c) (λ e. more_digits k (n / 10) (digit_glyph false (n % 10) ∷ []) c)

pub decimal_digits : (n : ℕ) → some_all is_digit (decimal n) ≡ true
unfolding digits
decimal_digits n = first_digits 63 n

-- ---- what a digit is

no_letter : (b : ℕ) → is_digit b ≡ true → is_letter b ≡ false
no_letter b h =
    let u : b ≤ 57 = leb-true b 57 (and_parts (nat_le 48 b) (nat_le b 57) h).1 in
    or_from ((nat_le 65 b && nat_le b 90) || (nat_le 97 b && nat_le b 122)) (b == 95)
    (or_from (nat_le 65 b && nat_le b 90) (nat_le 97 b && nat_le b 122)
    (and_left (nat_le 65 b) (nat_le b 90) (lt-leb 65 b (omega (arith, u))))
    (and_left (nat_le 97 b) (nat_le b 122) (lt-leb 97 b (omega (arith, u)))))
    (ne_eqb b 95 (λ e. omega (arith, u, e)))

digit_first : (letter digit : Bool) (rest : Start) → letter ≡ false → digit ≡ true → cond letter start.Letter (cond digit start.Digit rest) ≡ start.Digit
digit_first true digit rest l d = absurd cc
digit_first false true rest l d = refl
digit_first false false rest l d = absurd cc

pub digit_starts : (b : ℕ) → is_digit b ≡ true → start_of b ≡ start.Digit
digit_starts b h = digit_first (is_letter b) (is_digit b) _ (no_letter b h) h

digit_literal : (b : ℕ) → is_digit b ≡ true → is_literal_byte b ≡ true
digit_literal b h =
    or_left (((is_letter b || is_digit b) || b == 46) || b == 43) (b == 45)
    (or_left ((is_letter b || is_digit b) || b == 46) (b == 43)
    (or_left (is_letter b || is_digit b) (b == 46) (or_right (is_letter b) (is_digit b) h)))

digit_name : (b : ℕ) → is_digit b ≡ true → is_name_byte b ≡ true
digit_name b h =
    or_left (((is_letter b || is_digit b) || b == 46) || b == 45) (b == 36)
    (or_left ((is_letter b || is_digit b) || b == 46) (b == 45)
    (or_left (is_letter b || is_digit b) (b == 46) (or_right (is_letter b) (is_digit b) h)))

name_digits : (ds : List ℕ) → some_all is_digit ds ≡ true → list_all is_name_byte ds ≡ true
name_digits ds h = every_one is_digit is_name_byte digit_name ds (some_every is_digit ds h)

-- ---- numbers

number_fit : (ds : List ℕ) → some_all is_digit ds ≡ true → is_token (kind_of ds) ds ≡ true
number_fit [] h = absurd cc
number_fit (b ∷ bs) h =
    let a = and_parts (is_digit b) (list_all is_digit bs) h in
    subst (λ s. goes_on (kind_from s) s bs ≡ true) (sym (digit_starts b a.0)) (every_one is_digit is_literal_byte digit_literal bs a.1)

negative_fit : (ds : List ℕ) → some_all is_digit ds ≡ true → is_number ds ≡ true
negative_fit [] h = absurd cc
negative_fit (b ∷ bs) h =
    let a = and_parts (is_digit b) (list_all is_digit bs) h in
    and_from (is_digit b) (list_all is_literal_byte bs) a.0 (every_one is_digit is_literal_byte digit_literal bs a.1)

pub decimal_fit : (n : ℕ) → IsFit (decimal n)
decimal_fit n = record { fit = number_fit (decimal n) (decimal_digits n) }

pub signed_fit : (z : ℤ) → IsFit (signed_decimal z)
signed_fit (pos n) = decimal_fit n
signed_fit (negsuc n) = record { fit = negative_fit (decimal (suc n)) (decimal_digits (suc n)) }

-- ---- numbers behind letters

pub width_fit : (n : ℕ) → IsFit (codes "i" ++ decimal n)
width_fit n = record { fit = name_digits (decimal n) (decimal_digits n) }

pub label_fit : (n : ℕ) → IsFit (codes "b" ++ decimal n)
label_fit n = record { fit = name_digits (decimal n) (decimal_digits n) }

local_fit : (c : ℕ) (ds : List ℕ) → is_name_byte c ≡ true → some_all is_digit ds ≡ true → is_name (c ∷ ds) ≡ true
local_fit c ds n h = or_left (some_all is_name_byte (c ∷ ds)) (is_quoted (c ∷ ds)) (and_from (is_name_byte c) (list_all is_name_byte ds) n (name_digits ds h))

pub value_fit : (n : ℕ) → IsFit (codes "%v" ++ decimal n)
value_fit n = record { fit = local_fit 118 (decimal n) refl (decimal_digits n) }

pub param_fit : (n : ℕ) → IsFit (codes "%p" ++ decimal n)
param_fit n = record { fit = local_fit 112 (decimal n) refl (decimal_digits n) }

pub block_fit : (n : ℕ) → IsFit (codes "%b" ++ decimal n)
block_fit n = record { fit = local_fit 98 (decimal n) refl (decimal_digits n) }

-- ---- names

-- letters (small and great), digits, _ . - $
name_tests : (d u l a p m s : Bool) → ((((d || u) || l) || (a || p)) || (m || s)) ≡ true → ((((((u || l) || a) || d) || p) || m) || s) ≡ true
name_tests d u l a p m s h =
    elim (or_cases (((d || u) || l) || (a || p)) (m || s) h) [
      | inl e ↦ elim (or_cases ((d || u) || l) (a || p) e) [
        | inl f ↦ elim (or_cases (d || u) l f) [
          | inl g ↦ elim (or_cases d u g) [
            | inl i ↦ or_left (((((u || l) || a) || d) || p) || m) s (or_left ((((u || l) || a) || d) || p) m (or_left (((u || l) || a) || d) p (or_right ((u || l) || a) d i)))
            | inr i ↦ or_left (((((u || l) || a) || d) || p) || m) s (or_left ((((u || l) || a) || d) || p) m (or_left (((u || l) || a) || d) p (or_left ((u || l) || a) d (or_left (u || l) a (or_left u l i)))))
          ]
          | inr g ↦ or_left (((((u || l) || a) || d) || p) || m) s (or_left ((((u || l) || a) || d) || p) m (or_left (((u || l) || a) || d) p (or_left ((u || l) || a) d (or_left (u || l) a (or_right u l g)))))
        ]
        | inr f ↦ elim (or_cases a p f) [
          | inl g ↦ or_left (((((u || l) || a) || d) || p) || m) s (or_left ((((u || l) || a) || d) || p) m (or_left (((u || l) || a) || d) p (or_left ((u || l) || a) d (or_right (u || l) a g))))
          | inr g ↦ or_left (((((u || l) || a) || d) || p) || m) s (or_left ((((u || l) || a) || d) || p) m (or_right (((u || l) || a) || d) p g))
        ]
      ]
      | inr e ↦ elim (or_cases m s e) [
        | inl f ↦ or_left (((((u || l) || a) || d) || p) || m) s (or_right ((((u || l) || a) || d) || p) m f)
        | inr f ↦ or_right (((((u || l) || a) || d) || p) || m) s f
      ]
    ]

name_byte : (b : ℕ) → names.is_name_byte b ≡ true → is_name_byte b ≡ true
name_byte b h = name_tests (nat_le 48 b && nat_le b 57) (nat_le 65 b && nat_le b 90) (nat_le 97 b && nat_le b 122) (b == 95) (b == 46) (b == 45) (b == 36) h

plain_fit : (name : List ℕ) → is_plain name ≡ true → is_name name ≡ true
plain_fit [] h = absurd cc
plain_fit (b ∷ bs) h =
    or_left (some_all is_name_byte (b ∷ bs)) (is_quoted (b ∷ bs)) (every_one names.is_name_byte is_name_byte name_byte (b ∷ bs) h)

quoted_fit : (name : List ℕ) → list_all is_printable name ≡ true → is_name (34 ∷ (name ++ 34 ∷ [])) ≡ true
quoted_fit name h = or_right (some_all is_name_byte (34 ∷ (name ++ 34 ∷ []))) (is_quoted (34 ∷ (name ++ 34 ∷ []))) (closed_from name h)

at_fit : (name : List ℕ) (plain : Bool) → is_plain name ≡ plain → list_all is_printable name ≡ true → IsFit (if plain then 64 ∷ name else 64 ∷ 34 ∷ name ++ 34 ∷ [])
at_fit name true e h = record { fit = plain_fit name e }
at_fit name false e h = record { fit = quoted_fit name h }

pub global_fit : (name : List ℕ) → names.is_name name ≡ true → IsFit (global_token name)
global_fit name h = at_fit name (is_plain name) refl h
