-- Numbers and names as the signs of their tokens.
use Rattle.std.proofs.Common.{◌≡◌, ℕ, suc, ◌+◌, ◌-◌, ◌*◌, ◌/◌, ◌%◌, ◌^◌, ◌<◌, ◌≤◌, arith, Bool, true, false, cond, ◌&&◌, negsuc, List, [], ◌∷◌, ◌++◌, length, Some, None, refl, ap, ◌∙◌, codes, decimal, nat_le, ◌==◌}
use Rattle.std.specs.Fmt.{signed_decimal}
use Rattle.std.proofs.lemmas.Fmt.{decimal_by_steps_wide, length-decimal-le_wide}
use Rattle.std.proofs.lemmas.List.{take_all}
use Rattle.std.proofs.lemmas.Bool.{and_parts, and_from, le-leb, leb-true, ne_eqb}
use Rattle.std.specs.List.{list_all}
use Rattle.ax_lex.specs.Bytes.{is_digit}
use Rattle.ax_lex.specs.Tokens.{some_all}
use Rattle.ax_lex.specs.declared.token.TokenKind.TheVariants as kind
use Rattle.ax_symbols.specs.declared.symbol.Sign.TheVariants as sign
use Rattle.ax_lex.specs.Numbers.{number_from, number_of}
use Rattle.ax_symbols.specs.Symbols.{number_or_odd, width_of, int_or_word, name_of}
use Rattle.ax_again.proofs.Eats.{token_sign}
use Rattle.ax_again.proofs.Bytes.{decimal_digits, digit_starts}

digit_sum : (d : ℕ) → 48 + d - 48 ≡ d
digit_sum d = omega arith

digit_is : (d : ℕ) → d < 10 → is_digit (48 + d) ≡ true
digit_is d h = and_from (nat_le 48 (48 + d)) (nat_le (48 + d) 57) (le-leb 48 (48 + d) (omega arith)) (le-leb (48 + d) 57 (omega (arith, h)))

-- one digit more
last_digit : (most k m d : ℕ) (ds : List ℕ) → number_from most k ds ≡ Some m → d < 10 → 10 * m + d ≤ most → number_from most k (ds ++ (48 + d) ∷ []) ≡ Some (10 * m + d)
last_digit most k m d [] e h le =
    let s : k ≡ m = cc in
    rw (digit_is d h, digit_sum d, s, le-leb (10 * m + d) most le) refl
last_digit most k m d (b ∷ ds) e h le = by (is_digit b && nat_le (10 * k + (b - 48)) most) e (λ f. last_digit most (10 * k + (b - 48)) m d ds f h le)
  where
    by : (t : Bool) → cond t (number_from most (10 * k + (b - 48)) ds) None ≡ Some m → (number_from most (10 * k + (b - 48)) ds ≡ Some m → number_from most (10 * k + (b - 48)) (ds ++ (48 + d) ∷ []) ≡ Some (10 * m + d))
        → cond t (number_from most (10 * k + (b - 48)) (ds ++ (48 + d) ∷ [])) None ≡ Some (10 * m + d)
    by true e more = more e
    by false e more = absurd cc

abbrev ReadBack : ℕ → ℕ → List ℕ → Type 0
ReadBack most n ds = n ≤ most → number_from most 0 ds ≡ Some n

read_back : (most n : ℕ) → n < 10 ^ 64 → n ≤ most → number_from most 0 (decimal n) ≡ Some n
read_back most n small le = decimal_by_steps_wide (ReadBack most) one more n small le
  where
    one : (n : ℕ) → n < 10 → ReadBack most n ((48 + n) ∷ [])
    one n h le = let e : 10 * 0 + n ≡ n = omega arith in last_digit most 0 0 n [] refl h (omega (arith, le)) ∙ ap (λ k. Some k) e

    more : (n : ℕ) (ds : List ℕ) → 10 ≤ n → ReadBack most (n / 10) ds → ReadBack most n (ds ++ ((48 + n % 10) ∷ []))
    more n ds h r le =
        let e : 10 * (n / 10) + n % 10 ≡ n = omega arith in
        last_digit most 0 (n / 10) (n % 10) ds (r (omega (arith, le))) (omega arith) (omega (arith, le)) ∙ ap (λ k. Some k) e

from_some : (most : ℕ) (ds : List ℕ) → some_all is_digit ds ≡ true → number_of most ds ≡ number_from most 0 ds
from_some most [] h = absurd cc
from_some most (b ∷ bs) h = refl

pub number_decimal : (most n : ℕ) → n < 10 ^ 64 → n ≤ most → number_of most (decimal n) ≡ Some n
number_decimal most n small le = from_some most (decimal n) (decimal_digits n) ∙ read_back most n small le

-- ---- the signs of numbers

literal_of : (ds : List ℕ) → some_all is_digit ds ≡ true → token_sign ds ≡ number_or_odd false (number_of (2 ^ 128 - 1) ds)
literal_of [] h = absurd cc
literal_of (b ∷ bs) h =
    let d = (and_parts (is_digit b) (list_all is_digit bs) h).0 in
    let low = leb-true 48 b (and_parts (nat_le 48 b) (nat_le b 57) d).0 in
    rw (digit_starts b d, ne_eqb b 45 (λ e. omega (arith, e, low))) refl

pub decimal_sign : (n : ℕ) → n < 2 ^ 128 → token_sign (decimal n) ≡ sign.Number false n
decimal_sign n h = literal_of (decimal n) (decimal_digits n) ∙ ap (number_or_odd false) (number_decimal (2 ^ 128 - 1) n (omega (arith, h)) (omega (arith, h)))

pub negative_sign : (n : ℕ) → n < 2 ^ 127 → token_sign (signed_decimal (negsuc n)) ≡ sign.Number true (suc n)
negative_sign n h = ap (number_or_odd true) (number_decimal (2 ^ 127) (suc n) (omega (arith, h)) (omega (arith, h)))

pub width_sign : (n : ℕ) → n < 10 ^ 8 → token_sign (codes "i" ++ decimal n) ≡ sign.Int n
width_sign n h =
    let short : length (decimal n) ≤ 8 = length-decimal-le_wide 8 n (omega arith) h (omega (arith, h)) in
    let w : width_of (codes "i" ++ decimal n) ≡ Some n = rw (le-leb (length (decimal n)) 8 short) (number_decimal (10 ^ 8 - 1) n (omega (arith, h)) (omega (arith, h))) in
    ap (λ o. int_or_word o (codes "i" ++ decimal n)) w

-- ---- the names of numbered locals

pub local_name : (c : ℕ) (ds : List ℕ) → c == 34 ≡ false → name_of kind.Local (37 ∷ c ∷ ds) ≡ c ∷ ds
local_name c ds e = rw e (take_all (length (c ∷ ds) - 0) (c ∷ ds) (omega arith))
