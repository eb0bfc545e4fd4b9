-- A word is read as a number exactly where it is how that number is written.
use Rattle.std.proofs.Common.{◌≡◌, ℕ, zero, suc, ◌+◌, ◌*◌, ◌-◌, ◌^◌, ◌<◌, ◌≤◌, arith, rules, lit<, true, false, List, [], ◌∷◌, length, get_or, Some, refl, sym, ap, subst, ◌∙◌, inl, inr}
use Rattle.std.specs.Prelude.{◌==◌, ◌&&◌, nat_lt, nat_le}
use Rattle.std.specs.List.{list_all}
use Rattle.std.specs.Fmt.{decimal}
use Rattle.std.proofs.lemmas.Bool.{cases_Bool, and_parts, and_from, eq-eqb, eqb-true, ltb-true, lt-ltb, leb-true, le-leb, both_ways}
use Rattle.std.proofs.lemmas.Option.{same_Some}
use Rattle.std.proofs.lemmas.Fmt.{decimal_digit, decimal_nonempty, first_decimal, digits_decimal, digits_value-decimal, decimal-digits_value}
use Rattle.std.proofs.lemmas.Str.Parse.{IsNumeralModel, numerals_by_fold}
use Rattle.ax_lex.specs.Bytes.{is_digit}
use Rattle.ax_lex.specs.Numbers.{number_from}
use Rattle.ax_sched.specs.Reading.{number_of}

abbrev value_from : ℕ → List ℕ → ℕ
value_from n [] = n
value_from n (b ∷ bs) = value_from (10 * n + (b - 48)) bs

own : IsNumeralModel (λ ds. list_all is_digit ds ≡ true) (value_from 0)
own = numerals_by_fold _ (search rules) value_from (search rules)

value_from-ge : (n : ℕ) (ds : List ℕ) → n ≤ value_from n ds
value_from-ge n [] = omega arith
value_from-ge n (b ∷ bs) = omega (arith, value_from-ge (10 * n + (b - 48)) bs)

number_from_found : (n : ℕ) (ds : List ℕ) (m : ℕ) → n < 2 ^ 64 → number_from (2 ^ 64 - 1) n ds ≡ Some m → (list_all is_digit ds ≡ true) × (value_from n ds ≡ m) × (m < 2 ^ 64)
number_from_found n [] m h e = let same : n ≡ m = same_Some n m e in (refl, same, subst (λ (x : ℕ). x < 2 ^ 64) same h)
number_from_found n (b ∷ bs) m h e =
    elim (cases_Bool (is_digit b && nat_le (10 * n + (b - 48)) (2 ^ 64 - 1))) [
      | inl good ↦
          let p = and_parts (is_digit b) (nat_le (10 * n + (b - 48)) (2 ^ 64 - 1)) good in
          let r = number_from_found (10 * n + (b - 48)) bs m (omega (arith, leb-true (10 * n + (b - 48)) (2 ^ 64 - 1) p.1)) (rw good at e) in
          (and_from (is_digit b) (list_all is_digit bs) p.0 r.0, r.1, r.2)
      | inr bad ↦ let f = rw bad at e in absurd cc
    ]

number_from_all : (n : ℕ) (ds : List ℕ) → list_all is_digit ds ≡ true → value_from n ds < 2 ^ 64 → number_from (2 ^ 64 - 1) n ds ≡ Some (value_from n ds)
number_from_all n [] h lt = refl
number_from_all n (b ∷ bs) h lt =
    let a = and_parts (is_digit b) (list_all is_digit bs) h in
    let small : 10 * n + (b - 48) ≤ 2 ^ 64 - 1 = omega (arith, value_from-ge (10 * n + (b - 48)) bs) in
    let test = and_from (is_digit b) (nat_le (10 * n + (b - 48)) (2 ^ 64 - 1)) a.0 (le-leb (10 * n + (b - 48)) (2 ^ 64 - 1) small) in
    rw test (number_from_all (10 * n + (b - 48)) bs a.1 lt)

alone : (b : ℕ) (bs : List ℕ) → (b == 48 && nat_lt 0 (length bs)) ≡ false → b ≡ 48 → length (b ∷ bs) ≡ 1
alone b [] no' e = refl
alone b (c ∷ bs) no' e = absurd (both_ways (b == 48 && nat_lt 0 (length (c ∷ bs))) no' (and_from (b == 48) (nat_lt 0 (length (c ∷ bs))) (eq-eqb b 48 e) (lt-ltb 0 (length (c ∷ bs)) (omega arith))))

pub number_of_found : (ds : List ℕ) (n : ℕ) → number_of ds ≡ Some n → (ds ≡ decimal n) × (n < 2 ^ 64)
number_of_found [] n e = absurd cc
number_of_found (b ∷ bs) n e =
    elim (cases_Bool (b == 48 && nat_lt 0 (length bs))) [
      | inl bad ↦ let f = rw bad at e in absurd cc
      | inr good ↦
          let r = number_from_found 0 (b ∷ bs) n (lit< tt) (rw good at e) in
          let small : value_from 0 (b ∷ bs) < 2 ^ 64 = subst (λ (x : ℕ). x < 2 ^ 64) (sym r.1) r.2 in
          (sym (decimal-digits_value own (b ∷ bs) r.0 (omega arith) (alone b bs good) small) ∙ ap decimal r.1, r.2)
    ]

number_of_digits : (ds : List ℕ) (n : ℕ) → list_all is_digit ds ≡ true → value_from 0 ds ≡ n → n < 2 ^ 64 → 0 < length ds → (get_or ds 0 0 ≡ 48 → length ds ≡ 1) → number_of ds ≡ Some n
number_of_digits [] n h v lt some lead = absurd (omega arith)
number_of_digits (b ∷ bs) n h v lt some lead =
    let all = number_from_all 0 (b ∷ bs) h (subst (λ (x : ℕ). x < 2 ^ 64) (sym v) lt) ∙ ap (λ (x : ℕ). Some x) v in
    elim (cases_Bool (b == 48 && nat_lt 0 (length bs))) [
      | inl bad ↦
          let p = and_parts (b == 48) (nat_lt 0 (length bs)) bad in
          let one = lead (eqb-true b 48 p.0) in
          absurd (omega (arith, one, ltb-true 0 (length bs) p.1))
      | inr good ↦ rw good all
    ]

lead_decimal : (n : ℕ) → n < 2 ^ 64 → get_or (decimal n) 0 0 ≡ 48 → length (decimal n) ≡ 1
lead_decimal zero lt e = ap length (decimal_digit 0 (lit< tt))
lead_decimal (suc n) lt e = absurd (omega (arith, e, first_decimal (suc n) (omega arith) lt))

pub number_of_decimal : (n : ℕ) → n < 2 ^ 64 → number_of (decimal n) ≡ Some n
number_of_decimal n lt =
    number_of_digits (decimal n) n (digits_decimal own n lt) (digits_value-decimal own n lt) lt (decimal_nonempty n lt) (lead_decimal n lt)

pub digits_of_decimal : (n : ℕ) → n < 2 ^ 64 → list_all is_digit (decimal n) ≡ true
digits_of_decimal n lt = digits_decimal own n lt
