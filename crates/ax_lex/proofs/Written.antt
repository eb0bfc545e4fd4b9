-- A token that is written is read again, where what follows does not go on with it.
use Rattle.std.proofs.Common.{◌≡◌, ℕ, suc, ◌+◌, Bool, true, false, cond, List, [], ◌∷◌, ◌++◌, length, Option, Some, refl, ap, subst, ◌∙◌, arith, inl, inr, one-add}
use Rattle.std.specs.Prelude.{not, ◌&&◌, ◌||◌, ◌==◌}
use Rattle.std.specs.List.{list_all, prefix_len}
use Rattle.std.proofs.lemmas.Bool.{and_parts, and_from, or_cases, or_right, eqb-true, not-true, ne_eqb, cases_Bool}
use Rattle.std.proofs.lemmas.List.{take_at, length-append}
use Rattle.ax_lex.specs.declared.token.TokenKind.{TokenKind}
use Rattle.ax_lex.specs.declared.token.TokenKind.TheVariants.{Word, Local, Global, Meta, Group, Literal, Text, Mark, Newline}
use Rattle.ax_lex.specs.declared.bytes.Start.{Start}
use Rattle.ax_lex.specs.declared.bytes.Start.TheVariants as start
use Rattle.ax_lex.specs.Bytes.{is_letter, is_mark, is_name_byte, is_meta_byte, is_literal_byte, is_text_byte, is_digit, start_of}
use Rattle.ax_lex.specs.Tokens.{some_all, is_empty, is_closed, is_name, goes_on, is_token, IsLongest}
use Rattle.ax_lex.specs.Scan.{IsScan, behind_one, quoted, named, token_from}
use Rattle.ax_lex.specs.Written.{stops, ends_at}
use Rattle.ax_lex.proofs.Longest.{closed_is, quote_no_name, scan_is}

run_append : (p : ℕ → Bool) (front rest : List ℕ) → list_all p front ≡ true → stops p rest ≡ true → prefix_len p (front ++ rest) ≡ length front
run_append p [] [] h e = refl
run_append p [] (b ∷ rest) h e = rw (not-true (p b) e) refl
run_append p (b ∷ front) rest h e =
    let a = and_parts (p b) (list_all p front) h in
    rw (a.0, one-add) (ap suc (run_append p front rest a.1 e))

nothing_runs : (p : ℕ → Bool) (rest : List ℕ) → stops p rest ≡ true → prefix_len p rest ≡ 0
nothing_runs p [] e = refl
nothing_runs p (b ∷ rest) e = rw (not-true (p b) e) refl

positive : (n : ℕ) → (suc n == 0) ≡ false
positive n = ne_eqb (suc n) 0 (λ e. omega (arith, e))

abbrev gives : TokenKind → ℕ → Option (TokenKind × ℕ)
gives kind n = Some (kind, n)

-- a run that has a byte, behind one byte
behind_written : (p : ℕ → Bool) (kind : TokenKind) (bs rest : List ℕ) → some_all p bs ≡ true → stops p rest ≡ true → behind_one p kind (bs ++ rest) ≡ Some (kind, suc (length bs))
behind_written p kind [] rest h e = absurd cc
behind_written p kind (b ∷ bs) rest h e =
    let r : prefix_len p (b ∷ (bs ++ rest)) ≡ suc (length bs) = run_append p (b ∷ bs) rest h e in
    rw (r, positive (length bs), one-add (suc (length bs))) refl

-- a text's inside and its end, behind so many bytes
quoted_written : (kind : TokenKind) (before : ℕ) (bs rest : List ℕ) → is_closed bs ≡ true → quoted kind before (bs ++ rest) ≡ Some (kind, before + length bs)
quoted_written kind before bs rest h =
    let c = closed_is (bs ++ rest) (length bs) (omega (arith, length-append bs rest)) (ap is_closed (take_at bs rest (length bs) refl) ∙ h) in
    rw (c.1, c.0) refl

named_quoted : (kind : TokenKind) (b : ℕ) (bs rest : List ℕ) → (b == 34) ≡ true → is_name (b ∷ bs) ≡ true → named kind (b ∷ (bs ++ rest)) ≡ Some (kind, suc (suc (length bs)))
named_quoted kind b bs rest q h =
    elim (or_cases (is_name_byte b && list_all is_name_byte bs) (b == 34 && is_closed bs) h) [
      | inl u ↦ absurd (let a = (and_parts (is_name_byte b) _ u).0 in let n = quote_no_name b q in cc)
      | inr u ↦ rw q (quoted_written kind 2 bs rest (and_parts (b == 34) _ u).1 ∙ ap (λ n. gives kind n) (omega arith))
    ]

named_plain : (kind : TokenKind) (b : ℕ) (bs rest : List ℕ) → (b == 34) ≡ false → is_name (b ∷ bs) ≡ true → stops is_name_byte rest ≡ true → named kind (b ∷ (bs ++ rest)) ≡ Some (kind, suc (suc (length bs)))
named_plain kind b bs rest q h e =
    elim (or_cases (is_name_byte b && list_all is_name_byte bs) (b == 34 && is_closed bs) h) [
      | inl u ↦ rw q (behind_written is_name_byte kind (b ∷ bs) rest u e)
      | inr u ↦ absurd (let a = (and_parts (b == 34) _ u).0 in cc)
    ]

named_written : (kind : TokenKind) (bs rest : List ℕ) → is_name bs ≡ true → stops is_name_byte rest ≡ true → named kind (bs ++ rest) ≡ Some (kind, suc (length bs))
named_written kind [] rest h e = absurd cc
named_written kind (b ∷ bs) rest h e =
    elim (cases_Bool (b == 34)) [
      | inl q ↦ named_quoted kind b bs rest q h
      | inr q ↦ named_plain kind b bs rest q h e
    ]

-- what ends a token with this first byte
abbrev ends_behind : TokenKind → Start → List ℕ → Type 0
ends_behind Mark start.Bang rest = stops is_meta_byte rest ≡ true
ends_behind Mark _ rest = Unit {0}
ends_behind kind s rest = ends_at kind [] rest ≡ true

scanned : (kind : TokenKind) (s : Start) (bs rest : List ℕ) → goes_on kind s bs ≡ true → ends_behind kind s rest → token_from s (bs ++ rest) ≡ Some (kind, suc (length bs))
scanned Word start.Letter bs rest h e = ap (λ n. gives Word n) (one-add _ ∙ ap suc (run_append is_name_byte bs rest h e))
scanned Literal start.Digit bs rest h e = ap (λ n. gives Literal n) (one-add _ ∙ ap suc (run_append is_literal_byte bs rest h e))
scanned Local start.Percent bs rest h e = named_written Local bs rest h e
scanned Global start.At bs rest h e = named_written Global bs rest h e
scanned Meta start.Bang [] rest h e = absurd cc
scanned Meta start.Bang (b ∷ bs) rest h e =
    let r : prefix_len is_meta_byte (b ∷ (bs ++ rest)) ≡ suc (length bs) = run_append is_meta_byte (b ∷ bs) rest h e in
    rw (r, positive (length bs), one-add (suc (length bs))) refl
scanned Mark start.Bang [] rest h e = rw (nothing_runs is_meta_byte rest e) refl
scanned Mark start.Bang (b ∷ bs) rest h e = absurd cc
scanned Group start.Hash bs rest h e = behind_written is_digit Group bs rest h e
scanned Literal start.Minus [] rest h e = absurd cc
scanned Literal start.Minus (b ∷ bs) rest h e =
    let a = and_parts (is_digit b) (list_all is_literal_byte bs) h in
    rw (a.0, run_append is_literal_byte bs rest a.1 e) (ap (λ n. gives Literal n) (omega arith))
scanned Text start.Quote bs rest h e = quoted_written Text 1 bs rest h ∙ ap (λ n. gives Text n) (one-add (length bs))
scanned Mark start.Mark [] rest h e = refl
scanned Mark start.Mark (b ∷ bs) rest h e = absurd cc
scanned Newline start.Feed [] rest h e = refl
scanned Newline start.Feed (b ∷ bs) rest h e = absurd cc
scanned _ _ bs rest h e = absurd cc

-- only one byte begins with !
no_bang : (hash minus quote feed mark : Bool)
    → cond hash start.Hash (cond minus start.Minus (cond quote start.Quote (cond feed start.Feed (cond mark start.Mark start.Nothing)))) ≡ start.Bang → ⊥
no_bang true minus quote feed mark e = cc
no_bang false true quote feed mark e = cc
no_bang false false true feed mark e = cc
no_bang false false false true mark e = cc
no_bang false false false false true e = cc
no_bang false false false false false e = cc

bang_only : (letter digit percent at bang : Bool) (rest : Start) → (rest ≡ start.Bang → ⊥)
    → cond letter start.Letter (cond digit start.Digit (cond percent start.Percent (cond at start.At (cond bang start.Bang rest)))) ≡ start.Bang → bang ≡ true
bang_only true digit percent at bang rest h e = absurd cc
bang_only false true percent at bang rest h e = absurd cc
bang_only false false true at bang rest h e = absurd cc
bang_only false false false true bang rest h e = absurd cc
bang_only false false false false true rest h e = refl
bang_only false false false false false rest h e = absurd (h e)

bang_is : (b : ℕ) → start_of b ≡ start.Bang → (b == 33) ≡ true
bang_is b e = bang_only (is_letter b) (is_digit b) (b == 37) (b == 64) (b == 33) _ (no_bang (b == 35) (b == 45) (b == 34) (b == 10) (is_mark b)) e

mark_ends : (s : Start) (t : Bool) (rest : List ℕ) → (s ≡ start.Bang → t ≡ true) → (not t || stops is_meta_byte rest) ≡ true → ends_behind Mark s rest
mark_ends start.Bang true rest h e = e
mark_ends start.Bang false rest h e = absurd (let f = h refl in cc)
mark_ends _ t rest h e = tt

ends : (kind : TokenKind) (b : ℕ) (bs rest : List ℕ) → ends_at kind (b ∷ bs) rest ≡ true → ends_behind kind (start_of b) rest
ends Mark b bs rest e = mark_ends (start_of b) (b == 33) rest (bang_is b) e
ends Word b bs rest e = e
ends Local b bs rest e = e
ends Global b bs rest e = e
ends Meta b bs rest e = e
ends Group b bs rest e = e
ends Literal b bs rest e = e
ends Text b bs rest e = e
ends Newline b bs rest e = e

pub written : (kind : TokenKind) (word rest : List ℕ) → is_token kind word ≡ true → ends_at kind word rest ≡ true → IsLongest (word ++ rest) kind (length word)
written kind [] rest h e = absurd cc
written kind (b ∷ bs) rest h e = subst (IsScan (b ∷ (bs ++ rest))) (scanned kind (start_of b) bs rest h (ends kind b bs rest e)) (scan_is (b ∷ (bs ++ rest)))

-- ---- quoted names

-- a text's bytes and a quote are the rest of a text
pub closed_from : (inside : List ℕ) → list_all is_text_byte inside ≡ true → is_closed (inside ++ 34 ∷ []) ≡ true
closed_from [] h = refl
closed_from (b ∷ inside) h =
    let a = and_parts (is_text_byte b) (list_all is_text_byte inside) h in
    or_right (b == 34 && is_empty (inside ++ 34 ∷ [])) _ (and_from (is_text_byte b) _ a.0 (closed_from inside a.1))

nothing_in : (bs : List ℕ) → is_empty bs ≡ true → bs ≡ []
nothing_in [] h = refl
nothing_in (b ∷ bs) h = absurd cc

-- and the rest of each text is such bytes and a quote
pub closed_inside : (bs : List ℕ) → is_closed bs ≡ true → (inside : List ℕ) × (bs ≡ inside ++ 34 ∷ []) × (list_all is_text_byte inside ≡ true)
closed_inside [] h = absurd cc
closed_inside (b ∷ bs) h =
    elim (or_cases (b == 34 && is_empty bs) (is_text_byte b && is_closed bs) h) [
      | inl u ↦
          let a = and_parts (b == 34) (is_empty bs) u in
          let q : b ≡ 34 = eqb-true b 34 a.0 in
          let n : bs ≡ [] = nothing_in bs a.1 in
          ([], rw (q, n) refl, refl)
      | inr u ↦
          let a = and_parts (is_text_byte b) (is_closed bs) u in
          let r = closed_inside bs a.1 in
          (b ∷ r.0, ap (λ (xs : List ℕ). b ∷ xs) r.1, and_from (is_text_byte b) _ a.0 r.2)
    ]
