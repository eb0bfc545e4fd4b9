-- What the scanner finds at the front is the longest token there.
use Rattle.std.proofs.Common.{◌≡◌, ℕ, zero, suc, ◌+◌, ◌<◌, ◌≤◌, Bool, true, false, cond, ◌&&◌, List, [], ◌∷◌, length, take, drop, Option, Some, None, refl, sym, ap, subst, ◌∙◌, arith, inl, inr, one-add}
use Rattle.std.specs.Prelude.{MatchOption, ◌==◌}
use Rattle.std.specs.List.{list_all, prefix_len}
use Rattle.std.proofs.lemmas.Bool.{and_parts, and_from, or_cases, or_left, or_right, cases_lt, cases_eq, eq-eqb, ne_eqb, eqb-true}
use Rattle.std.proofs.Math.Seq.{take-nil}
use Rattle.std.proofs.lemmas.List.Sums.{prefix_len-le-length}
use Rattle.ax_lex.specs.declared.token.TokenKind.{TokenKind}
use Rattle.ax_lex.specs.declared.token.TokenKind.TheVariants.{Word, Local, Global, Meta, Group, Literal, Text, Mark, Newline}
use Rattle.ax_lex.specs.declared.bytes.Start.{Start}
use Rattle.ax_lex.specs.declared.bytes.Start.TheVariants as start
use Rattle.ax_lex.specs.Bytes.{is_name_byte, is_meta_byte, is_literal_byte, is_text_byte, is_digit, start_of}
use Rattle.ax_lex.specs.Tokens.{some_all, is_empty, is_number, is_closed, is_name, goes_on, is_token, IsLongest, StartsNone}
use Rattle.ax_lex.specs.Scan.{IsScan, behind_one, starts_quote, text_run, quoted, named, banged, negative, token_from, token_of}

-- ---- runs

-- a run is as long as each front of which all bytes pass
run_bounds : (p : ℕ → Bool) (bs : List ℕ) (m : ℕ) → m ≤ length bs → list_all p (take m bs) ≡ true → m ≤ prefix_len p bs
run_bounds p bs zero h e = omega arith
run_bounds p [] (suc m) h e = absurd (omega arith)
run_bounds p (b ∷ bs) (suc m) h e =
    let a = and_parts (p b) (list_all p (take m bs)) e in
    let r = run_bounds p bs m (omega arith) a.1 in
    rw a.0 (omega arith)

-- all bytes of a run pass
run_step : (p : ℕ → Bool) (b : ℕ) (bs : List ℕ) (t : Bool) → p b ≡ t → list_all p (take (prefix_len p bs) bs) ≡ true → list_all p (take (cond t (1 + prefix_len p bs) 0) (b ∷ bs)) ≡ true
run_step p b bs true e h = rw (one-add, e) h
run_step p b bs false e h = refl

run_passes : (p : ℕ → Bool) (bs : List ℕ) → list_all p (take (prefix_len p bs) bs) ≡ true
run_passes p [] = refl
run_passes p (b ∷ bs) = run_step p b bs (p b) refl (run_passes p bs)

-- the same of a run that has a byte
some_bounds : (p : ℕ → Bool) (bs : List ℕ) (m : ℕ) → m ≤ length bs → some_all p (take m bs) ≡ true → (m ≤ prefix_len p bs) × (0 < prefix_len p bs)
some_bounds p bs zero h e = absurd cc
some_bounds p [] (suc m) h e = absurd (omega arith)
some_bounds p (b ∷ bs) (suc m) h e =
    let r = run_bounds p (b ∷ bs) (suc m) h e in
    (r, omega arith)

some_step : (p : ℕ → Bool) (b : ℕ) (bs : List ℕ) (t : Bool) → p b ≡ t → 0 < cond t (1 + prefix_len p bs) 0 → some_all p (take (cond t (1 + prefix_len p bs) 0) (b ∷ bs)) ≡ true
some_step p b bs true e h = rw (one-add, e) (run_passes p bs)
some_step p b bs false e h = absurd (omega arith)

some_passes : (p : ℕ → Bool) (bs : List ℕ) → 0 < prefix_len p bs → some_all p (take (prefix_len p bs) bs) ≡ true
some_passes p [] h = absurd (omega arith)
some_passes p (b ∷ bs) h = some_step p b bs (p b) refl h

empty_bounds : (bs : List ℕ) (m : ℕ) → m ≤ length bs → is_empty (take m bs) ≡ true → m ≤ 0
empty_bounds bs zero h e = omega arith
empty_bounds [] (suc m) h e = h
empty_bounds (b ∷ bs) (suc m) h e = absurd cc

-- ---- the inside of a text

-- a closing quote stands behind the run
abbrev pub closes : List ℕ → Bool
closes bs = starts_quote (drop (text_run bs) bs)

closes_step : (b : ℕ) (bs : List ℕ) (t : Bool) → is_text_byte b ≡ t → t ≡ true → closes bs ≡ true → starts_quote (drop (cond t (1 + text_run bs) 0) (b ∷ bs)) ≡ true
closes_step b bs true e h c = rw one-add c
closes_step b bs false e h c = absurd cc

quote_ends : (b : ℕ) → (b == 34) ≡ true → is_text_byte b ≡ false
quote_ends b e = let f : b ≡ 34 = eqb-true b 34 e in rw f refl

-- where a front is closed, it ends behind the run
pub closed_is : (bs : List ℕ) (m : ℕ) → m ≤ length bs → is_closed (take m bs) ≡ true → (m ≡ 1 + text_run bs) × (closes bs ≡ true)
closed_is bs zero h e = absurd cc
closed_is [] (suc m) h e = absurd (omega arith)
closed_is (b ∷ bs) (suc m) h e =
    elim (or_cases (b == 34 && is_empty (take m bs)) (is_text_byte b && is_closed (take m bs)) e) [
      | inl u ↦
          let a = and_parts (b == 34) (is_empty (take m bs)) u in
          let z = empty_bounds bs m (omega arith) a.1 in
          rw (quote_ends b a.0) (omega arith, a.0)
      | inr u ↦
          let a = and_parts (is_text_byte b) (is_closed (take m bs)) u in
          let r = closed_is bs m (omega arith) a.1 in
          (rw a.0 (omega (arith, r.0)), closes_step b bs (is_text_byte b) refl a.0 r.1)
    ]

closed_step : (b : ℕ) (bs : List ℕ) (t : Bool) → is_text_byte b ≡ t → (closes bs ≡ true → is_closed (take (1 + text_run bs) bs) ≡ true) → starts_quote (drop (cond t (1 + text_run bs) 0) (b ∷ bs)) ≡ true
    → is_closed (take (1 + cond t (1 + text_run bs) 0) (b ∷ bs)) ≡ true
closed_step b bs true e more h = rw (one-add (1 + text_run bs)) (or_right (b == 34 && is_empty (take (1 + text_run bs) bs)) _ (and_from (is_text_byte b) _ e (more (rw one-add at h))))
closed_step b bs false e more h = or_left (b == 34 && true) _ (and_from (b == 34) true h refl)

-- where a quote stands behind the run, the front is closed there
pub closed_passes : (bs : List ℕ) → closes bs ≡ true → is_closed (take (1 + text_run bs) bs) ≡ true
closed_passes [] h = absurd cc
closed_passes (b ∷ bs) h = closed_step b bs (is_text_byte b) refl (closed_passes bs) h

within_step : (b : ℕ) (bs : List ℕ) (t : Bool) → (closes bs ≡ true → 1 + text_run bs ≤ length bs) → starts_quote (drop (cond t (1 + text_run bs) 0) (b ∷ bs)) ≡ true
    → 1 + cond t (1 + text_run bs) 0 ≤ suc (length bs)
within_step b bs true more h = omega (arith, more (rw one-add at h))
within_step b bs false more h = omega arith

pub closed_within : (bs : List ℕ) → closes bs ≡ true → 1 + text_run bs ≤ length bs
closed_within [] h = absurd cc
closed_within (b ∷ bs) h = within_step b bs (is_text_byte b) (closed_within bs) h

-- ---- the token with a first byte

-- A token with the first byte behind which bs stand, of m more bytes.
record Found (s : Start) (bs : List ℕ) (kind : TokenKind) (len : ℕ) : Type 0 where
  more : ℕ
  is : len ≡ suc more
  within : more ≤ length bs
  token : goes_on kind s (take more bs) ≡ true
  longest : (k : TokenKind) (m : ℕ) → m ≤ length bs → goes_on k s (take m bs) ≡ true → m ≤ more

abbrev Scans : (s : Start) (bs : List ℕ) → Option (TokenKind × ℕ) → Type 0
Scans s bs o = MatchOption o ((k : TokenKind) (m : ℕ) → m ≤ length bs → goes_on k s (take m bs) ≡ true → ⊥) (λ x. Found s bs x.0 x.1)

-- a run behind the first byte
run_found : (s : Start) (bs : List ℕ) (kind : TokenKind) (p : ℕ → Bool) → goes_on kind s (take (prefix_len p bs) bs) ≡ true
    → ((k : TokenKind) (m : ℕ) → m ≤ length bs → goes_on k s (take m bs) ≡ true → m ≤ prefix_len p bs) → Found s bs kind (1 + prefix_len p bs)
run_found s bs kind p token longest = record { more = prefix_len p bs; is = one-add (prefix_len p bs); within = prefix_len-le-length p bs; token = token; longest = longest }

one_found : (s : Start) (bs : List ℕ) (kind : TokenKind) → goes_on kind s [] ≡ true
    → ((k : TokenKind) (m : ℕ) → m ≤ length bs → goes_on k s (take m bs) ≡ true → m ≤ 0) → Found s bs kind 1
one_found s bs kind token longest = record { more = 0; is = refl; within = omega arith; token = token; longest = longest }

letter_bounds : (bs : List ℕ) (k : TokenKind) (m : ℕ) → m ≤ length bs → goes_on k start.Letter (take m bs) ≡ true → m ≤ prefix_len is_name_byte bs
letter_bounds bs Word m h e = run_bounds is_name_byte bs m h e
letter_bounds bs _ m h e = absurd cc

digit_bounds : (bs : List ℕ) (k : TokenKind) (m : ℕ) → m ≤ length bs → goes_on k start.Digit (take m bs) ≡ true → m ≤ prefix_len is_literal_byte bs
digit_bounds bs Literal m h e = run_bounds is_literal_byte bs m h e
digit_bounds bs _ m h e = absurd cc

hash_bounds : (bs : List ℕ) (k : TokenKind) (m : ℕ) → m ≤ length bs → goes_on k start.Hash (take m bs) ≡ true → (m ≤ prefix_len is_digit bs) × (0 < prefix_len is_digit bs)
hash_bounds bs Group m h e = some_bounds is_digit bs m h e
hash_bounds bs _ m h e = absurd cc

bang_bounds : (bs : List ℕ) (k : TokenKind) (m : ℕ) → m ≤ length bs → goes_on k start.Bang (take m bs) ≡ true → m ≤ prefix_len is_meta_byte bs
bang_bounds bs Meta m h e = (some_bounds is_meta_byte bs m h e).0
bang_bounds bs Mark m h e = omega (arith, empty_bounds bs m h e)
bang_bounds bs _ m h e = absurd cc

quote_bounds : (bs : List ℕ) (k : TokenKind) (m : ℕ) → m ≤ length bs → goes_on k start.Quote (take m bs) ≡ true → (m ≡ 1 + text_run bs) × (closes bs ≡ true)
quote_bounds bs Text m h e = closed_is bs m h e
quote_bounds bs _ m h e = absurd cc

mark_bounds : (bs : List ℕ) (k : TokenKind) (m : ℕ) → m ≤ length bs → goes_on k start.Mark (take m bs) ≡ true → m ≤ 0
mark_bounds bs Mark m h e = empty_bounds bs m h e
mark_bounds bs _ m h e = absurd cc

feed_bounds : (bs : List ℕ) (k : TokenKind) (m : ℕ) → m ≤ length bs → goes_on k start.Feed (take m bs) ≡ true → m ≤ 0
feed_bounds bs Newline m h e = empty_bounds bs m h e
feed_bounds bs _ m h e = absurd cc

nothing_found : (bs : List ℕ) (k : TokenKind) (m : ℕ) → goes_on k start.Nothing (take m bs) ≡ true → ⊥
nothing_found bs Word m e = cc
nothing_found bs _ m e = cc

minus_is : (bs : List ℕ) (k : TokenKind) → goes_on k start.Minus bs ≡ true → (k ≡ Literal) × (is_number bs ≡ true)
minus_is bs Literal e = (refl, e)
minus_is bs _ e = absurd cc

scan_behind_one : (p : ℕ → Bool) (s : Start) (kind : TokenKind) (bs : List ℕ) → ((m : ℕ) → some_all p (take m bs) ≡ true → goes_on kind s (take m bs) ≡ true)
    → ((k : TokenKind) (m : ℕ) → m ≤ length bs → goes_on k s (take m bs) ≡ true → (m ≤ prefix_len p bs) × (0 < prefix_len p bs))
    → Scans s bs (behind_one p kind bs)
scan_behind_one p s kind bs is bounds =
    elim (cases_eq (prefix_len p bs) 0) [
      | inl e ↦ rw (eq-eqb _ _ e) (λ k m h f. omega (arith, (bounds k m h f).1, e))
      | inr ne ↦ rw (ne_eqb _ _ ne) (run_found s bs kind p (is (prefix_len p bs) (some_passes p bs (omega arith))) (λ k m h f. (bounds k m h f).0))
    ]

scan_banged : (bs : List ℕ) → Scans start.Bang bs (banged bs)
scan_banged bs =
    elim (cases_eq (prefix_len is_meta_byte bs) 0) [
      | inl e ↦ rw (eq-eqb _ _ e) (one_found start.Bang bs Mark refl (λ k m h f. omega (arith, bang_bounds bs k m h f, e)))
      | inr ne ↦ rw (ne_eqb _ _ ne) (run_found start.Bang bs Meta is_meta_byte (some_passes is_meta_byte bs (omega arith)) (λ k m h f. bang_bounds bs k m h f))
    ]

-- ---- quoted texts and names

text_found : (bs : List ℕ) (t : Bool) → closes bs ≡ t → Scans start.Quote bs (cond t (Some (Text, 1 + (1 + text_run bs))) None)
text_found bs true e = record {
  more = 1 + text_run bs;
  is = one-add (1 + text_run bs);
  within = closed_within bs e;
  token = closed_passes bs e;
  longest = λ k m h f. omega (arith, (quote_bounds bs k m h f).0);
}
text_found bs false e = λ k m h f. let c = (quote_bounds bs k m h f).1 in cc

-- What goes on with a name of the kind, behind the byte that begins it.
record BeginsName (s : Start) (kind : TokenKind) : Type 0 where
  goes : (bs : List ℕ) → is_name bs ≡ true → goes_on kind s bs ≡ true
  only : (bs : List ℕ) (k : TokenKind) → goes_on k s bs ≡ true → is_name bs ≡ true

percent_only : (bs : List ℕ) (k : TokenKind) → goes_on k start.Percent bs ≡ true → is_name bs ≡ true
percent_only bs Local e = e
percent_only bs _ e = absurd cc

percent_begins : BeginsName start.Percent Local
percent_begins = record { goes = λ bs e. e; only = percent_only }

at_only : (bs : List ℕ) (k : TokenKind) → goes_on k start.At bs ≡ true → is_name bs ≡ true
at_only bs Global e = e
at_only bs _ e = absurd cc

at_begins : BeginsName start.At Global
at_begins = record { goes = λ bs e. e; only = at_only }

pub quote_no_name : (b : ℕ) → (b == 34) ≡ true → is_name_byte b ≡ false
quote_no_name b e = let f : b ≡ 34 = eqb-true b 34 e in rw f refl

-- a name that begins with a quote is a quoted text
name_quoted : (b : ℕ) (bs : List ℕ) (m : ℕ) → (b == 34) ≡ true → m ≤ suc (length bs) → is_name (take m (b ∷ bs)) ≡ true → (m ≡ 1 + (1 + text_run bs)) × (closes bs ≡ true)
name_quoted b bs zero q h e = absurd cc
name_quoted b bs (suc m) q h e =
    elim (or_cases (is_name_byte b && list_all is_name_byte (take m bs)) (b == 34 && is_closed (take m bs)) e) [
      | inl u ↦ absurd (let a = (and_parts (is_name_byte b) _ u).0 in let n = quote_no_name b q in cc)
      | inr u ↦ let r = closed_is bs m (omega arith) (and_parts (b == 34) _ u).1 in (omega (arith, r.0), r.1)
    ]

name_of_quoted : (b : ℕ) (bs : List ℕ) → (b == 34) ≡ true → closes bs ≡ true → is_name (take (1 + (1 + text_run bs)) (b ∷ bs)) ≡ true
name_of_quoted b bs q c =
    rw (one-add (1 + text_run bs)) (or_right (some_all is_name_byte (b ∷ take (1 + text_run bs) bs)) _ (and_from (b == 34) _ q (closed_passes bs c)))

name_text : (s : Start) (kind : TokenKind) (b : ℕ) (bs : List ℕ) → BeginsName s kind → (b == 34) ≡ true → (t : Bool) → closes bs ≡ t → Scans s (b ∷ bs) (cond t (Some (kind, 2 + (1 + text_run bs))) None)
name_text s kind b bs n q true e = record {
  more = 1 + (1 + text_run bs);
  is = omega arith;
  within = omega (arith, closed_within bs e);
  token = n.goes _ (name_of_quoted b bs q e);
  longest = λ k m h f. omega (arith, (name_quoted b bs m q h (n.only _ k f)).0);
}
name_text s kind b bs n q false e = λ k m h f. let c = (name_quoted b bs m q h (n.only _ k f)).1 in cc

-- a name that begins with no quote is one of name bytes
name_plain : (b : ℕ) (bs : List ℕ) (m : ℕ) → (b == 34) ≡ false → is_name (take m (b ∷ bs)) ≡ true → some_all is_name_byte (take m (b ∷ bs)) ≡ true
name_plain b bs zero q e = absurd cc
name_plain b bs (suc m) q e =
    elim (or_cases (some_all is_name_byte (b ∷ take m bs)) (b == 34 && is_closed (take m bs)) e) [
      | inl u ↦ u
      | inr u ↦ absurd (let a = (and_parts (b == 34) _ u).0 in cc)
    ]

named_from : (s : Start) (kind : TokenKind) (b : ℕ) (bs : List ℕ) → BeginsName s kind → (t : Bool) → (b == 34) ≡ t → Scans s (b ∷ bs) (cond t (quoted kind 2 bs) (behind_one is_name_byte kind (b ∷ bs)))
named_from s kind b bs n true q = name_text s kind b bs n q (closes bs) refl
named_from s kind b bs n false q =
    scan_behind_one is_name_byte s kind (b ∷ bs) (λ m e. n.goes _ (or_left _ _ e)) (λ k m h f. some_bounds is_name_byte (b ∷ bs) m h (name_plain b bs m q (n.only _ k f)))

no_name : (m : ℕ) → is_name (take m []) ≡ true → ⊥
no_name zero e = cc
no_name (suc m) e = cc

scan_named : (s : Start) (kind : TokenKind) (bs : List ℕ) → BeginsName s kind → Scans s bs (named kind bs)
scan_named s kind [] n = λ k m h f. no_name m (n.only _ k f)
scan_named s kind (b ∷ bs) n = named_from s kind b bs n (b == 34) refl

-- ---- literals with a sign

number_bounds : (b : ℕ) (bs : List ℕ) (k : TokenKind) (m : ℕ) → m ≤ suc (length bs) → goes_on k start.Minus (take m (b ∷ bs)) ≡ true → (is_digit b ≡ true) × (m ≤ suc (prefix_len is_literal_byte bs))
number_bounds b bs k zero h e = absurd (let f = (minus_is [] k e).1 in cc)
number_bounds b bs k (suc m) h e =
    let p = and_parts (is_digit b) (list_all is_literal_byte (take m bs)) (minus_is (b ∷ take m bs) k e).1 in
    let r = run_bounds is_literal_byte bs m (omega arith) p.1 in
    (p.0, omega arith)

no_number : (m : ℕ) → is_number (take m []) ≡ true → ⊥
no_number zero e = cc
no_number (suc m) e = cc

scan_digit : (b : ℕ) (bs : List ℕ) (t : Bool) → is_digit b ≡ t → Scans start.Minus (b ∷ bs) (cond t (Some (Literal, 2 + prefix_len is_literal_byte bs)) None)
scan_digit b bs true e = record {
  more = suc (prefix_len is_literal_byte bs);
  is = omega arith;
  within = omega (arith, prefix_len-le-length is_literal_byte bs);
  token = and_from (is_digit b) _ e (run_passes is_literal_byte bs);
  longest = λ k m h f. (number_bounds b bs k m h f).1;
}
scan_digit b bs false e = λ k m h f. let p = (number_bounds b bs k m h f).0 in cc

scan_negative : (bs : List ℕ) → Scans start.Minus bs (negative bs)
scan_negative [] = λ k m h f. no_number m (minus_is (take m []) k f).1
scan_negative (b ∷ bs) = scan_digit b bs (is_digit b) refl

-- ---- every first byte

scan_from : (s : Start) (bs : List ℕ) → Scans s bs (token_from s bs)
scan_from start.Letter bs = run_found start.Letter bs Word is_name_byte (run_passes is_name_byte bs) (letter_bounds bs)
scan_from start.Percent bs = scan_named start.Percent Local bs percent_begins
scan_from start.At bs = scan_named start.At Global bs at_begins
scan_from start.Bang bs = scan_banged bs
scan_from start.Hash bs = scan_behind_one is_digit start.Hash Group bs (λ m e. e) (hash_bounds bs)
scan_from start.Digit bs = run_found start.Digit bs Literal is_literal_byte (run_passes is_literal_byte bs) (digit_bounds bs)
scan_from start.Minus bs = scan_negative bs
scan_from start.Quote bs = text_found bs (closes bs) refl
scan_from start.Mark bs = one_found start.Mark bs Mark refl (mark_bounds bs)
scan_from start.Feed bs = one_found start.Feed bs Newline refl (feed_bounds bs)
scan_from start.Nothing bs = λ k m h f. nothing_found bs k m f

longer : (b : ℕ) (bs : List ℕ) (kind : TokenKind) (len : ℕ) (f : Found (start_of b) bs kind len) (k : TokenKind) (n : ℕ) → n ≤ suc (length bs) → is_token k (take n (b ∷ bs)) ≡ true → n ≤ suc f.more
longer b bs kind len f k zero h e = omega arith
longer b bs kind len f k (suc n) h e = let r = f.longest k n (omega arith) e in omega arith

found_longest : (b : ℕ) (bs : List ℕ) (kind : TokenKind) (len : ℕ) → Found (start_of b) bs kind len → IsLongest (b ∷ bs) kind len
found_longest b bs kind len f = subst (λ (n : ℕ). IsLongest (b ∷ bs) kind n) (sym f.is) (record { within = omega (arith, f.within); token = f.token; longest = longer b bs kind len f })

capped : (bs : List ℕ) (m : ℕ) → length bs ≤ m → take m bs ≡ take (length bs) bs
capped [] m h = take-nil m ∙ sym (take-nil 0)
capped (b ∷ bs) zero h = absurd (omega arith)
capped (b ∷ bs) (suc m) h = ap (λ (xs : List ℕ). b ∷ xs) (capped bs m (omega arith))

none_starts : (b : ℕ) (bs : List ℕ) → ((k : TokenKind) (m : ℕ) → m ≤ length bs → goes_on k (start_of b) (take m bs) ≡ true → ⊥) → StartsNone (b ∷ bs)
none_starts b bs h k zero e = absurd cc
none_starts b bs h k (suc m) e =
    elim (cases_lt m (length bs)) [
      | inl lt ↦ h k m (omega arith) e
      | inr le ↦ h k (length bs) (omega arith) (ap (λ (xs : List ℕ). goes_on k (start_of b) xs) (sym (capped bs m le)) ∙ e)
    ]

scan_of : (b : ℕ) (bs : List ℕ) (o : Option (TokenKind × ℕ)) → Scans (start_of b) bs o → IsScan (b ∷ bs) o
scan_of b bs None h = none_starts b bs h
scan_of b bs (Some x) h = found_longest b bs x.0 x.1 h

no_token : (k : TokenKind) (n : ℕ) → is_token k (take n []) ≡ true → ⊥
no_token k zero e = cc
no_token k (suc n) e = cc

pub scan_is : (bytes : List ℕ) → IsScan bytes (token_of bytes)
scan_is [] = no_token
scan_is (b ∷ bs) = scan_of b bs (token_from (start_of b) bs) (scan_from (start_of b) bs)

-- ---- one longest token

-- the kind of a token, by its first byte and what stands behind it
kind_of : Start → List ℕ → TokenKind
kind_of start.Letter bs = Word
kind_of start.Percent bs = Local
kind_of start.At bs = Global
kind_of start.Bang [] = Mark
kind_of start.Bang (b ∷ bs) = Meta
kind_of start.Hash bs = Group
kind_of start.Digit bs = Literal
kind_of start.Minus bs = Literal
kind_of start.Quote bs = Text
kind_of start.Mark bs = Mark
kind_of start.Feed bs = Newline
kind_of start.Nothing bs = Word

kind_is : (k : TokenKind) (s : Start) (bs : List ℕ) → goes_on k s bs ≡ true → k ≡ kind_of s bs
unfolding kind_of
kind_is Word start.Letter bs e = refl
kind_is Local start.Percent bs e = refl
kind_is Global start.At bs e = refl
kind_is Meta start.Bang [] e = absurd cc
kind_is Meta start.Bang (b ∷ bs) e = refl
kind_is Mark start.Bang [] e = refl
kind_is Mark start.Bang (b ∷ bs) e = absurd cc
kind_is Group start.Hash bs e = refl
kind_is Literal start.Digit bs e = refl
kind_is Literal start.Minus bs e = refl
kind_is Text start.Quote bs e = refl
kind_is Mark start.Mark bs e = refl
kind_is Newline start.Feed bs e = refl
kind_is _ _ bs e = absurd cc

one_kind : (bs : List ℕ) (k l : TokenKind) → is_token k bs ≡ true → is_token l bs ≡ true → k ≡ l
one_kind [] k l d e = absurd cc
one_kind (b ∷ bs) k l d e = kind_is k (start_of b) bs d ∙ sym (kind_is l (start_of b) bs e)

pub one_longest : (bytes : List ℕ) (k l : TokenKind) (m n : ℕ) → IsLongest bytes k m → IsLongest bytes l n → (k ≡ l) × (m ≡ n)
one_longest bytes k l m n a b =
    let e : m ≡ n = omega (arith, a.longest l n b.within b.token, b.longest k m a.within a.token) in
    (one_kind (take m bytes) k l a.token (rw e b.token), e)

pub longest_positive : (bytes : List ℕ) (k : TokenKind) (n : ℕ) → IsLongest bytes k n → 0 < n
longest_positive bytes k zero a = absurd (let e = a.token in cc)
longest_positive bytes k (suc n) a = omega arith
