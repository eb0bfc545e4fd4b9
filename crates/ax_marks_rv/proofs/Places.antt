-- Where the code of lines stands, and where labels lead.
use Rattle.std.proofs.Common.{◌≡◌, ℕ, zero, suc, ◌+◌, ◌<◌, ◌⊎◌, inl, inr, Bool, true, false, List, [], ◌∷◌, ◌++◌, map, Some, length, refl, ap, ◌∙◌, arith, slice_get}
use Rattle.std.specs.Prelude.{if◌then◌else◌, nat_eq, option_to_list}
use Rattle.std.proofs.lemmas.Bool.{false≢true}
use Rattle.std.proofs.lemmas.Bool.Decides.{nat_tests}
use Rattle.std.proofs.lemmas.List.{map-append}
use Rattle.std.proofs.lemmas.Option.{none-some, same_Some}
use Rattle.ax_tags.specs.declared.tags.Tag.{Tag}
use Rattle.ax_isa.specs.Run.{at_code}
use Rattle.ax_agree.specs.Rows.{codes_from}
use Rattle.ax_mid.specs.declared.code.Line.{Line}
use Rattle.ax_mid.specs.declared.instruction.MidInst.{MidInst}
use Rattle.ax_mid.specs.declared.instruction.MidInst.TheVariants as mid
use Rattle.ax_mid.specs.Machine.{behind_label, is_label, label_at}
use Rattle.ax_fine.specs.Fine.{is_quiet}
use Rattle.ax_emit.specs.Images.{Drafted, code_in, draft, drafted, place_of}
use Rattle.ax_marks_rv.proofs.Items.{laid, total}

module _ {I R : Type 0} (size : Line R → ℕ) (code : (ℕ → ℕ) → ℕ → Line R → List (I × Tag)) where
  -- ---- places of lines
  pub place_first : (lines : List (Line R)) (at : ℕ) → place_of size code lines at zero ≡ at
  place_first [] at = refl
  place_first (line ∷ lines) at = refl

  pub place_both : (xs ys : List (Line R)) (at n j : ℕ) → n ≡ length xs + j → place_of size code (xs ++ ys) at n ≡ place_of size code ys (at + total size xs) j
  place_both [] ys at n j e =
      let same : n ≡ j = omega (arith, e) in
      let more : at ≡ at + 0 = omega arith in
      ap (place_of size code ys at) same ∙ ap (λ (a : ℕ). place_of size code ys a j) more
  place_both (x ∷ xs) ys at zero j e = absurd (omega (arith, e))
  place_both (x ∷ xs) ys at (suc n) j e =
      let same : at + size x + total size xs ≡ at + (size x + total size xs) = omega arith in
      place_both xs ys (at + size x) n j (omega (arith, e)) ∙ ap (λ (a : ℕ). place_of size code ys a j) same

  -- ---- the second pass
  drafted_code : (quiet : Bool) (n : ℕ) (is : List (I × Tag)) → map (λ (d : Drafted I). d.inst) (drafted quiet n is) ≡ map (λ (z : I × Tag). z.0) is
  drafted_code quiet n [] = refl
  drafted_code quiet n (i ∷ is) = ap (λ (l : List I). i.0 ∷ l) (drafted_code quiet n is)

  pub draft_code : (places : ℕ → ℕ) (lines : List (Line R)) (at n : ℕ) → code_in (draft size code places lines at n) ≡ laid (λ at line. map (λ (z : I × Tag). z.0) (code places at line)) size at lines
  draft_code places [] at n = refl
  draft_code places (line ∷ lines) at n =
      map-append (λ (d : Drafted I). d.inst) (drafted (is_quiet line.tag) n (code places at line)) (draft size code places lines (at + size line) (n + 1))
      ∙ (ap (λ (l : List I). l ++ code_in (draft size code places lines (at + size line) (n + 1))) (drafted_code (is_quiet line.tag) n (code places at line))
      ∙ ap (λ (l : List I). map (λ (z : I × Tag). z.0) (code places at line) ++ l) (draft_code places lines (at + size line) (n + 1)))

-- ---- labels
module _ {R : Type 0} (key : R → ℕ) where
  eq_of : (a b : ℕ) → nat_eq a b ≡ true → a ≡ b
  eq_of a b h = grind (arith, nat_tests, h)

  eq_self : (a : ℕ) → nat_eq a a ≡ true
  eq_self a = grind (arith, nat_tests)

  label_of : (i : MidInst R) (n : ℕ) → is_label key n (label_at key i) ≡ true → i ≡ mid.Label n
  label_of (mid.Label m) n h = ap mid.Label (eq_of m n h)
  label_of _ n h = absurd (false≢true h)

  -- a label that stands once
  pub behind_is : (lines : List (Line R)) (n base j : ℕ) (l : Line R) → slice_get lines j ≡ Some l → l.inst ≡ mid.Label n → ((p : ℕ) (a : Line R) → slice_get lines p ≡ Some a → a.inst ≡ mid.Label n → p ≡ j) → behind_label key lines n base ≡ base + j + 1
  behind_is [] n base j l e is once = absurd (none-some l e)
  behind_is (x ∷ lines) n base zero l e is once =
      let here : x.inst ≡ mid.Label n = ap (λ (y : Line R). y.inst) (same_Some x l e) ∙ is in
      by (is_label key n (label_at key x.inst)) (ap (λ (i : MidInst R). is_label key n (label_at key i)) here ∙ eq_self n)
    where
      by : (q : Bool) → q ≡ true → (if q then base + 1 else behind_label key lines n (base + 1)) ≡ base + 0 + 1
      by true h = omega arith
      by false h = absurd (false≢true h)
  behind_is (x ∷ lines) n base (suc j) l e is once =
      by (is_label key n (label_at key x.inst)) refl (behind_is lines n (base + 1) j l e is (λ p a f g. let same = once (suc p) a f g in omega (arith, same)))
    where
      by : (q : Bool) → is_label key n (label_at key x.inst) ≡ q → behind_label key lines n (base + 1) ≡ base + 1 + j + 1 → (if q then base + 1 else behind_label key lines n (base + 1)) ≡ base + suc j + 1
      by true h rest = let never = once zero x refl (label_of x.inst n h) in absurd (omega (arith, never))
      by false h rest = omega (arith, rest)

  -- a label, or none
  pub record LabelAt (lines : List (Line R)) (n base : ℕ) : Type 0 where
    pub index : ℕ
    pub line : Line R
    pub at : slice_get lines index ≡ Some line
    pub is : line.inst ≡ mid.Label n
    pub behind : behind_label key lines n base ≡ base + index + 1

  pub find_label : (lines : List (Line R)) (n base : ℕ) → (behind_label key lines n base ≡ base + length lines) ⊎ LabelAt lines n base
  find_label [] n base = inl (omega arith)
  find_label (x ∷ lines) n base = by (is_label key n (label_at key x.inst)) refl (find_label lines n (base + 1))
    where
      by : (q : Bool) → is_label key n (label_at key x.inst) ≡ q → (behind_label key lines n (base + 1) ≡ base + 1 + length lines) ⊎ LabelAt lines n (base + 1) → (behind_label key (x ∷ lines) n base ≡ base + suc (length lines)) ⊎ LabelAt (x ∷ lines) n base
      by true h rest =
          let first : base + 1 ≡ base + 0 + 1 = omega arith in
          inr (record { index = zero; line = x; at = refl; is = label_of x.inst n h; behind = ap (λ (q : Bool). if q then base + 1 else behind_label key lines n (base + 1)) h ∙ first })
      by false h (inl e) =
          let more : base + 1 + length lines ≡ base + suc (length lines) = omega arith in
          inl (ap (λ (q : Bool). if q then base + 1 else behind_label key lines n (base + 1)) h ∙ (e ∙ more))
      by false h (inr r) =
          let more : base + 1 + r.index + 1 ≡ base + suc r.index + 1 = omega arith in
          inr (record { index = suc r.index; line = r.line; at = r.at; is = r.is; behind = ap (λ (q : Bool). if q then base + 1 else behind_label key lines n (base + 1)) h ∙ (r.behind ∙ more) })

-- ---- instructions from a place on
pub codes_are : {I : Type 0} (code xs : List I) (place : ℕ) → ((j : ℕ) → j < length xs → at_code code (place + j) ≡ slice_get xs j) → codes_from code place (length xs) ≡ xs
codes_are code [] place h = refl
codes_are {I = I} code (x ∷ xs) place h =
    let first : place ≡ place + 0 = omega arith in
    ap (λ o. option_to_list o ++ codes_from code (place + 1) (length xs)) (ap (at_code code) first ∙ h zero (omega arith))
    ∙ ap (λ (l : List I). x ∷ l) (codes_are code xs (place + 1) (λ j lt. let same : place + 1 + j ≡ place + suc j = omega arith in ap (at_code code) same ∙ h (suc j) (omega (arith, lt))))
