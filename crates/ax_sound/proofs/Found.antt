-- Labels that stand in code with code behind them, and where they lead.
use Rattle.std.proofs.Common.{◌≡◌, ℕ, zero, suc, ◌+◌, ◌≤◌, ◌⊎◌, inl, inr, Bool, true, false, List, [], ◌∷◌, Some, None, refl, sym, ap, ◌∙◌, arith, slice_get}
use Rattle.std.specs.Prelude.{if◌then◌else◌, nat_eq}
use Rattle.std.proofs.lemmas.Bool.{true≢false}
use Rattle.std.proofs.lemmas.Bool.Decides.{nat_tests}
use Rattle.std.proofs.lemmas.Option.{none-some, same_Some}
use Rattle.ax_tags.specs.declared.tags.Tag.{Tag}
use Rattle.ax_mid.specs.declared.code.Line.{Line}
use Rattle.ax_mid.specs.declared.instruction.MidInst.{MidInst}
use Rattle.ax_mid.specs.declared.instruction.MidInst.TheVariants as mid
use Rattle.ax_mid.specs.Machine.{behind_label, is_label, label_at}
use Rattle.ax_mid.specs.WellFormed.{is_last}
use Rattle.ax_emit.specs.Images.{place_of}
use Rattle.ax_sound.proofs.Sums.{sizes}

itself : (n : ℕ) → nat_eq n n ≡ true
itself n = grind (arith, nat_tests)

label_goes_on : {R : Type 0} (n : ℕ) (i : MidInst R) → i ≡ mid.Label n → is_last i ≡ false
unfolding is_last
label_goes_on n i is = ap is_last is

-- the last of these lines does not go on
abbrev pub End : {R : Type 0} → List (Line R) → Type 0
End {R} lines = (place : ℕ) (line : Line R) → slice_get lines place ≡ Some line → slice_get lines (suc place) ≡ None → is_last line.inst ≡ true

pub end_behind : {R : Type 0} (x : Line R) (lines : List (Line R)) → End (x ∷ lines) → End lines
end_behind x lines h = λ place line at none. h (suc place) line at none

-- ---- lines whose last one has code
module _ {R : Type 0} (size : Line R → ℕ) (least : (line : Line R) → is_last line.inst ≡ true → 1 ≤ size line) where
  some_code : (x : Line R) (lines : List (Line R)) → End (x ∷ lines) → 1 ≤ sizes size (x ∷ lines)
  some_code x [] h = let a = least x (h 0 x refl refl) in omega (arith, a)
  some_code x (y ∷ lines) h = let a = some_code y lines (end_behind x (y ∷ lines) h) in omega (arith, a)

  -- there is some behind each that goes on
  pub code_behind : (x : Line R) (lines : List (Line R)) → End (x ∷ lines) → is_last x.inst ≡ false → 1 ≤ sizes size lines
  code_behind x [] h on = absurd (true≢false (sym (h 0 x refl refl) ∙ on))
  code_behind x (y ∷ lines) h on = some_code y lines (end_behind x (y ∷ lines) h)

module _ {R : Type 0} (key : R → ℕ) (size : Line R → ℕ) where
  abbrev pub Found : List (Line R) → ℕ → Type 0
  Found [] n = ⊥
  Found (line ∷ lines) n = ((label_at key line.inst ≡ Some n) × (1 ≤ sizes size lines)) ⊎ Found lines n

  found_some : (lines : List (Line R)) (n : ℕ) → Found lines n → 1 ≤ sizes size lines
  found_some [] n h = absurd h
  found_some (x ∷ lines) n (inl h) = let some = h.1 in omega (arith, some)
  found_some (x ∷ lines) n (inr h) = let some = found_some lines n h in omega (arith, some)

  found_behind : (x : Line R) (lines : List (Line R)) (n : ℕ) → Found (x ∷ lines) n → 1 ≤ sizes size lines
  found_behind x lines n (inl h) = h.1
  found_behind x lines n (inr h) = found_some lines n h

  -- a label that stands in lines whose last one has code
  module _ (least : (line : Line R) → is_last line.inst ≡ true → 1 ≤ size line) where
    pub found_at : (lines : List (Line R)) (place n : ℕ) (line : Line R) → End lines → slice_get lines place ≡ Some line → line.inst ≡ mid.Label n → Found lines n
    found_at [] place n line h at is = absurd (none-some line at)
    found_at (x ∷ lines) zero n line h at is =
        let first : x.inst ≡ mid.Label n = ap (λ (l : Line R). l.inst) (same_Some x line at) ∙ is in
        inl (ap (label_at key) first, code_behind size least x lines h (label_goes_on n x.inst first))
    found_at (x ∷ lines) (suc place) n line h at is = inr (found_at lines place n line (end_behind x lines h) at is)

  module _ {I : Type 0} (code : (ℕ → ℕ) → ℕ → Line R → List (I × Tag)) where
    first_place : (lines : List (Line R)) (at : ℕ) → place_of size code lines at 0 ≡ at
    first_place [] at = refl
    first_place (x ∷ lines) at = refl

    -- a line of these that stands before code
    pub record IsLanding (lines : List (Line R)) (place at target : ℕ) : Type 0 where
      pub line : ℕ
      pub behind : target ≡ place + line
      pub first : at ≤ place_of size code lines at line
      pub last : place_of size code lines at line + 1 ≤ at + sizes size lines

    further : (x : Line R) (lines : List (Line R)) (place at target : ℕ) → IsLanding lines (place + 1) (at + size x) target → IsLanding (x ∷ lines) place at target
    further x lines place at target h =
        let b = h.behind in
        let f = h.first in
        let l = h.last in
        record { line = suc h.line; behind = omega (arith, b); first = omega (arith, f); last = omega (arith, l) }

    pub lands : (lines : List (Line R)) (n place at : ℕ) → Found lines n → IsLanding lines place at (behind_label key lines n place)
    lands [] n place at h = absurd h
    lands (x ∷ lines) n place at h = by (is_label key n (label_at key x.inst)) refl h (λ g. lands lines n (place + 1) (at + size x) g)
      where
        here : IsLanding (x ∷ lines) place at (place + 1)
        here =
            let f = first_place lines (at + size x) in
            let some = found_behind x lines n h in
            record { line = 1; behind = refl; first = omega (arith, f); last = omega (arith, f, some) }

        by : (t : Bool) → is_label key n (label_at key x.inst) ≡ t → Found (x ∷ lines) n → (Found lines n → IsLanding lines (place + 1) (at + size x) (behind_label key lines n (place + 1))) → IsLanding (x ∷ lines) place at (if t then place + 1 else behind_label key lines n (place + 1))
        by true e g rest = here
        by false e (inl g) rest = absurd (true≢false (sym (ap (is_label key n) g.0 ∙ itself n) ∙ e))
        by false e (inr g) rest = further x lines place at (behind_label key lines n (place + 1)) (rest g)

    pub record IsInCode (lines : List (Line R)) (n : ℕ) : Type 0 where
      pub least : 1 ≤ place_of size code lines 1 (behind_label key lines n 0)
      pub most : place_of size code lines 1 (behind_label key lines n 0) ≤ sizes size lines

    pub in_code : (lines : List (Line R)) (n : ℕ) → Found lines n → IsInCode lines n
    in_code lines n h =
        let l = lands lines n 0 1 h in
        let b = l.behind in
        let same : behind_label key lines n 0 ≡ l.line = omega (arith, b) in
        let e = ap (place_of size code lines 1) same in
        let f = l.first in
        let m = l.last in
        record { least = omega (arith, e, f); most = omega (arith, e, m) }
