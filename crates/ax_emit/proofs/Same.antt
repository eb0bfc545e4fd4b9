-- Passes over the same sizes and code.
use Rattle.std.proofs.Common.{◌≡◌, ℕ, zero, suc, ◌+◌, Bool, List, [], ◌∷◌, ◌++◌, length, refl, sym, ap, ◌∙◌, arith, length-append}
use Rattle.std.specs.Prelude.{Some, slice_get}
use Rattle.ax_tags.specs.declared.tags.Tag.{Tag}
use Rattle.ax_mid.specs.declared.code.Line.{Line}
use Rattle.ax_fine.specs.Fine.{is_quiet}
use Rattle.ax_emit.specs.Images.{draft, drafted, image_of, place_of, places_of}
use Rattle.ax_emit.specs.Passes.{HaveSameSizes, HaveSizes, PlacesAreThose, place_end, places_from}
use Rattle.ax_emit.specs.Sites.{ranged, ranges_from}

length_drafted : {I : Type 0} (quiet : Bool) (n : ℕ) (is : List (I × Tag)) → length (drafted quiet n is) ≡ length is
length_drafted quiet n [] = refl
length_drafted quiet n (i ∷ is) = let h = length_drafted quiet n is in omega (arith, h)

module _ {I R : Type 0} (size_of : Line R → ℕ) (code_of : (ℕ → ℕ) → ℕ → Line R → List (I × Tag)) where
  -- the place behind the last line is behind its code
  pub end_is : (lines : List (Line R)) → HaveSizes size_of code_of lines → (places : ℕ → ℕ) (at n : ℕ) → place_end size_of at lines ≡ at + length (draft size_of code_of places lines at n)
  end_is [] sized places at n = omega arith
  end_is (line ∷ lines) sized places at n =
      let quiet = is_quiet line.tag in
      let code = code_of places at line in
      let rest = draft size_of code_of places lines (at + size_of line) (n + 1) in
      let h = end_is lines (λ j. sized (suc j)) places (at + size_of line) (n + 1) in
      let s = sized zero line refl places at in
      let d = length_drafted quiet n code in
      let a = length-append (drafted quiet n code) rest in
      omega (arith, h, s, d, a)

module _ {R : Type 0} (size_of other : Line R → ℕ) where
  pub same_places : (at : ℕ) (lines : List (Line R)) → HaveSameSizes size_of other lines → places_from size_of at lines ≡ places_from other at lines
  same_places at [] same = refl
  same_places at (line ∷ lines) same = ap (λ ps. at ∷ ps) (same_places (at + size_of line) lines (λ j. same (suc j)) ∙ ap (λ s. places_from other (at + s) lines) (same zero line refl))

  pub same_end : (at : ℕ) (lines : List (Line R)) → HaveSameSizes size_of other lines → place_end size_of at lines ≡ place_end other at lines
  same_end at [] same = refl
  same_end at (line ∷ lines) same = same_end (at + size_of line) lines (λ j. same (suc j)) ∙ ap (λ s. place_end other (at + s) lines) (same zero line refl)

  pub same_ranges : (at : ℕ) (lines : List (Line R)) → HaveSameSizes size_of other lines → ranges_from size_of at lines ≡ ranges_from other at lines
  same_ranges at [] same = refl
  same_ranges at (line ∷ lines) same =
      ap (λ rs. ranged line.site at (size_of line) rs) (same_ranges (at + size_of line) lines (λ j. same (suc j)))
      ∙ ap (λ s. ranged line.site at s (ranges_from other (at + s) lines)) (same zero line refl)

  pub are_those : (lines : List (Line R)) → HaveSameSizes size_of other lines → PlacesAreThose size_of other lines
  are_those lines same = record { places = same_places 1 lines same; end = same_end 1 lines same; ranges = same_ranges 1 lines same }

  module _ {I : Type 0} (code_of other_code : (ℕ → ℕ) → ℕ → Line R → List (I × Tag)) where
    same_place : (lines : List (Line R)) (at j : ℕ) → HaveSameSizes size_of other lines → place_of size_of code_of lines at j ≡ place_of other other_code lines at j
    same_place [] at zero same = refl
    same_place [] at (suc j) same = refl
    same_place (line ∷ lines) at zero same = refl
    same_place (line ∷ lines) at (suc j) same = same_place lines (at + size_of line) j (λ k. same (suc k)) ∙ ap (λ s. place_of other other_code lines (at + s) j) (same zero line refl)

    same_draft : (places : ℕ → ℕ) (lines : List (Line R)) (at n : ℕ) → HaveSameSizes size_of other lines → ((j : ℕ) (line : Line R) → slice_get lines j ≡ Some line → (places : ℕ → ℕ) (start : ℕ) → code_of places start line ≡ other_code places start line)
        → draft size_of code_of places lines at n ≡ draft other other_code places lines at n
    same_draft places [] at n same codes = refl
    same_draft places (line ∷ lines) at n same codes =
        ap (λ is. drafted (is_quiet line.tag) n is ++ draft size_of code_of places lines (at + size_of line) (n + 1)) (codes zero line refl places at)
        ∙ ap (λ ds. drafted (is_quiet line.tag) n (other_code places at line) ++ ds) (same_draft places lines (at + size_of line) (n + 1) (λ j. same (suc j)) (λ j. codes (suc j)) ∙ ap (λ s. draft other other_code places lines (at + s) (n + 1)) (same zero line refl))

    -- so is the image
    pub same_image : (lines : List (Line R)) → HaveSameSizes size_of other lines → ((j : ℕ) (line : Line R) → slice_get lines j ≡ Some line → (places : ℕ → ℕ) (start : ℕ) → code_of places start line ≡ other_code places start line)
        → image_of size_of code_of lines ≡ image_of other other_code lines
    same_image lines same codes =
        let places : places_of size_of code_of lines ≡ places_of other other_code lines = λ d j. same_place lines 1 j same d in
        ap (λ ps. draft size_of code_of ps lines 1 0) places ∙ same_draft (places_of other other_code lines) lines 1 0 same codes
