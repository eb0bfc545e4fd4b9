-- Where the code of lines begins, as lists.
use Rattle.std.specs.Prelude.{◌≡◌, ℕ, ◌+◌, List, [], ◌∷◌, Some, length, map, slice_get, slice_index_or}
use Rattle.ax_tags.specs.declared.tags.Tag.{Tag}
use Rattle.ax_mid.specs.declared.code.Line.{Line}
use Rattle.ax_emit.specs.Images.{Drafted, draft, image_of, places_of}
use Rattle.ax_emit.specs.Sites.{ranges_from}

-- the places in a list
abbrev pub placed : List ℕ → ℕ → ℕ
placed places j = slice_index_or places j 0

-- the public tags of an image
abbrev pub tags_of : {I : Type 0} → List (Drafted I) → List Tag
tags_of ds = map (λ d. d.tag) ds

module _ {R : Type 0} (size_of : Line R → ℕ) where
  -- the place of each line, where the first begins at `at`, and that behind the last
  abbrev pub places_from : ℕ → List (Line R) → List ℕ
  places_from at [] = at ∷ []
  places_from at (line ∷ lines) = at ∷ places_from (at + size_of line) lines

  -- the place behind the last
  abbrev pub place_end : ℕ → List (Line R) → ℕ
  place_end at [] = at
  place_end at (line ∷ lines) = place_end (at + size_of line) lines

  module _ {I : Type 0} (code_of : (ℕ → ℕ) → ℕ → Line R → List (I × Tag)) where
    -- a line's code has its size wherever it stands
    abbrev pub HasSize : Line R → Type 0
    HasSize line = (places : ℕ → ℕ) (start : ℕ) → length (code_of places start line) ≡ size_of line

    -- so has that of each of these lines
    abbrev pub HaveSizes : List (Line R) → Type 0
    HaveSizes lines = (j : ℕ) (line : Line R) → slice_get lines j ≡ Some line → HasSize line

-- each of these lines has the same size by both
abbrev pub HaveSameSizes : {R : Type 0} → (Line R → ℕ) → (Line R → ℕ) → List (Line R) → Type 0
HaveSameSizes {R} size_of other lines = (j : ℕ) (line : Line R) → slice_get lines j ≡ Some line → size_of line ≡ other line

-- ---- what the passes agree on
module _ (I R : Type 0) where
  -- the list of places has those of the image
  abbrev pub PlacesAgree : Type 0
  PlacesAgree = (size_of : Line R → ℕ) (code_of : (ℕ → ℕ) → ℕ → Line R → List (I × Tag)) (lines : List (Line R)) → placed (places_from size_of 1 lines) ≡ places_of size_of code_of lines

  -- where each line's code has its size, the place behind the last is behind all code
  abbrev pub EndIsBehindCode : Type 0
  EndIsBehindCode =
      (size_of : Line R → ℕ) (code_of : (ℕ → ℕ) → ℕ → Line R → List (I × Tag)) (lines : List (Line R)) → HaveSizes size_of code_of lines
      → (places : ℕ → ℕ) (at n : ℕ) → place_end size_of at lines ≡ at + length (draft size_of code_of places lines at n)

  -- lines whose code is the same are one image
  abbrev pub SameCodeIsOneImage : Type 0
  SameCodeIsOneImage =
      (size_of other_size : Line R → ℕ) (code_of other_code : (ℕ → ℕ) → ℕ → Line R → List (I × Tag)) (lines : List (Line R)) → HaveSameSizes size_of other_size lines
      → ((j : ℕ) (line : Line R) → slice_get lines j ≡ Some line → (places : ℕ → ℕ) (start : ℕ) → code_of places start line ≡ other_code places start line)
      → image_of size_of code_of lines ≡ image_of other_size other_code lines

-- lines of the same sizes have the same places, and the same ranges of sites
pub record PlacesAreThose {R : Type 0} (size_of other : Line R → ℕ) (lines : List (Line R)) : Type 0 where
  pub places : places_from size_of 1 lines ≡ places_from other 1 lines
  pub end : place_end size_of 1 lines ≡ place_end other 1 lines
  pub ranges : ranges_from size_of 1 lines ≡ ranges_from other 1 lines

abbrev pub SameSizesAreOnePlace : Type 0 → Type 0
SameSizesAreOnePlace R = (size_of other : Line R → ℕ) (lines : List (Line R)) → HaveSameSizes size_of other lines → PlacesAreThose size_of other lines
