-- EMISSION AS CODE, two passes: where each line's code stands, and then the code with its jumps at their places.
use Rattle.std.specs.Prelude.{ℕ, zero, suc, ◌+◌, Bool, false, List, [], ◌∷◌, ◌++◌, Option, Some, None, map}
use Rattle.ax_tags.specs.declared.tags.Tag.{Tag}
use Rattle.ax_tags.specs.declared.tags.Tag.TheVariants.{Silent}
use Rattle.ax_store.specs.declared.entry.Entry.{Entry}
use Rattle.ax_isa.specs.Run.{at_code, tag_at}
use Rattle.ax_isa.specs.Tells.{told_of}
use Rattle.ax_follow.specs.Contract.{Reading}
use Rattle.ax_mid.specs.declared.code.Line.{Line}
use Rattle.ax_expand.specs.Standing.{hush}
use Rattle.ax_fine.specs.Fine.{is_quiet}

-- an instruction with its mark, its public tag, and the line whose code it is of; marks and lines are in the proof alone
pub record Drafted (I : Type 0) : Type 0 where
  pub inst : I
  pub mark : Tag
  pub tag : Tag
  pub line : ℕ

abbrev pub drafted : {I : Type 0} → Bool → ℕ → List (I × Tag) → List (Drafted I)
drafted quiet n [] = []
drafted quiet n (i ∷ is) = record { inst = i.0; mark = i.1; tag = hush quiet i.1; line = n } ∷ drafted quiet n is

module _ {I R : Type 0} (size_of : Line R → ℕ) (code_of : (ℕ → ℕ) → ℕ → Line R → List (I × Tag)) where
  -- the first pass: the place of line j, where the first of these lines begins at `at`
  abbrev pub place_of : List (Line R) → ℕ → ℕ → ℕ
  place_of [] at zero = at
  -- no place
  place_of [] at (suc j) = 0
  place_of (line ∷ lines) at zero = at
  place_of (line ∷ lines) at (suc j) = place_of lines (at + size_of line) j

  -- the second pass, from line n on
  abbrev pub draft : (ℕ → ℕ) → List (Line R) → ℕ → ℕ → List (Drafted I)
  draft places [] at n = []
  draft places (line ∷ lines) at n = drafted (is_quiet line.tag) n (code_of places at line) ++ draft places lines (at + size_of line) (n + 1)

  -- of a whole program; places count from 1
  abbrev pub places_of : List (Line R) → ℕ → ℕ
  places_of lines = place_of lines 1

  abbrev pub image_of : List (Line R) → List (Drafted I)
  image_of lines = draft (places_of lines) lines 1 0

abbrev pub code_in : {I : Type 0} → List (Drafted I) → List I
code_in ds = map (λ d. d.inst) ds

abbrev pub tags_in : {I : Type 0} → List (Drafted I) → ℕ → Tag
tags_in ds = tag_at (map (λ d. d.tag) ds)

abbrev pub mark_or : {I : Type 0} → Option (Drafted I) → Tag
mark_or None = Silent
mark_or (Some d) = d.mark

abbrev pub line_or : {I : Type 0} → Option (Drafted I) → ℕ
line_or None = 0
line_or (Some d) = d.line

abbrev pub reading_in : {I : Type 0} → List (Drafted I) → (Entry → Bool) → (Entry → Bool) → ℕ → Reading
reading_in ds counts public most = record { marks = λ place. mark_or (at_code ds place); given = told_of; words = false; owner = λ place. line_or (at_code ds place); counts = counts; public = public; most = most }
