-- Lines of which each has a property, and their sizes, one after the other.
use Rattle.std.proofs.Common.{◌≡◌, ℕ, suc, ◌+◌, ◌*◌, ◌≤◌, List, [], ◌∷◌, Some, refl, arith, slice_get}
use Rattle.ax_mid.specs.declared.code.Line.{Line}
use Rattle.ax_mid.specs.WellFormed.{weight, weight_of}
use Rattle.ax_emit.specs.Passes.{place_end}

-- ---- each of these lines has a property
abbrev pub AllLines : {R : Type 0} → (Line R → Type 0) → List (Line R) → Type 0
AllLines P [] = Unit {0}
AllLines P (line ∷ lines) = P line × AllLines P lines

pub all_lines : {R : Type 0} (P : Line R → Type 0) (lines : List (Line R)) → ((place : ℕ) (line : Line R) → slice_get lines place ≡ Some line → P line) → AllLines P lines
all_lines P [] h = tt
all_lines P (line ∷ lines) h = (h 0 line refl, all_lines P lines (λ place l e. h (suc place) l e))

-- ---- sizes
module _ {R : Type 0} (size : Line R → ℕ) where
  abbrev pub sizes : List (Line R) → ℕ
  sizes [] = 0
  sizes (line ∷ lines) = size line + sizes lines

  pub end_is : (at : ℕ) (lines : List (Line R)) → place_end size at lines ≡ at + sizes lines
  end_is at [] = omega arith
  end_is at (line ∷ lines) = let e = end_is (at + size line) lines in omega (arith, e)

  -- lines of at most 31 instructions for each unit of their weight
  pub sizes_most : (lines : List (Line R)) → AllLines (λ line. size line ≤ 31 * weight line.inst) lines → sizes lines ≤ 31 * weight_of lines
  sizes_most [] h = omega arith
  sizes_most (line ∷ lines) h = let a = h.0 in let b = sizes_most lines h.1 in omega (arith, a, b)
