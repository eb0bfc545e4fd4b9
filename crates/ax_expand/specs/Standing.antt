-- Where a piece of code stands in an image.
use Rattle.std.specs.Prelude.{◌≡◌, ℕ, ◌+◌, ◌<◌, ◌^◌, Bool, true, false, List, [], ◌∷◌, ◌++◌, Some, length, map}
use Rattle.ax_tags.specs.declared.tags.Tag.{Tag}
use Rattle.ax_tags.specs.declared.tags.Tag.TheVariants.{Silent}
use Rattle.ax_isa.specs.Steps.{Kind}
use Rattle.ax_isa.specs.Tells.{Library}
use Rattle.ax_isa.specs.Run.{Setting, at_code}
use Rattle.ax_follow.specs.Contract.{Reading}

-- the public tag of a silent instruction's code
abbrev pub hush : Bool → Tag → Tag
hush true t = Silent
hush false t = t

-- an instruction with its mark stands at a place, and is of instruction `number`
pub record Here {I : Type 0} (x : Setting I) (v : Reading) (quiet : Bool) (number place : ℕ) (i : I × Tag) : Type 0 where
  pub code : at_code x.code place ≡ Some i.0
  pub mark : v.marks place ≡ i.1
  pub tag : x.tags place ≡ hush quiet i.1
  pub owner : v.owner place ≡ number
  pub small : place + 1 < 2 ^ 32

abbrev pub HasAt : {I : Type 0} → Setting I → Reading → Bool → ℕ → ℕ → List (I × Tag) → Type 0
HasAt x v quiet number place [] = Unit {0}
HasAt x v quiet number place (i ∷ is) = Here x v quiet number place i × HasAt x v quiet number (place + 1) is

-- code that is silent throughout
abbrev pub silently : {I : Type 0} → List I → List (I × Tag)
silently is = map (λ i. (i, Silent)) is

-- code round a piece, from a place on
abbrev pub wrap : {I : Type 0} → List I → (ℕ → List (I × Tag)) → List I → ℕ → List (I × Tag)
wrap before piece after start = silently before ++ (piece (start + length before) ++ silently after)

-- a setting by its parts, with a tag for each place
abbrev pub setting_by : {I : Type 0} → Kind I → List I → (ℕ → Tag) → Library → Setting I
setting_by k code tags lib = record { kind = k; code = code; tags = tags; library = lib }
