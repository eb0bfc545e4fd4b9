-- A SOUND IMAGE: what a run and a text rely on.
use Rattle.std.specs.Prelude.{◌≡◌, ℕ, ◌+◌, ◌<◌, ◌≤◌, ◌^◌, Bool, true, ◌&&◌, ◌⊎◌, List, [], ◌∷◌, Option, Some, None, length, slice_get, All}
use Rattle.std.specs.List.{list_all}
use Rattle.ax_words.specs.declared.place.Site.{Site}
use Rattle.ax_module.specs.Names.{is_name}
use Rattle.ax_module.specs.WellFormed.{all_differ}
use Rattle.ax_map.specs.Map.{IsFrameSize}
use Rattle.ax_isa.specs.declared.effects.Effect.{Effect}
use Rattle.ax_isa.specs.declared.effects.Effect.TheVariants.{Jump, CallTo}
use Rattle.ax_isa.specs.declared.images.Image.{Image}
use Rattle.ax_isa.specs.declared.images.RoutineRange.{RoutineRange}
use Rattle.ax_isa.specs.declared.images.SiteRange.{SiteRange}
use Rattle.ax_tags.specs.declared.tags.Tag.{Tag}
use Rattle.ax_tags.specs.declared.tags.Tag.TheVariants.{Linked, Free}
use Rattle.ax_isa.specs.Effects.{IsRegister}
use Rattle.ax_isa.specs.Processor.{Processor}
use Rattle.ax_isa.specs.Run.{at_code}
use Rattle.ax_isa.specs.Steps.{Kind}

-- a range names places of a code of so many instructions, the first at most the last
pub record IsRange (size first last : ℕ) : Type 0 where
  pub begins : 1 ≤ first
  pub some : first ≤ last
  pub ends : last ≤ size

-- sites rise by function and then by instruction
abbrev pub Precedes : Site → Site → Type 0
Precedes before after = (before.function < after.function) ⊎ ((before.function ≡ after.function) × (before.instruction < after.instruction))

abbrev pub RiseBehind : Site → List SiteRange → Type 0
RiseBehind before [] = Unit {0}
RiseBehind before (r ∷ ranges) = Precedes before r.site × RiseBehind r.site ranges

abbrev pub SitesRise : List SiteRange → Type 0
SitesRise [] = Unit {0}
SitesRise (r ∷ ranges) = RiseBehind r.site ranges

-- the numbers of routines rise, from this one on; there are 55 routines
abbrev pub RoutinesRise : ℕ → List RoutineRange → Type 0
RoutinesRise n [] = Unit {0}
RoutinesRise n (r ∷ ranges) = (n ≤ r.routine) × (r.routine < 55) × RoutinesRise (r.routine + 1) ranges

abbrev pub IsRegisterOr : Option ℕ → Type 0
IsRegisterOr None = Unit {0}
IsRegisterOr (Some r) = IsRegister r

-- the registers that a tag names
abbrev pub IsTag : Tag → Type 0
IsTag (Linked weak expected mask) = IsRegister expected × IsRegisterOr mask
IsTag (Free stored) = IsRegisterOr stored
IsTag _ = Unit {0}

module _ {I : Type 0} (kind : Kind I) (valid : I → Type 0) where
  -- a jump names a place of the code, and a call the first place of a routine
  abbrev pub GoesInside : Image I → Effect → Type 0
  GoesInside image (Jump place) = (1 ≤ place) × (place ≤ length image.code)
  GoesInside image (CallTo place saved) = (n : ℕ) × (r : RoutineRange) × (slice_get image.routines n ≡ Some r) × (r.first ≡ place)
  GoesInside image _ = Unit {0}

  pub record IsSoundCode (image : Image I) : Type 0 where
    -- every register and number is in its range
    pub instructions : (j : ℕ) (i : I) → slice_get image.code j ≡ Some i → valid i
    -- there is a tag for each instruction, whose registers are in their range
    pub tags : length image.tags ≡ length image.code
    pub registers : (j : ℕ) (t : Tag) → slice_get image.tags j ≡ Some t → IsTag t
    -- every place is below 2 ^ 31
    pub short : length image.code < 2 ^ 31
    pub sites : (n : ℕ) (r : SiteRange) → slice_get image.sites n ≡ Some r → IsRange (length image.code) r.first r.last
    pub sites_rise : SitesRise image.sites
    pub routines : (n : ℕ) (r : RoutineRange) → slice_get image.routines n ≡ Some r → IsRange (length image.code) r.first r.last
    pub routines_rise : RoutinesRise 0 image.routines
    pub goes : (place : ℕ) (i : I) → at_code image.code place ≡ Some i → (c : Processor) → c.place ≡ place → GoesInside image (kind.effect_of i c)

-- each of so many functions has an entry, a place of the code, and a frame
pub record HasFunctions {I : Type 0} (functions : ℕ) (image : Image I) : Type 0 where
  pub few : functions ≤ 64
  pub entries : length image.entries ≡ functions
  pub places : (f place : ℕ) → slice_get image.entries f ≡ Some place → (1 ≤ place) × (place ≤ length image.code)
  pub frames : length image.frames ≡ functions
  pub sizes : All IsFrameSize image.frames

-- names of a module's text, which differ
abbrev pub are_names : List (List ℕ) → Bool
are_names names = list_all is_name names && all_differ names

pub record IsSound {I : Type 0} (kind : Kind I) (valid : I → Type 0) (names : List (List ℕ)) (image : Image I) : Type 0 where
  pub code : IsSoundCode kind valid image
  pub functions : HasFunctions (length names) image
  pub names_are : are_names names ≡ true
