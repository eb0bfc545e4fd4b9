-- THE RANGES OF SITES: the places of the code of each source instruction, from the lines that are its parts.
use Rattle.std.specs.Prelude.{ℕ, ◌+◌, ◌-◌, Bool, ◌&&◌, nat_eq, if◌then◌else◌, List, [], ◌∷◌, Option, None, Some}
use Rattle.ax_words.specs.declared.place.Site.{Site}
use Rattle.ax_isa.specs.declared.images.SiteRange.{SiteRange}
use Rattle.ax_mid.specs.declared.code.Line.{Line}

abbrev pub is_same_site : Site → Site → Bool
is_same_site a b = nat_eq a.function b.function && nat_eq a.instruction b.instruction

-- a range before others, which it joins where the first of them is of the same site
abbrev pub joined : SiteRange → List SiteRange → List SiteRange
joined r [] = r ∷ []
joined r (s ∷ ranges) = if is_same_site r.site s.site then record { site = s.site; first = r.first; last = s.last } ∷ ranges else r ∷ s ∷ ranges

-- the last range so far, if there is one, before others
abbrev pub opened : Option SiteRange → List SiteRange → List SiteRange
opened None ranges = ranges
opened (Some r) ranges = joined r ranges

-- so many instructions from a place on, which are a part of that site's code; a line without code has no range
abbrev pub ranged : Site → ℕ → ℕ → List SiteRange → List SiteRange
ranged site at size ranges = if nat_eq size 0 then ranges else joined (record { site = site; first = at; last = at + size - 1 }) ranges

module _ {R : Type 0} (size_of : Line R → ℕ) where
  -- of lines whose code begins at a place
  abbrev pub ranges_from : ℕ → List (Line R) → List SiteRange
  ranges_from at [] = []
  ranges_from at (line ∷ lines) = ranged line.site at (size_of line) (ranges_from (at + size_of line) lines)
