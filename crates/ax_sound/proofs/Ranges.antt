-- Ranges of sites are places of the code, and rise where the sites of lines never fall.
use Rattle.std.proofs.Common.{◌≡◌, ℕ, zero, suc, ◌+◌, ◌-◌, ◌<◌, ◌≤◌, inl, inr, Bool, true, false, List, [], ◌∷◌, Some, refl, sym, ◌∙◌, subst, arith, slice_get}
use Rattle.std.specs.Prelude.{if◌then◌else◌, nat_eq}
use Rattle.std.proofs.lemmas.Bool.{and_from, true≢false}
use Rattle.std.proofs.lemmas.Bool.Decides.{nat_tests}
use Rattle.std.proofs.lemmas.Option.{none-some, same_Some}
use Rattle.ax_words.specs.declared.place.Site.{Site}
use Rattle.ax_agree.specs.Sound.{IsRange, Precedes, SitesRise}
use Rattle.ax_isa.specs.declared.images.SiteRange.{SiteRange}
use Rattle.ax_mid.specs.declared.code.Line.{Line}
use Rattle.ax_mid.specs.WellFormed.{IsUpTo}
use Rattle.ax_emit.specs.Passes.{place_end}
use Rattle.ax_emit.specs.Sites.{is_same_site, joined, ranged, ranges_from}
use Rattle.ax_emit.proofs.Passes.{end_above}

-- ---- ranges between two places
abbrev IsWithin : ℕ → ℕ → SiteRange → Type 0
IsWithin low high r = (low ≤ r.first) × (r.first ≤ r.last) × (r.last < high)

abbrev pub AreWithin : ℕ → ℕ → List SiteRange → Type 0
AreWithin low high [] = Unit {0}
AreWithin low high (r ∷ ranges) = IsWithin low high r × AreWithin low high ranges

within_lower : (low middle high : ℕ) (ranges : List SiteRange) → low ≤ middle → AreWithin middle high ranges → AreWithin low high ranges
within_lower low middle high [] le h = tt
within_lower low middle high (r ∷ ranges) le h = let a = h.0.0 in ((omega (arith, a, le), h.0.1, h.0.2), within_lower low middle high ranges le h.1)

joined_within : (r : SiteRange) (ranges : List SiteRange) (low middle high : ℕ) → low ≤ r.first → r.first ≤ r.last → r.last < middle → middle ≤ high → AreWithin middle high ranges → AreWithin low high (joined r ranges)
joined_within r [] low middle high least some below most h = ((least, some, omega (arith, below, most)), tt)
joined_within r (s ∷ ranges) low middle high least some below most h = by (is_same_site r.site s.site)
  where
    a : middle ≤ s.first
    a = h.0.0

    b : s.first ≤ s.last
    b = h.0.1

    by : (t : Bool) → AreWithin low high (if t then record { site = s.site; first = r.first; last = s.last } ∷ ranges else r ∷ s ∷ ranges)
    by true = ((least, omega (arith, a, b, some, below), h.0.2), within_lower low middle high ranges (omega (arith, least, some, below)) h.1)
    by false = ((least, some, omega (arith, below, most)), ((omega (arith, a, least, some, below), b, h.0.2), within_lower low middle high ranges (omega (arith, least, some, below)) h.1))

pub range_at : (size : ℕ) (ranges : List SiteRange) (n : ℕ) (r : SiteRange) → AreWithin 1 (1 + size) ranges → slice_get ranges n ≡ Some r → IsRange size r.first r.last
range_at size [] n r h e = absurd (none-some r e)
range_at size (s ∷ ranges) zero r h e = subst (λ (x : SiteRange). IsRange size x.first x.last) (same_Some s r e) (let last = h.0.2 in record { begins = h.0.0; some = h.0.1; ends = omega (arith, last) })
range_at size (s ∷ ranges) (suc n) r h e = range_at size ranges n r h.1 e

-- ---- sites
up_to_later : (a b c : Site) → IsUpTo a b → IsUpTo b c → IsUpTo a c
up_to_later a b c (inl h) (inl g) = inl (omega (arith, h, g))
up_to_later a b c (inl h) (inr g) = let e = g.0 in inl (omega (arith, h, e))
up_to_later a b c (inr h) (inl g) = let e = h.0 in inl (omega (arith, e, g))
up_to_later a b c (inr h) (inr g) = let e = h.0 in let d = g.0 in let le = h.1 in let more = g.1 in inr (e ∙ d, omega (arith, le, more))

equal : (a b : ℕ) → a ≡ b → nat_eq a b ≡ true
equal a b e = grind (arith, nat_tests)

differ : (a b : ℕ) → nat_eq a b ≡ false → a ≤ b → a < b
differ a b e le = grind (arith, nat_tests)

precedes : (a b : Site) → IsUpTo a b → is_same_site a b ≡ false → Precedes a b
precedes a b (inl h) other = inl h
precedes a b (inr h) other = by (nat_eq a.instruction b.instruction) refl
  where
    by : (t : Bool) → nat_eq a.instruction b.instruction ≡ t → Precedes a b
    by true e = absurd (true≢false (sym (and_from (nat_eq a.function b.function) (nat_eq a.instruction b.instruction) (equal a.function b.function h.0) e) ∙ other))
    by false e = inr (h.0, differ a.instruction b.instruction e h.1)

-- each range is of a site from that one on
abbrev AreFrom : Site → List SiteRange → Type 0
AreFrom s [] = Unit {0}
AreFrom s (r ∷ ranges) = IsUpTo s r.site × AreFrom s ranges

joined_from : (s : Site) (r : SiteRange) (ranges : List SiteRange) → IsUpTo s r.site → AreFrom s ranges → AreFrom s (joined r ranges)
joined_from s r [] h g = (h, tt)
joined_from s r (x ∷ ranges) h g = by (is_same_site r.site x.site)
  where
    by : (t : Bool) → AreFrom s (if t then record { site = x.site; first = r.first; last = x.last } ∷ ranges else r ∷ x ∷ ranges)
    by true = g
    by false = (h, g)

joined_rise : (r : SiteRange) (ranges : List SiteRange) → SitesRise ranges → AreFrom r.site ranges → SitesRise (joined r ranges)
joined_rise r [] h g = tt
joined_rise r (x ∷ ranges) h g = by (is_same_site r.site x.site) refl
  where
    by : (t : Bool) → is_same_site r.site x.site ≡ t → SitesRise (if t then record { site = x.site; first = r.first; last = x.last } ∷ ranges else r ∷ x ∷ ranges)
    by true e = h
    by false e = (precedes r.site x.site g.0 e, h)

-- ---- lines whose sites never fall
module _ {R : Type 0} where
  abbrev FromSite : Site → List (Line R) → Type 0
  FromSite s [] = Unit {0}
  FromSite s (line ∷ lines) = IsUpTo s line.site × FromSite s lines

  abbrev pub AreOrdered : List (Line R) → Type 0
  AreOrdered [] = Unit {0}
  AreOrdered (line ∷ lines) = FromSite line.site lines × AreOrdered lines

  from_later : (s t : Site) (lines : List (Line R)) → IsUpTo s t → FromSite t lines → FromSite s lines
  from_later s t [] h g = tt
  from_later s t (line ∷ lines) h g = (up_to_later s t line.site h g.0, from_later s t lines h g.1)

  abbrev NeverFall : List (Line R) → Type 0
  NeverFall lines = (place : ℕ) (a b : Line R) → slice_get lines place ≡ Some a → slice_get lines (place + 1) ≡ Some b → IsUpTo a.site b.site

  from_first : (line : Line R) (lines : List (Line R)) → NeverFall (line ∷ lines) → AreOrdered lines → FromSite line.site lines
  from_first line [] h ordered = tt
  from_first line (x ∷ lines) h ordered = let first : IsUpTo line.site x.site = h 0 line x refl refl in (first, from_later line.site x.site lines first ordered.0)

  rest_never : (line : Line R) (lines : List (Line R)) → NeverFall (line ∷ lines) → NeverFall lines
  rest_never line lines h place a b ea eb =
      let same : suc (place + 1) ≡ suc place + 1 = omega arith in
      h (suc place) a b ea (subst (λ (n : ℕ). slice_get (line ∷ lines) n ≡ Some b) same eb)

  pub ordered : (lines : List (Line R)) → NeverFall lines → AreOrdered lines
  ordered [] h = tt
  ordered (line ∷ lines) h = let rest = ordered lines (rest_never line lines h) in (from_first line lines h rest, rest)

  -- ---- the ranges of lines
  module _ (size : Line R → ℕ) where
    ranged_within : (site : Site) (at n high : ℕ) (ranges : List SiteRange) → at + n ≤ high → AreWithin (at + n) high ranges → AreWithin at high (ranged site at n ranges)
    ranged_within site at n high ranges most h = by (nat_eq n 0) refl
      where
        by : (t : Bool) → nat_eq n 0 ≡ t → AreWithin at high (if t then ranges else joined (record { site = site; first = at; last = at + n - 1 }) ranges)
        by true e = within_lower at (at + n) high ranges (omega arith) h
        by false e =
            let some : 0 < n = grind (arith, nat_tests, e) in
            joined_within (record { site = site; first = at; last = at + n - 1 }) ranges at (at + n) high (omega arith) (omega (arith, some)) (omega (arith, some)) most h

    pub ranges_within : (at : ℕ) (lines : List (Line R)) → AreWithin at (place_end size at lines) (ranges_from size at lines)
    ranges_within at [] = tt
    ranges_within at (line ∷ lines) =
        ranged_within line.site at (size line) (place_end size (at + size line) lines) (ranges_from size (at + size line) lines) (end_above size (at + size line) lines) (ranges_within (at + size line) lines)

    ranged_from : (s site : Site) (at n : ℕ) (ranges : List SiteRange) → IsUpTo s site → AreFrom s ranges → AreFrom s (ranged site at n ranges)
    ranged_from s site at n ranges h g = by (nat_eq n 0)
      where
        by : (t : Bool) → AreFrom s (if t then ranges else joined (record { site = site; first = at; last = at + n - 1 }) ranges)
        by true = g
        by false = joined_from s (record { site = site; first = at; last = at + n - 1 }) ranges h g

    ranges_are_from : (s : Site) (at : ℕ) (lines : List (Line R)) → FromSite s lines → AreFrom s (ranges_from size at lines)
    ranges_are_from s at [] h = tt
    ranges_are_from s at (line ∷ lines) h = ranged_from s line.site at (size line) (ranges_from size (at + size line) lines) h.0 (ranges_are_from s (at + size line) lines h.1)

    ranged_rise : (site : Site) (at n : ℕ) (ranges : List SiteRange) → SitesRise ranges → AreFrom site ranges → SitesRise (ranged site at n ranges)
    ranged_rise site at n ranges h g = by (nat_eq n 0)
      where
        by : (t : Bool) → SitesRise (if t then ranges else joined (record { site = site; first = at; last = at + n - 1 }) ranges)
        by true = h
        by false = joined_rise (record { site = site; first = at; last = at + n - 1 }) ranges h g

    pub ranges_rise : (at : ℕ) (lines : List (Line R)) → AreOrdered lines → SitesRise (ranges_from size at lines)
    ranges_rise at [] h = tt
    ranges_rise at (line ∷ lines) h =
        ranged_rise line.site at (size line) (ranges_from size (at + size line) lines) (ranges_rise (at + size line) lines h.1) (ranges_are_from line.site (at + size line) lines h.0)
