-- Ranges of sites, a line at a time.
use Rattle.std.proofs.Common.{◌≡◌, ℕ, zero, suc, ◌+◌, ◌-◌, ◌<◌, ◌≤◌, Bool, true, false, ◌&&◌, List, [], ◌∷◌, ◌++◌, Option, None, Some, length, drop, get_or, refl, sym, ap, ◌∙◌, arith, append_assoc, append-nil, true≢false, add-one, if◌then◌else◌}
use Rattle.std.specs.Prelude.{nat_eq, slice_index_or}
use Rattle.std.proofs.lemmas.Bool.{eqb-true}
use Rattle.ax_words.specs.declared.place.Site.{Site}
use Rattle.ax_isa.specs.declared.images.SiteRange.{SiteRange}
use Rattle.ax_mid.specs.declared.code.Line.{Line}
use Rattle.ax_emit.specs.Passes.{placed, places_from}
use Rattle.ax_emit.specs.Sites.{is_same_site, joined, opened, ranged, ranges_from}

both : (a b : Bool) → (a && b) ≡ true → (a ≡ true) × (b ≡ true)
both true b h = (refl, h)
both false b h = absurd (true≢false (sym h))

-- one site is one site
same_is : (a b : Site) → is_same_site a b ≡ true → a ≡ b
same_is a b h =
    let hs = both (nat_eq a.function b.function) (nat_eq a.instruction b.instruction) h in
    λ d. record { function = eqb-true a.function b.function hs.0 d; instruction = eqb-true a.instruction b.instruction hs.1 d }

spread : Site → ℕ → ℕ → SiteRange
spread site first last = record { site = site; first = first; last = last }

-- a range before one of its site is joined with it
join_same : (r n : SiteRange) (rest : List SiteRange) → is_same_site r.site n.site ≡ true → joined r (joined n rest) ≡ joined (record { site = n.site; first = r.first; last = n.last }) rest
join_same r n [] h = ap (λ b. if b then record { site = n.site; first = r.first; last = n.last } ∷ [] else r ∷ n ∷ []) h
join_same r n (s ∷ rest) h = by (is_same_site n.site s.site) refl
  where
    by : (b : Bool) → is_same_site n.site s.site ≡ b
        → joined r (if b then record { site = s.site; first = n.first; last = s.last } ∷ rest else n ∷ s ∷ rest) ≡ (if b then record { site = s.site; first = r.first; last = s.last } ∷ rest else record { site = n.site; first = r.first; last = n.last } ∷ s ∷ rest)
    by true e = ap (λ b. if b then record { site = s.site; first = r.first; last = s.last } ∷ rest else r ∷ record { site = s.site; first = n.first; last = s.last } ∷ rest) (ap (λ q. is_same_site r.site q) (sym (same_is n.site s.site e)) ∙ h)
    by false e = ap (λ b. if b then record { site = n.site; first = r.first; last = n.last } ∷ s ∷ rest else r ∷ n ∷ s ∷ rest) h

-- and before one of another site stands
join_other : (r n : SiteRange) (rest : List SiteRange) → is_same_site r.site n.site ≡ false → joined r (joined n rest) ≡ r ∷ joined n rest
join_other r n [] h = ap (λ b. if b then record { site = n.site; first = r.first; last = n.last } ∷ [] else r ∷ n ∷ []) h
join_other r n (s ∷ rest) h = by (is_same_site n.site s.site) refl
  where
    by : (b : Bool) → is_same_site n.site s.site ≡ b
        → joined r (if b then record { site = s.site; first = n.first; last = s.last } ∷ rest else n ∷ s ∷ rest) ≡ r ∷ (if b then record { site = s.site; first = n.first; last = s.last } ∷ rest else n ∷ s ∷ rest)
    by true e = ap (λ b. if b then record { site = s.site; first = r.first; last = s.last } ∷ rest else r ∷ record { site = s.site; first = n.first; last = s.last } ∷ rest) (ap (λ q. is_same_site r.site q) (sym (same_is n.site s.site e)) ∙ h)
    by false e = ap (λ b. if b then record { site = n.site; first = r.first; last = n.last } ∷ s ∷ rest else r ∷ n ∷ s ∷ rest) h

pub joined_same : (before : List SiteRange) (r n : SiteRange) (rest : List SiteRange) → is_same_site r.site n.site ≡ true → before ++ joined (record { site = n.site; first = r.first; last = n.last }) rest ≡ before ++ joined r (joined n rest)
joined_same before r n rest h = ap (λ zs. before ++ zs) (sym (join_same r n rest h))

pub joined_other : (before after : List SiteRange) (r n : SiteRange) (rest : List SiteRange) → is_same_site r.site n.site ≡ false → after ≡ before ++ r ∷ [] → after ++ joined n rest ≡ before ++ joined r (joined n rest)
joined_other before after r n rest h pushed = ap (λ zs. zs ++ joined n rest) pushed ∙ append_assoc before (r ∷ []) (joined n rest) ∙ ap (λ zs. before ++ zs) (sym (join_other r n rest h))

-- a line without code
pub covered_none : (before : List SiteRange) (open_range : Option SiteRange) (site : Site) (first size : ℕ) (rest : List SiteRange) → nat_eq size 0 ≡ true → before ++ opened open_range rest ≡ before ++ opened open_range (ranged site first size rest)
covered_none before open_range site first size rest h = ap (λ b. before ++ opened open_range (if b then rest else joined (record { site = site; first = first; last = first + size - 1 }) rest)) (sym h)

-- a line with code
pub covered_some : (before : List SiteRange) (open_range : Option SiteRange) (site : Site) (first size last : ℕ) (rest : List SiteRange) → nat_eq size 0 ≡ false → last ≡ first + size - 1 → before ++ opened open_range (joined (record { site = site; first = first; last = last }) rest) ≡ before ++ opened open_range (ranged site first size rest)
covered_some before open_range site first size last rest h is =
    ap (λ l. before ++ opened open_range (joined (record { site = site; first = first; last = l }) rest)) is
    ∙ ap (λ b. before ++ opened open_range (if b then rest else joined (record { site = site; first = first; last = first + size - 1 }) rest)) (sym h)

pub closed_none : (before : List SiteRange) → before ++ opened None [] ≡ before
closed_none before = append-nil before

module _ {R : Type 0} (size_of : Line R → ℕ) where
  place_first : (at : ℕ) (lines : List (Line R)) → slice_index_or (places_from size_of at lines) 0 0 ≡ at
  place_first at [] = refl
  place_first at (line ∷ lines) = refl

  place_after : (at : ℕ) (lines : List (Line R)) (j : ℕ) (line : Line R) → j < length lines → line ≡ get_or lines j line → slice_index_or (places_from size_of at lines) (suc j) 0 ≡ slice_index_or (places_from size_of at lines) j 0 + size_of line
  place_after at [] j line h is = absurd (omega (arith, h))
  place_after at (x ∷ lines) zero line h is = place_first (at + size_of x) lines ∙ ap (λ l. at + size_of l) (sym is)
  place_after at (x ∷ lines) (suc j) line h is = place_after (at + size_of x) lines j line (omega (arith, h)) is

  -- the place of the next line
  pub place_next : (places : List ℕ) (lines : List (Line R)) (j : ℕ) (line : Line R) → places ≡ places_from size_of 1 lines → j < length lines → line ≡ get_or lines j line → placed places (j + 1) ≡ placed places j + size_of line
  place_next places lines j line made h is =
      ap (λ ps. placed ps (j + 1)) made ∙ ap (λ q. placed (places_from size_of 1 lines) q) (add-one j) ∙ place_after 1 lines j line h is ∙ ap (λ ps. placed ps j + size_of line) (sym made)

  pub length_places : (at : ℕ) (lines : List (Line R)) → length (places_from size_of at lines) ≡ length lines + 1
  length_places at [] = omega arith
  length_places at (line ∷ lines) = let h = length_places (at + size_of line) lines in omega (arith, h)

  pub first_place : (places : List ℕ) (lines : List (Line R)) → places ≡ places_from size_of 1 lines → placed places 0 ≡ 1
  first_place places lines made = ap (λ ps. placed ps 0) made ∙ place_first 1 lines

  -- one line on: the line's code was added, from its place to the next
  pub ranges_go_on : (places : List ℕ) (lines : List (Line R)) (j : ℕ) (line : Line R) → places ≡ places_from size_of 1 lines → j < length lines → line ≡ get_or lines j line → drop j lines ≡ line ∷ drop (j + 1) lines
      → (before after : List SiteRange) (open_range next : Option SiteRange) (whole : List SiteRange)
      → ((rest : List SiteRange) → after ++ opened next rest ≡ before ++ opened open_range (ranged line.site (placed places j) (placed places (j + 1) - placed places j) rest))
      → before ++ opened open_range (ranges_from size_of (placed places j) (drop j lines)) ≡ whole
      → after ++ opened next (ranges_from size_of (placed places (j + 1)) (drop (j + 1) lines)) ≡ whole
  ranges_go_on places lines j line made h is front before after open_range next whole added done =
      let at = placed places j in
      let step = place_next places lines j line made h is in
      let size : placed places (j + 1) - at ≡ size_of line = omega (arith, step) in
      added (ranges_from size_of (placed places (j + 1)) (drop (j + 1) lines))
      ∙ ap (λ s. before ++ opened open_range (ranged line.site at s (ranges_from size_of (placed places (j + 1)) (drop (j + 1) lines)))) size
      ∙ ap (λ p. before ++ opened open_range (ranged line.site at (size_of line) (ranges_from size_of p (drop (j + 1) lines)))) step
      ∙ ap (λ ls. before ++ opened open_range (ranges_from size_of at ls)) (sym front) ∙ done

  -- the places of a line and the next
  pub in_places : (places : List ℕ) (lines : List (Line R)) (j : ℕ) → places ≡ places_from size_of 1 lines → j < length lines → j + 1 < length places
  in_places places lines j made h = let e = ap length made in let l = length_places 1 lines in omega (arith, e, l, h)

  pub place_rises : (places : List ℕ) (lines : List (Line R)) (j : ℕ) (line : Line R) → places ≡ places_from size_of 1 lines → j < length lines → line ≡ get_or lines j line → placed places j ≤ placed places (j + 1)
  place_rises places lines j line made h is = let step = place_next places lines j line made h is in omega (arith, step)

-- what holds before each line: the ranges so far, with the current one and those to come, are all
abbrev pub Covered : {R : Type 0} → List (Line R) → List ℕ → ℕ → List SiteRange → Option SiteRange → Type 0
Covered {R} lines places j before current = (size_of : Line R → ℕ) → places ≡ places_from size_of 1 lines → before ++ opened current (ranges_from size_of (placed places j) (drop j lines)) ≡ ranges_from size_of 1 lines

pub covered_first : {R : Type 0} (lines : List (Line R)) (places : List ℕ) (before : List SiteRange) → before ≡ [] → Covered lines places 0 before None
covered_first lines places before new size_of made = ap (λ zs. zs ++ ranges_from size_of (placed places 0) lines) new ∙ ap (λ p. ranges_from size_of p lines) (first_place size_of places lines made)

pub covered_next : {R : Type 0} (lines : List (Line R)) (places : List ℕ) (j : ℕ) (line : Line R) → j < length lines → line ≡ get_or lines j line → drop j lines ≡ line ∷ drop (j + 1) lines → (before after : List SiteRange) (current next : Option SiteRange)
    → ((rest : List SiteRange) → after ++ opened next rest ≡ before ++ opened current (ranged line.site (placed places j) (placed places (j + 1) - placed places j) rest))
    → Covered lines places j before current → Covered lines places (j + 1) after next
covered_next lines places j line h is front before after current next added so_far size_of made =
    ranges_go_on size_of places lines j line made h is front before after current next (ranges_from size_of 1 lines) added (so_far size_of made)

pub covered_all : {R : Type 0} (lines : List (Line R)) (places : List ℕ) (j : ℕ) → drop j lines ≡ [] → (before all : List SiteRange) (current : Option SiteRange) → all ≡ before ++ opened current [] → Covered lines places j before current
    → (size_of : Line R → ℕ) → places ≡ places_from size_of 1 lines → all ≡ ranges_from size_of 1 lines
covered_all lines places j past before all current closed so_far size_of made =
    closed ∙ ap (λ ls. before ++ opened current (ranges_from size_of (placed places j) ls)) (sym past) ∙ so_far size_of made
