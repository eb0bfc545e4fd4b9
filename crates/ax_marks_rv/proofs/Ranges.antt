-- The ranges of sites of code that is made of pieces, each of one site, whose sites differ.
use Rattle.std.proofs.Common.{◌≡◌, ℕ, zero, suc, ◌+◌, ◌-◌, ◌<◌, Bool, true, false, ◌&&◌, List, [], ◌∷◌, ◌++◌, Some, refl, sym, ap, ◌∙◌, subst, arith, slice_get}
use Rattle.std.specs.Prelude.{if◌then◌else◌, nat_eq}
use Rattle.std.proofs.lemmas.Bool.{true≢false}
use Rattle.std.proofs.lemmas.Bool.Decides.{nat_tests}
use Rattle.std.proofs.lemmas.Option.{none-some, same_Some}
use Rattle.ax_words.specs.declared.place.Site.{Site}
use Rattle.ax_isa.specs.declared.images.SiteRange.{SiteRange}
use Rattle.ax_mid.specs.declared.code.Line.{Line}
use Rattle.ax_emit.specs.Sites.{is_same_site, joined, ranged, ranges_from}
use Rattle.ax_marks_rv.proofs.Items.{Each, total}

-- lines of one site
pub record Chunk (R : Type 0) : Type 0 where
  pub site : Site
  pub lines : List (Line R)

abbrev pub lines_of : {R : Type 0} → List (Chunk R) → List (Line R)
lines_of [] = []
lines_of (c ∷ cs) = c.lines ++ lines_of cs

same_self : (s : Site) → is_same_site s s ≡ true
same_self s = both (nat_eq s.function s.function) (nat_eq s.instruction s.instruction) (grind (arith, nat_tests)) (grind (arith, nat_tests))
  where
    both : (a b : Bool) → a ≡ true → b ≡ true → (a && b) ≡ true
    both true true h g = refl
    both true false h g = absurd (true≢false (sym g))
    both false b h g = absurd (true≢false (sym h))

-- the range of so many instructions
abbrev pub range_at : Site → ℕ → ℕ → SiteRange
range_at site at size = record { site = site; first = at; last = at + size - 1 }

-- a range before others, of which the first is of another site; code of no instruction has none
abbrev pub whole : Site → ℕ → ℕ → List SiteRange → List SiteRange
whole site at size ranges = if nat_eq size 0 then ranges else range_at site at size ∷ ranges

not_zero : (n : ℕ) → 0 < n → nat_eq n 0 ≡ false
not_zero n h = grind (arith, nat_tests, h)

if_false : {A : Type 0} (q : Bool) (x y : A) → q ≡ false → (if q then x else y) ≡ y
if_false true x y h = absurd (true≢false h)
if_false false x y h = refl

whole_some : (site : Site) (at size : ℕ) (ranges : List SiteRange) → 0 < size → whole site at size ranges ≡ range_at site at size ∷ ranges
whole_some site at size ranges h = if_false (nat_eq size 0) ranges (range_at site at size ∷ ranges) (not_zero size h)

ranged_some : (site : Site) (at size : ℕ) (ranges : List SiteRange) → 0 < size → ranged site at size ranges ≡ joined (range_at site at size) ranges
ranged_some site at size ranges h = if_false (nat_eq size 0) ranges (joined (range_at site at size) ranges) (not_zero size h)

abbrev NotFirst : Site → List SiteRange → Type 0
NotFirst site [] = Unit {0}
NotFirst site (r ∷ ranges) = is_same_site site r.site ≡ false

not_joined : (r : SiteRange) (ranges : List SiteRange) → NotFirst r.site ranges → joined r ranges ≡ r ∷ ranges
not_joined r [] h = refl
not_joined r (s ∷ ranges) h = by (is_same_site r.site s.site) h
  where
    by : (q : Bool) → q ≡ false → (if q then record { site = s.site; first = r.first; last = s.last } ∷ ranges else r ∷ s ∷ ranges) ≡ r ∷ s ∷ ranges
    by true e = absurd (true≢false e)
    by false e = refl

is_joined : (site : Site) (a b c : ℕ) (ranges : List SiteRange) → joined (record { site = site; first = a; last = b }) (record { site = site; first = b + 1; last = c } ∷ ranges) ≡ record { site = site; first = a; last = c } ∷ ranges
is_joined site a b c ranges = by (is_same_site site site) (same_self site)
  where
    by : (q : Bool) → q ≡ true → (if q then record { site = site; first = a; last = c } ∷ ranges else record { site = site; first = a; last = b } ∷ record { site = site; first = b + 1; last = c } ∷ ranges) ≡ record { site = site; first = a; last = c } ∷ ranges
    by true e = refl
    by false e = absurd (true≢false (sym e))

-- one line more
longer : (site : Site) (at n m : ℕ) (ranges : List SiteRange) → (0 < n + m → NotFirst site ranges) → ranged site at n (whole site (at + n) m ranges) ≡ whole site at (n + m) ranges
longer site at zero m ranges h =
    let a : at + 0 ≡ at = omega arith in
    let b : m ≡ 0 + m = omega arith in
    ap (λ (x : ℕ). whole site x m ranges) a ∙ ap (λ (x : ℕ). whole site at x ranges) b
longer site at (suc n) zero ranges h =
    let a : suc n ≡ suc n + 0 = omega arith in
    let some : 0 < suc n = omega arith in
    ranged_some site at (suc n) ranges some
    ∙ (not_joined (range_at site at (suc n)) ranges (h (omega arith)) ∙ (sym (whole_some site at (suc n) ranges some) ∙ ap (λ (x : ℕ). whole site at x ranges) a))
longer site at (suc n) (suc m) ranges h =
    let a : at + suc n ≡ at + suc n - 1 + 1 = omega arith in
    let b : at + suc n + suc m - 1 ≡ at + (suc n + suc m) - 1 = omega arith in
    let some : 0 < suc n = omega arith in
    let more : 0 < suc m = omega arith in
    ap (ranged site at (suc n)) (whole_some site (at + suc n) (suc m) ranges more)
    ∙ (ranged_some site at (suc n) (range_at site (at + suc n) (suc m) ∷ ranges) some
    ∙ (ap (λ (x : ℕ). joined (range_at site at (suc n)) (record { site = site; first = x; last = at + suc n + suc m - 1 } ∷ ranges)) a
    ∙ (is_joined site at (at + suc n - 1) (at + suc n + suc m - 1) ranges
    ∙ (ap (λ (x : ℕ). record { site = site; first = at; last = x } ∷ ranges) b
    ∙ sym (whole_some site at (suc n + suc m) ranges (omega arith))))))

module _ {R : Type 0} (size : Line R → ℕ) where
  abbrev IsAt : Site → Line R → Type 0
  IsAt site line = line.site ≡ site

  abbrev pub chunk_size : Chunk R → ℕ
  chunk_size c = total size c.lines

  ranges_whole : (site : Site) (xs ys : List (Line R)) (at : ℕ) → Each (IsAt site) xs → (0 < total size xs → NotFirst site (ranges_from size (at + total size xs) ys))
      → ranges_from size at (xs ++ ys) ≡ whole site at (total size xs) (ranges_from size (at + total size xs) ys)
  ranges_whole site [] ys at own h = let a : at ≡ at + 0 = omega arith in ap (λ (x : ℕ). ranges_from size x ys) a
  ranges_whole site (x ∷ xs) ys at own h =
      let next = at + size x in
      let a : next + total size xs ≡ at + (size x + total size xs) = omega arith in
      let there = λ (some : 0 < size x + total size xs). subst (λ (n : ℕ). NotFirst site (ranges_from size n ys)) (sym a) (h some) in
      let rest = ranges_whole site xs ys next own.1 (λ some. there (omega (arith, some))) in
      ap (λ (s : Site). ranged s at (size x) (ranges_from size next (xs ++ ys))) own.0
      ∙ (ap (ranged site at (size x)) rest
      ∙ (longer site at (size x) (total size xs) (ranges_from size (next + total size xs) ys) there
      ∙ ap (λ (n : ℕ). whole site at (size x + total size xs) (ranges_from size n ys)) a))

  -- ---- the ranges of pieces
  abbrev pub chunk_ranges : ℕ → List (Chunk R) → List SiteRange
  chunk_ranges at [] = []
  chunk_ranges at (c ∷ cs) = whole c.site at (chunk_size c) (chunk_ranges (at + chunk_size c) cs)

  -- pieces with code are of other sites
  abbrev pub Later : Site → List (Chunk R) → Type 0
  Later site [] = Unit {0}
  Later site (c ∷ cs) = (0 < chunk_size c → is_same_site site c.site ≡ false) × Later site cs

  -- each piece is of one site, and where it has code those behind it are of others
  abbrev pub Rises : List (Chunk R) → Type 0
  Rises [] = Unit {0}
  Rises (c ∷ cs) = Each (IsAt c.site) c.lines × ((0 < chunk_size c → Later c.site cs) × Rises cs)

  later_first : (site : Site) (at : ℕ) (cs : List (Chunk R)) → Later site cs → NotFirst site (chunk_ranges at cs)
  later_first site at [] h = tt
  later_first site at (c ∷ cs) h = by (chunk_size c) h.0 (later_first site (at + chunk_size c) cs h.1)
    where
      by : (n : ℕ) → (0 < n → is_same_site site c.site ≡ false) → NotFirst site (chunk_ranges (at + chunk_size c) cs) → NotFirst site (whole c.site at n (chunk_ranges (at + chunk_size c) cs))
      by zero e rest = rest
      by (suc n) e rest = let some : 0 < suc n = omega arith in subst (NotFirst site) (sym (whole_some c.site at (suc n) (chunk_ranges (at + chunk_size c) cs) some)) (e some)

  pub ranges_are : (at : ℕ) (cs : List (Chunk R)) → Rises cs → ranges_from size at (lines_of cs) ≡ chunk_ranges at cs
  ranges_are at [] h = refl
  ranges_are at (c ∷ cs) h =
      let next = at + chunk_size c in
      let rest = ranges_are next cs h.1.1 in
      ranges_whole c.site c.lines (lines_of cs) at h.0 (λ some. subst (NotFirst c.site) (sym rest) (later_first c.site next cs (h.1.0 some)))
      ∙ ap (whole c.site at (chunk_size c)) rest

  -- ---- the piece of a range
  pub record ChunkOf (at : ℕ) (cs : List (Chunk R)) (r : SiteRange) : Type 0 where
    pub before : List (Chunk R)
    pub chunk : Chunk R
    pub after : List (Chunk R)
    pub is : cs ≡ before ++ (chunk ∷ after)
    pub some : 0 < chunk_size chunk
    pub range : r ≡ range_at chunk.site (at + total chunk_size before) (chunk_size chunk)

  one_more : (at : ℕ) (c : Chunk R) (cs : List (Chunk R)) (r : SiteRange) → ChunkOf (at + chunk_size c) cs r → ChunkOf at (c ∷ cs) r
  one_more at c cs r f =
      let same : at + chunk_size c + total chunk_size f.before ≡ at + (chunk_size c + total chunk_size f.before) = omega arith in
      record {
        before = c ∷ f.before;
        chunk = f.chunk;
        after = f.after;
        is = ap (λ (l : List (Chunk R)). c ∷ l) f.is;
        some = f.some;
        range = f.range ∙ ap (λ (n : ℕ). range_at f.chunk.site n (chunk_size f.chunk)) same;
      }

  here_or_later : (at : ℕ) (c : Chunk R) (cs : List (Chunk R)) (r : SiteRange) → 0 < chunk_size c → ((k : ℕ) → slice_get (chunk_ranges (at + chunk_size c) cs) k ≡ Some r → ChunkOf (at + chunk_size c) cs r)
      → (n : ℕ) → slice_get (range_at c.site at (chunk_size c) ∷ chunk_ranges (at + chunk_size c) cs) n ≡ Some r → ChunkOf at (c ∷ cs) r
  here_or_later at c cs r some rest zero e =
      let a : at ≡ at + 0 = omega arith in
      record { before = []; chunk = c; after = cs; is = refl; some = some; range = sym (same_Some (range_at c.site at (chunk_size c)) r e) ∙ ap (λ (x : ℕ). range_at c.site x (chunk_size c)) a }
  here_or_later at c cs r some rest (suc n) e = one_more at c cs r (rest n e)

  chunk_by : (at : ℕ) (c : Chunk R) (cs : List (Chunk R)) (r : SiteRange) → ((k : ℕ) → slice_get (chunk_ranges (at + chunk_size c) cs) k ≡ Some r → ChunkOf (at + chunk_size c) cs r)
      → (n m : ℕ) → chunk_size c ≡ m → slice_get (whole c.site at m (chunk_ranges (at + chunk_size c) cs)) n ≡ Some r → ChunkOf at (c ∷ cs) r
  chunk_by at c cs r rest n zero is e = one_more at c cs r (rest n e)
  chunk_by at c cs r rest n (suc m) is e =
      let some : 0 < chunk_size c = omega (arith, is) in
      let next = chunk_ranges (at + chunk_size c) cs in
      here_or_later at c cs r some rest n
      (ap (λ (rs : List SiteRange). slice_get rs n) (sym (whole_some c.site at (chunk_size c) next some) ∙ ap (λ (k : ℕ). whole c.site at k next) is) ∙ e)

  pub chunk_of : (at : ℕ) (cs : List (Chunk R)) (n : ℕ) (r : SiteRange) → slice_get (chunk_ranges at cs) n ≡ Some r → ChunkOf at cs r
  chunk_of at [] n r e = absurd (none-some r e)
  chunk_of at (c ∷ cs) n r e = chunk_by at c cs r (λ k f. chunk_of (at + chunk_size c) cs k r f) n (chunk_size c) refl e

  pub range_of_chunk : (at : ℕ) (before : List (Chunk R)) (c : Chunk R) (after : List (Chunk R)) → 0 < chunk_size c → (n : ℕ) × (slice_get (chunk_ranges at (before ++ (c ∷ after))) n ≡ Some (range_at c.site (at + total chunk_size before) (chunk_size c)))
  range_of_chunk at [] c after some =
      let a : at ≡ at + 0 = omega arith in
      (0, ap (λ (rs : List SiteRange). slice_get rs 0) (whole_some c.site at (chunk_size c) (chunk_ranges (at + chunk_size c) after) some) ∙ ap (λ (x : ℕ). Some (range_at c.site x (chunk_size c))) a)
  range_of_chunk at (x ∷ before) c after some = by (chunk_size x) (range_of_chunk (at + chunk_size x) before c after some)
    where
      rest : List SiteRange
      rest = chunk_ranges (at + chunk_size x) (before ++ (c ∷ after))

      found : SiteRange
      found = range_at c.site (at + chunk_size x + total chunk_size before) (chunk_size c)

      same : found ≡ range_at c.site (at + (chunk_size x + total chunk_size before)) (chunk_size c)
      same = let a : at + chunk_size x + total chunk_size before ≡ at + (chunk_size x + total chunk_size before) = omega arith in ap (λ (n : ℕ). range_at c.site n (chunk_size c)) a

      by : (m : ℕ) → (n : ℕ) × (slice_get rest n ≡ Some found) → (n : ℕ) × (slice_get (whole x.site at m rest) n ≡ Some (range_at c.site (at + (chunk_size x + total chunk_size before)) (chunk_size c)))
      by zero r = (r.0, r.1 ∙ ap Some same)
      by (suc m) r = (suc r.0, ap (λ (rs : List SiteRange). slice_get rs (suc r.0)) (whole_some x.site at (suc m) rest (omega arith)) ∙ (r.1 ∙ ap Some same))
