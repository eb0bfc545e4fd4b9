-- Bytes in a row that lie in one region.
use Rattle.std.specs.Prelude.{◌≡◌, ℕ, ◌+◌, ◌-◌, ◌<◌, ◌≤◌, Bool, true, if◌then◌else◌, List, [], length, slice_index_or, slice_set}
use Rattle.ax_store.specs.declared.span.Span.{Span}
use Rattle.ax_store.specs.Places.{part_of, place_in}

-- where byte i of a row lies
abbrev pub along : Span → ℕ → ℕ
along s i = if s.descends then s.first - i else s.first + i

-- the n addresses from a on are of one region
pub record IsRow (a n : ℕ) (s : Span) : Type 0 where
  pub below : s.descends ≡ true → n ≤ s.first + 1
  pub parts : (i : ℕ) → i < n → part_of (a + i) ≡ s.region
  pub places : (i : ℕ) → i < n → place_in (a + i) ≡ along s i

abbrev pub bytes_of : List (List ℕ) → Span → List ℕ
bytes_of rs s = slice_index_or rs s.region []

-- the regions have byte i of a row
pub record HasByte (rs : List (List ℕ)) (i : ℕ) (s : Span) : Type 0 where
  pub below : s.descends ≡ true → i ≤ s.first
  pub region : s.region < length rs
  pub inside : along s i < length (bytes_of rs s)

-- the n bytes from a on
pub record IsSpan (rs : List (List ℕ)) (a n : ℕ) (s : Span) : Type 0 where
  pub row : IsRow a n s
  pub has : (i : ℕ) → i < n → HasByte rs i s

-- byte i of a row, and the regions after it is set
abbrev pub byte_along : List (List ℕ) → Span → ℕ → ℕ
byte_along rs s i = slice_index_or (bytes_of rs s) (along s i) 0

abbrev pub set_along : List (List ℕ) → Span → ℕ → ℕ → List (List ℕ)
set_along rs s i b = slice_set rs s.region (slice_set (bytes_of rs s) (along s i) b)
