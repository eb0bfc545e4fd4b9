-- Where the newest store to each element stands.
use Rattle.std.specs.Prelude.{◌≡◌, ◌+◌, ℕ, Bool, true, false, ◌&&◌, nat_eq, All, List, [], IsSomeAnd, drop, length, map, replicate, slice_get, slice_index, slice_index_or}
use Rattle.ax_module.specs.declared.module.Global.{Global}
use Rattle.ax_source_run.specs.SourceState.{PendingStore}

-- a row of places for each global; an element that isn't there has place 0
abbrev pub place_in : List (List ℕ) → ℕ → ℕ → ℕ
place_in rows g i = slice_index (slice_index_or rows g []) i

-- for how many elements of each global there is a place
abbrev pub counts_of : List (List ℕ) → List ℕ
counts_of rows = map length rows

abbrev pub no_places : Global → List ℕ
no_places global = replicate global.count 0

-- a store to element i of global g
abbrev pub is_to : ℕ → ℕ → PendingStore → Bool
is_to g i store = nat_eq g store.global && nat_eq i store.element

-- the place of the newest store to an element, counted from 1: a store to it is there, and none behind it; where there is none, 0
pub record IsNewest (g i : ℕ) (stores : List PendingStore) (place : ℕ) : Type 0 where
  pub there : (k : ℕ) → place ≡ k + 1 → IsSomeAnd (slice_get stores k) (λ store. is_to g i store ≡ true)
  pub behind : All (λ store. is_to g i store ≡ false) (drop place stores)

-- each element's place is that of the newest store to it
pub record AreNewest (rows : List (List ℕ)) (stores : List PendingStore) : Type 0 where
  pub each : (g i : ℕ) → IsNewest g i stores (place_in rows g i)
