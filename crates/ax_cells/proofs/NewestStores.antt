-- The newest stores to elements.
use Rattle.std.proofs.Common.{◌≡◌, ℕ, zero, suc, ◌+◌, ◌-◌, ◌<◌, ◌≤◌, Bool, true, false, ◌&&◌, List, [], ◌∷◌, ◌++◌, All, Some, length, map, replicate, drop, refl, sym, ap, ◌∙◌, subst, arith}
use Rattle.std.specs.Prelude.{IsSomeAnd, nat_eq, if◌then◌else◌, slice_get, slice_index, slice_index_or, slice_set}
use Rattle.std.proofs.Math.ListN.{length-set}
use Rattle.std.proofs.lemmas.Bool.Decides.{nat_tests}
use Rattle.std.proofs.lemmas.List.{drop-drop, drop-append-le, drop_all, get_or_default, length-append, length-replicate}
use Rattle.std.proofs.lemmas.List.Elements.{All-drop, All-push, All-tail}
use Rattle.ax_module.specs.declared.module.Global.{Global}
use Rattle.ax_source_run.specs.SourcePointers.{elements_of_global}
use Rattle.ax_source_run.specs.SourceAccess.{element_set, newest, put_at}
use Rattle.ax_source_run.specs.SourceState.{PendingStore}
use Rattle.ax_cells.specs.NewestStores.{AreNewest, IsNewest, counts_of, is_to, no_places, place_in}
use Rattle.ax_cells.specs.PendingState.{counts_for, counts_in}
use Rattle.ax_cells.specs.Shapes.{IsCell, shape_in}
use Rattle.ax_cells.proofs.Starts.{no_number}
use Rattle.ax_cells.proofs.Writes.{applied, moved, or_set}

-- ---- the places
pub row_within : (rows : List (List ℕ)) (g i : ℕ) → i < slice_index (counts_of rows) g → g < length rows
row_within [] g i h = absurd (omega arith)
row_within (row ∷ rows) zero i h = omega arith
row_within (row ∷ rows) (suc g) i h = let l = row_within rows g i h in omega arith

pub place_within : (rows : List (List ℕ)) (g i : ℕ) (row : List ℕ) → i < slice_index (counts_of rows) g → row ≡ slice_index_or rows g row → i < length row
place_within [] g i row h is = absurd (omega arith)
place_within (x ∷ rows) zero i row h is = let e : length row ≡ length x = ap length is in omega arith
place_within (x ∷ rows) (suc g) i row h is = place_within rows g i row h is

pub places_set : (rows : List (List ℕ)) (g i place : ℕ) (old new : List ℕ) → i < slice_index (counts_of rows) g → old ≡ slice_index_or rows g old → new ≡ slice_set old i place
    → place_in (slice_set rows g new) ≡ element_set g i place (place_in rows)
places_set rows g i place old new h is e = λ d q j. at q j d
  where
    within : g < length rows
    within = row_within rows g i h

    row_at : (j : ℕ) → slice_index new j ≡ put_at (place_in rows g) i place j
    row_at j =
        ap (λ (row : List ℕ). slice_index row j) e
        ∙ or_set old i j place 0 (place_within rows g i old h is)
        ∙ ap (λ (row : List ℕ). if nat_eq j i then place else slice_index row j) (is ∙ get_or_default rows g old [] within)

    at : (q j : ℕ) → place_in (slice_set rows g new) q j ≡ element_set g i place (place_in rows) q j
    at q j =
        ap (λ (row : List ℕ). slice_index row j) (or_set rows g q new [] within)
        ∙ moved (λ (row : List ℕ). slice_index row j) (nat_eq q g) new (slice_index_or rows q [])
        ∙ ap (λ x. if nat_eq q g then x else place_in rows q j) (row_at j)
        ∙ sym (applied (nat_eq q g) (put_at (place_in rows g) i place) (place_in rows q) j)

pub counts_set : (rows : List (List ℕ)) (g i place : ℕ) (old new : List ℕ) → old ≡ slice_index_or rows g old → new ≡ slice_set old i place → counts_of (slice_set rows g new) ≡ counts_of rows
counts_set [] g i place old new is e = refl
counts_set (row ∷ rows) zero i place old new is e =
    let size : length new ≡ length row = ap length e ∙ length-set old i place ∙ ap length is in
    ap (λ n. n ∷ counts_of rows) size
counts_set (row ∷ rows) (suc g) i place old new is e = ap (λ ns. length row ∷ ns) (counts_set rows g i place old new is e)

pub ruleset places = (row_within, place_within, places_set, counts_set)

-- ---- a look-up
none_in : (g i n : ℕ) (stores : List PendingStore) → All (λ store. is_to g i store ≡ false) stores → newest g i stores n ≡ n
none_in g i n [] h = refl
none_in g i n (s ∷ stores) h =
    ap (λ t. newest g i stores (if t then s.number else n)) (h 0 s (omega arith)) ∙ none_in g i n stores (All-tail (λ store. is_to g i store ≡ false) s stores h)

found_in : (g i n : ℕ) (stores : List PendingStore) (head k : ℕ) (s : PendingStore) → head ≤ k → slice_get stores k ≡ Some s → is_to g i s ≡ true → All (λ store. is_to g i store ≡ false) (drop (suc k) stores)
    → newest g i (drop head stores) n ≡ s.number
found_in g i n [] head k s l at to behind = absurd cc
found_in g i n (t ∷ stores) zero zero s l at to behind =
    let is : t ≡ s = cc in
    ap (λ (x : PendingStore). newest g i stores (if is_to g i x then x.number else n)) is
    ∙ ap (λ b. newest g i stores (if b then s.number else n)) to
    ∙ none_in g i s.number stores behind
found_in g i n (t ∷ stores) zero (suc k) s l at to behind = found_in g i (if is_to g i t then t.number else n) stores zero k s (omega arith) at to behind
found_in g i n (t ∷ stores) (suc head) zero s l at to behind = absurd (omega arith)
found_in g i n (t ∷ stores) (suc head) (suc k) s l at to behind = found_in g i n stores head k s (omega arith) at to behind

past : (g i n : ℕ) (stores : List PendingStore) (place head : ℕ) → IsNewest g i stores place → place ≤ head → newest g i (drop head stores) n ≡ n
past g i n stores place head h l =
    let P : PendingStore → Type 0 = λ store. is_to g i store ≡ false in
    let sum : place + (head - place) ≡ head = omega arith in
    let e = drop-drop (head - place) place stores ∙ ap (λ k. drop k stores) sum in
    none_in g i n (drop head stores) (subst (All P) e (All-drop P (head - place) (drop place stores) h.behind))

got : (P : PendingStore → Type 0) (stores : List PendingStore) (k : ℕ) (s : PendingStore) → IsSomeAnd (slice_get stores k) P → s ≡ slice_index_or stores k s → (slice_get stores k ≡ Some s) × P s
got P [] k s h is = absurd h
got P (t ∷ stores) zero s h is = (ap Some (sym is), subst P (sym is) h)
got P (t ∷ stores) (suc k) s h is = got P stores k s h is

there : (g i n : ℕ) (stores : List PendingStore) (place head : ℕ) (s : PendingStore) → IsNewest g i stores place → head < place → s ≡ slice_index_or stores (place - 1) s → newest g i (drop head stores) n ≡ s.number
there g i n stores place head s h l is =
    let P : PendingStore → Type 0 = λ store. is_to g i store ≡ true in
    let next : place ≡ suc (place - 1) = omega arith in
    let found = got P stores (place - 1) s (h.there (place - 1) (omega arith)) is in
    found_in g i n stores head (place - 1) s (omega arith) found.0 found.1 (subst (λ (k : ℕ). All (λ store. is_to g i store ≡ false) (drop k stores)) next h.behind)

got_within : (P : PendingStore → Type 0) (stores : List PendingStore) (k : ℕ) → IsSomeAnd (slice_get stores k) P → k < length stores
got_within P [] k h = absurd h
got_within P (t ∷ stores) zero h = omega arith
got_within P (t ∷ stores) (suc k) h = let l = got_within P stores k h in omega arith

within : (g i : ℕ) (stores : List PendingStore) (place : ℕ) → IsNewest g i stores place → place ≤ length stores
within g i stores zero h = omega arith
within g i stores (suc k) h = let l = got_within (λ store. is_to g i store ≡ true) stores k (h.there k (omega arith)) in omega arith

pub newest_past : (rows : List (List ℕ)) (stores : List PendingStore) (g i n place head : ℕ) → AreNewest rows stores → place ≡ place_in rows g i → place ≤ head → newest g i (drop head stores) n ≡ n
newest_past rows stores g i n place head h e l = past g i n stores (place_in rows g i) head (h.each g i) (omega arith)

pub newest_there : (rows : List (List ℕ)) (stores : List PendingStore) (g i n place head : ℕ) (s : PendingStore) → AreNewest rows stores → place ≡ place_in rows g i → head < place → s ≡ slice_index_or stores (place - 1) s
    → newest g i (drop head stores) n ≡ s.number
newest_there rows stores g i n place head s h e l is = there g i n stores place head s (subst (IsNewest g i stores) (sym e) (h.each g i)) l is

pub newest_within : (rows : List (List ℕ)) (stores : List PendingStore) (g i place : ℕ) → AreNewest rows stores → place ≡ place_in rows g i → place ≤ length stores
newest_within rows stores g i place h e = let l = within g i stores (place_in rows g i) (h.each g i) in omega arith

pub ruleset looked_up = (newest_there, newest_within)

-- ---- one more store
last_got : (P : PendingStore → Type 0) (stores : List PendingStore) (k : ℕ) (s : PendingStore) → k ≡ length stores → P s → IsSomeAnd (slice_get (stores ++ s ∷ []) k) P
last_got P [] zero s e h = h
last_got P [] (suc k) s e h = absurd (omega arith)
last_got P (t ∷ stores) zero s e h = absurd (omega arith)
last_got P (t ∷ stores) (suc k) s e h = last_got P stores k s (omega arith) h

still_got : (P : PendingStore → Type 0) (stores : List PendingStore) (k : ℕ) (s : PendingStore) → IsSomeAnd (slice_get stores k) P → IsSomeAnd (slice_get (stores ++ s ∷ []) k) P
still_got P [] k s h = absurd h
still_got P (t ∷ stores) zero s h = h
still_got P (t ∷ stores) (suc k) s h = still_got P stores k s h

one_more : (g i : ℕ) (stores : List PendingStore) (s : PendingStore) (place more : ℕ) (t : Bool) → is_to g i s ≡ t → more ≡ length (stores ++ s ∷ []) → IsNewest g i stores place → IsNewest g i (stores ++ s ∷ []) (if t then more else place)
one_more g i stores s place more true to e h = record {
  there = λ k f. last_got (λ store. is_to g i store ≡ true) stores k s (omega (arith, length-append stores (s ∷ []))) to;
  behind = λ k d l. let none : drop more (stores ++ s ∷ []) ≡ [] = drop_all more (stores ++ s ∷ []) (omega arith) in absurd (omega (arith, ap length none));
}
one_more g i stores s place more false to e h =
    let P : PendingStore → Type 0 = λ store. is_to g i store ≡ false in
    let l = within g i stores place h in
    record {
      there = λ k f. still_got (λ store. is_to g i store ≡ true) stores k s (h.there k f);
      behind = subst (All P) (sym (drop-append-le place stores (s ∷ []) l)) (All-push P (drop place stores) s h.behind to);
    }

chosen : (t u : Bool) (n x y : ℕ) → (t ≡ true → x ≡ y) → (if t then if u then n else x else y) ≡ (if t && u then n else y)
chosen true true n x y h = refl
chosen true false n x y h = h refl
chosen false u n x y h = refl

set_at : (f : ℕ → ℕ → ℕ) (s : PendingStore) (n g i : ℕ) → element_set s.global s.element n f g i ≡ (if is_to g i s then n else f g i)
set_at f s n g i =
    applied (nat_eq g s.global) (put_at (f s.global) s.element n) (f g) i
    ∙ chosen (nat_eq g s.global) (nat_eq i s.element) n (f s.global i) (f g i) (λ e. let is : s.global ≡ g = grind (arith, nat_tests) in ap (λ q. f q i) is)

pub newest_pushed : (rows more : List (List ℕ)) (stores : List PendingStore) (s : PendingStore) (place : ℕ) → AreNewest rows stores → place ≡ length (stores ++ s ∷ []) → place_in more ≡ element_set s.global s.element place (place_in rows) → AreNewest more (stores ++ s ∷ [])
newest_pushed rows more stores s place h e set = record { each = at }
  where
    at : (g i : ℕ) → IsNewest g i (stores ++ s ∷ []) (place_in more g i)
    at g i =
        let is : place_in more g i ≡ (if is_to g i s then place else place_in rows g i) = ap (λ (f : ℕ → ℕ → ℕ). f g i) set ∙ set_at (place_in rows) s place g i in
        subst (IsNewest g i (stores ++ s ∷ [])) (sym is) (one_more g i stores s (place_in rows g i) place (is_to g i s) refl e (h.each g i))

pub ruleset pushed = (newest_pushed, drop-append-le)

-- ---- at the start
no_place : (globals : List Global) (g i : ℕ) → place_in (map no_places globals) g i ≡ 0
no_place [] g i = refl
no_place (x ∷ globals) zero i = no_number x.count i
no_place (x ∷ globals) (suc g) i = no_place globals g i

pub none_newest : (globals : List Global) → AreNewest (map no_places globals) []
none_newest globals = record { each = at }
  where
    at : (g i : ℕ) → IsNewest g i [] (place_in (map no_places globals) g i)
    at g i =
        let none : IsNewest g i [] 0 = record { there = λ k e. absurd (omega arith); behind = λ k d l. absurd (omega arith) } in
        subst (IsNewest g i []) (sym (no_place globals g i)) none

pub counts_none : (globals : List Global) → counts_of (map no_places globals) ≡ counts_in globals
counts_none [] = refl
counts_none (x ∷ globals) =
    let size : length (replicate x.count 0) ≡ x.count = length-replicate x.count 0 in
    (λ d. size d ∷ counts_none globals d)

pub counts_some : (room : ℕ) (globals : List Global) → 0 < room → counts_for room globals ≡ counts_in globals
counts_some zero globals h = absurd (omega arith)
counts_some (suc room) globals h = refl

pub ruleset empty = (none_newest, counts_none, counts_some)

count_is : (globals : List Global) (g : ℕ) → slice_index (counts_in globals) g ≡ (shape_in (map (λ global. elements_of_global (Some global)) globals) g).count
count_is [] g = refl
count_is (x ∷ globals) zero = refl
count_is (x ∷ globals) (suc g) = count_is globals g

pub cell_counted : (globals : List Global) (counts : List ℕ) (g i : ℕ) → IsCell (map (λ global. elements_of_global (Some global)) globals) g i → counts ≡ counts_in globals → i < slice_index counts g
cell_counted globals counts g i h e = let l = h.cell in omega (arith, count_is globals g, ap (λ ns. slice_index ns g) e)
