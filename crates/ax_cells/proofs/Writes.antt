-- Lists as functions, after a write.
use Rattle.std.proofs.Common.{◌≡◌, ℕ, zero, suc, ◌+◌, ◌<◌, Bool, true, false, List, [], ◌∷◌, length, drop, replicate, refl, sym, ap, ◌∙◌, arith}
use Rattle.std.specs.Prelude.{slice_index_or, slice_set, slice_index, nat_eq, if◌then◌else◌}
use Rattle.std.proofs.lemmas.Bool.Decides.{nat_tests}
use Rattle.std.proofs.Math.ListN.{length-set}
use Rattle.ax_source_run.specs.SourcePointers.{Elements}
use Rattle.ax_source_run.specs.SourceAccess.{element_set, put_at}
use Rattle.ax_source_run.specs.SourceState.{Number, SourceValue}
use Rattle.ax_cells.specs.declared.value.Value.{Value}
use Rattle.ax_cells.specs.declared.value.Value.TheVariants as value
use Rattle.ax_cells.specs.Values.{value_of}
use Rattle.ax_cells.specs.Shapes.{ArrayState, IsCell, cells_of, no_array, numbers_put, shape_in, shape_of, shapes_of, values_of}

-- ---- an element after a write
pub or_set : {A : Type 0} (xs : List A) (k j : ℕ) (x d : A) → k < length xs → slice_index_or (slice_set xs k x) j d ≡ (if nat_eq j k then x else slice_index_or xs j d)
or_set [] k j x d h = absurd (omega arith)
or_set (y ∷ xs) zero zero x d h = refl
or_set (y ∷ xs) zero (suc j) x d h = let e : false ≡ nat_eq (suc j) zero = grind (arith, nat_tests) in ap (λ t. if t then x else slice_index_or xs j d) e
or_set (y ∷ xs) (suc k) zero x d h = let e : false ≡ nat_eq zero (suc k) = grind (arith, nat_tests) in ap (λ t. if t then x else y) e
or_set (y ∷ xs) (suc k) (suc j) x d h =
    let e : nat_eq j k ≡ nat_eq (suc j) (suc k) = grind (arith, nat_tests) in
    or_set xs k j x d (omega arith) ∙ ap (λ t. if t then x else slice_index_or xs j d) e

pub moved : {A B : Type 0} (f : A → B) (t : Bool) (x y : A) → f (if t then x else y) ≡ (if t then f x else f y)
moved f true x y = refl
moved f false x y = refl

-- ---- results
pub kept : (values : List Value) (k : ℕ) (v : Value) → k < length values → values_of (slice_set values k v) ≡ put_at (values_of values) k (value_of v)
kept values k v h = λ d j. at j d
  where
    at : (j : ℕ) → values_of (slice_set values k v) j ≡ put_at (values_of values) k (value_of v) j
    at j = ap value_of (or_set values k j v (value.Number 0) h) ∙ moved value_of (nat_eq j k) v (slice_index_or values j (value.Number 0))

zero_at : (n k : ℕ) → values_of (replicate n (value.Number 0)) k ≡ Number 0
zero_at zero k = refl
zero_at (suc n) zero = refl
zero_at (suc n) (suc k) = zero_at n k

pub no_results : (values : List Value) (n : ℕ) → values ≡ replicate n (value.Number 0) → values_of values ≡ (λ k. Number 0)
no_results values n e = ap values_of e ∙ λ d k. zero_at n k d

-- ---- numbers as results, one after the other
pub put_next : (s k j a b : ℕ) (numbers : List ℕ) (n : ℕ) (values : ℕ → SourceValue) → j ≡ k + 1 → a ≡ s + k → b ≡ s + j → k < length numbers → n ≡ slice_index_or numbers k n
    → numbers_put a (drop k numbers) values ≡ numbers_put b (drop j numbers) (put_at values a (Number n))
put_next s k j a b numbers n values e ea eb h is =
    let next : drop k numbers ≡ n ∷ drop j numbers = at numbers k j e h is in
    let more : b ≡ a + 1 = omega arith in
    ap (λ ns. numbers_put a ns values) next ∙ ap (λ x. numbers_put x (drop j numbers) (put_at values a (Number n))) (sym more)
  where
    at : (ns : List ℕ) (k j : ℕ) → j ≡ k + 1 → k < length ns → n ≡ slice_index_or ns k n → drop k ns ≡ n ∷ drop j ns
    at [] k j e h is = absurd (omega arith)
    at (x ∷ ns) zero j e h is = let f : j ≡ suc zero = omega arith in rw f (ap (λ y. y ∷ ns) (sym is))
    at (x ∷ ns) (suc k) zero e h is = absurd (omega arith)
    at (x ∷ ns) (suc k) (suc j) e h is = at ns k j (omega arith) (omega arith) is

pub put_none : (a k : ℕ) (numbers : List ℕ) (values : ℕ → SourceValue) → length numbers ≡ k → numbers_put a (drop k numbers) values ≡ values
put_none a zero [] values h = refl
put_none a (suc k) [] values h = refl
put_none a zero (x ∷ numbers) values h = absurd (omega arith)
put_none a (suc k) (x ∷ numbers) values h = put_none a k numbers values (omega arith)

pub ruleset puts = (put_next, put_none)

-- ---- arrays
pub shape_at : (arrays : List ArrayState) (r : ℕ) → shape_in (shapes_of arrays) r ≡ shape_of (slice_index_or arrays r no_array)
shape_at [] r = refl
shape_at (a ∷ arrays) zero = refl
shape_at (a ∷ arrays) (suc r) = shape_at arrays r

shapes_put : (arrays : List ArrayState) (r : ℕ) (a : ArrayState) → shape_of a ≡ shape_of (slice_index_or arrays r no_array) → shapes_of (slice_set arrays r a) ≡ shapes_of arrays
shapes_put [] r a e = refl
shapes_put (b ∷ arrays) zero a e = ap (λ s. s ∷ shapes_of arrays) e
shapes_put (b ∷ arrays) (suc r) a e = ap (λ ss. shape_of b ∷ ss) (shapes_put arrays r a e)

pub applied : (t : Bool) (f g : ℕ → ℕ) (i : ℕ) → (if t then f else g) i ≡ (if t then f i else g i)
applied true f g i = refl
applied false f g i = refl

abbrev changed : ArrayState → ℕ → ℕ → ArrayState
changed a i n = record { elem = a.elem; cells = slice_set a.cells i n }

pub cells_put : (arrays : List ArrayState) (r i n : ℕ) → r < length arrays → i < length (slice_index_or arrays r no_array).cells
    → cells_of (slice_set arrays r (changed (slice_index_or arrays r no_array) i n)) ≡ element_set r i n (cells_of arrays)
cells_put arrays r i n inside within = λ d q j. cell_at q j d
  where
    old : ArrayState
    old = slice_index_or arrays r no_array

    row_at : (j : ℕ) → slice_index (slice_set (slice_index_or arrays r no_array).cells i n) j ≡ put_at (cells_of arrays r) i n j
    row_at j = or_set (slice_index_or arrays r no_array).cells i j n 0 within

    cell_at : (q j : ℕ) → cells_of (slice_set arrays r (changed (slice_index_or arrays r no_array) i n)) q j ≡ element_set r i n (cells_of arrays) q j
    cell_at q j =
        ap (λ (a : ArrayState). slice_index a.cells j) (or_set arrays r q (changed (slice_index_or arrays r no_array) i n) no_array inside)
        ∙ moved (λ (a : ArrayState). slice_index a.cells j) (nat_eq q r) (changed (slice_index_or arrays r no_array) i n) (slice_index_or arrays q no_array)
        ∙ ap (λ x. if nat_eq q r then x else cells_of arrays q j) (row_at j)
        ∙ sym (applied (nat_eq q r) (put_at (cells_of arrays r) i n) (cells_of arrays q) j)

pub shapes_kept : (arrays : List ArrayState) (r i n : ℕ) → shapes_of (slice_set arrays r (changed (slice_index_or arrays r no_array) i n)) ≡ shapes_of arrays
shapes_kept arrays r i n =
    let cells = (slice_index_or arrays r no_array).cells in
    let e : length (slice_set cells i n) ≡ length cells = length-set cells i n in
    shapes_put arrays r _ (λ d. record { elem = (slice_index_or arrays r no_array).elem; count = e d })

pub shapes_after : (arrays : List ArrayState) (r i n : ℕ) (a b : ArrayState) → a ≡ slice_index_or arrays r a → b ≡ changed a i n → shapes_of (slice_set arrays r b) ≡ shapes_of arrays
shapes_after [] r i n a b e f = refl
shapes_after (x ∷ arrays) zero i n a b e f =
    let size : length (slice_set a.cells i n) ≡ length a.cells = length-set a.cells i n in
    let same : shape_of b ≡ shape_of x = ap shape_of f ∙ (λ d. record { elem = a.elem; count = size d }) ∙ ap shape_of e in
    ap (λ s. s ∷ shapes_of arrays) same
shapes_after (x ∷ arrays) (suc r) i n a b e f = ap (λ ss. shape_of x ∷ ss) (shapes_after arrays r i n a b e f)

map_size : (arrays : List ArrayState) → length (shapes_of arrays) ≡ length arrays
map_size [] = refl
map_size (a ∷ arrays) = ap suc (map_size arrays)

pub array_within : (arrays : List ArrayState) (r i : ℕ) → IsCell (shapes_of arrays) r i → r < length arrays
array_within arrays r i h = let e : length (shapes_of arrays) ≡ length arrays = map_size arrays in let l = h.array in omega arith

pub cell_within : (arrays : List ArrayState) (r i : ℕ) → IsCell (shapes_of arrays) r i → i < length (slice_index_or arrays r no_array).cells
cell_within arrays r i h = let e = ap (λ (s : Elements). s.count) (shape_at arrays r) in let l = h.cell in omega arith

pub ruleset read = (shape_at)

pub ruleset written = (cells_put, shapes_kept, array_within, cell_within, shape_at)
