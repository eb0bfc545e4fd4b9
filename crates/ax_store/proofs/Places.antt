-- What a byte that is set leaves.
use Rattle.std.proofs.Common.{◌≡◌, ℕ, zero, suc, ◌+◌, ◌-◌, ◌*◌, ◌/◌, ◌%◌, ◌^◌, ◌<◌, ◌≤◌, Bool, List, [], ◌∷◌, length, refl, ap, ◌∙◌, subst, ⊎_elim, arith}
use Rattle.std.specs.Prelude.{◌&&◌, nat_lt, nat_eq, if◌then◌else◌, slice_index_or, slice_set, map, Result, Ok, Err, IfOk}
use Rattle.std.proofs.lemmas.Bool.{cases_lt, cases_eq}
use Rattle.std.proofs.lemmas.Bool.Decides.{nat_tests}
use Rattle.std.proofs.lemmas.List.{get_or-replicate, length-replicate}
use Rattle.std.proofs.lemmas.Grind.{common_steps}
use Rattle.std.proofs.Math.Nat.{pow-le-pow_right, div-eq_of_lt}
use Rattle.ax_map.specs.Map.{covers}
use Rattle.ax_store.specs.Bytes.{byte_of, put, set_inside, all_inside}
use Rattle.ax_store.specs.Places.{part_of, place_in, bytes_in, byte_at, is_inside, bytes_set, regions_of, is_mapped, zeros}

-- an address by its part and its place in it
same_place : (a b : ℕ) → part_of a ≡ part_of b → place_in a ≡ place_in b → a ≡ b
same_place a b h e = grind (arith, nat_tests)

-- a write to one list of a list of lists
set_two : (rs : List (List ℕ)) (r o v q i : ℕ) → slice_index_or (slice_index_or (slice_set rs r (slice_set (slice_index_or rs r []) o v)) q []) i 0 ≡ (if nat_eq q r && (nat_eq i o && nat_lt o (length (slice_index_or rs r []))) then v else slice_index_or (slice_index_or rs q []) i 0)
set_two rs r o v q i = grind (arith, common_steps, nat_tests)

length_two : (rs : List (List ℕ)) (r o v q : ℕ) → length (slice_index_or (slice_set rs r (slice_set (slice_index_or rs r []) o v)) q []) ≡ length (slice_index_or rs q [])
length_two rs r o v q = grind (arith, common_steps, nat_tests)

tests_differ : (a b pa pb qa qb n v w : ℕ) (m : Bool) → (pb ≡ pa → qb ≡ qa → b ≡ a) → ¬ (b ≡ a) → (if nat_eq pb pa && (nat_eq qb qa && nat_lt qa n) then v else w) ≡ (if nat_eq b a && m then v else w)
tests_differ a b pa pb qa qb n v w m same other = grind (arith, nat_tests)

pub byte_set : (rs : List (List ℕ)) (a v : ℕ) → byte_at (bytes_set rs a v) ≡ set_inside (is_inside rs) (byte_at rs) a v
byte_set rs a v = λ d b. at b d
  where
    here : (b : ℕ) → byte_at (bytes_set rs b v) b ≡ set_inside (is_inside rs) (byte_at rs) b v b
    here b = set_two rs (part_of b) (place_in b) v (part_of b) (place_in b) ∙ grind (arith, nat_tests)

    at : (b : ℕ) → byte_at (bytes_set rs a v) b ≡ set_inside (is_inside rs) (byte_at rs) a v b
    at b = ⊎_elim
        (λ e. subst (λ x. byte_at (bytes_set rs x v) b ≡ set_inside (is_inside rs) (byte_at rs) x v b) e (here b))
        (λ other. set_two rs (part_of a) (place_in a) v (part_of b) (place_in b) ∙ tests_differ a b (part_of a) (part_of b) (place_in a) (place_in b) (length (bytes_in rs a)) v (byte_at rs b) (is_inside rs b) (same_place b a) other)
        (cases_eq b a)

pub inside_set : (rs : List (List ℕ)) (a v : ℕ) → is_inside (bytes_set rs a v) ≡ is_inside rs
inside_set rs a v = λ d b. nat_lt (place_in b) (length_two rs (part_of a) (place_in a) v (part_of b) d)

-- one more byte of a number
more_tests : (a b i x y z : ℕ) (t : Bool) → (b ≡ a + i → x ≡ y) → (if nat_eq b (a + i) && t then x else (if covers a i b && t then y else z)) ≡ (if covers a (i + 1) b && t then y else z)
more_tests a b i x y z t same = grind (arith, nat_tests)

pub put_more : (inside : ℕ → Bool) (a i v : ℕ) (f : ℕ → ℕ) → set_inside inside (put inside a i v f) (a + i) (byte_of v i) ≡ put inside a (i + 1) v f
put_more inside a i v f = λ d b. at b d
  where
    same : (b : ℕ) → b ≡ a + i → byte_of v i ≡ byte_of v (b - a)
    same b e = let g : i ≡ b - a = omega arith in ap (byte_of v) g

    at : (b : ℕ) → set_inside inside (put inside a i v f) (a + i) (byte_of v i) b ≡ put inside a (i + 1) v f b
    at b = more_tests a b i (byte_of v i) (byte_of v (b - a)) (f b) (inside b) (same b)

pub put_none : (inside : ℕ → Bool) (a v : ℕ) (f : ℕ → ℕ) → put inside a 0 v f ≡ f
put_none inside a v f = λ d b. at b d
  where
    at : (b : ℕ) → put inside a 0 v f b ≡ f b
    at b = grind (arith, nat_tests)

pub inside_more : (f : ℕ → Bool) (a n i : ℕ) → i < n → all_inside f (a + i) (n - i) ≡ f (a + i) && all_inside f (a + (i + 1)) (n - (i + 1))
inside_more f a n i h =
    let e : n - i ≡ suc (n - (i + 1)) = omega arith in
    let g : a + i + 1 ≡ a + (i + 1) = omega arith in
    ap (all_inside f (a + i)) e ∙ ap (λ k. f (a + i) && all_inside f k (n - (i + 1))) g

-- a number of 128 bits has no byte past 15
pub byte_past : (v i : ℕ) → v < 2 ^ 128 → 16 ≤ i → byte_of v i ≡ 0
byte_past v i small h =
    let p : 2 ^ 128 ≤ 2 ^ (8 * i) = pow-le-pow_right {n = 2} (omega arith) {i = 128} {j = 8 * i} (omega arith) in
    let z : v / 2 ^ (8 * i) ≡ 0 = div-eq_of_lt (let r : v < 2 ^ (8 * i) = omega arith in r) in
    ap (λ x. x % 2 ^ 8) z

-- ---- at the start
no_byte : (n i : ℕ) → slice_index_or (zeros n) i 0 ≡ 0
no_byte n i = ⊎_elim (λ h. get_or-replicate n i 0 0 h) (λ h. grind (arith, common_steps)) (cases_lt i n)

zeros_at : (sizes : List ℕ) (r i : ℕ) → slice_index_or (slice_index_or (map zeros sizes) r []) i 0 ≡ 0
zeros_at [] r i = refl
zeros_at (n ∷ sizes) zero i = no_byte n i
zeros_at (n ∷ sizes) (suc r) i = zeros_at sizes r i

zeros_length : (sizes : List ℕ) (r : ℕ) → length (slice_index_or (map zeros sizes) r []) ≡ slice_index_or sizes r 0
zeros_length [] r = refl
zeros_length (n ∷ sizes) zero = length-replicate n 0
zeros_length (n ∷ sizes) (suc r) = zeros_length sizes r

pub zeros_bytes : (t g : ℕ) (frames : List ℕ) → byte_at (regions_of t g frames) ≡ (λ a. 0)
zeros_bytes t g frames = λ d a. zeros_at (t ∷ g ∷ frames) (part_of a) (place_in a) d

pub zeros_inside : (t g : ℕ) (frames : List ℕ) → is_inside (regions_of t g frames) ≡ is_mapped t g frames
zeros_inside t g frames = λ d a. nat_lt (place_in a) (zeros_length (t ∷ g ∷ frames) (part_of a) d)

pub if_ok : {A E : Type 0} (r : Result A E) (P Q : A → Type 0) → ((a : A) → P a → Q a) → IfOk r P → IfOk r Q
if_ok (Ok a) P Q f h = f a h
if_ok (Err e) P Q f h = h
