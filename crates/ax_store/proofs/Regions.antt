-- The regions don't overlap, and what lies in them.
use Rattle.std.proofs.Common.{◌≡◌, ℕ, zero, suc, ◌+◌, ◌-◌, ◌/◌, ◌%◌, ◌<◌, ◌≤◌, Bool, true, false, List, [], ◌∷◌, length, refl, sym, ap, ◌∙◌, ⊎_elim, arith}
use Rattle.std.specs.Prelude.{◌||◌, nat_lt, slice_index_or, All}
use Rattle.std.proofs.lemmas.Bool.{cases_lt}
use Rattle.std.proofs.lemmas.Bool.Decides.{nat_tests}
use Rattle.ax_store.specs.Bytes.{all_inside}
use Rattle.ax_store.specs.Places.{is_mapped, part_of, place_in}
use Rattle.ax_store.proofs.Calls.{inside_all}
use Rattle.ax_map.specs.Map.{IsFrameSize, IsGlobalsEnd, frame_end, in_frame, in_frames, in_globals, in_lock_table, in_regions}

-- no byte of the lock table is one of a global
pub table_not_globals : (end a : ℕ) → in_lock_table a ≡ true → in_globals end a ≡ false
table_not_globals end a h = grind (arith, nat_tests)

pub globals_not_table : (end a : ℕ) → in_globals end a ≡ true → in_lock_table a ≡ false
globals_not_table end a h = grind (arith, nat_tests)

pub table_not_frame : (p size a : ℕ) → size ≤ 131072 → in_lock_table a ≡ true → in_frame p size a ≡ false
table_not_frame p size a h t = grind (arith, nat_tests)

pub globals_not_frame : (end p size a : ℕ) → end ≤ 1114112 → size ≤ 131072 → in_globals end a ≡ true → in_frame p size a ≡ false
globals_not_frame end p size a g h t = grind (arith, nat_tests)

pub frame_not_table : (p size a : ℕ) → size ≤ 131072 → in_frame p size a ≡ true → in_lock_table a ≡ false
frame_not_table p size a h t = grind (arith, nat_tests)

pub frame_not_globals : (end p size a : ℕ) → end ≤ 1114112 → size ≤ 131072 → in_frame p size a ≡ true → in_globals end a ≡ false
frame_not_globals end p size a g h t = grind (arith, nat_tests)

-- a byte lies in one frame alone
pub frame_one : (p q m n a : ℕ) → m ≤ 131072 → n ≤ 131072 → in_frame p m a ≡ true → in_frame q n a ≡ true → p ≡ q
frame_one p q m n a h k s t = grind (arith, nat_tests)

first_size : (n : ℕ) (sizes : List ℕ) → All IsFrameSize (n ∷ sizes) → n ≤ 131072
first_size n sizes h = (h 0 0 (omega arith)).most

other_sizes : (n : ℕ) (sizes : List ℕ) → All IsFrameSize (n ∷ sizes) → All IsFrameSize sizes
other_sizes n sizes h = λ k d l. h (suc k) d (omega arith)

or_false : (x y : Bool) → x ≡ false → y ≡ false → x || y ≡ false
or_false x y h k = ap (λ t. t || y) h ∙ k

or_first : (x y : Bool) → y ≡ false → x || y ≡ x
or_first true y k = refl
or_first false y k = k

or_true : (x : Bool) → x || true ≡ true
or_true true = refl
or_true false = refl

or_last : (x y : Bool) → x ≡ false → x || y ≡ y
or_last x y h = ap (λ t. t || y) h

-- an address at or above 2 ^ 24, by its number among the frames' addresses and its place from their end down
module _ (a : ℕ) (high : 16777216 ≤ a) where
  here : (p size : ℕ) → size ≤ 131072 → (a - 16777216) / 131072 ≡ p → in_frame p size a ≡ nat_lt (131071 - (a - 16777216) % 131072) size
  here p size k e = grind (arith, nat_tests)

  elsewhere : (p size : ℕ) → size ≤ 131072 → ¬ ((a - 16777216) / 131072 ≡ p) → in_frame p size a ≡ false
  elsewhere p size k e = grind (arith, nat_tests)

  frames_past : (p : ℕ) (sizes : List ℕ) → All IsFrameSize sizes → (a - 16777216) / 131072 < p → in_frames p sizes a ≡ false
  frames_past p [] h k = refl
  frames_past p (n ∷ sizes) h k = or_false (in_frame p n a) (in_frames (p + 1) sizes a) (elsewhere p n (first_size n sizes h) (λ e. omega arith)) (frames_past (p + 1) sizes (other_sizes n sizes h) (omega arith))

  frames_part : (p j : ℕ) (sizes : List ℕ) → All IsFrameSize sizes → (a - 16777216) / 131072 ≡ p + j → in_frames p sizes a ≡ nat_lt (131071 - (a - 16777216) % 131072) (slice_index_or sizes j 0)
  frames_part p j [] h k = grind (arith, nat_tests)
  frames_part p zero (n ∷ sizes) h k =
      or_first (in_frame p n a) (in_frames (p + 1) sizes a) (frames_past (p + 1) sizes (other_sizes n sizes h) (omega arith)) ∙ here p n (first_size n sizes h) (omega arith)
  frames_part p (suc j) (n ∷ sizes) h k =
      or_last (in_frame p n a) (in_frames (p + 1) sizes a) (elsewhere p n (first_size n sizes h) (λ e. omega arith)) ∙ frames_part (p + 1) j sizes (other_sizes n sizes h) (omega arith)

  mapped_high : (t g : ℕ) (frames : List ℕ) → is_mapped t g frames a ≡ nat_lt (131071 - (a - 16777216) % 131072) (slice_index_or frames ((a - 16777216) / 131072) 0)
  mapped_high t g frames =
      let part : part_of a ≡ suc (suc ((a - 16777216) / 131072)) = grind (arith, nat_tests) in
      let at : place_in a ≡ 131071 - (a - 16777216) % 131072 = grind (arith, nat_tests) in
      ap (λ k. nat_lt (place_in a) (slice_index_or (t ∷ g ∷ frames) k 0)) part ∙ ap (λ k. nat_lt k (slice_index_or frames ((a - 16777216) / 131072) 0)) at

frames_low : (a p : ℕ) (sizes : List ℕ) → a < 16777216 → All IsFrameSize sizes → in_frames p sizes a ≡ false
frames_low a p [] l h = refl
frames_low a p (n ∷ sizes) l h =
    let small = first_size n sizes h in
    or_false (in_frame p n a) (in_frames (p + 1) sizes a) (grind (arith, nat_tests)) (frames_low a (p + 1) sizes l (other_sizes n sizes h))

-- below the frames
below_frames : (end a : ℕ) (frames : List ℕ) → 65536 ≤ end → in_frames 0 frames a ≡ false → a < 16777216 → is_mapped 16384 (end - 65536) frames a ≡ in_regions end frames a
below_frames end a frames g none l =
    let first : a < 65536 → part_of a ≡ 0 = λ k. grind (arith, nat_tests) in
    ⊎_elim
    (λ k. ap (λ j. nat_lt (place_in a) (slice_index_or (16384 ∷ (end - 65536) ∷ frames) j 0)) (first k) ∙ table k ∙ ap (λ t. in_lock_table a || in_globals end a || t) (sym none))
    (λ k. ap (λ j. nat_lt (place_in a) (slice_index_or (16384 ∷ (end - 65536) ∷ frames) j 0)) (second k) ∙ globals k ∙ ap (λ t. in_lock_table a || in_globals end a || t) (sym none))
    (cases_lt a 65536)
  where
    second : 65536 ≤ a → part_of a ≡ 1
    second k = grind (arith, nat_tests)

    table : a < 65536 → nat_lt (place_in a) 16384 ≡ in_lock_table a || in_globals end a || false
    table k = grind (arith, nat_tests)

    globals : 65536 ≤ a → nat_lt (place_in a) (end - 65536) ≡ in_lock_table a || in_globals end a || false
    globals k = grind (arith, nat_tests)

-- THE BYTES THAT THE LISTS HOLD ARE THOSE OF THE REGIONS
pub mapped_regions : (end : ℕ) (frames : List ℕ) → IsGlobalsEnd end → All IsFrameSize frames → is_mapped 16384 (end - 65536) frames ≡ in_regions end frames
mapped_regions end frames g h = λ d a. at a d
  where
    upper : (a : ℕ) → 16777216 ≤ a → is_mapped 16384 (end - 65536) frames a ≡ in_regions end frames a
    upper a k =
        let most = g.most in
        let others : in_lock_table a || in_globals end a ≡ false = grind (arith, nat_tests) in
        mapped_high a k 16384 (end - 65536) frames ∙ sym (frames_part a k 0 ((a - 16777216) / 131072) frames h (omega arith)) ∙ sym (ap (λ t. t || in_frames 0 frames a) others)

    at : (a : ℕ) → is_mapped 16384 (end - 65536) frames a ≡ in_regions end frames a
    at a = ⊎_elim (λ l. below_frames end a frames g.least (frames_low a 0 frames l h) l) (upper a) (cases_lt a 16777216)

-- a frame's byte lies in the frames
frame_among : (p q a size : ℕ) (sizes : List ℕ) → p < length sizes → slice_index_or sizes p 0 ≡ size → in_frame (q + p) size a ≡ true → in_frames q sizes a ≡ true
frame_among p q a size [] l e h = absurd (omega arith)
frame_among zero q a size (n ∷ sizes) l e h =
    let same : q + 0 ≡ q = omega arith in
    ap (λ t. t || in_frames (q + 1) sizes a) (ap (λ m. in_frame q m a) e ∙ sym (ap (λ r. in_frame r size a) same) ∙ h)
frame_among (suc p) q a size (n ∷ sizes) l e h =
    let same : q + suc p ≡ q + 1 + p = omega arith in
    ap (λ t. in_frame q n a || t) (frame_among p (q + 1) a size sizes (omega arith) e (sym (ap (λ r. in_frame r size a) same) ∙ h)) ∙ or_true (in_frame q n a)

-- ACCESSES IN THE REGIONS
pub table_access : (end a n : ℕ) (sizes : List ℕ) → 32768 ≤ a → a + n ≤ 49152 → all_inside (in_regions end sizes) a n ≡ true
table_access end a n sizes low high = inside_all (in_regions end sizes) a n (λ i l. let t : in_lock_table (a + i) ≡ true = grind (arith, nat_tests) in ap (λ t. t || in_globals end (a + i) || in_frames 0 sizes (a + i)) t)

pub globals_access : (end a n : ℕ) (sizes : List ℕ) → 65536 ≤ a → a + n ≤ end → all_inside (in_regions end sizes) a n ≡ true
globals_access end a n sizes low high =
    inside_all (in_regions end sizes) a n (λ i l. let t : in_globals end (a + i) ≡ true = grind (arith, nat_tests) in ap (λ t. in_lock_table (a + i) || t || in_frames 0 sizes (a + i)) t ∙ ap (λ t. t || in_frames 0 sizes (a + i)) (or_true (in_lock_table (a + i))))

pub frame_access : (end a n p size : ℕ) (sizes : List ℕ) → p < length sizes → slice_index_or sizes p 0 ≡ size → frame_end p ≤ a + size → a + n ≤ frame_end p → all_inside (in_regions end sizes) a n ≡ true
frame_access end a n p size sizes l e low high = inside_all (in_regions end sizes) a n at
  where
    at : (i : ℕ) → i < n → in_regions end sizes (a + i) ≡ true
    at i k =
        let same : 0 + p ≡ p = omega arith in
        let t : in_frame p size (a + i) ≡ true = grind (arith, nat_tests) in
        ap (λ t. in_lock_table (a + i) || in_globals end (a + i) || t) (frame_among p 0 (a + i) size sizes l e (ap (λ r. in_frame r size (a + i)) same ∙ t)) ∙ or_true (in_lock_table (a + i) || in_globals end (a + i))
