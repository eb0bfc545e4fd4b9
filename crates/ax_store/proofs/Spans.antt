-- Bytes along a span are those at their addresses.
use Rattle.std.proofs.Common.{◌≡◌, ℕ, ◌+◌, ◌-◌, ◌<◌, ◌≤◌, ◌^◌, ◌*◌, Bool, true, Option, Some, None, List, [], length, refl, sym, ap, ◌∙◌, subst, arith}
use Rattle.std.specs.Prelude.{◌&&◌, nat_lt, IsTrue, IsSome, IfSome, slice_index_or, slice_set, if◌then◌else◌}
use Rattle.std.proofs.lemmas.Bool.Decides.{nat_tests}
use Rattle.std.proofs.lemmas.Bool.{false≢true}
use Rattle.std.proofs.lemmas.Grind.{common_steps}
use Rattle.std.proofs.Math.Nat.{pow-le-pow_right}
use Rattle.ax_store.specs.declared.span.Span.{Span}
use Rattle.ax_store.specs.Bytes.{all_inside, set_inside}
use Rattle.ax_store.specs.Places.{part_of, place_in, byte_at, bytes_in, is_inside, bytes_set}
use Rattle.ax_store.specs.Spans.{HasByte, IsRow, IsSpan, along, byte_along, bytes_of, set_along}
use Rattle.ax_store.proofs.Calls.{inside_all}
use Rattle.ax_store.proofs.Numbers.{number_room}

pub here_byte : (rs : List (List ℕ)) (a n i : ℕ) (s : Span) → IsSpan rs a n s → i < n → byte_at rs (a + i) ≡ byte_along rs s i
here_byte rs a n i s h l = ap (λ r. slice_index_or (slice_index_or rs r []) (place_in (a + i)) 0) (h.row.parts i l) ∙ ap (λ k. slice_index_or (bytes_of rs s) k 0) (h.row.places i l)

pub here_set : (rs : List (List ℕ)) (a n i b : ℕ) (s : Span) → IsRow a n s → i < n → bytes_set rs (a + i) b ≡ set_along rs s i b
here_set rs a n i b s h l = ap (λ r. slice_set rs r (slice_set (slice_index_or rs r []) (place_in (a + i)) b)) (h.parts i l) ∙ ap (λ k. slice_set rs s.region (slice_set (bytes_of rs s) k b)) (h.places i l)

here_inside : (rs : List (List ℕ)) (a n i : ℕ) (s : Span) → IsSpan rs a n s → i < n → is_inside rs (a + i) ≡ true
here_inside rs a n i s h l =
    let k : along s i < length (bytes_of rs s) = (h.has i l).inside in
    let t : nat_lt (along s i) (length (bytes_of rs s)) ≡ true = grind (arith, nat_tests) in
    ap (λ r. nat_lt (place_in (a + i)) (length (slice_index_or rs r []))) (h.row.parts i l) ∙ ap (λ k. nat_lt k (length (bytes_of rs s))) (h.row.places i l) ∙ t

pub span_inside : (rs : List (List ℕ)) (a n : ℕ) (o : Option Span) → IfSome o (λ s. IsSpan rs a n s) → IsSome o → all_inside (is_inside rs) a n ≡ true
span_inside rs a n None h some = absurd (false≢true some)
span_inside rs a n (Some s) h some = inside_all (is_inside rs) a n (λ i l. here_inside rs a n i s h l)

-- the regions keep their sizes
pub same_sizes : (rs : List (List ℕ)) (i j b : ℕ) (s : Span) → HasByte rs i s → HasByte (set_along rs s j b) i s
same_sizes rs i j b s h = record {
  below = h.below;
  region = (let r = h.region in grind (arith, common_steps));
  inside = (let r = h.inside in grind (arith, common_steps, nat_tests));
}

-- one more byte below 2 ^ 64
pub fit_word : (i n v b : ℕ) → n ≤ 8 → 0 < i → i ≤ n → v < 2 ^ (8 * (n - i)) → b < 256 → v * 256 + b < 2 ^ 64
fit_word i n v b h pos within small byte =
    let k : i ≡ i - 1 + 1 = omega arith in
    let s : v < 2 ^ (8 * (n - (i - 1 + 1))) = subst (λ j. v < 2 ^ (8 * (n - j))) k small in
    let r = number_room n (i - 1) v b (omega arith) s byte in
    let p : 2 ^ (8 * (n - (i - 1))) ≤ 2 ^ 64 = pow-le-pow_right {n = 2} (omega arith) {i = 8 * (n - (i - 1))} {j = 64} (omega arith) in
    omega arith
