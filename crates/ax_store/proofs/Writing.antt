-- Loops that write a number byte by byte.
use Rattle.std.proofs.Common.{◌≡◌, ◌+◌, ℕ, List, ap, ◌∙◌}
use Rattle.ax_store.specs.Bytes.{byte_of, put, set_inside}
use Rattle.ax_store.specs.Places.{byte_at, is_inside}
use Rattle.ax_store.proofs.Places.{put_more}

-- the bytes below i are written
pub record Sofar (rs new : List (List ℕ)) (a i v : ℕ) : Type 0 where
  pub bytes : byte_at new ≡ put (is_inside rs) a i v (byte_at rs)
  pub inside : is_inside new ≡ is_inside rs

pub more : (old mid new : List (List ℕ)) (a i v b : ℕ) → Sofar old mid a i v → b ≡ byte_of v i → byte_at new ≡ set_inside (is_inside mid) (byte_at mid) (a + i) b → is_inside new ≡ is_inside mid → Sofar old new a (i + 1) v
more old mid new a i v b s e bytes inside = record {
  bytes = bytes ∙ ap (λ t. set_inside t (byte_at mid) (a + i) b) s.inside ∙ ap (λ t. set_inside (is_inside old) t (a + i) b) s.bytes ∙ ap (set_inside (is_inside old) (put (is_inside old) a i v (byte_at old)) (a + i)) e ∙ put_more (is_inside old) a i v (byte_at old);
  inside = inside ∙ s.inside;
}
