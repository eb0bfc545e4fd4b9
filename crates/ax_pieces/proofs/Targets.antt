-- The block to which an edge leads.
use Rattle.std.proofs.Common.{◌≡◌, ℕ, zero, suc, ◌+◌, ◌<◌, List, [], ◌∷◌, length, refl, ap, ◌∙◌, arith}
use Rattle.std.specs.Prelude.{slice_index_or}
use Rattle.ax_cells.specs.Memories.{starts_from}
use Rattle.ax_module.specs.declared.module.Block.{Block}
use Rattle.ax_source_run.specs.SourceInstructions.{first_number, insts_of_block}
use Rattle.ax_pieces.specs.Near.{IsNearEdge}

starts_long : (n : ℕ) (blocks : List Block) → length (starts_from n blocks) ≡ length blocks
starts_long n [] = refl
starts_long n (x ∷ blocks) = ap suc (starts_long (n + length x.insts) blocks)

start_of : (n : ℕ) (blocks : List Block) (b d : ℕ) → b < length blocks → slice_index_or (starts_from n blocks) b d ≡ n + first_number blocks b
start_of n [] b d h = absurd (omega arith)
start_of n (x ∷ blocks) zero d h = omega arith
start_of n (x ∷ blocks) (suc b) d h = let e = start_of (n + length x.insts) blocks b d (omega arith) in omega arith

insts_of : (blocks : List Block) (b : ℕ) (d : Block) → b < length blocks → (slice_index_or blocks b d).insts ≡ insts_of_block blocks b
insts_of [] b d h = absurd (omega arith)
insts_of (x ∷ blocks) zero d h = refl
insts_of (x ∷ blocks) (suc b) d h = insts_of blocks b d (omega arith)

module _ (f : ℕ) (blocks : List Block) (starts : List ℕ) (b : ℕ) (near : IsNearEdge f blocks starts b) where
  pub has_start : b < length starts
  has_start = let e = ap length near.begins ∙ starts_long 0 blocks in let h = near.inside in omega arith

  pub begins_at : (k d : ℕ) → k ≡ slice_index_or starts b d → k ≡ first_number blocks b
  begins_at k d e = e ∙ ap (λ (ks : List ℕ). slice_index_or ks b d) near.begins ∙ start_of 0 blocks b d near.inside ∙ omega arith

  pub has_insts : (block : Block) → (slice_index_or blocks b block).insts ≡ insts_of_block blocks b
  has_insts block = insts_of blocks b block near.inside
