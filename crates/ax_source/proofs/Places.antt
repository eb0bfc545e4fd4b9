-- Where an instruction stands in its function.
use Rattle.std.proofs.Common.{◌≡◌, ℕ, zero, suc, ◌+◌, ◌<◌, List, [], ◌∷◌, ◌++◌, Option, Some, None, IsSome, IfSome, length, refl, sym, ap, ◌∙◌, arith}
use Rattle.std.specs.Prelude.{slice_get, slice_index_or, option_copied, is_some}
use Rattle.std.specs.List.{flat_map}
use Rattle.std.proofs.lemmas.Grind.{common_steps}
use Rattle.std.specs.Borrow.{Bor}
use Rattle.ax_module.specs.declared.inst.Inst.{Inst}
use Rattle.ax_module.specs.declared.module.Block.{Block}
use Rattle.ax_source_run.specs.SourceEvent.{inst_at, number_of_next}
use Rattle.ax_source_run.specs.SourceInstructions.{first_number, insts_of_block}
use Rattle.ax_source_run.specs.SourcePointers.{blocks_of}
use Rattle.ax_source.proofs.Narrow.{inst_narrow}
use Rattle.ax_source.specs.ProcessorState.{ProcessorState, IsFound, IsSound, Stands, insts_in, state_of}
use Rattle.ax_cells.specs.Memories.{starts_from}

-- ---- a block's instructions
pub block_is : (blocks : List Block) (b : ℕ) → insts_of_block blocks b ≡ insts_in (slice_get blocks b)
block_is [] b = refl
block_is (x ∷ blocks) zero = refl
block_is (x ∷ blocks) (suc b) = block_is blocks b

no_inst : (i : ℕ) → IsSome (slice_get {X = Inst} [] i) → ⊥
no_inst i h = cc

-- ---- their numbers
pub has_block : (blocks : List Block) (b i : ℕ) → IsSome (slice_get (insts_of_block blocks b) i) → b < length blocks
has_block [] b i h = absurd (no_inst i h)
has_block (x ∷ blocks) zero i h = omega arith
has_block (x ∷ blocks) (suc b) i h = let l = has_block blocks b i h in omega arith

pub start_at : (n : ℕ) (blocks : List Block) (b d : ℕ) → b < length blocks → slice_index_or (starts_from n blocks) b d ≡ n + first_number blocks b
start_at n [] b d h = absurd (omega arith)
start_at n (x ∷ blocks) zero d h = omega arith
start_at n (x ∷ blocks) (suc b) d h = let e = start_at (n + length x.insts) blocks b d (omega arith) in omega arith

pub starts_size : (n : ℕ) (blocks : List Block) → length (starts_from n blocks) ≡ length blocks
starts_size n [] = refl
starts_size n (x ∷ blocks) = ap suc (starts_size (n + length x.insts) blocks)

within : (insts : List Inst) (i : ℕ) → IsSome (slice_get insts i) → i < length insts
within [] i h = absurd (no_inst i h)
within (x ∷ insts) zero h = omega arith
within (x ∷ insts) (suc i) h = let l = within insts i h in omega arith

joined : (xs ys : List Inst) → length (xs ++ ys) ≡ length xs + length ys
joined xs ys = grind (arith, common_steps)

pub number_within : (blocks : List Block) (b i : ℕ) → IsSome (slice_get (insts_of_block blocks b) i) → first_number blocks b + i < length (flat_map (λ (block : Block). block.insts) blocks)
number_within [] b i h = absurd (no_inst i h)
number_within (x ∷ blocks) zero i h =
    let l = within x.insts i h in let e = joined x.insts (flat_map (λ (block : Block). block.insts) blocks) in omega arith
number_within (x ∷ blocks) (suc b) i h =
    let l = number_within blocks b i h in let e = joined x.insts (flat_map (λ (block : Block). block.insts) blocks) in omega arith

module _ (c : ProcessorState) (sound : IsSound c) (h : IsSome (inst_at c.program (state_of c))) where
  pub stands_at : Stands c (number_of_next c.program (state_of c))
  stands_at =
      let l = number_within (blocks_of c.program.source c.function) c.block c.index h in
      let few = sound.runnable.few c.function in
      record { index = omega arith; result = l }

pub block_within : (v : ProcessorState) (starts : List ℕ) (b : ℕ) → starts ≡ starts_from 0 (blocks_of v.program.source v.function) → b ≡ v.block → IsSome (inst_at v.program (state_of v)) → b < length starts
block_within v starts b e f h =
    let l = has_block (blocks_of v.program.source v.function) v.block v.index h in
    let s = ap length e ∙ starts_size 0 (blocks_of v.program.source v.function) in
    omega arith

pub number_is : (v : ProcessorState) (starts : List ℕ) (b i r : ℕ) → starts ≡ starts_from 0 (blocks_of v.program.source v.function) → b ≡ v.block → i ≡ v.index → IsSome (inst_at v.program (state_of v)) → r ≡ slice_index_or starts b r
    → r + i ≡ number_of_next v.program (state_of v)
number_is v starts b i r e f g h is =
    let blocks = blocks_of v.program.source v.function in
    let s : r ≡ 0 + first_number blocks v.block = is ∙ ap (λ ss. slice_index_or ss b r) e ∙ ap (λ k. slice_index_or (starts_from 0 blocks) k r) f ∙ start_at 0 blocks v.block r (has_block blocks v.block v.index h) in
    omega arith

pub found : (c : ProcessorState) (r : Option (Bor Inst)) → IsSound c → option_copied r ≡ inst_at c.program (state_of c) → IfSome r (λ inst. IsFound c inst.now)
found c None sound e = tt
found c (Some inst) sound e = record {
  narrow = inst_narrow c.program.source sound.runnable.narrow c.function c.block c.index inst.now (sym e);
  here = sym (ap is_some e);
}
