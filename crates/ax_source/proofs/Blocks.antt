-- A processor that goes to a block.
use Rattle.std.proofs.Common.{◌≡◌, ℕ, zero, suc, ◌+◌, ◌<◌, ◌≤◌, Bool, true, false, List, [], ◌∷◌, length, refl, sym, ap, ◌∙◌, ⊎_elim, arith}
use Rattle.std.specs.Prelude.{slice_index_or, if◌then◌else◌}
use Rattle.std.specs.List.{flat_map}
use Rattle.std.proofs.lemmas.Bool.{cases_lt}
use Rattle.ax_module.specs.declared.inst.Inst.{Inst}
use Rattle.ax_module.specs.declared.module.Block.{Block}
use Rattle.ax_source_run.specs.SourceInstructions.{first_number, insts_of_block, is_phi, phi_count, phis_set}
use Rattle.ax_source_run.specs.SourceState.{SourceValue}
use Rattle.ax_source.specs.Phis.{phi_numbers}
use Rattle.ax_cells.specs.Shapes.{numbers_put}
use Rattle.ax_cells.specs.Memories.{starts_from}
use Rattle.ax_source.proofs.SetTogether.{block_ends, counted, set_together}
use Rattle.ax_source.proofs.Places.{start_at, starts_size}

past : (xs : List ℕ) (k : ℕ) → length xs ≤ k → slice_index_or xs k 0 ≡ 0
past [] k h = refl
past (x ∷ xs) zero h = absurd (omega arith)
past (x ∷ xs) (suc k) h = past xs k (omega arith)

no_insts : (blocks : List Block) (b : ℕ) → length blocks ≤ b → insts_of_block blocks b ≡ []
no_insts [] b h = refl
no_insts (x ∷ blocks) zero h = absurd (omega arith)
no_insts (x ∷ blocks) (suc b) h = no_insts blocks b (omega arith)

few : (from : ℕ) (old : ℕ → SourceValue) (insts : List Inst) → phi_count insts ≤ length insts
few from old [] = omega arith
few from old (i ∷ insts) = let l = few from old insts in by (is_phi i) l
  where
    by : (t : Bool) → phi_count insts ≤ length insts → (if t then phi_count insts + 1 else 0) ≤ suc (length insts)
    by true l = omega arith
    by false l = omega arith

module _ (blocks : List Block) (b start from : ℕ) (old : ℕ → SourceValue) (numbers : List ℕ) (is : start ≡ slice_index_or (starts_from 0 blocks) b 0) (come : numbers ≡ phi_numbers from old (insts_of_block blocks b)) where
  size : length numbers ≡ phi_count (insts_of_block blocks b)
  size = ap length come ∙ sym (counted from old (insts_of_block blocks b))

  inside : b < length blocks → start ≡ first_number blocks b
  inside h = is ∙ start_at 0 blocks b 0 h ∙ omega arith

  outside : length blocks ≤ b → (start ≡ 0) × (numbers ≡ [])
  outside h = (
    is ∙ past (starts_from 0 blocks) b (let e = starts_size 0 blocks in omega arith),
    come ∙ ap (phi_numbers from old) (no_insts blocks b h),
  )

  pub fits : start + length numbers ≤ length (flat_map (λ (block : Block). block.insts) blocks)
  fits = ⊎_elim
      (λ h. let e = inside h in let l = block_ends blocks b in let f = few from old (insts_of_block blocks b) in let s = size in omega arith)
      (λ h. let o = outside h in let e = o.0 in let n : length numbers ≡ 0 = ap length o.1 in omega arith)
      (cases_lt b (length blocks))

  pub together : numbers_put start numbers old ≡ phis_set from (first_number blocks b) old (insts_of_block blocks b) old
  together = ⊎_elim
      (λ h. ap (λ k. numbers_put k numbers old) (inside h) ∙ ap (λ ns. numbers_put (first_number blocks b) ns old) come ∙ sym (set_together from old (first_number blocks b) (insts_of_block blocks b) old))
      (λ h. ap (λ ns. numbers_put start ns old) (outside h).1 ∙ sym (ap (λ insts. phis_set from (first_number blocks b) old insts old) (no_insts blocks b h)))
      (cases_lt b (length blocks))

  pub many : length numbers ≡ phi_count (insts_of_block blocks b)
  many = size

pub ruleset moves = (together, many)
