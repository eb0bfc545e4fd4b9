-- Phis that are set together, by the numbers that come to them.
use Rattle.std.proofs.Common.{◌≡◌, ℕ, zero, suc, ◌+◌, ◌<◌, ◌≤◌, Bool, true, false, List, [], ◌∷◌, ◌++◌, Some, None, IsTrue, length, drop, refl, sym, ap, ◌∙◌, arith}
use Rattle.std.specs.Prelude.{if◌then◌else◌, slice_index_or}
use Rattle.std.specs.List.{flat_map, list_all}
use Rattle.std.proofs.lemmas.Bool.{and_parts}
use Rattle.ax_source.specs.Runnable.{is_narrow_inst}
use Rattle.std.proofs.lemmas.Grind.{common_steps}
use Rattle.ax_module.specs.declared.inst.Inst.{Inst}
use Rattle.ax_module.specs.declared.module.Block.{Block}
use Rattle.ax_source_run.specs.SourceAccess.{put_at}
use Rattle.ax_source_run.specs.SourceInstructions.{first_number, insts_of_block, is_phi, phi_count, phi_number, phis_set}
use Rattle.ax_source_run.specs.SourceState.{SourceValue, Number}
use Rattle.ax_source.specs.Phis.{phi_number_of, phi_numbers}
use Rattle.ax_cells.specs.Shapes.{numbers_put}

-- ---- as they are defined
module _ (from : ℕ) (old : ℕ → SourceValue) where
  set_if : (t : Bool) (k : ℕ) (i : Inst) (insts : List Inst) (values : ℕ → SourceValue) → phis_set from (k + 1) old insts (put_at values k (Number (phi_number from old i))) ≡ numbers_put (k + 1) (phi_numbers from old insts) (put_at values k (Number (phi_number from old i)))
      → (if t then phis_set from (k + 1) old insts (put_at values k (Number (phi_number from old i))) else values) ≡ numbers_put k (if t then phi_number from old i ∷ phi_numbers from old insts else []) values
  set_if true k i insts values e = e
  set_if false k i insts values e = refl

  pub set_together : (k : ℕ) (insts : List Inst) (values : ℕ → SourceValue) → phis_set from k old insts values ≡ numbers_put k (phi_numbers from old insts) values
  set_together k [] values = refl
  set_together k (i ∷ insts) values = set_if (is_phi i) k i insts values (set_together (k + 1) insts (put_at values k (Number (phi_number from old i))))

  counted_if : (t : Bool) (i : Inst) (insts : List Inst) → phi_count insts ≡ length (phi_numbers from old insts) → (if t then phi_count insts + 1 else 0) ≡ length (if t then phi_number from old i ∷ phi_numbers from old insts else [])
  counted_if true i insts e = omega arith
  counted_if false i insts e = refl

  pub counted : (insts : List Inst) → phi_count insts ≡ length (phi_numbers from old insts)
  counted [] = refl
  counted (i ∷ insts) = counted_if (is_phi i) i insts (counted insts)

  -- ---- one after the other
  drop_next : (insts : List Inst) (k j : ℕ) (d : Inst) → j ≡ k + 1 → k < length insts → drop k insts ≡ slice_index_or insts k d ∷ drop j insts
  drop_next [] k j d e h = absurd (omega arith)
  drop_next (x ∷ insts) zero j d e h = let f : j ≡ suc zero = omega arith in rw f refl
  drop_next (x ∷ insts) (suc k) zero d e h = absurd (omega arith)
  drop_next (x ∷ insts) (suc k) (suc j) d e h = drop_next insts k j d (omega arith) (omega arith)

  by_number : (t : Bool) (n m : ℕ) (ms : List ℕ) → (if t then Some n else None) ≡ Some m → (if t then n ∷ ms else []) ≡ m ∷ ms
  by_number true n m ms e = let f : n ≡ m = cc in ap (λ x. x ∷ ms) f
  by_number false n m ms e = cc

  by_none : (t : Bool) (n : ℕ) (ms : List ℕ) → (if t then Some n else None) ≡ None → (if t then n ∷ ms else []) ≡ []
  by_none true n ms e = cc
  by_none false n ms e = refl

  pub number_next : (insts : List Inst) (k j : ℕ) (i : Inst) (n : ℕ) → j ≡ k + 1 → k < length insts → i ≡ slice_index_or insts k i → phi_number_of from old i ≡ Some n → phi_numbers from old (drop k insts) ≡ n ∷ phi_numbers from old (drop j insts)
  number_next insts k j i n e h is f =
      ap (phi_numbers from old) (drop_next insts k j i e h) ∙ ap (λ x. phi_numbers from old (x ∷ drop j insts)) (sym is)
      ∙ by_number (is_phi i) (phi_number from old i) n (phi_numbers from old (drop j insts)) f

  pub number_last : (insts : List Inst) (k : ℕ) (i : Inst) → k < length insts → i ≡ slice_index_or insts k i → phi_number_of from old i ≡ None → phi_numbers from old (drop k insts) ≡ []
  number_last insts k i h is f =
      ap (phi_numbers from old) (drop_next insts k (k + 1) i refl h) ∙ ap (λ x. phi_numbers from old (x ∷ drop (k + 1) insts)) (sym is)
      ∙ by_none (is_phi i) (phi_number from old i) (phi_numbers from old (drop (k + 1) insts)) f

  pub number_none : (insts : List Inst) (k : ℕ) → length insts ≡ k → phi_numbers from old (drop k insts) ≡ []
  number_none [] zero h = refl
  number_none [] (suc k) h = refl
  number_none (x ∷ insts) zero h = absurd (omega arith)
  number_none (x ∷ insts) (suc k) h = number_none insts k (omega arith)

-- of at most 64 phis one is left, so the numbers before it are fewer
pub phis_room : (from : ℕ) (old : ℕ → SourceValue) (items : List ℕ) (insts : List Inst) (k : ℕ) (i : Inst) (n : ℕ) → items ++ phi_numbers from old (drop k insts) ≡ phi_numbers from old insts → phi_count insts ≤ 64 → k < length insts → i ≡ slice_index_or insts k i → phi_number_of from old i ≡ Some n → length items < 64
phis_room from old items insts k i n e few h is f =
    let next = number_next from old insts k (k + 1) i n refl h is f in
    let rest = phi_numbers from old (drop (k + 1) insts) in
    let all : length (items ++ (n ∷ rest)) ≡ length (phi_numbers from old insts) = ap length (ap (λ x. items ++ x) (sym next) ∙ e) in
    let parts : length (items ++ (n ∷ rest)) ≡ length items + suc (length rest) = grind (arith, common_steps) in
    let most = counted from old insts in
    omega arith

pub ruleset numbers = (number_next, number_last, number_none)

-- ---- types of phis
pub inst_at_narrow : (insts : List Inst) (k : ℕ) (i : Inst) → IsTrue (list_all is_narrow_inst insts) → k < length insts → i ≡ slice_index_or insts k i → IsTrue (is_narrow_inst i)
inst_at_narrow [] k i h l is = absurd (omega arith)
inst_at_narrow (x ∷ insts) zero i h l is = ap is_narrow_inst is ∙ (and_parts (is_narrow_inst x) (list_all is_narrow_inst insts) h).0
inst_at_narrow (x ∷ insts) (suc k) i h l is = inst_at_narrow insts k i (and_parts (is_narrow_inst x) (list_all is_narrow_inst insts) h).1 (omega arith) is

pub ruleset narrow = (inst_at_narrow)

-- ---- a block's instructions are among its function's
joined : (xs ys : List Inst) → length (xs ++ ys) ≡ length xs + length ys
joined xs ys = grind (arith, common_steps)

pub block_ends : (blocks : List Block) (b : ℕ) → first_number blocks b + length (insts_of_block blocks b) ≤ length (flat_map (λ (block : Block). block.insts) blocks)
block_ends [] b = omega arith
block_ends (x ∷ blocks) zero = let e = joined x.insts (flat_map (λ (block : Block). block.insts) blocks) in omega arith
block_ends (x ∷ blocks) (suc b) = let l = block_ends blocks b in let e = joined x.insts (flat_map (λ (block : Block). block.insts) blocks) in omega arith
