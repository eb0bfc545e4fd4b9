-- The code of a function ends with a line that does not go on.
use Rattle.std.proofs.Common.{◌≡◌, ℕ, suc, ◌+◌, ◌<◌, Bool, true, false, List, [], ◌∷◌, ◌++◌, map, Some, length, refl, subst, arith, slice_get}
use Rattle.std.specs.Prelude.{IsTrue, ◌&&◌, drop, if◌then◌else◌, nat_eq, not}
use Rattle.std.specs.List.{list_all, prefix_len}
use Rattle.std.proofs.lemmas.Bool.{and_parts, false≢true}
use Rattle.ax_module.specs.declared.inst.Inst.{Inst}
use Rattle.ax_module.specs.declared.inst.Inst.TheVariants as inst
use Rattle.ax_module.specs.declared.module.Block.{Block}
use Rattle.ax_module.specs.declared.operand.Operand.{Operand}
use Rattle.ax_module.specs.declared.types.Ty.TheVariants.{I1}
use Rattle.ax_module.specs.Kinds.{is_phi, is_terminator}
use Rattle.ax_module.specs.WellFormed.{NameCounts, is_block, is_body, is_inst, is_nonempty, is_order}
use Rattle.ax_source_run.specs.SourceState.{SourceProgram}
use Rattle.ax_mid.specs.declared.instruction.MidInst.TheVariants as mid
use Rattle.ax_mid.specs.WellFormed.{is_last}
use Rattle.ax_selected.specs.Edges.{edge_lines}
use Rattle.ax_selected.specs.Operands.{low_into}
use Rattle.ax_selected.specs.Pieces.{Straight}
use Rattle.ax_selected.specs.Registers.{first_label, second_label, virtual}
use Rattle.ax_selected.specs.Selected.{acting, blocks_lines, branch_lines, insts_lines, label_line, lone, piece, silent, straight}
use Rattle.ax_formed.proofs.Lines.{Ends, ends_alone, ends_behind, ends_both}

straight_ends : (f k : ℕ) (s : Straight) → IsTrue (is_last s.last) → Ends (straight f k s)
straight_ends f k s h = ends_both (map (silent f k) s.silent) (acting f k s.last ∷ []) h

-- ---- a terminator
module _ (f k : ℕ) (program : SourceProgram) (blocks : List Block) (b : ℕ) where
  edge_ends : (d : ℕ) → Ends (straight f k (edge_lines f blocks b d))
  unfolding is_last
  edge_ends d = straight_ends f k (edge_lines f blocks b d) refl

  branch_ends : (test : Operand) (d e : ℕ) → Ends (branch_lines f k test (edge_lines f blocks b d) (edge_lines f blocks b e))
  branch_ends test d e =
      let head = low_into 0 I1 test ∷ mid.Branch (virtual 0) (first_label f k) (second_label f k) ∷ mid.Label (first_label f k) ∷ [] in
      let right = straight f k (edge_lines f blocks b e) in
      ends_both (map (silent f k) head ++ straight f k (edge_lines f blocks b d)) (silent f k (mid.Label (second_label f k)) ∷ right) (ends_behind (silent f k (mid.Label (second_label f k))) [] right (edge_ends e))

  terminator_ends : (i : Inst) → is_terminator i ≡ true → Ends (piece f k program blocks b i)
  unfolding piece is_terminator is_last
  terminator_ends (inst.Jump d) h = edge_ends d
  terminator_ends (inst.Branch v d e) h = by (nat_eq d e)
    where
      by : (t : Bool) → Ends (if t then straight f k (edge_lines f blocks b d) else branch_lines f k v (edge_lines f blocks b d) (edge_lines f blocks b e))
      by true = edge_ends d
      by false = branch_ends v d e
  terminator_ends inst.RetVoid h = straight_ends f k (lone mid.Ret) refl
  terminator_ends (inst.Ret t v) h = straight_ends f k (lone mid.Trap) refl
  terminator_ends inst.Unreachable h = straight_ends f k (lone mid.Trap) refl
  terminator_ends _ h = absurd (false≢true h)

module _ (program : SourceProgram) (f : ℕ) (all : List Block) where
  -- ---- the instructions of a block
  body_by : (t : Bool) (b k : ℕ) (i : Inst) (insts : List Inst) → is_terminator i ≡ t → (if t then not (is_nonempty insts) else not (is_phi i) && is_body insts) ≡ true → (is_body insts ≡ true → Ends (insts_lines program f all b (k + 1) insts)) → Ends (insts_lines program f all b k (i ∷ insts))
  body_by true b k i [] e h rest = ends_alone (piece f k program all b i) (terminator_ends f k program all b i e)
  body_by true b k i (j ∷ insts) e h rest = absurd (false≢true h)
  body_by false b k i insts e h rest = ends_both (piece f k program all b i) (insts_lines program f all b (k + 1) insts) (rest (and_parts (not (is_phi i)) (is_body insts) h).1)

  body_ends : (b k : ℕ) (insts : List Inst) → is_body insts ≡ true → Ends (insts_lines program f all b k insts)
  body_ends b k [] h = absurd (false≢true h)
  body_ends b k (i ∷ insts) h = body_by (is_terminator i) b k i insts refl h (λ g. body_ends b (k + 1) insts g)

  order_by : (t : Bool) (b k : ℕ) (i : Inst) (insts : List Inst) → is_body (drop (if t then 1 + prefix_len is_phi insts else 0) (i ∷ insts)) ≡ true → (is_order insts ≡ true → Ends (insts_lines program f all b (k + 1) insts)) → Ends (insts_lines program f all b k (i ∷ insts))
  order_by true b k i insts h rest =
      let same : 1 + prefix_len is_phi insts ≡ suc (prefix_len is_phi insts) = omega arith in
      ends_both (piece f k program all b i) (insts_lines program f all b (k + 1) insts) (rest (subst (λ (n : ℕ). is_body (drop n (i ∷ insts)) ≡ true) same h))
  order_by false b k i insts h rest = body_ends b k (i ∷ insts) h

  order_ends : (b k : ℕ) (insts : List Inst) → is_order insts ≡ true → Ends (insts_lines program f all b k insts)
  order_ends b k [] h = absurd (false≢true h)
  order_ends b k (i ∷ insts) h = order_by (is_phi i) b k i insts h (λ g. order_ends b (k + 1) insts g)

  -- ---- blocks
  block_ends : (scope : NameCounts) (b k : ℕ) (block : Block) → is_block scope block ≡ true → Ends (label_line program f k ∷ insts_lines program f all b k block.insts)
  block_ends scope b k block h =
      let order = and_parts (is_order block.insts) (list_all (is_inst scope) block.insts) h in
      ends_behind (label_line program f k) [] (insts_lines program f all b k block.insts) (order_ends b k block.insts order.0)

  pub blocks_end : (scope : NameCounts) (b k : ℕ) (blocks : List Block) → ((d : ℕ) (block : Block) → slice_get blocks d ≡ Some block → is_block scope block ≡ true) → 0 < length blocks → Ends (blocks_lines program f all b k blocks)
  blocks_end scope b k [] h some = absurd (omega (arith, some))
  blocks_end scope b k (block ∷ []) h some = ends_alone (label_line program f k ∷ insts_lines program f all b k block.insts) (block_ends scope b k block (h 0 block refl))
  blocks_end scope b k (block ∷ next ∷ blocks) h some =
      let n = length block.insts in
      ends_both (label_line program f k ∷ insts_lines program f all b k block.insts) (blocks_lines program f all (b + 1) (k + n) (next ∷ blocks))
      (blocks_end scope (b + 1) (k + n) (next ∷ blocks) (λ d other e. h (suc d) other e) (omega arith))
