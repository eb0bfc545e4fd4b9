-- The names and the instructions of the lines that the canonical text states.
use Rattle.std.proofs.Common.{◌≡◌, ℕ, suc, ◌+◌, ◌%◌, ◌^◌, ◌<◌, arith, Bool, true, false, cond, not, ◌&&◌, List, [], ◌∷◌, ◌++◌, length, flat_map, take, Option, Some, None, refl, sym, ap, ap₂, subst, ◌∙◌, codes, decimal, true≢false}
use Rattle.std.specs.List.{list_all, prefix_len}
use Rattle.std.specs.Option.{option_map}
use Rattle.std.proofs.lemmas.Bool.{and_parts}
use Rattle.ax_module.specs.declared.types.Ty.{Ty}
use Rattle.ax_module.specs.declared.inst.Inst.{Inst}
use Rattle.ax_module.specs.declared.module.Block.{Block}
use Rattle.ax_module.specs.Kinds.{has_result, is_terminator, is_phi}
use Rattle.ax_module.specs.WellFormed.{is_nonempty, is_order}
use Rattle.ax_symbols.specs.declared.symbol.NameSpan.{NameSpan}
use Rattle.ax_lines.specs.declared.statement.Line.{Line}
use Rattle.ax_lines.specs.declared.statement.Line.TheVariants as line
use Rattle.ax_scope.specs.declared.meaning.Meaning.{Meaning}
use Rattle.ax_scope.specs.declared.meaning.Meaning.TheVariants as meaning
use Rattle.ax_scope.specs.Names.{is_inner, inside_of, declared, params_from, result_name, inst_count, results_from, block_name, first_behind, blocks_from}
use Rattle.ax_scope.specs.Resolve.{Looks}
use Rattle.ax_scope.specs.Faults.{stated}
use Rattle.ax_scope.specs.Module.{ends_block, insts_in, empty_block, onto, blocks_in}
use Rattle.ax_scope.proofs.Blocks.{onto_nothing}
use Rattle.ax_read.proofs.Meant.{kind_is}
use Rattle.ax_again.proofs.EatOuter.{IsLabel, AreParams}
use Rattle.ax_again.proofs.StatedLines.{IsInst, AreInsts, AreBlocks, is_ordered, order_ordered, can_params, can_results, can_blocks}

-- nothing more
abbrev pub Nil : List Line → Type 0
Nil ls = ls ≡ []

-- ---- the lines of a function

abbrev pub Parts : (List Line → Type 0) → (List Line → Type 0) → List Line → Type 0
Parts A R ls = (front : List Line) × (rest : List Line) × (ls ≡ front ++ rest) × A front × R rest

insts_part : (x : Looks) (n : ℕ) (is : List Inst) (K A R : List Line → Type 0) (ls : List Line) → ((ls : List Line) → K ls → Parts A R ls) → AreInsts x n is K ls → Parts (AreInsts x n is A) R ls
insts_part x n [] K A R ls f h = f ls h
insts_part x n (i ∷ is) K A R [] f h = absurd h
insts_part x n (i ∷ is) K A R (l ∷ ls) f h =
    let p = insts_part x (n + 1) is K A R ls f h.1 in
    (l ∷ p.0, p.1, ap (λ (ls : List Line). l ∷ ls) p.2, (h.0, p.3), p.4)

blocks_part : (x : Looks) (k n : ℕ) (bs : List Block) (K A R : List Line → Type 0) (ls : List Line) → ((ls : List Line) → K ls → Parts A R ls) → AreBlocks x k n bs K ls → Parts (AreBlocks x k n bs A) R ls
blocks_part x k n [] K A R ls f h = f ls h
blocks_part x k n (b ∷ bs) K A R [] f h = absurd h
blocks_part x k n (b ∷ bs) K A R (l ∷ ls) f h =
    let p = insts_part x n b.insts (AreBlocks x (k + 1) (n + length b.insts) bs K) (AreBlocks x (k + 1) (n + length b.insts) bs A) R ls (λ ls g. blocks_part x (k + 1) (n + length b.insts) bs K A R ls f g) h.1 in
    (l ∷ p.0, p.1, ap (λ (ls : List Line). l ∷ ls) p.2, (h.0, p.3), p.4)

pub split_body : (x : Looks) (bs : List Block) (K : List Line → Type 0) (ls : List Line) → AreBlocks x 0 0 bs K ls → Parts (AreBlocks x 0 0 bs Nil) K ls
split_body x bs K ls h = blocks_part x 0 0 bs K Nil K ls (λ ls g. ([], ls, refl, refl, g)) h

inner_inst : (x : Looks) (n : ℕ) (i : Inst) (l : Line) → IsInst x n i l → is_inner l ≡ true
unfolding is_inner
inner_inst x n i l q = ap is_inner q.line

inner_label : (text : List ℕ) (k : ℕ) (l : Line) → IsLabel text k l → is_inner l ≡ true
unfolding is_inner
inner_label text k l q = ap is_inner q.line

inner_insts : (x : Looks) (n : ℕ) (is : List Inst) (K : List Line → Type 0) (ls : List Line) → ((ls : List Line) → K ls → list_all is_inner ls ≡ true) → AreInsts x n is K ls → list_all is_inner ls ≡ true
inner_insts x n [] K ls f h = f ls h
inner_insts x n (i ∷ is) K [] f h = absurd h
inner_insts x n (i ∷ is) K (l ∷ ls) f h = rw (inner_inst x n i l h.0, inner_insts x (n + 1) is K ls f h.1) refl

pub inner_blocks : (x : Looks) (k n : ℕ) (bs : List Block) (ls : List Line) → AreBlocks x k n bs Nil ls → list_all is_inner ls ≡ true
inner_blocks x k n [] ls h = ap (list_all is_inner) h
inner_blocks x k n (b ∷ bs) [] h = absurd h
inner_blocks x k n (b ∷ bs) (l ∷ ls) h = rw (inner_label x.text k l h.0, inner_insts x n b.insts (AreBlocks x (k + 1) (n + length b.insts) bs Nil) ls (λ ls g. inner_blocks x (k + 1) (n + length b.insts) bs ls g) h.1) refl

close_outer : is_inner line.Close ≡ false
unfolding is_inner
close_outer = refl

pub inside_front : (front rest : List Line) → list_all is_inner front ≡ true → inside_of (front ++ line.Close ∷ rest) ≡ front
inside_front [] rest h = ap (λ (b : Bool). take (cond b (1 + prefix_len is_inner rest) 0) (line.Close ∷ rest)) close_outer
inside_front (l ∷ front) rest h =
    let a = and_parts (is_inner l) (list_all is_inner front) h in
    let one : 1 + prefix_len is_inner (front ++ line.Close ∷ rest) ≡ suc (prefix_len is_inner (front ++ line.Close ∷ rest)) = omega arith in
    ap (λ (b : Bool). take (cond b (1 + prefix_len is_inner (front ++ line.Close ∷ rest)) 0) (l ∷ (front ++ line.Close ∷ rest))) a.0
    ∙ ap (λ (n : ℕ). take n (l ∷ (front ++ line.Close ∷ rest))) one
    ∙ ap (λ (ls : List Line). l ∷ ls) (inside_front front rest a.1)

-- ---- the names of a function

pub params_are : (text : List ℕ) (k : ℕ) (ts : List Ty) (ps : List (Ty × NameSpan)) → AreParams text k ts ps → params_from text k ps ≡ can_params k ts
params_are text k [] [] h = refl
params_are text k [] (p ∷ ps) h = absurd h
params_are text k (t ∷ ts) [] h = absurd h
params_are text k (t ∷ ts) (p ∷ ps) h =
    ap₂ (λ (n : List ℕ) (es : List (List ℕ × Meaning)). (n, meaning.Param k) ∷ es) (h.0).1 (params_are text (k + 1) ts ps h.1)

module _ (x : Looks) where
  inst_result : (n : ℕ) (i : Inst) (l : Line) (ls : List Line) → IsInst x n i l → results_from x.text n (l ∷ ls) ≡ declared (cond (has_result i) (Some (codes "v" ++ decimal n)) None) (meaning.Value n) ++ results_from x.text (n + 1) ls
  unfolding result_name inst_count
  inst_result n i l ls q =
      ap (λ (m : Line). results_from x.text n (m ∷ ls)) q.line ∙ ap (λ (o : Option (List ℕ)). declared o (meaning.Value n) ++ results_from x.text (n + 1) ls) q.name

  label_result : (k n : ℕ) (l : Line) (ls : List Line) → IsLabel x.text k l → results_from x.text n (l ∷ ls) ≡ results_from x.text n ls
  unfolding result_name inst_count
  label_result k n l ls q = let e : n + 0 ≡ n = omega arith in ap (λ (m : Line). results_from x.text n (m ∷ ls)) q.line ∙ ap (λ (j : ℕ). results_from x.text j ls) e

  insts_results : (n : ℕ) (is : List Inst) (K : List Line → Type 0) (after : List Inst) (ls : List Line) → ((ls : List Line) (m : ℕ) → m ≡ n + length is → K ls → results_from x.text m ls ≡ can_results m after) → AreInsts x n is K ls → results_from x.text n ls ≡ can_results n (is ++ after)
  insts_results n [] K after ls f h = f ls n (omega arith) h
  insts_results n (i ∷ is) K after [] f h = absurd h
  insts_results n (i ∷ is) K after (l ∷ ls) f h =
      inst_result n i l ls h.0
      ∙ ap (λ (es : List (List ℕ × Meaning)). declared (cond (has_result i) (Some (codes "v" ++ decimal n)) None) (meaning.Value n) ++ es) (insts_results (n + 1) is K after ls (λ ls m e k. f ls m (omega (arith, e)) k) h.1)

  pub blocks_results : (k n : ℕ) (bs : List Block) (ls : List Line) → AreBlocks x k n bs Nil ls → results_from x.text n ls ≡ can_results n (flat_map (λ b. b.insts) bs)
  blocks_results k n [] ls h = ap (results_from x.text n) h
  blocks_results k n (b ∷ bs) [] h = absurd h
  blocks_results k n (b ∷ bs) (l ∷ ls) h =
      label_result k n l ls h.0
      ∙ insts_results n b.insts (AreBlocks x (k + 1) (n + length b.insts) bs Nil) (flat_map (λ b. b.insts) bs) ls
      (λ ls m e g. subst (λ (j : ℕ). results_from x.text j ls ≡ can_results j (flat_map (λ b. b.insts) bs)) (sym e) (blocks_results (k + 1) (n + length b.insts) bs ls g)) h.1

  inst_block : (entry : List ℕ) (k n : ℕ) (i : Inst) (l : Line) (ls : List Line) → IsInst x n i l → blocks_from x.text entry false k (l ∷ ls) ≡ blocks_from x.text entry false k ls
  unfolding block_name first_behind
  inst_block entry k n i l ls q = let e : k + 0 ≡ k = omega arith in ap (λ (m : Line). blocks_from x.text entry false k (m ∷ ls)) q.line ∙ ap (λ (j : ℕ). blocks_from x.text entry false j ls) e

  label_block : (entry : List ℕ) (first : Bool) (k : ℕ) (l : Line) (ls : List Line) → IsLabel x.text k l → blocks_from x.text entry first k (l ∷ ls) ≡ (codes "b" ++ decimal k, meaning.Block k) ∷ blocks_from x.text entry false (k + 1) ls
  unfolding block_name first_behind
  label_block entry first k l ls q =
      ap (λ (m : Line). blocks_from x.text entry first k (m ∷ ls)) q.line ∙ ap (λ (n : List ℕ). (n, meaning.Block k) ∷ blocks_from x.text entry false (k + 1) ls) q.is

  insts_blocks : (entry : List ℕ) (k n : ℕ) (is : List Inst) (K : List Line → Type 0) (after : List (List ℕ × Meaning)) (ls : List Line) → ((ls : List Line) → K ls → blocks_from x.text entry false k ls ≡ after) → AreInsts x n is K ls → blocks_from x.text entry false k ls ≡ after
  insts_blocks entry k n [] K after ls f h = f ls h
  insts_blocks entry k n (i ∷ is) K after [] f h = absurd h
  insts_blocks entry k n (i ∷ is) K after (l ∷ ls) f h = inst_block entry k n i l ls h.0 ∙ insts_blocks entry k (n + 1) is K after ls f h.1

  pub blocks_blocks : (entry : List ℕ) (first : Bool) (k n : ℕ) (bs : List Block) (ls : List Line) → AreBlocks x k n bs Nil ls → blocks_from x.text entry first k ls ≡ can_blocks k bs
  blocks_blocks entry first k n [] ls h = ap (blocks_from x.text entry first k) h
  blocks_blocks entry first k n (b ∷ bs) [] h = absurd h
  blocks_blocks entry first k n (b ∷ bs) (l ∷ ls) h =
      label_block entry first k l ls h.0
      ∙ ap (λ (es : List (List ℕ × Meaning)). (codes "b" ++ decimal k, meaning.Block k) ∷ es)
      (insts_blocks entry (k + 1) n b.insts (AreBlocks x (k + 1) (n + length b.insts) bs Nil) (can_blocks (k + 1) bs) ls (λ ls g. blocks_blocks entry false (k + 1) (n + length b.insts) bs ls g) h.1)

  -- ---- the blocks of a function

  pub inst_stated : (n : ℕ) (i : Inst) (l : Line) → IsInst x n i l → stated x l ≡ Some (Some i)
  unfolding stated
  inst_stated n i l q = ap (stated x) q.line ∙ ap (option_map (λ (j : Inst). Some j)) q.is

  inst_ends : (n : ℕ) (i : Inst) (l : Line) → IsInst x n i l → ends_block l ≡ is_terminator i
  unfolding ends_block
  inst_ends n i l q = ap ends_block q.line ∙ sym ((kind_is x q.statement).holds i q.is).1

  label_in : (k : ℕ) (l : Line) (ls : List Line) → IsLabel x.text k l → blocks_in x (l ∷ ls) ≡ blocks_in x ls
  unfolding stated ends_block
  label_in k l ls q = ap (λ (m : Line). blocks_in x (m ∷ ls)) q.line ∙ onto_nothing (blocks_in x ls)

  ordered_next : (f phis : Bool) (is : List Inst) → cond f (phis && is_ordered phis is) (is_ordered false is) ≡ true → (p : Bool) × (is_ordered p is ≡ true)
  ordered_next true phis is e = (phis, (and_parts phis (is_ordered phis is) e).1)
  ordered_next false phis is e = (false, e)

  insts_in_block : (phis : Bool) (n : ℕ) (is : List Inst) (K : List Line → Type 0) (after : List Block) (ls : List Line) → is_ordered phis is ≡ true → ((ls : List Line) → K ls → blocks_in x ls ≡ after) → AreInsts x n is K ls → blocks_in x ls ≡ record { insts = is } ∷ after
  insts_in_block phis n [] K after ls o f h = absurd (true≢false (sym o))
  insts_in_block phis n (i ∷ is) K after [] o f h = absurd h
  insts_in_block phis n (i ∷ is) K after (l ∷ ls) o f h =
      ap (λ (s : Option (Option Inst)). onto (insts_in s) (cond (ends_block l) (empty_block ∷ blocks_in x ls) (blocks_in x ls))) (inst_stated n i l h.0)
      ∙ ap (λ (e : Bool). onto (i ∷ []) (cond e (empty_block ∷ blocks_in x ls) (blocks_in x ls))) (inst_ends n i l h.0)
      ∙ by (is_terminator i) is o h.1 (λ p q. insts_in_block p (n + 1) is K after ls q f h.1)
    where
      last : (is : List Inst) → not (is_nonempty is) ≡ true → AreInsts x (n + 1) is K ls → onto (i ∷ []) (empty_block ∷ blocks_in x ls) ≡ record { insts = i ∷ is } ∷ after
      last [] e k = ap (λ (bs : List Block). onto (i ∷ []) (empty_block ∷ bs)) (f ls k)
      last (j ∷ js) e k = absurd (true≢false (sym e))

      by : (t : Bool) (is : List Inst) → cond t (not (is_nonempty is)) (cond (is_phi i) (phis && is_ordered phis is) (is_ordered false is)) ≡ true → AreInsts x (n + 1) is K ls
          → ((p : Bool) → is_ordered p is ≡ true → blocks_in x ls ≡ record { insts = is } ∷ after) → onto (i ∷ []) (cond t (empty_block ∷ blocks_in x ls) (blocks_in x ls)) ≡ record { insts = i ∷ is } ∷ after
      by true is e k more = last is e k
      by false is e k more = let p = ordered_next (is_phi i) phis is e in ap (onto (i ∷ [])) (more p.0 p.1)

  pub blocks_again : (k n : ℕ) (bs : List Block) (ls : List Line) → list_all (λ b. is_order b.insts) bs ≡ true → AreBlocks x k n bs Nil ls → blocks_in x ls ≡ bs
  blocks_again k n [] ls o h = ap (blocks_in x) h
  blocks_again k n (b ∷ bs) [] o h = absurd h
  blocks_again k n (b ∷ bs) (l ∷ ls) o h =
      let a = and_parts (is_order b.insts) (list_all (λ b. is_order b.insts) bs) o in
      label_in k l ls h.0 ∙ insts_in_block true n b.insts (AreBlocks x (k + 1) (n + length b.insts) bs Nil) bs ls (order_ordered b.insts a.0) (λ ls g. blocks_again (k + 1) (n + length b.insts) bs ls a.1 g) h.1
