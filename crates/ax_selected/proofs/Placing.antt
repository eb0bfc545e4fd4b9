-- Where the code of instructions stands in the code of a module.
use Rattle.std.proofs.Common.{◌≡◌, ℕ, zero, suc, ◌+◌, List, [], ◌∷◌, ◌++◌, take, Option, Some, None, length, refl, ap, ◌∙◌, subst, arith, slice_get}
use Rattle.std.proofs.lemmas.Option.{none-some, same_Some}
use Rattle.ax_module.specs.declared.inst.Inst.{Inst}
use Rattle.ax_module.specs.declared.inst.Inst.TheVariants as inst
use Rattle.ax_module.specs.declared.module.Block.{Block}
use Rattle.ax_module.specs.declared.module.Function.{Function}
use Rattle.ax_source_run.specs.SourceInstructions.{first_number, insts_of_block, is_phi, phi_count}
use Rattle.ax_source_run.specs.SourcePointers.{blocks_in, blocks_of}
use Rattle.ax_source_run.specs.SourceState.{SourceProgram}
use Rattle.ax_mid.specs.declared.code.Line.{Line}
use Rattle.ax_mid.specs.declared.instruction.MidInst.TheVariants as mid
use Rattle.ax_mid.specs.declared.registers.Virtual.{Virtual}
use Rattle.ax_mid.specs.Machine.{behind_label}
use Rattle.ax_selected.specs.Laid.{HasAt, IsLaid, piece_of}
use Rattle.ax_selected.specs.Registers.{block_label, key}
use Rattle.ax_selected.specs.Selected.{begins, blocks_lines, function_begins, function_lines, functions_lines, insts_lines, label_line, piece, selected}
use Rattle.ax_selected.proofs.Straight.{has_back, has_front}

plus_one : (n : ℕ) → n + 1 ≡ suc n
plus_one n = omega arith

append_length : {A : Type 0} (xs ys : List A) → length (xs ++ ys) ≡ length xs + length ys
append_length [] ys = omega arith
append_length (x ∷ xs) ys = let e = append_length xs ys in omega (arith, e)

-- a list has its lines
slice_behind : (xs ys : List (Line Virtual)) (y : Line Virtual) → slice_get (xs ++ y ∷ ys) (length xs) ≡ Some y
slice_behind [] ys y = refl
slice_behind (x ∷ xs) ys y = slice_behind xs ys y

append_one : {A : Type 0} (xs ys : List A) (y : A) → (xs ++ y ∷ []) ++ ys ≡ xs ++ y ∷ ys
append_one [] ys y = refl
append_one (x ∷ xs) ys y = ap (λ zs. x ∷ zs) (append_one xs ys y)

has_rest : (pre xs : List (Line Virtual)) → HasAt (pre ++ xs) (length pre) xs
has_rest pre [] = tt
has_rest pre (x ∷ xs) =
    let more = has_rest (pre ++ x ∷ []) xs in
    (slice_behind pre xs x, subst (λ (p : ℕ). HasAt (pre ++ x ∷ xs) p xs) (append_length pre (x ∷ [])) (subst (λ (code : List (Line Virtual)). HasAt code (length (pre ++ x ∷ [])) xs) (append_one pre xs x) more))

module _ (program : SourceProgram) (code : List (Line Virtual)) where
  -- ---- an instruction in its block
  module _ (f : ℕ) (blocks : List Block) (b : ℕ) where
    insts_at : (insts : List Inst) (n k place : ℕ) (i : Inst) → slice_get insts n ≡ Some i → HasAt code place (insts_lines program f blocks b k insts) → HasAt code (place + length (insts_lines program f blocks b k (take n insts))) (piece f (k + n) program blocks b i)
    insts_at [] n k place i e h = absurd (none-some i e)
    insts_at (x ∷ insts) zero k place i e h =
        let here = has_front code (piece f k program blocks b x) (insts_lines program f blocks b (k + 1) insts) place h in
        subst (λ (p : ℕ). HasAt code p (piece f (k + 0) program blocks b i)) (omega arith) (subst (λ (n : ℕ). HasAt code place (piece f n program blocks b i)) (omega arith) (subst (λ (y : Inst). HasAt code place (piece f k program blocks b y)) (same_Some x i e) here))
    insts_at (x ∷ insts) (suc n) k place i e h =
        let own = piece f k program blocks b x in
        let more = insts_at insts n (k + 1) (place + length own) i e (has_back code own (insts_lines program f blocks b (k + 1) insts) place h) in
        let long = append_length own (insts_lines program f blocks b (k + 1) (take n insts)) in
        subst (λ (p : ℕ). HasAt code p (piece f (k + suc n) program blocks b i)) (omega (arith, long)) (subst (λ (q : ℕ). HasAt code (place + length own + length (insts_lines program f blocks b (k + 1) (take n insts))) (piece f q program blocks b i)) (omega arith) more)

    next_at : (insts : List Inst) (n k : ℕ) (i : Inst) → slice_get insts n ≡ Some i → length (insts_lines program f blocks b k (take (suc n) insts)) ≡ length (insts_lines program f blocks b k (take n insts)) + length (piece f (k + n) program blocks b i)
    next_at [] n k i e = absurd (none-some i e)
    next_at (x ∷ insts) zero k i e =
        let long = append_length (piece f k program blocks b x) [] in
        let same : length (piece f k program blocks b x) ≡ length (piece f (k + 0) program blocks b i) = ap (λ (y : Inst). length (piece f k program blocks b y)) (same_Some x i e) ∙ ap (λ (q : ℕ). length (piece f q program blocks b i)) (omega arith) in
        omega (arith, long, same)
    next_at (x ∷ insts) (suc n) k i e =
        let more = next_at insts n (k + 1) i e in
        let own = piece f k program blocks b x in
        let one = append_length own (insts_lines program f blocks b (k + 1) (take (suc n) insts)) in
        let two = append_length own (insts_lines program f blocks b (k + 1) (take n insts)) in
        let same : length (piece f (k + 1 + n) program blocks b i) ≡ length (piece f (k + suc n) program blocks b i) = ap (λ (q : ℕ). length (piece f q program blocks b i)) (omega arith) in
        omega (arith, more, one, two, same)

    -- phis have no lines
    phis_at : (insts : List Inst) (k : ℕ) → length (insts_lines program f blocks b k (take (phi_count insts) insts)) ≡ 0
    unfolding piece is_phi
    phis_at [] k = refl
    phis_at (inst.Phi t entries ∷ insts) k =
        let counted : phi_count insts + 1 ≡ suc (phi_count insts) = omega arith in
        ap (λ (n : ℕ). length (insts_lines program f blocks b k (take n (inst.Phi t entries ∷ insts)))) counted ∙ phis_at insts (k + 1)
    phis_at (x ∷ insts) k = refl

  -- ---- a block in its function
  module _ (f : ℕ) (all : List Block) where
    block_at : (blocks : List Block) (b d k place n : ℕ) (i : Inst) → slice_get (insts_of_block blocks b) n ≡ Some i → HasAt code place (blocks_lines program f all d k blocks)
        → HasAt code (place + length (blocks_lines program f all d k (take b blocks))) (label_line program f (k + first_number blocks b) ∷ insts_lines program f all (d + b) (k + first_number blocks b) (insts_of_block blocks b))
    block_at [] b d k place n i e h = absurd (none-some i e)
    block_at (x ∷ blocks) zero d k place n i e h =
        let own = label_line program f k ∷ insts_lines program f all d k x.insts in
        let here = has_front code own (blocks_lines program f all (d + 1) (k + length x.insts) blocks) place h in
        subst (λ (p : ℕ). HasAt code p (label_line program f (k + 0) ∷ insts_lines program f all (d + 0) (k + 0) x.insts)) (omega arith)
        (subst (λ (q : ℕ). HasAt code place (label_line program f q ∷ insts_lines program f all (d + 0) q x.insts)) (omega arith) (subst (λ (q : ℕ). HasAt code place (label_line program f k ∷ insts_lines program f all q k x.insts)) (omega arith) here))
    block_at (x ∷ blocks) (suc b) d k place n i e h =
        let own = label_line program f k ∷ insts_lines program f all d k x.insts in
        let start = k + length x.insts in
        let more = block_at blocks b (d + 1) start (place + length own) n i e (has_back code own (blocks_lines program f all (d + 1) start blocks) place h) in
        let long = append_length own (blocks_lines program f all (d + 1) start (take b blocks)) in
        subst (λ (p : ℕ). HasAt code p (label_line program f (k + (length x.insts + first_number blocks b)) ∷ insts_lines program f all (d + suc b) (k + (length x.insts + first_number blocks b)) (insts_of_block blocks b))) (omega (arith, long))
        (subst (λ (q : ℕ). HasAt code (place + length own + length (blocks_lines program f all (d + 1) start (take b blocks))) (label_line program f q ∷ insts_lines program f all (d + suc b) q (insts_of_block blocks b))) (omega arith)
        (subst (λ (q : ℕ). HasAt code (place + length own + length (blocks_lines program f all (d + 1) start (take b blocks))) (label_line program f (start + first_number blocks b) ∷ insts_lines program f all q (start + first_number blocks b) (insts_of_block blocks b))) (omega arith) more))

  -- ---- a function in the module
  function_at : (functions : List Function) (f g place : ℕ) (function : Function) → slice_get functions f ≡ Some function → HasAt code place (functions_lines program g functions) → HasAt code (place + length (functions_lines program g (take f functions))) (function_lines program (g + f) function)
  function_at [] f g place function e h = absurd (none-some function e)
  function_at (x ∷ functions) zero g place function e h =
      let here = has_front code (function_lines program g x) (functions_lines program (g + 1) functions) place h in
      subst (λ (p : ℕ). HasAt code p (function_lines program (g + 0) function)) (omega arith) (subst (λ (q : ℕ). HasAt code place (function_lines program q function)) (omega arith) (subst (λ (y : Function). HasAt code place (function_lines program g y)) (same_Some x function e) here))
  function_at (x ∷ functions) (suc f) g place function e h =
      let own = function_lines program g x in
      let more = function_at functions f (g + 1) (place + length own) function e (has_back code own (functions_lines program (g + 1) functions) place h) in
      let long = append_length own (functions_lines program (g + 1) (take f functions)) in
      subst (λ (p : ℕ). HasAt code p (function_lines program (g + suc f) function)) (omega (arith, long))
      (subst (λ (q : ℕ). HasAt code (place + length own + length (functions_lines program (g + 1) (take f functions))) (function_lines program q function)) (omega arith) more)

module _ (program : SourceProgram) where
  abbrev lines : List (Line Virtual)
  lines = (selected program).lines

  -- each label of the code stands once: well formedness, point 2
  unfoldable pub LabelsOnce : Type 0
  LabelsOnce = (place label : ℕ) (line : Line Virtual) → slice_get lines place ≡ Some line → line.inst ≡ mid.Label label → behind_label key lines label 0 ≡ place + 1

  blocks_known : (f : ℕ) (o : Option Function) → slice_get program.source.functions f ≡ o → (b n : ℕ) (i : Inst) → slice_get (insts_of_block (blocks_in o) b) n ≡ Some i
      → HasAt lines (function_begins program f + length (blocks_lines program f (blocks_in o) 0 0 (take b (blocks_in o)))) (label_line program f (first_number (blocks_in o) b) ∷ insts_lines program f (blocks_in o) b (first_number (blocks_in o) b) (insts_of_block (blocks_in o) b))
  blocks_known f None is b n i e = absurd (none-some i e)
  blocks_known f (Some function) is b n i e =
      let whole = has_rest [] lines in
      let here = function_at program lines program.source.functions f 0 0 function is whole in
      let at_f : HasAt lines (function_begins program f) (function_lines program f function) =
      subst (λ (p : ℕ). HasAt lines p (function_lines program f function)) (omega arith) (subst (λ (q : ℕ). HasAt lines (0 + length (functions_lines program 0 (take f program.source.functions))) (function_lines program q function)) (omega arith) here) in
      let block = block_at program lines f function.blocks function.blocks b 0 0 (function_begins program f) n i e at_f in
      subst (λ (q : ℕ). HasAt lines (function_begins program f + length (blocks_lines program f function.blocks 0 0 (take b function.blocks))) (label_line program f q ∷ insts_lines program f function.blocks b q (insts_of_block function.blocks b))) (omega arith)
      (subst (λ (q : ℕ). HasAt lines (function_begins program f + length (blocks_lines program f function.blocks 0 0 (take b function.blocks))) (label_line program f (0 + first_number function.blocks b) ∷ insts_lines program f function.blocks q (0 + first_number function.blocks b) (insts_of_block function.blocks b))) (omega arith) block)

  block_here : (f b n : ℕ) (i : Inst) → slice_get (insts_of_block (blocks_of program.source f) b) n ≡ Some i
      → HasAt lines (function_begins program f + length (blocks_lines program f (blocks_of program.source f) 0 0 (take b (blocks_of program.source f)))) (label_line program f (first_number (blocks_of program.source f) b) ∷ insts_lines program f (blocks_of program.source f) b (first_number (blocks_of program.source f) b) (insts_of_block (blocks_of program.source f) b))
  block_here f b n i e = blocks_known f (slice_get program.source.functions f) refl b n i e

  pub is_laid : LabelsOnce → IsLaid program lines (begins program)
  unfolding LabelsOnce
  is_laid once = record {
    has = λ s i e.
        let blocks = blocks_of program.source s.function in
        let block = block_here s.function s.block s.index i e in
        let k = first_number blocks s.block in
        let place = function_begins program s.function + length (blocks_lines program s.function blocks 0 0 (take s.block blocks)) in
        subst (λ (p : ℕ). HasAt lines p (piece_of program s i)) (omega arith) (insts_at program lines s.function blocks s.block (insts_of_block blocks s.block) s.index k (place + 1) i e block.1);
    next = λ s i e.
        let blocks = blocks_of program.source s.function in
        let k = first_number blocks s.block in
        let more = next_at program lines s.function blocks s.block (insts_of_block blocks s.block) s.index k i e in
        let one : length (insts_lines program s.function blocks s.block k (take (s.index + 1) (insts_of_block blocks s.block))) ≡ length (insts_lines program s.function blocks s.block k (take (suc s.index) (insts_of_block blocks s.block))) = ap (λ (n : ℕ). length (insts_lines program s.function blocks s.block k (take n (insts_of_block blocks s.block)))) (plus_one s.index) in
        omega (arith, more, one);
    labels = once;
    blocks = λ f b n i e.
        let blocks = blocks_of program.source f in
        let k = first_number blocks b in
        let block = block_here f b n i e in
        let place = function_begins program f + length (blocks_lines program f blocks 0 0 (take b blocks)) in
        let none = phis_at program lines f blocks b (insts_of_block blocks b) k in
        let label = once place (block_label f k) (label_line program f k) block.0 refl in
        omega (arith, none, label);
  }
