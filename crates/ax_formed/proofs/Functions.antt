-- The lines of blocks, functions and modules: their weight, and that each label that they name stands among those of its function.
use Rattle.std.proofs.Common.{◌≡◌, ℕ, zero, suc, ◌+◌, ◌*◌, ◌<◌, ◌≤◌, inl, inr, true, List, [], ◌∷◌, ◌++◌, Some, length, refl, sym, subst, arith, slice_get}
use Rattle.std.specs.List.{list_all}
use Rattle.std.proofs.lemmas.Bool.{and_parts, false≢true}
use Rattle.ax_module.specs.declared.inst.Inst.{Inst}
use Rattle.ax_module.specs.declared.module.Block.{Block}
use Rattle.ax_module.specs.declared.module.Function.{Function}
use Rattle.ax_module.specs.WellFormed.{NameCounts, is_block, is_inst, is_order}
use Rattle.ax_source_run.specs.SourceInstructions.{first_number, insts_of_block, phi_count}
use Rattle.ax_source_run.specs.SourceState.{SourceProgram}
use Rattle.ax_mid.specs.declared.code.Line.{Line}
use Rattle.ax_mid.specs.declared.registers.Virtual.{Virtual}
use Rattle.ax_mid.specs.WellFormed.{weight, weight_of}
use Rattle.ax_selected.specs.Laid.{total}
use Rattle.ax_selected.specs.Registers.{block_label}
use Rattle.ax_selected.specs.Selected.{blocks_lines, function_lines, functions_lines, insts_lines, label_line, piece}
use Rattle.ax_formed.proofs.Endings.{blocks_end}
use Rattle.ax_formed.proofs.Lines.{AllLines, Begins, Ends, IsIn, Stands, Targets, all_both, all_weaker, begins_both, stands_left, stands_right, targets_more, weight_both}
use Rattle.ax_formed.proofs.Pieces.{IsLed, IsPiece, Own, piece_is}

-- labels of some code are labels of more
led_more : (f : ℕ) (P Q : ℕ → Type 0) (lines : List (Line Virtual)) → ((n : ℕ) → P n → Q n) → AllLines (IsLed f P) lines → AllLines (IsLed f Q) lines
led_more f P Q lines more h = all_weaker (IsLed f P) (IsLed f Q) lines (λ line g. (g.0, targets_more P Q more line.inst g.1)) h

pieces_both : (f : ℕ) (Ok : ℕ → Type 0) (n m : ℕ) (xs ys : List (Line Virtual)) → IsPiece f Ok n xs → IsPiece f Ok m ys → IsPiece f Ok (n + m) (xs ++ ys)
pieces_both f Ok n m xs ys h g =
    let a = weight_both xs ys in
    let b = h.light in
    let c = g.light in
    record {
      light = omega (arith, a, b, c);
      leads = all_both (IsLed f (Own f Ok (xs ++ ys))) xs ys (led_more f (Own f Ok xs) (Own f Ok (xs ++ ys)) xs left h.leads) (led_more f (Own f Ok ys) (Own f Ok (xs ++ ys)) ys right g.leads);
    }
  where
    left : (q : ℕ) → Own f Ok xs q → Own f Ok (xs ++ ys) q
    left q (inl e) = inl e
    left q (inr e) = inr (stands_left xs ys f q e)

    right : (q : ℕ) → Own f Ok ys q → Own f Ok (xs ++ ys) q
    right q (inl e) = inl e
    right q (inr e) = inr (stands_right xs ys f q e)

pieces_most : (f : ℕ) (Ok : ℕ → Type 0) (n m : ℕ) (lines : List (Line Virtual)) → n ≤ m → IsPiece f Ok n lines → IsPiece f Ok m lines
pieces_most f Ok n m lines le h = let a = h.light in record { light = omega (arith, a, le); leads = h.leads }

-- where the function's labels stand in the lines themselves
closed : (f : ℕ) (lines : List (Line Virtual)) → AllLines (IsLed f (Own f (Stands lines f) lines)) lines → AllLines (IsLed f (Stands lines f)) lines
closed f lines h = led_more f (Own f (Stands lines f) lines) (Stands lines f) lines one h
  where
    one : (q : ℕ) → Own f (Stands lines f) lines q → Stands lines f q
    one q (inl e) = e
    one q (inr e) = e

module _ (program : SourceProgram) where
  -- ---- a function
  module _ (f : ℕ) (scope : NameCounts) (all : List Block) (phis : (d : ℕ) → phi_count (insts_of_block all d) ≤ 64) where
    abbrev AreFormed : List Block → Type 0
    AreFormed blocks = (d : ℕ) (block : Block) → slice_get blocks d ≡ Some block → is_block scope block ≡ true

    first_formed : (block : Block) (blocks : List Block) → AreFormed (block ∷ blocks) → (is_order block.insts ≡ true) × (list_all (is_inst scope) block.insts ≡ true)
    first_formed block blocks h = and_parts (is_order block.insts) (list_all (is_inst scope) block.insts) (h 0 block refl)

    rest_formed : (block : Block) (blocks : List Block) → AreFormed (block ∷ blocks) → AreFormed blocks
    rest_formed block blocks h d other e = h (suc d) other e

    plenty : (insts : List Inst) → is_order insts ≡ true → 1 ≤ length insts
    plenty [] h = absurd (false≢true h)
    plenty (i ∷ insts) h = omega arith

    module _ (Ok : ℕ → Type 0) (ok : (d : ℕ) → d < scope.blocks → Ok (block_label f (first_number all d))) where
      insts_are : (b k : ℕ) (insts : List Inst) → list_all (is_inst scope) insts ≡ true → IsPiece f Ok (520 * length insts) (insts_lines program f all b k insts)
      insts_are b k [] h = record { light = omega arith; leads = tt }
      insts_are b k (i ∷ insts) h =
          let p = and_parts (is_inst scope i) (list_all (is_inst scope) insts) h in
          pieces_most f Ok (520 + 520 * length insts) (520 * suc (length insts)) (insts_lines program f all b k (i ∷ insts)) (omega arith)
          (pieces_both f Ok 520 (520 * length insts) (piece f k program all b i) (insts_lines program f all b (k + 1) insts) (piece_is f k Ok all b phis program scope ok i p.0) (insts_are b (k + 1) insts p.1))

      label_weight : (k : ℕ) (lines : List (Line Virtual)) → weight_of (label_line program f k ∷ lines) ≡ 1 + weight_of lines
      unfolding weight
      label_weight k lines = refl

      block_are : (b k : ℕ) (insts : List Inst) → 1 ≤ length insts → list_all (is_inst scope) insts ≡ true → IsPiece f Ok (521 * length insts) (label_line program f k ∷ insts_lines program f all b k insts)
      block_are b k insts some h =
          let lines = insts_lines program f all b k insts in
          let is = insts_are b k insts h in
          let a = is.light in
          let c = label_weight k lines in
          record { light = omega (arith, a, c, some); leads = ((refl, tt), led_more f (Own f Ok lines) (Own f Ok (label_line program f k ∷ lines)) lines more is.leads) }
        where
          more : (q : ℕ) → Own f Ok (insts_lines program f all b k insts) q → Own f Ok (label_line program f k ∷ insts_lines program f all b k insts) q
          more q (inl e) = inl e
          more q (inr e) = inr (inr e)

      blocks_are : (b k : ℕ) (blocks : List Block) → AreFormed blocks → IsPiece f Ok (521 * total blocks) (blocks_lines program f all b k blocks)
      blocks_are b k [] h = record { light = omega arith; leads = tt }
      blocks_are b k (block ∷ blocks) h =
          let p = first_formed block blocks h in
          let n = length block.insts in
          let rest = blocks_lines program f all (b + 1) (k + n) blocks in
          pieces_most f Ok (521 * n + 521 * total blocks) (521 * (n + total blocks)) (blocks_lines program f all b k (block ∷ blocks)) (omega arith)
          (pieces_both f Ok (521 * n) (521 * total blocks) (label_line program f k ∷ insts_lines program f all b k block.insts) rest (block_are b k block.insts (plenty block.insts p.0) p.1) (blocks_are (b + 1) (k + n) blocks (rest_formed block blocks h)))

    -- each block's label stands
    pub labels_stand : (b k : ℕ) (blocks : List Block) (d : ℕ) → d < length blocks → Stands (blocks_lines program f all b k blocks) f (block_label f (k + first_number blocks d))
    labels_stand b k [] d lt = absurd (omega (arith, lt))
    labels_stand b k (block ∷ blocks) zero lt =
        let here : Stands (blocks_lines program f all b k (block ∷ blocks)) f (block_label f k) = inl (refl, refl) in
        let same : k ≡ k + 0 = omega arith in
        subst (λ (q : ℕ). Stands (blocks_lines program f all b k (block ∷ blocks)) f (block_label f q)) same here
    labels_stand b k (block ∷ blocks) (suc d) lt =
        let n = length block.insts in
        let same : k + n + first_number blocks d ≡ k + (n + first_number blocks d) = omega arith in
        let rest = blocks_lines program f all (b + 1) (k + n) blocks in
        inr (stands_right (insts_lines program f all b k block.insts) rest f (block_label f (k + (n + first_number blocks d)))
        (subst (λ (q : ℕ). Stands rest f (block_label f q)) same (labels_stand (b + 1) (k + n) blocks d (omega (arith, lt)))))

  -- what is known of a function
  pub record IsKnown (g : Function) : Type 0 where
    pub scope : NameCounts
    pub formed : (b : ℕ) (block : Block) → slice_get g.blocks b ≡ Some block → is_block scope block ≡ true
    pub count : scope.blocks ≡ length g.blocks
    pub some : 0 < length g.blocks
    pub phis : (d : ℕ) → phi_count (insts_of_block g.blocks d) ≤ 64
    pub few : total g.blocks ≤ 2048

  -- of function f, each line is its own, and names labels that stand among them
  pub record IsDone (f : ℕ) (g : Function) : Type 0 where
    pub light : weight_of (function_lines program f g) ≤ 1067008
    pub leads : AllLines (IsLed f (Stands (function_lines program f g) f)) (function_lines program f g)
    pub ends : Ends (function_lines program f g)

  pub function_done : (f : ℕ) (g : Function) → IsKnown g → IsDone f g
  function_done f g known =
      let lines = function_lines program f g in
      let count = known.count in
      let few = known.few in
      let is = blocks_are f known.scope g.blocks known.phis (Stands lines f) (λ d lt.
      let same : 0 + first_number g.blocks d ≡ first_number g.blocks d = omega arith in
      subst (λ (n : ℕ). Stands lines f (block_label f n)) same (labels_stand f known.scope g.blocks known.phis 0 0 g.blocks d (omega (arith, lt, count)))) 0 0 g.blocks known.formed in
      let a = is.light in
      record { light = omega (arith, a, few); leads = closed f lines is.leads; ends = blocks_end program f g.blocks known.scope 0 0 g.blocks known.formed known.some }

  -- ---- the whole code
  -- each label that a line names stands among these, in the line's function
  abbrev pub IsNamed : List (Line Virtual) → Line Virtual → Type 0
  IsNamed lines line = Targets (Stands lines line.site.function) line.inst

  led_named : (f : ℕ) (xs ys : List (Line Virtual)) (line : Line Virtual) → IsLed f (Stands xs f) line → IsNamed (xs ++ ys) line
  led_named f xs ys line h =
      let there = targets_more (Stands xs f) (Stands (xs ++ ys) f) (λ n e. stands_left xs ys f n e) line.inst h.1 in
      subst (λ (g : ℕ). Targets (Stands (xs ++ ys) g) line.inst) (sym h.0) there

  named_more : (xs ys : List (Line Virtual)) (line : Line Virtual) → IsNamed ys line → IsNamed (xs ++ ys) line
  named_more xs ys line h = targets_more (Stands ys line.site.function) (Stands (xs ++ ys) line.site.function) (λ n e. stands_right xs ys line.site.function n e) line.inst h

  pub record AreDone (f : ℕ) (functions : List Function) : Type 0 where
    pub light : weight_of (functions_lines program f functions) ≤ 1067008 * length functions
    pub named : AllLines (IsNamed (functions_lines program f functions)) (functions_lines program f functions)
    pub begins : Begins f (functions_lines program f functions)

  pub functions_done : (f : ℕ) (functions : List Function) → ((n : ℕ) (g : Function) → slice_get functions n ≡ Some g → IsKnown g) → AreDone f functions
  functions_done f [] known = record { light = omega arith; named = tt; begins = tt }
  functions_done f (g ∷ functions) known =
      let one = function_done f g (known 0 g refl) in
      let more = functions_done (f + 1) functions (λ n h e. known (suc n) h e) in
      let xs = function_lines program f g in
      let ys = functions_lines program (f + 1) functions in
      let a = one.light in
      let b = more.light in
      let c = weight_both xs ys in
      record {
        light = omega (arith, a, b, c);
        named = all_both (IsNamed (xs ++ ys)) xs ys (all_weaker (IsLed f (Stands xs f)) (IsNamed (xs ++ ys)) xs (λ line h. led_named f xs ys line h) one.leads) (all_weaker (IsNamed ys) (IsNamed (xs ++ ys)) ys (λ line h. named_more xs ys line h) more.named);
        begins = begins_both f xs ys (all_weaker (IsLed f (Stands xs f)) (IsIn f) xs (λ line h. h.0) one.leads) one.ends more.begins;
      }
