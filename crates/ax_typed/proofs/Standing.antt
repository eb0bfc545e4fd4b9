-- What is known of the instruction at which a processor of an accepted module stands.
use Rattle.std.proofs.Common.{◌≡◌, ℕ, zero, suc, ◌+◌, ◌<◌, ◌≤◌, ◌^◌, Bool, true, false, ◌&&◌, ◌||◌, List, [], ◌∷◌, map, Option, Some, None, length, refl, sym, ap, ◌∙◌, arith, slice_get, slice_index_or}
use Rattle.std.specs.Prelude.{nat_eq}
use Rattle.std.specs.List.{list_all, list_any}
use Rattle.std.proofs.lemmas.Bool.{and_parts, eqb-true, or_parts, false≢true}
use Rattle.std.proofs.lemmas.Bool.Decides.{nat_tests}
use Rattle.std.proofs.lemmas.Option.{none-some, same_Some, slice_get_within}
use Rattle.ax_module.specs.declared.inst.Inst.{Inst}
use Rattle.ax_module.specs.declared.inst.Inst.TheVariants as inst
use Rattle.ax_module.specs.declared.module.Block.{Block}
use Rattle.ax_module.specs.declared.module.Function.{Function}
use Rattle.ax_module.specs.declared.module.Module.{Module}
use Rattle.ax_module.specs.Kinds.{is_terminator}
use Rattle.ax_module.specs.Ranges.{is_function_in_range, is_global_in_range, is_inst_in_range, is_stated_word, is_word}
use Rattle.ax_module.specs.WellFormed.{all_differ, is_block, is_function, is_global, is_inst, is_order, names_of, scope_of as formed_scope}
use Rattle.ax_words.specs.declared.source.SourceStatus.{SourceStatus}
use Rattle.ax_words.specs.declared.source.SourceStatus.TheVariants.{Running, Ended, Trapped}
use Rattle.ax_source_run.specs.SourceEvent.{inst_at, inst_if, next_inst, number_of_next}
use Rattle.ax_source_run.specs.SourceInstructions.{first_number, insts_of_block}
use Rattle.ax_source_run.specs.SourcePointers.{blocks_in, blocks_of, elements_of_alloca}
use Rattle.ax_source_run.specs.SourceState.{SourceProcessor, SourceProgram}
use Rattle.ax_rules.specs.declared.facts.Outcome.TheVariants as outcome
use Rattle.ax_access_rules.specs.Allocas.{is_address, is_late_alloca, misplaced}
use Rattle.ax_rules.specs.Facts.{outcome_at, outcome_of, scope_of}
use Rattle.ax_rules.specs.Parts.{operands_of}
use Rattle.ax_check.specs.Accepted.{IsAccepted}
use Rattle.ax_check.specs.Laws.{AtInstructions, IsSound}
use Rattle.ax_typed.specs.Typed.{IsAllocaOutcome, outcome_if, outcome_in}
use Rattle.ax_typed.proofs.Places.{all_at, all_insts, block_at, number_at, order_ends, place_of, spot_at}

-- ---- outcomes by the checker's list and by the instructions
mapped : (xs : List Inst) (k : ℕ) → slice_index_or (map outcome_of xs) k outcome.Nothing ≡ outcome_if (slice_get xs k)
mapped [] k = refl
mapped (x ∷ xs) zero = refl
mapped (x ∷ xs) (suc k) = mapped xs k

first_is : (blocks : List Block) → first_number blocks 0 ≡ 0
first_is [] = refl
first_is (b ∷ blocks) = refl

-- an alloca is no terminator
alloca_goes_on : (x : Inst) → IsAllocaOutcome (outcome_of x) → is_terminator x ≡ true → ⊥
unfolding outcome_of is_terminator
alloca_goes_on (inst.Alloca t count align) a h = false≢true h
alloca_goes_on (inst.Call (Some t) name args) a h = a
alloca_goes_on (inst.Call None name args) a h = a
alloca_goes_on _ a h = a

late_alloca : (b : ℕ) (x : Inst) → IsAllocaOutcome (outcome_of x) → is_late_alloca b x ≡ false → b ≡ 0
unfolding outcome_of is_late_alloca
late_alloca b (inst.Alloca t count align) a h = grind (arith, nat_tests)
late_alloca b (inst.Call (Some t) name args) a h = absurd a
late_alloca b (inst.Call None name args) a h = absurd a
late_alloca b _ a h = absurd a

word_count : (o : Option Inst) → ((x : Inst) → o ≡ Some x → is_inst_in_range x ≡ true) → (elements_of_alloca o).count < 2 ^ 64
unfolding elements_of_alloca is_inst_in_range
word_count (Some (inst.Alloca t count align)) h =
    let parts = and_parts (is_word count) (is_stated_word align) (h (inst.Alloca t count align) refl) in
    let word = parts.0 in
    grind (arith, nat_tests)
word_count _ h = omega arith

module _ (program : SourceProgram) (accepted : IsAccepted program) (law : AtInstructions IsSound) where
  abbrev m : Module
  m = program.source

  -- ---- the module's functions
  module _ (n : ℕ) (f : Function) (at : slice_get m.functions n ≡ Some f) where
    pub outcome_is : (k : ℕ) → outcome_at (scope_of m f) k ≡ outcome_in m n k
    outcome_is k = mapped (all_insts f.blocks) k ∙ ap (λ (o : Option Function). outcome_if (slice_get (all_insts (blocks_in o)) k)) (sym at)

    formed : is_function (length m.globals) f ≡ true
    formed =
        let parts = and_parts (all_differ (names_of m) && list_all is_global m.globals) (list_all (is_function (length m.globals)) m.functions) accepted.formed.formed in
        all_at (is_function (length m.globals)) m.functions n f parts.1 at

    in_range : is_function_in_range f ≡ true
    in_range =
        let parts = and_parts (list_all is_global_in_range m.globals) (list_all is_function_in_range m.functions) accepted.formed.numbers in
        all_at is_function_in_range m.functions n f parts.1 at

    pub block_formed : (b : ℕ) (block : Block) → slice_get f.blocks b ≡ Some block → is_block (formed_scope (length m.globals) f) block ≡ true
    block_formed b block here =
        all_at (is_block (formed_scope (length m.globals) f)) f.blocks b block
        (and_parts _ (list_all (is_block (formed_scope (length m.globals) f)) f.blocks) formed).1 here

    pub inst_in_range : (b i : ℕ) (x : Inst) → slice_get (insts_of_block f.blocks b) i ≡ Some x → is_inst_in_range x ≡ true
    inst_in_range b i x h =
        let p = block_at f.blocks b i x h in
        all_at is_inst_in_range p.0.insts i x (all_at (λ (block : Block). list_all is_inst_in_range block.insts) f.blocks b p.0 in_range p.1) (sym (ap (λ (insts : List Inst). slice_get insts i) p.2) ∙ h)

    pub sound_at : (b i k : ℕ) (x : Inst) → k ≡ first_number f.blocks b + i → slice_get (insts_of_block f.blocks b) i ≡ Some x → IsSound program f (record { block = b; number = k; inst = x })
    sound_at b i k x e h = law program n f (record { block = b; number = k; inst = x }) accepted at (spot_at f b i k x e h)

    pub few_elements : (r : ℕ) → (elements_of_alloca (slice_get (all_insts f.blocks) r)).count < 2 ^ 64
    few_elements r = word_count (slice_get (all_insts f.blocks) r) (λ x e. let p = place_of f.blocks r x e in inst_in_range p.block p.index x p.inst)

    -- an alloca before the terminator of the entry block
    pub alloca_before : (k i : ℕ) (x y : Inst) → slice_get (all_insts f.blocks) k ≡ Some x → IsAllocaOutcome (outcome_of x) → slice_get (insts_of_block f.blocks 0) i ≡ Some y → is_terminator y ≡ true → k < i
    alloca_before k i x y e a h t =
        let p = place_of f.blocks k x e in
        let s = sound_at p.block p.index k x p.number p.inst in
        let none = (or_parts (is_late_alloca p.block x) (misplaced (scope_of m f) x) (or_parts (is_late_alloca p.block x || misplaced (scope_of m f) x) (list_any (is_address (scope_of m f)) (operands_of x)) s.alloca).0).0 in
        let entry : p.block ≡ 0 = late_alloca p.block x a none in
        let number : k ≡ p.index = p.number ∙ ap (λ (b : ℕ). first_number f.blocks b + p.index) entry ∙ ap (λ (b : ℕ). b + p.index) (first_is f.blocks) ∙ omega arith in
        let there : slice_get (insts_of_block f.blocks 0) k ≡ Some x = ap (slice_get (insts_of_block f.blocks 0)) number ∙ ap (λ (b : ℕ). slice_get (insts_of_block f.blocks b) p.index) (sym entry) ∙ p.inst in
        let within = slice_get_within (insts_of_block f.blocks 0) k x there in
        let q = block_at f.blocks 0 i y h in
        let order = (and_parts (is_order q.0.insts) (list_all (is_inst (formed_scope (length m.globals) f)) q.0.insts) (block_formed 0 q.0 q.1)).0 in
        let last = order_ends q.0.insts order i y (sym (ap (λ (insts : List Inst). slice_get insts i) q.2) ∙ h) t in
        let count = ap length q.2 in
        by (nat_eq k i) refl (λ same. alloca_goes_on x a (ap is_terminator (same_Some x y (sym there ∙ ap (slice_get (insts_of_block f.blocks 0)) same ∙ h)) ∙ t)) (omega (arith, within, last, count))
      where
        by : (b : Bool) → nat_eq k i ≡ b → (k ≡ i → ⊥) → k ≤ i → k < i
        by true e never le = absurd (never (eqb-true k i e))
        by false e never le = grind (arith, nat_tests)

  -- ---- a processor at an instruction
  pub record Stands (c : SourceProcessor) (i : Inst) : Type 0 where
    pub function : Function
    pub at : slice_get m.functions c.function ≡ Some function
    pub inst : slice_get (insts_of_block function.blocks c.block) c.index ≡ Some i
    pub number : number_of_next program c ≡ first_number function.blocks c.block + c.index
    pub outcome : outcome_in m c.function (number_of_next program c) ≡ outcome_of i
    pub entry : c.block ≡ 0 → number_of_next program c ≡ c.index

  running : (status : SourceStatus) (c : SourceProcessor) (i : Inst) → inst_if program status c ≡ Some i → inst_at program c ≡ Some i
  running Running c i h = h
  running Ended c i h = absurd (none-some i h)
  running Trapped c i h = absurd (none-some i h)

  stands_in : (o : Option Function) (c : SourceProcessor) (i : Inst) → slice_get m.functions c.function ≡ o → slice_get (insts_of_block (blocks_in o) c.block) c.index ≡ Some i → Stands c i
  stands_in None c i e h = absurd (none-some i h)
  stands_in (Some f) c i e h =
      let blocks : blocks_of m c.function ≡ f.blocks = ap blocks_in e in
      let number : number_of_next program c ≡ first_number f.blocks c.block + c.index = ap (λ (bs : List Block). first_number bs c.block + c.index) blocks in
      record {
        function = f;
        at = e;
        inst = h;
        number = number;
        outcome = ap outcome_if (ap (λ (bs : List Block). slice_get (all_insts bs) (number_of_next program c)) blocks ∙ ap (slice_get (all_insts f.blocks)) number ∙ number_at f.blocks c.block c.index i h);
        entry = λ b. number ∙ ap (λ (j : ℕ). first_number f.blocks j + c.index) b ∙ ap (λ (j : ℕ). j + c.index) (first_is f.blocks) ∙ omega arith;
      }

  pub stands : (c : SourceProcessor) (i : Inst) → next_inst program c ≡ Some i → Stands c i
  stands c i h = stands_in (slice_get m.functions c.function) c i refl (running c.status c i h)

  pub sound_here : (c : SourceProcessor) (i : Inst) → (s : Stands c i) → IsSound program s.function (record { block = c.block; number = number_of_next program c; inst = i })
  sound_here c i s = sound_at c.function s.function s.at c.block c.index (number_of_next program c) i s.number s.inst
