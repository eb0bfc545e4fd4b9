-- What is known of an edge between two blocks of an accepted module.
use Rattle.std.proofs.Common.{◌≡◌, ℕ, suc, ◌+◌, ◌*◌, ◌<◌, ◌≤◌, Bool, true, false, not, ◌||◌, List, [], ◌∷◌, ◌++◌, map, Option, Some, length, get_or, refl, sym, ap, ◌∙◌, subst, arith, slice_get}
use Rattle.std.specs.Prelude.{if◌then◌else◌, nat_eq, sum_by, cond}
use Rattle.std.specs.List.{count_by, list_all, list_any}
use Rattle.std.proofs.lemmas.Bool.{and_parts, or_parts, true≢false}
use Rattle.std.proofs.lemmas.Bool.Decides.{nat_tests}
use Rattle.std.proofs.lemmas.List.Sums.{sum_by-cons}
use Rattle.std.proofs.lemmas.Option.{same_Some, slice_get-get_or}
use Rattle.ax_check.specs.Accepted.{IsAccepted}
use Rattle.ax_check.specs.Laws.{AtInstructions, IsSound}
use Rattle.ax_module.specs.declared.inst.Inst.{Inst}
use Rattle.ax_module.specs.declared.inst.Inst.TheVariants as inst
use Rattle.ax_module.specs.declared.module.Block.{Block}
use Rattle.ax_module.specs.declared.module.Function.{Function}
use Rattle.ax_module.specs.declared.module.Module.{Module}
use Rattle.ax_module.specs.declared.operand.Operand.{Operand}
use Rattle.ax_module.specs.declared.operand.Operand.TheVariants as operand
use Rattle.ax_module.specs.declared.types.Ty.{Ty}
use Rattle.ax_module.specs.Kinds as kinds
use Rattle.ax_module.specs.WellFormed.{is_inst, is_order, scope_of as formed_scope}
use Rattle.ax_source_run.specs.SourceEvent.{inst_at}
use Rattle.ax_source_run.specs.SourceInstructions.{first_number, insts_of_block, is_phi, phi_count}
use Rattle.ax_source_run.specs.SourcePointers.{blocks_in}
use Rattle.ax_source_run.specs.SourceState.{SourceProcessor, SourceProgram}
use Rattle.ax_mid.specs.declared.code.Mid.{Mid}
use Rattle.ax_mid.specs.declared.registers.Virtual.{Virtual}
use Rattle.ax_mid.specs.Processor.{MidProcessor}
use Rattle.ax_rules.specs.declared.facts.Outcome.{Outcome}
use Rattle.ax_rules.specs.declared.facts.Outcome.TheVariants as outcome
use Rattle.ax_rules.specs.declared.facts.FunctionScope.{FunctionScope}
use Rattle.ax_rules.specs.Facts.{outcome_at, outcome_of, scope_of}
use Rattle.ax_rules.specs.Limits.{has_many_phis}
use Rattle.ax_access_rules.specs.Mixed.{is_mistyped, is_mixed_inst, is_mixed_pointer, is_number_of}
use Rattle.ax_rules.specs.Parts.{operands_of, pointers_of, same_type}
use Rattle.ax_standing.proofs.Orders.{block_insts, order_first, same_phi}
use Rattle.ax_standing.proofs.Walked.{inst_formed}
use Rattle.ax_typed.proofs.Facts.{any_at}
use Rattle.ax_typed.proofs.Places.{all_insts, number_at}
use Rattle.ax_typed.proofs.Standing.{block_formed, outcome_is, sound_at}
use Rattle.ax_typed.proofs.Types.{ResultsFit, same_types}
use Rattle.ax_typed.specs.Typed.{outcome_if, outcome_in}
use Rattle.ax_selected.specs.Contract.{Alike, Known, Stands}
use Rattle.ax_selected.specs.Edges.{coming_in, edge_lines, operand_from, set_phis}
use Rattle.ax_selected.specs.Laid.{IsLaid}
use Rattle.ax_selected.proofs.Accessing.{Grounds, stands_at}
use Rattle.ax_selected.proofs.Branches.{IsEdge}
use Rattle.ax_selected.proofs.Moves.{ArePhis, IsNumberOperand}

-- ---- lengths
coming_length : (b j : ℕ) (insts : List Inst) → length (coming_in b j insts) ≡ 2 * phi_count insts
unfolding coming_in is_phi
coming_length b j [] = refl
coming_length b j (inst.Phi t entries ∷ insts) = let e = coming_length b (j + 1) insts in omega (arith, e)
coming_length b j (_ ∷ insts) = refl

setting_length : (j : ℕ) (insts : List Inst) → length (set_phis j insts) ≡ 2 * phi_count insts
unfolding set_phis is_phi
setting_length j [] = refl
setting_length j (inst.Phi t entries ∷ insts) = let e = setting_length (j + 1) insts in omega (arith, e)
setting_length j (_ ∷ insts) = refl

append_length : {A : Type 0} (xs ys : List A) → length (xs ++ ys) ≡ length xs + length ys
append_length [] ys = omega arith
append_length (x ∷ xs) ys = let e = append_length xs ys in omega (arith, e)

abbrev one : Inst → ℕ
one x = cond (kinds.is_phi x) 1 0

counted_by : (b : Bool) (x : Inst) (insts : List Inst) → kinds.is_phi x ≡ b → phi_count insts ≤ sum_by one insts → (if b then phi_count insts + 1 else 0) ≤ one x + sum_by one insts
counted_by true x insts e le =
    let is : one x ≡ 1 = ap (λ (q : Bool). cond q 1 0) e in
    omega (arith, is, le)
counted_by false x insts e le = omega arith

counted : (insts : List Inst) → phi_count insts ≤ count_by kinds.is_phi insts
counted [] = omega arith
counted (x ∷ insts) =
    let more = counted_by (kinds.is_phi x) x insts refl (counted insts) in
    let same : phi_count (x ∷ insts) ≡ (if kinds.is_phi x then phi_count insts + 1 else 0) = ap (λ (b : Bool). if b then phi_count insts + 1 else 0) (same_phi x) in
    let sum = sum_by-cons one x insts in
    omega (arith, more, same, sum)

at_most_64 : (b : Block) → has_many_phis b ≡ false → count_by kinds.is_phi b.insts ≤ 64
at_most_64 b h = grind (arith, nat_tests)

module _ (program : SourceProgram) (accepted : IsAccepted program) (law : AtInstructions IsSound) (fit : ResultsFit) (code : Mid Virtual) (begins : ℕ → ℕ → ℕ → ℕ) (laid : IsLaid program code.lines begins) (most base : ℕ) (enough : 512 ≤ most) (s : SourceProcessor) (c : MidProcessor) (numbers : ℕ → ℕ → ℕ) (alike : Alike s c) (here_is : Stands program.source begins s c) (grounds : Grounds program code base) where
  abbrev m : Module
  m = program.source

  abbrev f : ℕ
  f = s.function

  -- ---- the phis of a block
  module _ (g : Function) (at : slice_get m.functions f ≡ Some g) where
    abbrev scope : FunctionScope
    scope = scope_of m g

    number_is : (t : Ty) (r : ℕ) (o : Outcome) → outcome_at scope r ≡ o → not (is_number_of t o) ≡ false → outcome_in m f r ≡ outcome.Number t
    number_is t r (outcome.Number u) e h = sym (outcome_is program accepted law f g at r) ∙ (e ∙ ap outcome.Number (sym (same_types t u (not_not (same_type t u) h))))
      where
        not_not : (b : Bool) → not b ≡ false → b ≡ true
        not_not true x = refl
        not_not false x = absurd (true≢false x)
    number_is t r (outcome.Pair u) e h = absurd (true≢false h)
    number_is t r (outcome.Alloca x) e h = absurd (true≢false h)
    number_is t r (outcome.Gep b x u v) e h = absurd (true≢false h)
    number_is t r outcome.Nothing e h = absurd (true≢false h)

    operand_is : (t : Ty) (v : Operand) → is_mistyped scope (t, v) ≡ false → IsNumberOperand m f t v
    operand_is t (operand.Value r) h = number_is t r (outcome_at scope r) refl h
    operand_is t (operand.Const n) h = tt
    operand_is t (operand.Wide n) h = tt
    operand_is t (operand.Param p) h = tt

    chosen_is : (b : Bool) (t : Ty) (v w : Operand) → IsNumberOperand m f t v → IsNumberOperand m f t w → IsNumberOperand m f t (if b then v else w)
    chosen_is true t v w h g = h
    chosen_is false t v w h g = g

    incoming_is : (b : ℕ) (t : Ty) (entries : List (Operand × ℕ)) → list_any (is_mistyped scope) (map (λ (e : Operand × ℕ). (t, e.0)) entries) ≡ false → IsNumberOperand m f t (operand_from b entries)
    incoming_is b t [] h = tt
    incoming_is b t (entry ∷ entries) h =
        let parts = or_parts (is_mistyped scope (t, entry.0)) (list_any (is_mistyped scope) (map (λ (e : Operand × ℕ). (t, e.0)) entries)) h in
        chosen_is (nat_eq entry.1 b) t entry.0 (operand_from b entries) (operand_is t entry.0 parts.0) (incoming_is b t entries parts.1)

    phis_are : (b j : ℕ) (insts : List Inst) → ((n : ℕ) (x : Inst) → slice_get insts n ≡ Some x → (outcome_in m f (j + n) ≡ outcome_of x) × (list_any (is_mistyped scope) (operands_of x) ≡ false)) → ArePhis m f b j insts
    unfolding ArePhis outcome_of operands_of
    phis_are b j [] all = tt
    phis_are b j (inst.Phi t entries ∷ insts) all =
        let own = all 0 (inst.Phi t entries) refl in
        let zero : j + 0 ≡ j = omega arith in (
          ap (outcome_in m f) (sym zero) ∙ own.0,
          incoming_is b t entries own.1,
          phis_are b (j + 1) insts (λ n x e. let more : j + 1 + n ≡ j + suc n = omega arith in (ap (outcome_in m f) more ∙ (all (suc n) x e).0, (all (suc n) x e).1)),
        )
    phis_are b j (_ ∷ insts) all = tt

    known_at : (d n : ℕ) (x : Inst) → slice_get (insts_of_block g.blocks d) n ≡ Some x → (outcome_in m f (first_number g.blocks d + n) ≡ outcome_of x) × (list_any (is_mistyped scope) (operands_of x) ≡ false)
    known_at d n x e =
        let sound = sound_at program accepted law f g at d n (first_number g.blocks d + n) x refl e in
        let out : outcome_in m f (first_number g.blocks d + n) ≡ outcome_of x = ap (λ (o : Option Function). outcome_if (slice_get (all_insts (blocks_in o)) (first_number g.blocks d + n))) at ∙ ap outcome_if (number_at g.blocks d n x e) in
        (out, (or_parts (list_any (is_mistyped scope) (operands_of x)) (is_mixed_inst scope x) (or_parts (list_any (is_mistyped scope) (operands_of x) || is_mixed_inst scope x) (list_any (is_mixed_pointer scope) (pointers_of x)) sound.mixed).0).0)

    abbrev Edge : List Block → ℕ → Type 0
    Edge blocks d =
        (ArePhis m f s.block (first_number blocks d) (insts_of_block blocks d)) × (length (edge_lines f blocks s.block d).silent ≤ 300) × ((x : Inst) × (slice_get (insts_of_block blocks d) 0 ≡ Some x))

    edge_in : (d : ℕ) → d < length g.blocks → Edge g.blocks d
    edge_in d lt =
        let any : Block = record { insts = [] } in
        let block : Block = get_or g.blocks d any in
        let there : slice_get g.blocks d ≡ Some block = slice_get-get_or g.blocks d any lt in
        let insts = block_insts g.blocks d block there in
        let order = (and_parts (is_order block.insts) (list_all (is_inst (formed_scope (length m.globals) g)) block.insts) (block_formed program accepted law f g at d block there)).0 in
        let x = order_first block.insts order in
        let first = first_number g.blocks d in
        let are = insts_of_block g.blocks d in
        let many = at_most_64 block (any_at has_many_phis g.blocks d block (grounds.heads f g at).phis there) in
        let phis : phi_count are ≤ 64 = subst (λ (is : List Inst). phi_count is ≤ 64) (sym insts) (let le = counted block.insts in omega (arith, le, many)) in
        let a = coming_length s.block first are in
        let b = setting_length first are in
        let both = append_length (coming_in s.block first are) (set_phis first are) in
        (phis_are s.block first are (known_at d), omega (arith, a, b, both, phis), (x.0, ap (λ (is : List Inst). slice_get is 0) insts ∙ x.1))

    pub edge_of : (d : ℕ) → d < length g.blocks → IsEdge program accepted law code begins laid most base enough s c numbers alike here_is d
    edge_of d lt =
        let e = subst (λ (blocks : List Block). Edge blocks d) (sym (ap blocks_in at)) (edge_in d lt) in
        record { phis = e.0; few = e.1; number = 0; inst = e.2.0; some = e.2.1 }

  -- what an instruction names is there
  pub formed : (i : Inst) (known : Known program s numbers i) → is_inst (formed_scope (length m.globals) (known.walk.function)) i ≡ true
  formed i known =
      let w = known.walk in
      let at : inst_at program s ≡ Some w.inst = ap (λ (blocks : List Block). slice_get (insts_of_block blocks s.block) s.index) (ap blocks_in w.here) ∙ w.at in
      let same : w.inst ≡ i = same_Some w.inst i (sym at ∙ stands_at program accepted law fit code begins laid most base enough s c numbers alike here_is grounds i known) in
      subst (λ (x : Inst). is_inst (formed_scope (length m.globals) w.function) x ≡ true) same (inst_formed program accepted law s.function s.block s.index s.values w)

  pub edge_to : (i : Inst) (known : Known program s numbers i) (d : ℕ) → d < length known.walk.function.blocks → IsEdge program accepted law code begins laid most base enough s c numbers alike here_is d
  edge_to i known d lt = edge_of known.walk.function known.walk.here d lt
