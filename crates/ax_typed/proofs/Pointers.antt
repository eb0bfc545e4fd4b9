-- Operands and pointers of the instruction at which a processor stands: numbers of the types required, and elements of what the checker says.
use Rattle.std.proofs.Common.{◌≡◌, ℕ, ◌<◌, ◌^◌, Bool, true, false, not, ◌&&◌, ◌||◌, [], Option, Some, None, refl, sym, ap, ◌∙◌, subst, arith, slice_get}
use Rattle.std.specs.Prelude.{nat_lt, ◌==◌}
use Rattle.std.specs.Option.{option_map}
use Rattle.std.proofs.lemmas.Bool.{and_parts, eqb-true, true≢false, false≢true}
use Rattle.std.proofs.lemmas.Bool.Decides.{nat_tests}
use Rattle.std.proofs.lemmas.Nat.{mod_below, pow_pos}
use Rattle.std.proofs.lemmas.Option.{slice_get-map}
use Rattle.ax_module.specs.declared.inst.Inst.{Inst}
use Rattle.ax_module.specs.declared.inst.Inst.TheVariants as inst
use Rattle.ax_module.specs.declared.module.Function.{Function}
use Rattle.ax_module.specs.declared.module.Global.{Global}
use Rattle.ax_module.specs.declared.module.Module.{Module}
use Rattle.ax_module.specs.declared.operand.Addr.{Addr}
use Rattle.ax_module.specs.declared.operand.Base.{Base}
use Rattle.ax_module.specs.declared.operand.Base.TheVariants as base
use Rattle.ax_module.specs.declared.operand.Operand.{Operand}
use Rattle.ax_module.specs.declared.operand.Operand.TheVariants as operand
use Rattle.ax_module.specs.declared.types.Ty.{Ty}
use Rattle.ax_source_run.specs.SourceInstructions.{is_inside}
use Rattle.ax_source_run.specs.SourceEvent.{number_of_next}
use Rattle.ax_module.specs.Types.{type_bytes}
use Rattle.ax_source_run.specs.SourcePointers.{Elements, base_of, blocks_in, elements_of, elements_of_alloca, elements_of_global, insts_of, is_element, pointed, pointer_of, stepped_if}
use Rattle.ax_source_run.specs.SourceState.{Object, Shared, Private, Pointer, SourceProcessor, SourceProgram, SourceValue, Number, Pair, PointsTo}
use Rattle.ax_source_run.specs.SourceValues.{number_of, operand_of, type_bits}
use Rattle.ax_rules.specs.declared.facts.Extent.{Extent}
use Rattle.ax_rules.specs.declared.facts.Origin.TheVariants as origin
use Rattle.ax_rules.specs.declared.facts.Outcome.{Outcome}
use Rattle.ax_rules.specs.declared.facts.Outcome.TheVariants as outcome
use Rattle.ax_rules.specs.declared.facts.FunctionScope.{FunctionScope}
use Rattle.ax_rules.specs.Facts.{extent_of, extent_of_global, extent_of_outcome, origin_of, origin_of_alloca, origin_of_step, origin_of_value, outcome_at, outcome_of, scope_of}
use Rattle.ax_rules.specs.Kind.{is_alloca_address, is_bad_pointer, is_gep, is_gep_address}
use Rattle.ax_access_rules.specs.Mixed.{is_element_of, is_mistyped, is_mixed_access, is_number_of, is_other_element}
use Rattle.ax_check.specs.Accepted.{IsAccepted}
use Rattle.ax_check.specs.Defined.{IsDefined, is_defined_at}
use Rattle.ax_check.specs.Graph.{block_of}
use Rattle.ax_check.specs.Laws.{AtInstructions, IsSound}
use Rattle.ax_check.specs.Walk.{passes}
use Rattle.ax_typed.specs.Typed.{IsAllocaOutcome, IsIntoBase, IsOf, IsResultOf, IsTypedProcessor, address_of, elem_of, outcome_if, outcome_in}
use Rattle.ax_typed.proofs.Standing.{Stands, few_elements, outcome_is}
use Rattle.ax_typed.proofs.Places.{all_insts}
use Rattle.ax_typed.proofs.Types.{is_true, not_other, same_types, wrapped_fits}

-- ---- operands
number_typed : (t : Ty) (o : Outcome) (k : ℕ) (v : SourceValue) → not (is_number_of t o) ≡ false → IsResultOf o k v → IsOf t (number_of v)
number_typed t (outcome.Number u) k v h is =
    let same : t ≡ u = same_types t u (grind (arith, nat_tests)) in
    subst (λ (w : Ty). IsOf w (number_of v)) (sym same) is
number_typed t (outcome.Pair u) k v h is = absurd (true≢false h)
number_typed t (outcome.Alloca e) k v h is = absurd (true≢false h)
number_typed t (outcome.Gep b elem u index) k v h is = absurd (true≢false h)
number_typed t outcome.Nothing k v h is = absurd (true≢false h)

-- the elements of an object, as the checker has them
abbrev pub extent_in : Module → ℕ → Object → Extent
extent_in m f o = record { elem = (elements_of m f o).elem; count = (elements_of m f o).count }

-- ---- an object that has elements
global_extent : (o : Option Global) (i : ℕ) → nat_lt i (elements_of_global o).count ≡ true → option_map extent_of_global o ≡ Some (record { elem = (elements_of_global o).elem; count = (elements_of_global o).count })
global_extent None i h = absurd (let e : nat_lt i 0 ≡ false = grind (arith, nat_tests) in true≢false (sym h ∙ e))
global_extent (Some v) i h = refl

alloca_extent : (o : Option Inst) (i : ℕ) → nat_lt i (elements_of_alloca o).count ≡ true → outcome_if o ≡ outcome.Alloca (record { elem = (elements_of_alloca o).elem; count = (elements_of_alloca o).count })
unfolding elements_of_alloca outcome_of
alloca_extent (Some (inst.Alloca t count align)) i h = refl
alloca_extent _ i h = absurd (let e : nat_lt i 0 ≡ false = grind (arith, nat_tests) in true≢false (sym h ∙ e))

pub alloca_is : (o : Outcome) → is_alloca_address o ≡ true → IsAllocaOutcome o
alloca_is (outcome.Alloca e) h = tt
alloca_is (outcome.Number t) h = absurd (false≢true h)
alloca_is (outcome.Pair t) h = absurd (false≢true h)
alloca_is (outcome.Gep b elem t index) h = absurd (false≢true h)
alloca_is outcome.Nothing h = absurd (false≢true h)

or_false : (a b : Bool) → (a || b) ≡ true → b ≡ false → a ≡ true
or_false true b h e = refl
or_false false b h e = absurd (true≢false (sym h ∙ e))

module _ (program : SourceProgram) (accepted : IsAccepted program) (law : AtInstructions IsSound) (c : SourceProcessor) (h : IsTypedProcessor program.source c) (i : Inst) (s : Stands program accepted law c i) where
  abbrev m : Module
  m = program.source

  abbrev scope : FunctionScope
  scope = scope_of m s.function

  pub outcomes : (k : ℕ) → outcome_at scope k ≡ outcome_in m c.function k
  outcomes k = outcome_is program accepted law c.function s.function s.at k

  pub operand_typed : (t : Ty) (v : Operand) → is_mistyped scope (t, v) ≡ false → IsOf t (operand_of t v c.values)
  operand_typed t (operand.Const n) e = wrapped_fits (type_bits t) n
  operand_typed t (operand.Wide n) e = mod_below n (2 ^ type_bits t) (pow_pos (type_bits t))
  operand_typed t (operand.Value k) e = number_typed t (outcome_at scope k) k (c.values k) e (subst (λ (o : Outcome). IsResultOf o k (c.values k)) (sym (outcomes k)) (h.values k))
  operand_typed t (operand.Param k) e = pow_pos (type_bits t)

  -- ---- objects
  abbrev Known : Base → Object → Type 0
  Known b o = extent_of scope (origin_of scope b) ≡ Some (extent_in m c.function o)

  shared_known : (g j : ℕ) → nat_lt j (elements_of m c.function (Shared g)).count ≡ true → extent_of scope (origin.Global g) ≡ Some (extent_in m c.function (Shared g))
  shared_known g j e = slice_get-map extent_of_global m.globals g ∙ global_extent (slice_get m.globals g) j e

  private_is : (k j : ℕ) → nat_lt j (elements_of m c.function (Private k)).count ≡ true → outcome_at scope k ≡ outcome.Alloca (extent_in m c.function (Private k))
  private_is k j e = outcomes k ∙ alloca_extent (slice_get (insts_of m c.function) k) j e

  private_known : (k j : ℕ) → nat_lt j (elements_of m c.function (Private k)).count ≡ true → Known (base.Value k) (Private k)
  private_known k j e =
      let is = private_is k j e in
      ap (λ (o : Outcome). extent_of scope (origin_of_value scope k o)) is ∙ ap extent_of_outcome is

  -- what a getelementptr's base names
  step_known : (b : Base) (p : Pointer) (j : ℕ) → IsIntoBase b (PointsTo p) → nat_lt j (elements_of m c.function p.object).count ≡ true → extent_of scope (origin_of_step scope b) ≡ Some (extent_in m c.function p.object)
  step_known (base.Global g) p j into e =
      let in_global : p.object ≡ Shared g = into in
      let has = subst (λ (o : Object). nat_lt j (elements_of m c.function o).count ≡ true) in_global e in
      shared_known g j has ∙ ap (λ (o : Object). Some (extent_in m c.function o)) (sym in_global)
  step_known (base.Value k) p j into e =
      let in_alloca : p.object ≡ Private k = into in
      let has = subst (λ (o : Object). nat_lt j (elements_of m c.function o).count ≡ true) in_alloca e in
      let is = private_is k j has in
      ap (λ (o : Outcome). extent_of scope (origin_of_alloca k o)) is ∙ ap extent_of_outcome is ∙ ap (λ (o : Object). Some (extent_in m c.function o)) (sym in_alloca)
  step_known (base.Param k) p j into e = absurd into

  -- a pointer that is the value of an instruction
  value_known : (o : Outcome) (k : ℕ) (p : Pointer) → outcome_at scope k ≡ o → (is_alloca_address o || is_gep_address o) ≡ true → IsResultOf o k (PointsTo p) → nat_lt p.index (elements_of m c.function p.object).count ≡ true → Known (base.Value k) p.object
  value_known (outcome.Alloca e) k p is kind into has =
      let in_alloca : p.object ≡ Private k = into in
      let elements = subst (λ (o : Object). nat_lt p.index (elements_of m c.function o).count ≡ true) in_alloca has in
      private_known k p.index elements ∙ ap (λ (o : Object). Some (extent_in m c.function o)) (sym in_alloca)
  value_known (outcome.Gep b elem t index) k p is kind into has =
      ap (λ (o : Outcome). extent_of scope (origin_of_value scope k o)) is ∙ step_known b p p.index into has
  value_known (outcome.Number t) k p is kind into has = absurd (false≢true kind)
  value_known (outcome.Pair t) k p is kind into has = absurd (false≢true kind)
  value_known outcome.Nothing k p is kind into has = absurd (false≢true kind)

  no_element : (n : ℕ) → nat_lt (2 ^ 64) (elements_of m c.function (Private n)).count ≡ true → ⊥
  no_element n e =
      let few = few_elements program accepted law c.function s.function s.at n in
      let same : elements_of_alloca (slice_get (insts_of m c.function) n) ≡ elements_of_alloca (slice_get (all_insts s.function.blocks) n) = ap (λ (o : Option Function). elements_of_alloca (slice_get (all_insts (blocks_in o)) n)) s.at in
      let count = ap (λ (x : Elements). x.count) same in
      grind (arith, nat_tests)

  -- an alloca that is used where a processor stands has its address
  pub address_is : (k : ℕ) → IsAllocaOutcome (outcome_at scope k) → IsDefined s.function (record { block = c.block; number = number_of_next program c; inst = i }) (record { value = k; end_of = None }) → c.values k ≡ address_of k
  address_is k a defined = h.addresses k (subst (λ (o : Outcome). IsAllocaOutcome o) (outcomes k) a) (λ e. before e (defined [] e))
    where
      before : c.block ≡ 0 → is_defined_at s.function k c.block (number_of_next program c) [] ≡ true → k < c.index
      before e d =
          let parts = and_parts (block_of s.function k == c.block) (nat_lt k (number_of_next program c)) (or_false (block_of s.function k == c.block && nat_lt k (number_of_next program c)) (passes (block_of s.function k) []) d refl) in
          let less = parts.1 in
          let n = s.entry e in
          grind (arith, nat_tests)

  abbrev IsUsed : Base → Type 0
  IsUsed b = (k : ℕ) → b ≡ base.Value k → IsDefined s.function (record { block = c.block; number = number_of_next program c; inst = i }) (record { value = k; end_of = None })

  abbrev step_to : Option (Ty × ℕ × Ty × Operand) → Pointer → Pointer
  step_to step p = stepped_if m step c p

  value_step : (k : ℕ) (st : Ty × ℕ × Ty × Operand) (v : SourceValue) → v ≡ address_of k → is_element m c.function (step_to (Some st) (pointed v)) ≡ true → Known (base.Value k) (step_to (Some st) (pointed v)).object
  value_step k st v e =
      subst (λ (w : SourceValue). is_element m c.function (step_to (Some st) (pointed w)) ≡ true → Known (base.Value k) (step_to (Some st) (pointed w)).object) (sym e)
      (λ inside. private_known k (step_to (Some st) (pointed (address_of k))).index inside)

  value_plain : (k : ℕ) (v : SourceValue) → IsResultOf (outcome_at scope k) k v → (is_alloca_address (outcome_at scope k) || is_gep_address (outcome_at scope k)) ≡ true → is_element m c.function (pointed v) ≡ true → Known (base.Value k) (pointed v).object
  value_plain k (PointsTo p) is kind inside = value_known (outcome_at scope k) k p refl kind is inside
  value_plain k (Number n) is kind inside = absurd (no_element n inside)
  value_plain k (Pair n flag) is kind inside = absurd (no_element n inside)

  known_by : (b : Base) (step : Option (Ty × ℕ × Ty × Operand)) → is_bad_pointer scope (record { base = b; step = step }) ≡ false → IsUsed b → is_element m c.function (step_to step (base_of b c.values)) ≡ true → Known b (step_to step (base_of b c.values)).object
  known_by (base.Global g) None kind used inside = shared_known g 0 inside
  known_by (base.Global g) (Some st) kind used inside = shared_known g (step_to (Some st) (base_of (base.Global g) c.values)).index inside
  known_by (base.Param k) None kind used inside = absurd (true≢false kind)
  known_by (base.Param k) (Some st) kind used inside = absurd (true≢false kind)
  known_by (base.Value k) (Some st) kind used inside =
      let address = or_false (is_alloca_address (outcome_at scope k)) (not true && is_gep scope (base.Value k)) (is_true _ kind) refl in
      value_step k st (c.values k) (address_is k (alloca_is (outcome_at scope k) address) (used k refl)) inside
  known_by (base.Value k) None kind used inside =
      value_plain k (c.values k) (subst (λ (o : Outcome). IsResultOf o k (c.values k)) (sym (outcomes k)) (h.values k)) (is_true _ kind) inside

  -- a pointer that names an element is into what the checker says
  pub pointer_known : (a : Addr) → is_bad_pointer scope a ≡ false → IsUsed a.base → is_inside program c a ≡ true → extent_of scope (origin_of scope a.base) ≡ Some (extent_in m c.function (pointer_of m a c).object)
  pointer_known a kind used inside = known_by a.base a.step kind used inside

  -- an access of the element's type
  pub element_is : (t : Ty) (a : Addr) → is_bad_pointer scope a ≡ false → IsUsed a.base → is_inside program c a ≡ true → is_mixed_access scope t a ≡ false → t ≡ elem_of m c.function (pointer_of m a c).object
  element_is t a kind used inside mixed =
      not_other t (elem_of m c.function (pointer_of m a c).object)
      (subst (λ (e : Option Extent). is_other_element t e ≡ false) (pointer_known a kind used inside) mixed)

  pub size_is : (size : ℕ) (a : Addr) → is_bad_pointer scope a ≡ false → IsUsed a.base → is_inside program c a ≡ true → not (is_element_of size (extent_of scope (origin_of scope a.base))) ≡ false → type_bytes (elem_of m c.function (pointer_of m a c).object) ≡ size
  size_is size a kind used inside mixed =
      eqb-true _ size (is_true _ (subst (λ (e : Option Extent). not (is_element_of size e) ≡ false) (pointer_known a kind used inside) mixed))
