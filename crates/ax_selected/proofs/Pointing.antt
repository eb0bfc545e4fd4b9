-- Where a pointer operand points: into the object that the text names, at the index that the text or a register has.
use Rattle.std.proofs.Common.{◌≡◌, ℕ, ◌/◌, ◌%◌, ◌^◌, ◌≤◌, Bool, true, false, ◌&&◌, ◌||◌, inl, inr, [], ◌∷◌, Option, Some, None, refl, sym, ap, ◌∙◌, subst, arith, slice_get}
use Rattle.std.specs.Prelude.{if◌then◌else◌, nat_eq}
use Rattle.std.specs.Option.{option_map}
use Rattle.std.proofs.lemmas.Bool.{and_parts, or_cases, true≢false, false≢true}
use Rattle.std.proofs.lemmas.Option.{none-some, same_Some, slice_get-map}
use Rattle.ax_check.specs.Accepted.{IsAccepted}
use Rattle.ax_check.specs.Defined.{IsDefined}
use Rattle.ax_check.specs.declared.defined.Use.{Use}
use Rattle.ax_check.specs.Laws.{AtInstructions, IsSound}
use Rattle.ax_module.specs.declared.inst.Inst.{Inst}
use Rattle.ax_module.specs.declared.inst.Inst.TheVariants as inst
use Rattle.ax_module.specs.declared.module.Global.{Global}
use Rattle.ax_module.specs.declared.module.Module.{Module}
use Rattle.ax_module.specs.declared.operand.Addr.{Addr}
use Rattle.ax_module.specs.declared.operand.Base.{Base}
use Rattle.ax_module.specs.declared.operand.Base.TheVariants as bases
use Rattle.ax_module.specs.declared.operand.Operand.{Operand}
use Rattle.ax_module.specs.declared.operand.Operand.TheVariants as operand
use Rattle.ax_module.specs.declared.types.Ty.{Ty}
use Rattle.ax_module.specs.declared.types.Ty.TheVariants.{I8}
use Rattle.ax_module.specs.Types.{type_bytes}
use Rattle.ax_source_run.specs.SourceEvent.{number_of_next}
use Rattle.ax_source_run.specs.SourcePointers.{base_of, elements_of, elements_of_alloca, elements_of_global, insts_of, is_i8, pointed, pointer_of, scaled}
use Rattle.ax_source_run.specs.SourceState.{Object, Private, Pointer, PointsTo, SourceProcessor, SourceProgram, SourceValue}
use Rattle.ax_source_run.specs.SourceValues.{index_of, operand_of, type_bits}
use Rattle.ax_mid.specs.declared.code.Mid.{Mid}
use Rattle.ax_mid.specs.declared.instruction.MidInst.TheVariants as line
use Rattle.ax_mid.specs.declared.registers.Virtual.{Virtual}
use Rattle.ax_mid.specs.Machine.{private_step}
use Rattle.ax_mid.specs.Numbers.{extended}
use Rattle.ax_mid.specs.Processor as mid
use Rattle.ax_mid.specs.Processor.{MidProcessor}
use Rattle.ax_rules.specs.declared.facts.Extent.{Extent}
use Rattle.ax_rules.specs.declared.facts.Outcome.{Outcome}
use Rattle.ax_rules.specs.declared.facts.Outcome.TheVariants as outcome
use Rattle.ax_rules.specs.declared.facts.FunctionScope.{FunctionScope}
use Rattle.ax_rules.specs.Constants.{constant_index, index_if, is_index_type}
use Rattle.ax_rules.specs.Facts.{extent_of, extent_of_global, extent_of_outcome, origin_of_alloca, origin_of_step, outcome_at, outcome_of, scope_of}
use Rattle.ax_rules.specs.Kind.{is_alloca_address, is_bad_pointer, is_gep, is_gep_address, is_object}
use Rattle.ax_access_rules.specs.Mixed.{is_byte_index, is_byte_step, is_mixed_pointer, is_other_step, is_same_extent}
use Rattle.ax_rules.specs.Parts.{same_type}
use Rattle.ax_standing.specs.Standing.{IsGepOutcome, IsPointer}
use Rattle.ax_typed.proofs.Pointers.{address_is, alloca_is, outcomes}
use Rattle.ax_typed.proofs.Standing as standing
use Rattle.ax_typed.proofs.Types.{is_true, same_types}
use Rattle.ax_typed.specs.Typed.{IsAllocaOutcome, IsIntoBase, IsOf, IsResultOf, outcome_if, outcome_in}
use Rattle.ax_selected.specs.Addresses.{Fixed, IndexAt, index_at, index_of_step, index_of_value, object_of, object_of_value, stepped_object}
use Rattle.ax_selected.specs.Contract.{Alike, Known, Stands}
use Rattle.ax_selected.specs.Laid.{IsLaid}
use Rattle.ax_selected.specs.Matches.{HoldsIndex, HoldsValue}
use Rattle.ax_selected.specs.Registers.{low_of, virtual}
use Rattle.ax_selected.proofs.Comparisons.{extends}
use Rattle.ax_selected.proofs.Computes.{Held, low_fetched}
use Rattle.ax_selected.proofs.Entering.{Brings, IsIndex, moved_temp, not_moved}

-- ---- indexes of elements
scaled_same : (b : Bool) (ty : Ty) (bytes index : ℕ) → is_i8 ty ≡ b → (b ≡ true → bytes ≡ 1) → scaled ty bytes index ≡ index
scaled_same true ty bytes index e one =
    let n = one refl in
    let whole : index / 1 ≡ index = omega arith in
    ap (λ (q : Bool). if q then index / bytes else index) e ∙ (ap (λ (n : ℕ). index / n) n ∙ whole)
scaled_same false ty bytes index e one = ap (λ (q : Bool). if q then index / bytes else index) e

is_byte : (ty : Ty) → is_i8 ty ≡ true → type_bytes ty ≡ 1
is_byte I8 e = refl
is_byte _ e = absurd (false≢true e)

global_elem : (o : Option Global) (x : Extent) → option_map extent_of_global o ≡ Some x → (elements_of_global o).elem ≡ x.elem
global_elem None x e = absurd (none-some x e)
global_elem (Some v) x e = ap (λ (y : Extent). y.elem) (same_Some (extent_of_global v) x e)

alloca_elem : (o : Option Inst) (x : Extent) → extent_of_outcome (outcome_if o) ≡ Some x → (elements_of_alloca o).elem ≡ x.elem
unfolding elements_of_alloca outcome_of
alloca_elem None x e = absurd (none-some x e)
alloca_elem (Some (inst.Alloca t count align)) x e = ap (λ (y : Extent). y.elem) (same_Some (record { elem = t; count = count }) x e)
alloca_elem (Some (inst.Call (Some t) name args)) x e = absurd (none-some x e)
alloca_elem (Some (inst.Call None name args)) x e = absurd (none-some x e)
alloca_elem (Some _) x e = absurd (none-some x e)

alloca_object : (o : Outcome) (r : ℕ) → IsAllocaOutcome o → object_of_value o r ≡ Private r
alloca_object (outcome.Alloca e) r a = refl
alloca_object (outcome.Number t) r a = absurd a
alloca_object (outcome.Pair t) r a = absurd a
alloca_object (outcome.Gep b elem t index) r a = absurd a
alloca_object outcome.Nothing r a = absurd a

alloca_index : (o : Outcome) (r : ℕ) → IsAllocaOutcome o → index_of_value o r ≡ Fixed 0
alloca_index (outcome.Alloca e) r a = refl
alloca_index (outcome.Number t) r a = absurd a
alloca_index (outcome.Pair t) r a = absurd a
alloca_index (outcome.Gep b elem t index) r a = absurd a
alloca_index outcome.Nothing r a = absurd a

-- a constant index, or none
no_index : (b : Bool) (t : Ty) → (if b then index_if t None else None) ≡ None
no_index true t = refl
no_index false t = refl

-- an index that is a result is of elements of the type that is stated
same_elem : (elem : Ty) (count : ℕ) (t : Ty) (r : ℕ) (o : Option Extent) (x : Extent) → is_other_step elem count t (operand.Value r) o ≡ false → o ≡ Some x → elem ≡ x.elem
same_elem elem count t r o x h e =
    let fine : (is_same_extent elem count x || is_byte_step elem count t (operand.Value r) x) ≡ true = is_true _ (subst (λ (y : Option Extent). is_other_step elem count t (operand.Value r) y ≡ false) e h) in
    elim (or_cases (is_same_extent elem count x) (is_byte_step elem count t (operand.Value r) x) fine) [
      | inl same ↦ same_types elem x.elem (and_parts (same_type elem x.elem) (nat_eq count 0 || nat_eq count x.count) same).0
      | inr byte ↦ absurd (false≢true (ap (λ (y : Option ℕ). is_byte_index y x) (sym (no_index (is_index_type t) t)) ∙ (and_parts (is_i8 elem && nat_eq count 0) (is_byte_index (constant_index t (operand.Value r)) x) byte).1))
    ]

module _ (program : SourceProgram) (accepted : IsAccepted program) (law : AtInstructions IsSound) (code : Mid Virtual) (begins : ℕ → ℕ → ℕ → ℕ) (laid : IsLaid program code.lines begins) (most base : ℕ) (enough : 512 ≤ most) (s : SourceProcessor) (c : MidProcessor) (numbers : ℕ → ℕ → ℕ) (alike : Alike s c) (here_is : Stands program.source begins s c) (i : Inst) (known : Known program s numbers i) where
  abbrev k : ℕ
  k = number_of_next program s

  abbrev m : Module
  m = program.source

  abbrev f : ℕ
  f = s.function

  abbrev pub is : standing.Stands program accepted law s i
  is = standing.stands program accepted law s i known.next

  abbrev pub scope : FunctionScope
  scope = scope_of m is.function

  abbrev used : ℕ → Use
  used r = record { value = r; end_of = None }

  abbrev Defined : ℕ → Type 0
  Defined r = IsDefined is.function (record { block = s.block; number = k; inst = i }) (used r)

  outcome_same : (r : ℕ) → outcome_at scope r ≡ outcome_in m f r
  outcome_same r = outcomes program accepted law s known.typed i is r

  -- what is known of the base of a pointer: where it is a result, it is used, and so made
  pub record IsMade (b : Base) : Type 0 where
    pub defined : (r : ℕ) → b ≡ bases.Value r → Defined r
    pub made : (r : ℕ) → b ≡ bases.Value r → IsGepOutcome (outcome_in m f r) → IsPointer (s.values r)

  -- ---- steps
  abbrev pub Index : IndexAt → ℕ → Type 0
  Index = IsIndex program code begins laid most base enough f k c

  elem_bytes : (elem : Ty) (count : ℕ) (t : Ty) (r : ℕ) (b : Base) → is_other_step elem count t (operand.Value r) (extent_of scope (origin_of_step scope b)) ≡ false → is_object scope b ≡ true → is_i8 elem ≡ true → type_bytes (elements_of m f (stepped_object b)).elem ≡ 1
  elem_bytes elem count t r (bases.Global g) h o e = by (slice_get m.globals g) refl
    where
      by : (v : Option Global) → slice_get m.globals g ≡ v → type_bytes (elements_of_global (slice_get m.globals g)).elem ≡ 1
      by None at = ap (λ (v : Option Global). type_bytes (elements_of_global v).elem) at
      by (Some v) at =
          let there : slice_get scope.globals g ≡ Some (extent_of_global v) = slice_get-map extent_of_global m.globals g ∙ ap (option_map extent_of_global) at in
          let same = same_elem elem count t r (slice_get scope.globals g) (extent_of_global v) h there in
          ap (λ (v : Option Global). type_bytes (elements_of_global v).elem) at ∙ (ap type_bytes (sym same) ∙ is_byte elem e)
  elem_bytes elem count t r (bases.Value q) h o e = by (outcome_at scope q) refl o
    where
      by : (x : Outcome) → outcome_at scope q ≡ x → is_alloca_address x ≡ true → type_bytes (elements_of m f (Private q)).elem ≡ 1
      by (outcome.Alloca y) at a =
          let there : extent_of scope (origin_of_step scope (bases.Value q)) ≡ Some y = ap (λ (z : Outcome). extent_of scope (origin_of_alloca q z)) at ∙ ap extent_of_outcome at in
          let same = same_elem elem count t r (extent_of scope (origin_of_step scope (bases.Value q))) y h there in
          let own : (elements_of_alloca (slice_get (insts_of m f) q)).elem ≡ y.elem = alloca_elem (slice_get (insts_of m f) q) y (ap extent_of_outcome (sym (outcome_same q) ∙ at)) in
          ap type_bytes (own ∙ sym same) ∙ is_byte elem e
      by (outcome.Number t) at a = absurd (false≢true a)
      by (outcome.Pair t) at a = absurd (false≢true a)
      by (outcome.Gep b x t index) at a = absurd (false≢true a)
      by outcome.Nothing at a = absurd (false≢true a)
  elem_bytes elem count t r (bases.Param q) h o e = absurd (false≢true o)

  -- the index of a step
  pub step_index : (b : Base) (object : Object) (elem : Ty) (count : ℕ) (t : Ty) (v : Operand) → object ≡ stepped_object b → is_object scope b ≡ true → is_other_step elem count t v (extent_of scope (origin_of_step scope b)) ≡ false → Held v s.values c.regs → IsOf t (operand_of t v s.values) → type_bits t ≤ 64
      → Index (index_of_step program f object elem t v) (scaled elem (type_bytes (elements_of m f object).elem) (index_of t (operand_of t v s.values)))
  unfolding private_step
  step_index b object elem count t (operand.Value r) into o other held typed few =
      let n = operand_of t (operand.Value r) s.values in
      let x1 = mid.gets 1 (n % 2 ^ 64) c in
      let ext = extended (type_bits t) true (n % 2 ^ 64) in
      let x2 = mid.gets 1 ext x1 in
      let one : is_i8 elem ≡ true → type_bytes (elements_of m f object).elem ≡ 1 = λ e. ap (λ (q : Object). type_bytes (elements_of m f q).elem) into ∙ elem_bytes elem count t r b other o e in
      record {
        to = x2;
        runs = (x1, low_fetched program code base 1 t (operand.Value r) s.values c held, refl, (x2, refl, refl, refl));
        few = omega arith;
        moved = moved_temp c x1 1 ext (omega arith) (moved_temp c c 1 (n % 2 ^ 64) (omega arith) (not_moved c));
        is_index = extends program accepted law code begins laid most base enough s c numbers alike here_is true (type_bits t) n typed few ∙ sym (scaled_same (is_i8 elem) elem (type_bytes (elements_of m f object).elem) (index_of t n) refl one);
      }
  step_index b object elem count t (operand.Const n) into o other held typed few = refl
  step_index b object elem count t (operand.Wide n) into o other held typed few = refl
  step_index b object elem count t (operand.Param n) into o other held typed few = refl

  -- ---- the object of a base without a step, where that is a global or an alloca
  pub record IsAtFirst (b : Base) : Type 0 where
    pub object : (base_of b s.values).object ≡ object_of program f b
    pub stepped : object_of program f b ≡ stepped_object b
    pub index : (base_of b s.values).index ≡ 0

  pub at_first : (b : Base) → IsMade b → is_object scope b ≡ true → IsAtFirst b
  at_first (bases.Global g) h o = record { object = refl; stepped = refl; index = refl }
  at_first (bases.Value r) h o =
      let a = alloca_is (outcome_at scope r) o in
      let address = address_is program accepted law s known.typed i is r a (h.defined r refl) in
      let own = alloca_object (outcome_in m f r) r (subst (λ (x : Outcome). IsAllocaOutcome x) (outcome_same r) a) in
      record { object = ap (λ (v : SourceValue). (pointed v).object) address ∙ sym own; stepped = own; index = ap (λ (v : SourceValue). (pointed v).index) address }
  at_first (bases.Param q) h o = absurd (false≢true o)

  -- ---- pointers
  pub record PointsAt (a : Addr) : Type 0 where
    pub object : (pointer_of m a s).object ≡ object_of program f a.base
    pub index : Index (index_at program f a.base a.step) (pointer_of m a s).index

  into_stepped : (b : Base) (q : Pointer) → IsIntoBase b (PointsTo q) → q.object ≡ stepped_object b
  into_stepped (bases.Global g) q h = h
  into_stepped (bases.Value r) q h = h
  into_stepped (bases.Param r) q h = absurd h

  -- a getelementptr's result
  gep_points : (r : ℕ) (b : Base) (elem t : Ty) (v : Operand) → outcome_in m f r ≡ outcome.Gep b elem t v → IsPointer (s.values r) → PointsAt (record { base = bases.Value r; step = None })
  unfolding private_step
  gep_points r b elem t v o p =
      let q = p.0 in
      let into : IsIntoBase b (PointsTo q) = subst (λ (x : SourceValue). IsIntoBase b x) p.1 (subst (λ (x : Outcome). IsResultOf x r (s.values r)) o (known.typed.values r)) in
      let held : HoldsIndex c.regs r (PointsTo q) = subst (λ (x : SourceValue). HoldsIndex c.regs r x) p.1 (subst (λ (x : Outcome). HoldsValue x c.regs r (s.values r)) o (here_is.matches.values r)) in
      let x1 = mid.gets 1 (c.regs (low_of r)) c in
      let brings : Brings program code begins laid most base enough f k c (line.Copy (virtual 1) (virtual (low_of r)) ∷ []) q.index = record {
        to = x1;
        runs = (x1, refl, refl, refl);
        few = omega arith;
        moved = moved_temp c c 1 (c.regs (low_of r)) (omega arith) (not_moved c);
        is_index = held;
      } in
      let is_at : Index (index_of_value (outcome.Gep b elem t v) r) q.index = brings in
      record {
        object = ap (λ (x : SourceValue). (pointed x).object) p.1 ∙ (into_stepped b q into ∙ sym (ap (λ (x : Outcome). object_of_value x r) o));
        index = subst (λ (n : ℕ). Index (index_of_value (outcome_in m f r) r) n) (sym (ap (λ (x : SourceValue). (pointed x).index) p.1)) (subst (λ (x : Outcome). Index (index_of_value x r) q.index) (sym o) is_at);
      }

  alloca_points : (r : ℕ) → is_alloca_address (outcome_at scope r) ≡ true → IsMade (bases.Value r) → PointsAt (record { base = bases.Value r; step = None })
  alloca_points r a h =
      let first = at_first (bases.Value r) h a in
      let own = alloca_index (outcome_in m f r) r (subst (λ (x : Outcome). IsAllocaOutcome x) (outcome_same r) (alloca_is (outcome_at scope r) a)) in
      record { object = first.object; index = subst (λ (x : IndexAt). Index x (pointed (s.values r)).index) (sym own) first.index }

  value_points : (r : ℕ) (o : Outcome) → outcome_at scope r ≡ o → (is_alloca_address o || is_gep_address o) ≡ true → IsMade (bases.Value r) → PointsAt (record { base = bases.Value r; step = None })
  value_points r (outcome.Alloca e) at kind h = alloca_points r (ap is_alloca_address at) h
  value_points r (outcome.Gep b elem t v) at kind h =
      let o = sym (outcome_same r) ∙ at in
      gep_points r b elem t v o (h.made r refl (subst (λ (x : Outcome). IsGepOutcome x) (sym o) tt))
  value_points r (outcome.Number t) at kind h = absurd (false≢true kind)
  value_points r (outcome.Pair t) at kind h = absurd (false≢true kind)
  value_points r outcome.Nothing at kind h = absurd (false≢true kind)

  or_last : (x y : Bool) → (x || (false && y)) ≡ true → x ≡ true
  or_last true y h = refl
  or_last false y h = absurd (false≢true h)

  -- what is known of a step's operand
  abbrev pub StepIs : Option (Ty × ℕ × Ty × Operand) → Type 0
  StepIs None = Unit {0}
  StepIs (Some st) = Held st.3 s.values c.regs × IsOf st.2 (operand_of st.2 st.3 s.values) × (type_bits st.2 ≤ 64)

  points_by : (b : Base) (step : Option (Ty × ℕ × Ty × Operand)) → IsMade b → is_bad_pointer scope (record { base = b; step = step }) ≡ false → is_mixed_pointer scope (record { base = b; step = step }) ≡ false → StepIs step → PointsAt (record { base = b; step = step })
  points_by (bases.Global g) None h kind mixed step = record { object = refl; index = refl }
  points_by (bases.Value r) None h kind mixed step = value_points r (outcome_at scope r) refl (is_true _ kind) h
  points_by (bases.Param q) None h kind mixed step = absurd (true≢false kind)
  points_by b (Some st) h kind mixed step =
      let o = or_last (is_object scope b) (is_gep scope b) (is_true _ kind) in
      let first = at_first b h o in
      let idx = step_index b (object_of program f b) st.0 st.1 st.2 st.3 first.stepped o mixed step.0 step.1 step.2 in
      record {
        object = first.object;
        index = subst (λ (q : Object). Index (index_of_step program f (object_of program f b) st.0 st.2 st.3) (scaled st.0 (type_bytes (elements_of m f q).elem) (index_of st.2 (operand_of st.2 st.3 s.values)))) (sym first.object) idx;
      }

  pub points_at : (a : Addr) → IsMade a.base → is_bad_pointer scope a ≡ false → is_mixed_pointer scope a ≡ false → StepIs a.step → PointsAt a
  points_at a h kind mixed step = points_by a.base a.step h kind mixed step
