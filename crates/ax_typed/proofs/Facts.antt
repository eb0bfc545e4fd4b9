-- Operands and pointers of the instruction at which a processor stands, by their places in it.
use Rattle.std.proofs.Common.{◌≡◌, ℕ, zero, suc, Bool, true, false, not, ◌||◌, List, [], ◌∷◌, ◌++◌, Some, None, sym, ap, ◌∙◌, subst, Contains, flat_map, slice_get}
use Rattle.std.specs.Prelude.{if◌then◌else◌}
use Rattle.std.specs.List.{list_any}
use Rattle.std.proofs.lemmas.Bool.{or_parts, true≢false}
use Rattle.std.proofs.lemmas.List.Elements.{Contains-append_left, Contains-append_right}
use Rattle.std.proofs.lemmas.Option.{none-some, same_Some}
use Rattle.ax_module.specs.declared.inst.Inst.{Inst}
use Rattle.ax_module.specs.declared.module.Module.{Module}
use Rattle.ax_module.specs.declared.operand.Addr.{Addr}
use Rattle.ax_module.specs.declared.operand.Base.{Base}
use Rattle.ax_module.specs.declared.operand.Base.TheVariants as base
use Rattle.ax_module.specs.declared.operand.Operand.{Operand}
use Rattle.ax_module.specs.declared.types.Ty.{Ty}
use Rattle.ax_module.specs.Kinds.{is_phi}
use Rattle.ax_module.specs.Types.{type_bytes}
use Rattle.ax_source_run.specs.SourceEvent.{number_of_next}
use Rattle.ax_source_run.specs.SourceInstructions.{is_inside, is_unreachable, traps}
use Rattle.ax_source_run.specs.SourcePointers.{pointer_of}
use Rattle.ax_source_run.specs.SourceState.{SourceProcessor, SourceProgram, SourceValue}
use Rattle.ax_source_run.specs.SourceValues.{operand_of}
use Rattle.ax_rules.specs.declared.facts.Outcome.{Outcome}
use Rattle.ax_rules.specs.declared.facts.FunctionScope.{FunctionScope}
use Rattle.ax_rules.specs.Facts.{extent_of, origin_of, outcome_of, scope_of}
use Rattle.ax_rules.specs.Kind.{is_bad_gep, is_bad_pointer, is_other}
use Rattle.ax_access_rules.specs.Mixed.{is_element_of, is_mistyped, is_mixed_access, is_mixed_inst, is_mixed_pointer}
use Rattle.ax_rules.specs.Parts.{operands_of, pointers_of, types_of}
use Rattle.ax_check.specs.declared.defined.Use.{Use}
use Rattle.ax_check.specs.Accepted.{IsAccepted}
use Rattle.ax_check.specs.Defined.{IsDefined, further_uses, phi_uses, uses_of, uses_of_base}
use Rattle.ax_check.specs.Laws.{AtInstructions, IsSound}
use Rattle.ax_typed.specs.Typed.{IsAllocaOutcome, IsOf, IsResultOf, IsTypedProcessor, elem_of, outcome_in}
use Rattle.ax_typed.proofs.Objects.{IsAtOther}
use Rattle.ax_typed.proofs.Places.{here}
use Rattle.ax_typed.proofs.Pointers.{element_is, operand_typed, size_is}
use Rattle.ax_typed.proofs.Standing.{Stands, sound_here}
use Rattle.ax_typed.proofs.Types.{is_true}

pub any_at : {A : Type 0} (p : A → Bool) (xs : List A) (j : ℕ) (x : A) → list_any p xs ≡ false → slice_get xs j ≡ Some x → p x ≡ false
any_at p [] j x h e = absurd (none-some x e)
any_at p (y ∷ xs) zero x h e = ap p (sym (same_Some y x e)) ∙ (or_parts (p y) (list_any p xs) h).0
any_at p (y ∷ xs) (suc j) x h e = any_at p xs j x (or_parts (p y) (list_any p xs) h).1 e

flat_at : {A B : Type 0} (g : A → List B) (xs : List A) (j : ℕ) (x : A) (y : B) → slice_get xs j ≡ Some x → Contains (g x) y → Contains (flat_map g xs) y
flat_at g [] j x y e h = absurd (none-some x e)
flat_at {A} {B} g (z ∷ xs) zero x y e h = Contains-append_left (g z) (flat_map g xs) y (subst (λ (w : A). Contains (g w) y) (sym (same_Some z x e)) h)
flat_at g (z ∷ xs) (suc j) x y e h = Contains-append_right (g z) (flat_map g xs) y (flat_at g xs j x y e h)

reached : (b x : Bool) → (if b then true else x) ≡ false → x ≡ false
reached true x h = absurd (true≢false h)
reached false x h = h

abbrev used : ℕ → Use
used k = record { value = k; end_of = None }

base_used : (b : Base) (k : ℕ) → b ≡ base.Value k → Contains (uses_of_base b) (used k)
base_used b k e = subst (λ (x : Base). Contains (uses_of_base x) (used k)) (sym e) (here (used k) [])

-- the uses of an instruction that is no phi
use_in : (b : Bool) (x y : List Use) (u : Use) → b ≡ false → Contains y u → Contains (if b then x else y) u
use_in true x y u e h = absurd (true≢false e)
use_in false x y u e h = h

module _ (program : SourceProgram) (accepted : IsAccepted program) (law : AtInstructions IsSound) (c : SourceProcessor) (h : IsTypedProcessor program.source c) (i : Inst) (s : Stands program accepted law c i) where
  abbrev m : Module
  m = program.source

  abbrev scope : FunctionScope
  scope = scope_of m s.function

  abbrev sound : IsSound program s.function (record { block = c.block; number = number_of_next program c; inst = i })
  sound = sound_here program accepted law c i s

  mixed_parts : ((list_any (is_mistyped scope) (operands_of i) ≡ false) × (is_mixed_inst scope i ≡ false))
  mixed_parts = or_parts (list_any (is_mistyped scope) (operands_of i)) (is_mixed_inst scope i) (or_parts (list_any (is_mistyped scope) (operands_of i) || is_mixed_inst scope i) (list_any (is_mixed_pointer scope) (pointers_of i)) sound.mixed).0

  pub is_not_mixed : is_mixed_inst scope i ≡ false
  is_not_mixed = mixed_parts.1

  pub operands_are_typed : list_any (is_mistyped scope) (operands_of i) ≡ false
  operands_are_typed = mixed_parts.0

  pub operand_at : (j : ℕ) (t : Ty) (v : Operand) → slice_get (operands_of i) j ≡ Some (t, v) → IsOf t (operand_of t v c.values)
  operand_at j t v e = operand_typed program accepted law c h i s t v (any_at (is_mistyped scope) (operands_of i) j (t, v) mixed_parts.0 e)

  kind_parts : (list_any is_other (types_of i) || is_bad_gep scope i ≡ false) × (list_any (is_bad_pointer scope) (pointers_of i) ≡ false)
  kind_parts = or_parts (list_any is_other (types_of i) || is_bad_gep scope i) (list_any (is_bad_pointer scope) (pointers_of i)) sound.kind

  pub types_are_whole : list_any is_other (types_of i) ≡ false
  types_are_whole = (or_parts (list_any is_other (types_of i)) (is_bad_gep scope i) kind_parts.0).0

  pub gep_is_good : is_bad_gep scope i ≡ false
  gep_is_good = (or_parts (list_any is_other (types_of i)) (is_bad_gep scope i) kind_parts.0).1

  pub gep_base_defined : is_phi i ≡ false → (b : Base) → further_uses i ≡ uses_of_base b → (k : ℕ) → b ≡ base.Value k → IsDefined s.function (record { block = c.block; number = number_of_next program c; inst = i }) (used k)
  gep_base_defined plain b further k e =
      let rest = flat_map (λ (o : Ty × Operand). uses_of o.1 None) (operands_of i) ++ flat_map (λ (a : Addr). uses_of_base a.base) (pointers_of i) in
      sound.defined (used k) (use_in (is_phi i) (phi_uses i) (further_uses i ++ rest) (used k) plain (Contains-append_left (further_uses i) rest (used k) (subst (λ (us : List Use). Contains us (used k)) (sym further) (base_used b k e))))

  base_defined : is_phi i ≡ false → (j : ℕ) (a : Addr) → slice_get (pointers_of i) j ≡ Some a → (k : ℕ) → a.base ≡ base.Value k → IsDefined s.function (record { block = c.block; number = number_of_next program c; inst = i }) (used k)
  base_defined plain j a e k is =
      let operands = flat_map (λ (o : Ty × Operand). uses_of o.1 None) (operands_of i) in
      let pointers = flat_map (λ (x : Addr). uses_of_base x.base) (pointers_of i) in
      sound.defined (used k) (use_in (is_phi i) (phi_uses i) (further_uses i ++ (operands ++ pointers)) (used k) plain
      (Contains-append_right (further_uses i) (operands ++ pointers) (used k) (Contains-append_right operands pointers (used k) (flat_at (λ (x : Addr). uses_of_base x.base) (pointers_of i) j a (used k) e (base_used a.base k is)))))

  inside_at : traps program c i ≡ false → (j : ℕ) (a : Addr) → slice_get (pointers_of i) j ≡ Some a → is_inside program c a ≡ true
  inside_at goes j a e = is_true (is_inside program c a) (any_at (λ (x : Addr). not (is_inside program c x)) (pointers_of i) j a (reached (is_unreachable i) (list_any (λ (x : Addr). not (is_inside program c x)) (pointers_of i)) goes) e)

  -- an access of the element's type, and an element of a size
  pub element_at : traps program c i ≡ false → is_phi i ≡ false → (j : ℕ) (t : Ty) (a : Addr) → slice_get (pointers_of i) j ≡ Some a → is_mixed_access scope t a ≡ false → t ≡ elem_of m c.function (pointer_of m a c).object
  element_at goes plain j t a e mixed =
      element_is program accepted law c h i s t a (any_at (is_bad_pointer scope) (pointers_of i) j a kind_parts.1 e) (base_defined plain j a e) (inside_at goes j a e) mixed

  pub size_at : traps program c i ≡ false → is_phi i ≡ false → (j size : ℕ) (a : Addr) → slice_get (pointers_of i) j ≡ Some a → not (is_element_of size (extent_of scope (origin_of scope a.base))) ≡ false → type_bytes (elem_of m c.function (pointer_of m a c).object) ≡ size
  size_at goes plain j size a e mixed =
      size_is program accepted law c h i s size a (any_at (is_bad_pointer scope) (pointers_of i) j a kind_parts.1 e) (base_defined plain j a e) (inside_at goes j a e) mixed

  -- ---- its result
  pub result_is : (v : SourceValue) → IsResultOf (outcome_of i) (number_of_next program c) v → IsResultOf (outcome_in m c.function (number_of_next program c)) (number_of_next program c) v
  result_is v is = subst (λ (o : Outcome). IsResultOf o (number_of_next program c) v) (sym s.outcome) is

  pub at_other : (IsAllocaOutcome (outcome_of i) → ⊥) → IsAtOther m c (number_of_next program c)
  at_other never = record { entry = s.entry; other = λ a. never (subst (λ (o : Outcome). IsAllocaOutcome o) s.outcome a) }
