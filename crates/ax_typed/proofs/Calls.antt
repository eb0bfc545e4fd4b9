-- Calls of libatomic's routines, with numbers of their objects' types.
use Rattle.std.proofs.Common.{◌≡◌, ℕ, zero, suc, ◌*◌, ◌<◌, ◌^◌, Bool, true, false, not, List, [], ◌∷◌, map, Option, Some, None, refl, sym, ap, ◌∙◌, subst, flat_map, slice_get}
use Rattle.std.specs.Prelude.{if◌then◌else◌, nat_lt}
use Rattle.std.specs.List.{list_any}
use Rattle.std.specs.Cmp.Lexicographic.{pointwise}
use Rattle.std.proofs.lemmas.Bool.{and_parts, or_parts, true≢false, false≢true}
use Rattle.std.proofs.lemmas.List.Folds.{list_any-append}
use Rattle.std.proofs.lemmas.Nat.{pow_pos}
use Rattle.std.proofs.lemmas.Option.{none-some, same_Some}
use Rattle.ax_module.specs.declared.inst.Inst.{Inst}
use Rattle.ax_module.specs.declared.inst.Inst.TheVariants as inst
use Rattle.ax_module.specs.declared.module.Module.{Module}
use Rattle.ax_module.specs.declared.operand.Addr.{Addr}
use Rattle.ax_module.specs.declared.operand.Arg.{Arg}
use Rattle.ax_module.specs.declared.operand.Arg.TheVariants as arg
use Rattle.ax_module.specs.declared.types.Ty.{Ty}
use Rattle.ax_module.specs.declared.types.Ty.TheVariants.{I1, I8, I16, I32, I64, I128, Ptr}
use Rattle.ax_module.specs.Kinds.{is_phi}
use Rattle.ax_module.specs.Types.{type_bytes}
use Rattle.ax_words.specs.declared.operation.RmwOp.TheVariants as rmw
use Rattle.ax_words.specs.declared.routine.RoutineName.{RoutineName}
use Rattle.ax_words.specs.Routine as routines
use Rattle.ax_source_run.specs.SourceAccess.{Access, ObjectOperation, Reads, Writes, Updates, Compares, Reply, Silent, Found, Into, EqualOrInto, accessed}
use Rattle.ax_source_run.specs.SourceCalls.{RoutineKind, SizedLoad, SizedStore, SizedUpdate, SizedCompare, GenericLoad, GenericStore, GenericExchange, GenericCompare, IsLockFree, call, call_of, content_at, content_of, kind_of, number_at, number_of_arg, pointer_at, pointer_of_arg}
use Rattle.ax_source_run.specs.SourceEvent.{number_of_next}
use Rattle.ax_source_run.specs.SourceInstructions.{done_by, lock_free_at, lock_free_result, pointers_of, pointers_of_arg, routine_access, routine_result, traps}
use Rattle.ax_source_run.specs.SourcePointers.{pointer_of}
use Rattle.ax_source_run.specs.SourceState.{Object, Shared, Private, Pointer, SourceProcessor, SourceProgram, Number}
use Rattle.ax_source_run.specs.SourceValues.{number_of_flag, operand_of, type_bits}
use Rattle.ax_rules.specs.declared.facts.Outcome.{Outcome}
use Rattle.ax_rules.specs.declared.facts.Outcome.TheVariants as outcome
use Rattle.ax_rules.specs.declared.facts.FunctionScope.{FunctionScope}
use Rattle.ax_rules.specs.Facts.{call_outcome, extent_of, origin_of, outcome_of, scope_of}
use Rattle.ax_rules.specs.Kind.{is_other}
use Rattle.ax_access_rules.specs.Mixed.{is_element_of, is_mistyped, is_mixed_call, is_mixed_inst, is_mixed_size, is_sized, size_by, size_of}
use Rattle.ax_rules.specs.Parts.{arg_operands, arg_types, operands_of, result_types, same_type, types_of}
use Rattle.ax_rules.specs.Signatures.{arg_type, argument_types, called, called_if, fits_routine, is_some_routine, result_type, same_result, shape_of, shape_of_kind, sized_type, type_of_routine}
use Rattle.ax_check.specs.Accepted.{IsAccepted}
use Rattle.ax_check.specs.Laws.{AtInstructions, AtPoints, IsSound}
use Rattle.ax_access_rules.specs.RulesAtPoints.{has_width}
use Rattle.ax_typed.specs.Typed.{AreTyped, IsAllocaOutcome, IsOf, IsResultOf, IsTypedProcessor, elem_of, outcome_in}
use Rattle.ax_typed.proofs.Accesses.{AccessIs, DeedIs, access_typed}
use Rattle.ax_typed.proofs.Facts.{any_at, at_other, is_not_mixed, operands_are_typed, result_is, size_at, types_are_whole}
use Rattle.ax_typed.proofs.Objects.{gets_typed}
use Rattle.ax_typed.proofs.Pointers.{operand_typed}
use Rattle.ax_typed.proofs.Sizes.{bits_are_bytes}
use Rattle.ax_typed.proofs.Standing.{Stands}
use Rattle.ax_typed.proofs.Types.{ResultsFit, flag_fits, same_types}

-- ---- arguments by their places
any_flat : {A B : Type 0} (p : B → Bool) (g : A → List B) (xs : List A) (j : ℕ) (x : A) → list_any p (flat_map g xs) ≡ false → slice_get xs j ≡ Some x → list_any p (g x) ≡ false
any_flat p g [] j x h e = absurd (none-some x e)
any_flat {A} {B} p g (y ∷ xs) zero x h e =
    subst (λ (w : A). list_any p (g w) ≡ false) (same_Some y x e) (or_parts (list_any p (g y)) (list_any p (flat_map g xs)) (sym (list_any-append p (g y) (flat_map g xs)) ∙ h)).0
any_flat p g (y ∷ xs) (suc j) x h e =
    any_flat p g xs j x (or_parts (list_any p (g y)) (list_any p (flat_map g xs)) (sym (list_any-append p (g y) (flat_map g xs)) ∙ h)).1 e

-- a pointer argument is among the pointers
pub pointer_index : (args : List Arg) (j : ℕ) (a : Addr) → slice_get args j ≡ Some (arg.Pointer a) → (q : ℕ) × (slice_get (flat_map pointers_of_arg args) q ≡ Some a)
pointer_index [] j a e = absurd (none-some (arg.Pointer a) e)
pointer_index (arg.Pointer b ∷ args) zero a e = (0, ap (λ (x : Arg). slice_get (flat_map pointers_of_arg (x ∷ args)) 0) (same_Some (arg.Pointer b) (arg.Pointer a) e))
pointer_index (arg.Value t v ∷ args) zero a e = absurd (let s = same_Some (arg.Value t v) (arg.Pointer a) e in cc)
pointer_index (arg.Pointer b ∷ args) (suc j) a e = let r = pointer_index args j a e in (suc r.0, r.1)
pointer_index (arg.Value t v ∷ args) (suc j) a e = pointer_index args j a e

record IsArg (args : List Arg) (j : ℕ) (t : Ty) : Type 0 where
  pub arg : Arg
  pub here : slice_get args j ≡ Some arg
  pub type : t ≡ arg_type arg

arg_at : (types : List Ty) (args : List Arg) (j : ℕ) (t : Ty) → pointwise same_type types (map arg_type args) ≡ true → slice_get types j ≡ Some t → IsArg args j t
arg_at [] args j t h e = absurd (none-some t e)
arg_at (u ∷ types) [] j t h e = absurd (false≢true h)
arg_at (u ∷ types) (a ∷ args) zero t h e =
    let parts = and_parts (same_type u (arg_type a)) (pointwise same_type types (map arg_type args)) h in
    record { arg = a; here = refl; type = sym (same_Some u t e) ∙ same_types u (arg_type a) parts.0 }
arg_at (u ∷ types) (a ∷ args) (suc j) t h e =
    let parts = and_parts (same_type u (arg_type a)) (pointwise same_type types (map arg_type args)) h in
    let r = arg_at types args j t parts.1 e in
    record { arg = r.arg; here = r.here; type = r.type }

pointer_is : (a : Arg) → Ptr ≡ arg_type a → list_any is_other (arg_types a) ≡ false → (addr : Addr) × (a ≡ arg.Pointer addr)
pointer_is (arg.Pointer addr) e h = (addr, refl)
pointer_is (arg.Value t v) e h = absurd (true≢false (subst (λ (u : Ty). list_any is_other (u ∷ []) ≡ false) (sym e) h))

result_some : (t : Ty) (result : Option Ty) → same_result (Some t) result ≡ true → call_outcome result ≡ outcome.Number t
result_some t None h = absurd (false≢true h)
result_some t (Some u) h = ap outcome.Number (sym (same_types t u h))

-- the size of a call
sized_by : (scope : FunctionScope) (o : Option ℕ) (pointers : List Addr) → is_mixed_size scope o pointers ≡ false → (size : ℕ) × (o ≡ Some size) × (list_any (λ (a : Addr). not (is_element_of size (extent_of scope (origin_of scope a.base)))) pointers ≡ false)
sized_by scope None pointers h = absurd (true≢false h)
sized_by scope (Some n) pointers h = (n, refl, h)

-- the routine that a call names, which it fits
either : (b : Bool) (t u : Ty) → type_bits t ≡ 8 * type_bytes t → type_bits u ≡ 8 * type_bytes u → type_bits (if b then t else u) ≡ 8 * type_bytes (if b then t else u)
either true t u p q = p
either false t u p q = q

-- the type of a routine's size has whole bytes
sized_bits : (n : ℕ) → type_bits (sized_type n) ≡ 8 * type_bytes (sized_type n)
sized_bits n =
    let wide : Ty = if nat_lt n 40 then I64 else I128 in
    let words : Ty = if nat_lt n 30 then I32 else wide in
    let halves : Ty = if nat_lt n 20 then I16 else words in
    either (nat_lt n 10) I8 halves refl (either (nat_lt n 20) I16 words refl (either (nat_lt n 30) I32 wide refl (either (nat_lt n 40) I64 I128 refl refl)))

routine_bits : (r : RoutineName) → type_bits (type_of_routine r) ≡ 8 * type_bytes (type_of_routine r)
unfolding type_of_routine
routine_bits r = sized_bits (routines.number_of r)

pub record IsCallOf (routine : RoutineName) (t : Option Ty) (name : List ℕ) (args : List Arg) : Type 0 where
  pub named : routines.routine_named name ≡ Some routine
  pub result : same_result (result_type (shape_of_kind (kind_of routine)) (type_of_routine routine)) t ≡ true
  pub types : pointwise same_type (argument_types (shape_of_kind (kind_of routine)) (type_of_routine routine)) (map arg_type args) ≡ true
  pub called : called t name args ≡ Some routine

fitting : (b : Bool) (r : RoutineName) → not (is_some_routine (if b then Some r else None)) ≡ false → b ≡ true
fitting true r h = refl
fitting false r h = absurd (true≢false h)

call_by : (o : Option RoutineName) (t : Option Ty) (name : List ℕ) (args : List Arg) → routines.routine_named name ≡ o → not (is_some_routine (called_if o t args)) ≡ false → (r : RoutineName) × IsCallOf r t name args
unfolding shape_of
call_by None t name args e h = absurd (true≢false h)
call_by (Some r) t name args e h =
    let fits_it = fitting (fits_routine r t args) r h in
    let parts = and_parts (same_result (result_type (shape_of_kind (kind_of r)) (type_of_routine r)) t) (pointwise same_type (argument_types (shape_of_kind (kind_of r)) (type_of_routine r)) (map arg_type args)) fits_it in
    (r, record { named = e; result = parts.0; types = parts.1; called = ap (λ (o : Option RoutineName). called_if o t args) e ∙ ap (λ (b : Bool). if b then Some r else None) fits_it })

pub call_is : (t : Option Ty) (name : List ℕ) (args : List Arg) → not (is_some_routine (called t name args)) ≡ false → (r : RoutineName) × IsCallOf r t name args
call_is t name args h = call_by (routines.routine_named name) t name args refl h

module _ (program : SourceProgram) (accepted : IsAccepted program) (law : AtInstructions IsSound) (widths : AtPoints (λ m t p. has_width m p ≡ false)) (fit : ResultsFit) (c : SourceProcessor) (h : IsTypedProcessor program.source c) (result : Option Ty) (name : List ℕ) (args : List Arg) (s : Stands program accepted law c (inst.Call result name args)) (goes : traps program c (inst.Call result name args) ≡ false) (routine : RoutineName) (is : IsCallOf routine result name args) where
  abbrev m : Module
  m = program.source

  abbrev k : ℕ
  k = number_of_next program c

  abbrev i : Inst
  i = inst.Call result name args

  abbrev ty : Ty
  ty = type_of_routine routine

  args_are_whole : list_any is_other (flat_map arg_types args) ≡ false
  unfolding types_of
  args_are_whole = (or_parts (list_any is_other (result_types result)) (list_any is_other (flat_map arg_types args)) (sym (list_any-append is_other (result_types result) (flat_map arg_types args)) ∙ types_are_whole program accepted law c h i s)).1

  args_are_typed : list_any (is_mistyped (scope_of m s.function)) (flat_map arg_operands args) ≡ false
  unfolding operands_of
  args_are_typed = operands_are_typed program accepted law c h i s

  mixed : is_mixed_size (scope_of m s.function) (size_of routine args) (flat_map pointers_of_arg args) ≡ false
  unfolding is_mixed_inst pointers_of
  mixed = subst (λ (o : Option RoutineName). is_mixed_call (scope_of m s.function) o args (flat_map pointers_of_arg args) ≡ false) is.called (is_not_mixed program accepted law c h i s)

  abbrev sized : (size : ℕ) × (size_of routine args ≡ Some size) × (list_any (λ (a : Addr). not (is_element_of size (extent_of (scope_of m s.function) (origin_of (scope_of m s.function) a.base)))) (flat_map pointers_of_arg args) ≡ false)
  sized = sized_by (scope_of m s.function) (size_of routine args) (flat_map pointers_of_arg args) mixed

  abbrev size : ℕ
  size = sized.0

  no_alloca : IsAllocaOutcome (outcome_of i) → ⊥
  unfolding outcome_of
  no_alloca = by result
    where
      by : (t : Option Ty) → IsAllocaOutcome (call_outcome t) → ⊥
      by None a = a
      by (Some t) a = a

  no_phi : is_phi i ≡ false
  unfolding is_phi
  no_phi = refl

  -- the elements of a pointer argument have the call's size
  has_size : (j : ℕ) (a : Addr) → slice_get args j ≡ Some (arg.Pointer a) → type_bits (elem_of m c.function (pointer_of m a c).object) ≡ 8 * size
  unfolding pointers_of
  has_size j a e =
      let q = pointer_index args j a e in
      let o = (pointer_of m a c).object in
      bits_are_bytes program accepted law widths c.function s.function s.at o
      ∙ ap (λ (n : ℕ). 8 * n) (size_at program accepted law c h i s goes no_phi q.0 size a q.1 (any_at (λ (x : Addr). not (is_element_of size (extent_of (scope_of m s.function) (origin_of (scope_of m s.function) x.base)))) (flat_map pointers_of_arg args) q.0 a sized.2 q.1))

  abbrev kind : RoutineKind
  kind = kind_of routine

  abbrev types : List Ty
  types = argument_types (shape_of_kind kind) ty

  abbrev pointed_at : ℕ → Object
  pointed_at j = (pointer_at program c args j).object

  abbrev E : ℕ → Ty
  E j = elem_of m c.function (pointed_at j)

  pointer_bits : (j : ℕ) → slice_get types j ≡ Some Ptr → type_bits (E j) ≡ 8 * size
  pointer_bits j e =
      let r = arg_at types args j Ptr is.types e in
      let a = pointer_is r.arg r.type (any_flat is_other arg_types args j r.arg args_are_whole r.here) in
      let here : slice_get args j ≡ Some (arg.Pointer a.0) = r.here ∙ ap Some a.1 in
      subst (λ (o : Option Arg). type_bits (elem_of m c.function (pointer_of_arg program c o).object) ≡ 8 * size) (sym here) (has_size j a.0 here)

  -- a number of the size is one of the elements of each pointer
  moved : (j q n : ℕ) → slice_get types j ≡ Some Ptr → slice_get types q ≡ Some Ptr → IsOf (E j) n → IsOf (E q) n
  moved j q n e f x = subst (λ (b : ℕ). n < 2 ^ b) (pointer_bits j e ∙ sym (pointer_bits q f)) x

  content_is : (o : Object) (x : ℕ) → IsOf (elem_of m c.function o) (content_of program c o x)
  content_is (Private r) x = h.allocas r x
  content_is (Shared g) x = pow_pos (type_bits (elem_of m c.function (Shared g)))

  content_typed : (j q : ℕ) → slice_get types j ≡ Some Ptr → slice_get types q ≡ Some Ptr → IsOf (E q) (content_at program c args j)
  content_typed j q e f = moved j q (content_at program c args j) e f (content_is (pointed_at j) (pointer_at program c args j).index)

  value_is : (t : Ty) (a : Arg) → t ≡ arg_type a → list_any (is_mistyped (scope_of m s.function)) (arg_operands a) ≡ false → IsOf t (number_of_arg program c (Some a))
  value_is t (arg.Pointer a) e x = pow_pos (type_bits t)
  value_is t (arg.Value u v) e x = subst (λ (w : Ty). IsOf w (operand_of u v c.values)) (sym e) (operand_typed program accepted law c h i s u v (or_parts (is_mistyped (scope_of m s.function) (u, v)) false x).0)

  number_is : (j : ℕ) (t : Ty) → slice_get types j ≡ Some t → IsOf t (number_at program c args j)
  number_is j t e =
      let r = arg_at types args j t is.types e in
      subst (λ (o : Option Arg). IsOf t (number_of_arg program c o)) (sym r.here) (value_is t r.arg r.type (any_flat (is_mistyped (scope_of m s.function)) arg_operands args j r.arg args_are_typed r.here))

  outcome_some : (t : Ty) → result_type (shape_of_kind kind) ty ≡ Some t → outcome_of i ≡ outcome.Number t
  unfolding outcome_of
  outcome_some t e = result_some t result (subst (λ (o : Option Ty). same_result o result ≡ true) e is.result)

  result_typed : (t : Ty) (n : ℕ) → result_type (shape_of_kind kind) ty ≡ Some t → IsOf t n → IsResultOf (outcome_in m c.function k) k (Number n)
  result_typed t n e x = result_is program accepted law c h i s (Number n) (subst (λ (o : Outcome). IsResultOf o k (Number n)) (sym (outcome_some t e)) x)

  -- ---- by the routine's kind
  type_at : (x : RoutineKind) → kind ≡ x → (j : ℕ) (t : Ty) → slice_get (argument_types (shape_of_kind x) ty) j ≡ Some t → slice_get types j ≡ Some t
  type_at x e j t p = ap (λ (y : RoutineKind). slice_get (argument_types (shape_of_kind y) ty) j) e ∙ p

  result_at : (x : RoutineKind) → kind ≡ x → (t : Ty) → result_type (shape_of_kind x) ty ≡ Some t → result_type (shape_of_kind kind) ty ≡ Some t
  result_at x e t p = ap (λ (y : RoutineKind). result_type (shape_of_kind y) ty) e ∙ p

  ty_bits : type_bits ty ≡ 8 * type_bytes ty
  ty_bits = routine_bits routine

  own_size : is_sized (shape_of_kind kind) ≡ true → size ≡ type_bytes ty
  unfolding shape_of
  own_size e = sym (same_Some (type_bytes ty) size (ap (λ (b : Bool). size_by b ty args) (sym e) ∙ sized.1))

  element_bits : (x : RoutineKind) → kind ≡ x → is_sized (shape_of_kind x) ≡ true → (j : ℕ) → slice_get types j ≡ Some Ptr → type_bits (E j) ≡ type_bits ty
  element_bits x e p j at = pointer_bits j at ∙ ap (λ (n : ℕ). 8 * n) (own_size (ap (λ (y : RoutineKind). is_sized (shape_of_kind y)) e ∙ p)) ∙ sym ty_bits

  abbrev Holds : RoutineKind → Type 0
  Holds x = (numbers : ℕ → ℕ → ℕ) → AreTyped m numbers → DeedIs m (done_by program c (call_of program c x args) (lock_free_result program c x (pointer_at program c args 1)) k numbers)

  accesses : (a : Access) → AccessIs m c.function k a → (numbers : ℕ → ℕ → ℕ) → AreTyped m numbers → DeedIs m (accessed program a k c numbers)
  accesses a is numbers typed = access_typed program fit c h numbers typed k a (at_other program accepted law c h i s no_alloca) is

  module _ (x : RoutineKind) (e : kind ≡ x) where
    module _ (own : is_sized (shape_of_kind x) ≡ true) (first : slice_get (argument_types (shape_of_kind x) ty) 0 ≡ Some Ptr) where
      abbrev object_at : slice_get types 0 ≡ Some Ptr
      object_at = type_at x e 0 Ptr first

      pub to_ty : (n : ℕ) → IsOf (E 0) n → IsOf ty n
      to_ty n y = subst (λ (b : ℕ). n < 2 ^ b) (element_bits x e own 0 object_at) y

      pub from_ty : (n : ℕ) → IsOf ty n → IsOf (E 0) n
      from_ty n y = subst (λ (b : ℕ). n < 2 ^ b) (sym (element_bits x e own 0 object_at)) y

      pub found_is : result_type (shape_of_kind x) ty ≡ Some ty → (n : ℕ) → IsOf (E 0) n → IsResultOf (outcome_in m c.function k) k (Number n)
      found_is r n y = result_typed ty n (result_at x e ty r) (to_ty n y)

    pub into_is : (j q : ℕ) → slice_get (argument_types (shape_of_kind x) ty) j ≡ Some Ptr → slice_get (argument_types (shape_of_kind x) ty) q ≡ Some Ptr → (n : ℕ) → IsOf (E j) n → IsOf (E q) n
    into_is j q at to n y = moved j q n (type_at x e j Ptr at) (type_at x e q Ptr to) y

    pub taken_is : (j q : ℕ) → slice_get (argument_types (shape_of_kind x) ty) j ≡ Some Ptr → slice_get (argument_types (shape_of_kind x) ty) q ≡ Some Ptr → IsOf (E q) (content_at program c args j)
    taken_is j q at to = content_typed j q (type_at x e j Ptr at) (type_at x e q Ptr to)

    pub equal_is : result_type (shape_of_kind x) ty ≡ Some I1 → (n : ℕ) → n < 2 → IsResultOf (outcome_in m c.function k) k (Number n)
    equal_is r n y = result_typed I1 n (result_at x e I1 r) y

    pub given_is : (j : ℕ) → slice_get (argument_types (shape_of_kind x) ty) j ≡ Some ty → IsOf ty (number_at program c args j)
    given_is j at = number_is j ty (type_at x e j ty at)

  abbrev at : ℕ → ObjectOperation → Reply → Access
  at j operation reply = call program c (pointer_at program c args j) operation reply

  abbrev number : ℕ → ℕ
  number j = number_at program c args j

  abbrev content : ℕ → ℕ
  content j = content_at program c args j

  abbrev into : ℕ → Pointer
  into j = pointer_at program c args j

  abbrev lock_free_flag : ℕ
  lock_free_flag = number_of_flag (lock_free_at program c (into 1).object (into 1).index)

  kind_typed : (x : RoutineKind) → kind ≡ x → Holds x
  kind_typed SizedLoad e = accesses (at 0 Reads Found) (record { operation = tt; reply = found_is SizedLoad e refl refl refl })
  kind_typed SizedStore e = accesses (at 0 (Writes (number 1)) Silent) (record { operation = from_ty SizedStore e refl refl (number 1) (given_is SizedStore e 1 refl); reply = tt })
  kind_typed (SizedUpdate op) e = accesses (at 0 (Updates op (number 1)) Found) (record { operation = from_ty (SizedUpdate op) e refl refl (number 1) (given_is (SizedUpdate op) e 1 refl); reply = found_is (SizedUpdate op) e refl refl refl })
  kind_typed SizedCompare e = accesses (at 0 (Compares (content 1) (number 2)) (EqualOrInto (into 1))) (record {
    operation = from_ty SizedCompare e refl refl (number 2) (given_is SizedCompare e 2 refl);
    reply = (into_is SizedCompare e 0 1 refl refl, equal_is SizedCompare e refl);
  })
  kind_typed GenericLoad e = accesses (at 1 Reads (Into (into 2))) (record { operation = tt; reply = into_is GenericLoad e 1 2 refl refl })
  kind_typed GenericStore e = accesses (at 1 (Writes (content 2)) Silent) (record { operation = taken_is GenericStore e 2 1 refl refl; reply = tt })
  kind_typed GenericExchange e = accesses (at 1 (Updates rmw.Xchg (content 2)) (Into (into 3))) (record { operation = taken_is GenericExchange e 2 1 refl refl; reply = into_is GenericExchange e 1 3 refl refl })
  kind_typed GenericCompare e = accesses (at 1 (Compares (content 2) (content 3)) (EqualOrInto (into 2))) (record {
    operation = taken_is GenericCompare e 3 1 refl refl;
    reply = (into_is GenericCompare e 1 2 refl refl, equal_is GenericCompare e refl);
  })
  kind_typed IsLockFree e = λ numbers typed. record {
    numbers = typed;
    processor = gets_typed m c k (Number (lock_free_flag)) (at_other program accepted law c h i s no_alloca) (equal_is IsLockFree e refl lock_free_flag (flag_fits (lock_free_at program c (into 1).object (into 1).index))) h;
    output = tt;
  }

  pub call_typed : (numbers : ℕ → ℕ → ℕ) → AreTyped m numbers → DeedIs m (done_by program c (routine_access program c (routines.routine_named name) args) (routine_result program c (routines.routine_named name) args) k numbers)
  call_typed numbers typed =
      subst (λ (o : Option RoutineName). DeedIs m (done_by program c (routine_access program c o args) (routine_result program c o args) k numbers)) (sym is.named) (kind_typed kind refl numbers typed)
