-- An instruction that breaks neither N1, N2 nor N4 has types that a machine can run, and pointers where a routine needs them.
use Rattle.std.proofs.Common.{◌≡◌, ℕ, zero, suc, ◌+◌, Bool, true, false, not, ◌⊎◌, inl, inr, if◌then◌else◌, List, [], ◌∷◌, ◌++◌, map, Option, Some, None, refl, sym, ap, ◌∙◌, subst, arith, codes, slice_get, flat_map, nat_eq}
use Rattle.std.specs.List.{list_all, list_any}
use Rattle.std.specs.Cmp.Lexicographic.{pointwise}
use Rattle.std.proofs.lemmas.Bool.{and_from, and_parts, eqb-true, or_parts, true≢false, false≢true}
use Rattle.std.proofs.lemmas.List.Folds.{list_any-append}
use Rattle.ax_module.specs.declared.inst.Inst.{Inst}
use Rattle.ax_module.specs.declared.inst.Inst.TheVariants as inst
use Rattle.ax_module.specs.declared.operand.Arg.{Arg}
use Rattle.ax_module.specs.declared.operand.Arg.TheVariants as arg
use Rattle.ax_module.specs.declared.operand.Operand.{Operand}
use Rattle.ax_module.specs.declared.types.Ty.{Ty}
use Rattle.ax_module.specs.declared.types.Ty.TheVariants.{I1, I8, I16, I32, I64, I128, Int, Float, Double, Ptr, Vector}
use Rattle.ax_words.specs.declared.routine.RoutineName.{RoutineName}
use Rattle.ax_words.specs.Routine.{name_of, routine_named}
use Rattle.ax_source_run.specs.SourceCalls.{RoutineKind, SizedLoad, SizedStore, SizedUpdate, SizedCompare, GenericLoad, GenericStore, GenericExchange, GenericCompare, IsLockFree, kind_of}
use Rattle.ax_source_run.specs.SourceInstructions.{is_out}
use Rattle.ax_rules.specs.Kind.{is_other}
use Rattle.ax_rules.specs.Parts.{arg_types, result_types, same_type, step_types, types_of}
use Rattle.ax_rules.specs.Signatures.{arg_type, argument_types, called_if, fits_out, fits_routine, is_some_routine, result_type, same_result, shape_of, shape_of_kind, type_of_routine, user_call}
use Rattle.ax_rules.specs.Width.{is_odd}
use Rattle.ax_source.specs.Calls.{has_pointers, is_pointer, is_pointer_at, routine_has_pointers}
use Rattle.ax_source.specs.Runnable.{is_narrow_arg, is_narrow_inst, is_narrow_step}
use Rattle.ax_cells.specs.Narrow.{is_narrow}

-- ---- types
pub narrow_type : (t : Ty) → is_odd t ≡ false → is_narrow t ≡ true
narrow_type (Int bits) h = absurd (true≢false h)
narrow_type _ h = refl

narrow_first : (t : Ty) (ts : List Ty) → list_any is_odd (t ∷ ts) ≡ false → is_narrow t ≡ true
narrow_first t ts h = narrow_type t (or_parts (is_odd t) (list_any is_odd ts) h).0

rest_is_named : (t : Ty) (ts : List Ty) → list_any is_odd (t ∷ ts) ≡ false → list_any is_odd ts ≡ false
rest_is_named t ts h = (or_parts (is_odd t) (list_any is_odd ts) h).1

narrow_second : (t u : Ty) (ts : List Ty) → list_any is_odd (t ∷ u ∷ ts) ≡ false → is_narrow u ≡ true
narrow_second t u ts h = narrow_first u ts (rest_is_named t (u ∷ ts) h)

narrow_step : (s : Option (Ty × ℕ × Ty × Operand)) → list_any is_odd (step_types s) ≡ false → is_narrow_step s ≡ true
narrow_step None h = refl
narrow_step (Some s) h = narrow_second s.0 s.2 [] h

narrow_arg : (a : Arg) → list_any is_odd (arg_types a) ≡ false → is_narrow_arg a ≡ true
narrow_arg (arg.Pointer addr) h = narrow_step addr.step h
narrow_arg (arg.Value t v) h = narrow_first t [] h

split : (p : Ty → Bool) (ts us : List Ty) → list_any p (ts ++ us) ≡ false → (list_any p ts ≡ false) × (list_any p us ≡ false)
split p ts us h = or_parts (list_any p ts) (list_any p us) (sym (list_any-append p ts us) ∙ h)

narrow_args : (args : List Arg) → list_any is_odd (flat_map arg_types args) ≡ false → list_all is_narrow_arg args ≡ true
narrow_args [] h = refl
narrow_args (a ∷ args) h =
    let parts = split is_odd (arg_types a) (flat_map arg_types args) h in
    and_from _ _ (narrow_arg a parts.0) (narrow_args args parts.1)

-- ---- pointers: an argument where the signature has `ptr`
pointer_here : (a : Arg) → same_type Ptr (arg_type a) ≡ true → list_any is_other (arg_types a) ≡ false → is_pointer (Some a) ≡ true
pointer_here (arg.Pointer addr) h o = refl
pointer_here (arg.Value I1 v) h o = absurd (false≢true h)
pointer_here (arg.Value I8 v) h o = absurd (false≢true h)
pointer_here (arg.Value I16 v) h o = absurd (false≢true h)
pointer_here (arg.Value I32 v) h o = absurd (false≢true h)
pointer_here (arg.Value I64 v) h o = absurd (false≢true h)
pointer_here (arg.Value I128 v) h o = absurd (false≢true h)
pointer_here (arg.Value (Int bits) v) h o = let e = eqb-true 8 (10 + bits) h in absurd (omega (arith, e))
pointer_here (arg.Value Float v) h o = absurd (true≢false o)
pointer_here (arg.Value Double v) h o = absurd (true≢false o)
pointer_here (arg.Value Ptr v) h o = absurd (true≢false o)
pointer_here (arg.Value Vector v) h o = absurd (true≢false o)

pointer_at : (types : List Ty) (args : List Arg) (k : ℕ) → slice_get types k ≡ Some Ptr → pointwise same_type types (map arg_type args) ≡ true → list_any is_other (flat_map arg_types args) ≡ false → is_pointer_at args k ≡ true
pointer_at [] args k e h o = cc
pointer_at (t ∷ types) [] k e h o = absurd (false≢true h)
pointer_at (t ∷ types) (a ∷ args) zero e h o =
    let same : t ≡ Ptr = cc in
    let parts = and_parts (same_type t (arg_type a)) (pointwise same_type types (map arg_type args)) h in
    pointer_here a (subst (λ (u : Ty). same_type u (arg_type a) ≡ true) same parts.0) (split is_other (arg_types a) (flat_map arg_types args) o).0
pointer_at (t ∷ types) (a ∷ args) (suc k) e h o =
    let parts = and_parts (same_type t (arg_type a)) (pointwise same_type types (map arg_type args)) h in
    pointer_at types args k e parts.1 (split is_other (arg_types a) (flat_map arg_types args) o).1

-- a routine's arguments have the types of its signature
abbrev Fits : RoutineKind → Ty → List Arg → Type 0
Fits kind t args = pointwise same_type (argument_types (shape_of_kind kind) t) (map arg_type args) ≡ true

of_kind : (kind : RoutineKind) (t : Ty) (args : List Arg) (k : ℕ) → slice_get (argument_types (shape_of_kind kind) t) k ≡ Some Ptr → Fits kind t args → list_any is_other (flat_map arg_types args) ≡ false → is_pointer_at args k ≡ true
of_kind kind t args k e h o = pointer_at (argument_types (shape_of_kind kind) t) args k e h o

pointers_of_kind : (kind : RoutineKind) (t : Ty) (args : List Arg) → Fits kind t args → list_any is_other (flat_map arg_types args) ≡ false → has_pointers kind args ≡ true
pointers_of_kind SizedLoad t args h o = of_kind SizedLoad t args 0 refl h o
pointers_of_kind SizedStore t args h o = of_kind SizedStore t args 0 refl h o
pointers_of_kind (SizedUpdate op) t args h o = of_kind (SizedUpdate op) t args 0 refl h o
pointers_of_kind SizedCompare t args h o = and_from _ _ (of_kind SizedCompare t args 0 refl h o) (of_kind SizedCompare t args 1 refl h o)
pointers_of_kind GenericLoad t args h o = and_from _ _ (of_kind GenericLoad t args 1 refl h o) (of_kind GenericLoad t args 2 refl h o)
pointers_of_kind GenericStore t args h o = of_kind GenericStore t args 1 refl h o
pointers_of_kind GenericExchange t args h o = and_from _ _ (of_kind GenericExchange t args 1 refl h o) (of_kind GenericExchange t args 3 refl h o)
pointers_of_kind GenericCompare t args h o = and_from _ _ (of_kind GenericCompare t args 1 refl h o) (of_kind GenericCompare t args 2 refl h o)
pointers_of_kind IsLockFree t args h o = of_kind IsLockFree t args 1 refl h o

pointers_of_routine : (r : RoutineName) (t : Option Ty) (args : List Arg) → fits_routine r t args ≡ true → list_any is_other (flat_map arg_types args) ≡ false → has_pointers (kind_of r) args ≡ true
unfolding shape_of
pointers_of_routine r t args h o =
    pointers_of_kind (kind_of r) (type_of_routine r) args (and_parts (same_result (result_type (shape_of_kind (kind_of r)) (type_of_routine r)) t) _ h).1 o

is_fitting : (fits : Bool) (r : RoutineName) → not (is_some_routine (if fits then Some r else None)) ≡ false → fits ≡ true
is_fitting true r h = refl
is_fitting false r h = absurd (true≢false h)

pointers_of_named : (named : Option RoutineName) (t : Option Ty) (args : List Arg) → not (is_some_routine (called_if named t args)) ≡ false → list_any is_other (flat_map arg_types args) ≡ false → routine_has_pointers named args ≡ true
pointers_of_named None t args h o = refl
pointers_of_named (Some r) t args h o = pointers_of_routine r t args (is_fitting (fits_routine r t args) r h) o

same_text : (xs ys : List ℕ) → pointwise nat_eq xs ys ≡ true → xs ≡ ys
same_text [] [] h = refl
same_text [] (y ∷ ys) h = absurd (false≢true h)
same_text (x ∷ xs) [] h = absurd (false≢true h)
same_text (x ∷ xs) (y ∷ ys) h =
    let parts = and_parts (nat_eq x y) (pointwise nat_eq xs ys) h in
    ap (λ n. n ∷ xs) (eqb-true x y parts.0) ∙ ap (λ ns. y ∷ ns) (same_text xs ys parts.1)

-- `@out` is no routine
out_is_no_routine : routine_named (codes "out") ≡ None
unfolding name_of
out_is_no_routine = refl

either : (b x y : Bool) → (if b then x else y) ≡ false → (b ≡ true) ⊎ (y ≡ false)
either true x y h = inl refl
either false x y h = inr h

pointers_of_call : (t : Option Ty) (name : List ℕ) (args : List Arg) → user_call (inst.Call t name args) ≡ false → list_any is_other (flat_map arg_types args) ≡ false → routine_has_pointers (routine_named name) args ≡ true
unfolding user_call
pointers_of_call t name args h o =
    elim (either (is_out name) (not (fits_out t args)) (not (is_some_routine (called_if (routine_named name) t args))) h) [
      | inl e ↦
          let named : routine_named name ≡ None = ap routine_named (same_text name (codes "out") e) ∙ out_is_no_routine in
          subst (λ (r : Option RoutineName). routine_has_pointers r args ≡ true) (sym named) refl
      | inr e ↦ pointers_of_named (routine_named name) t args e o
    ]

-- ---- instructions
pub narrow_inst : (i : Inst) → list_any is_odd (types_of i) ≡ false → list_any is_other (types_of i) ≡ false → user_call i ≡ false → is_narrow_inst i ≡ true
unfolding types_of is_narrow_inst
narrow_inst (inst.Bin op t v w) h o u = narrow_first t [] h
narrow_inst (inst.Icmp condition t v w) h o u = narrow_first t [] h
narrow_inst (inst.Select c t v other w) h o u = and_from _ _ (narrow_first t (other ∷ []) h) (narrow_second t other [] h)
narrow_inst (inst.Convert cast t v to) h o u = and_from _ _ (narrow_first t (to ∷ []) h) (narrow_second t to [] h)
narrow_inst (inst.Phi t entries) h o u = narrow_first t [] h
narrow_inst (inst.Alloca t count align) h o u = narrow_first t [] h
narrow_inst (inst.Gep elem count base t v) h o u = narrow_second elem t [] h
narrow_inst (inst.Load t addr align) h o u = narrow_step addr.step (rest_is_named t (step_types addr.step) h)
narrow_inst (inst.LoadAtomic t addr order align) h o u = narrow_step addr.step (rest_is_named t (step_types addr.step) h)
narrow_inst (inst.Store t v addr align) h o u = and_from _ _ (narrow_first t (step_types addr.step) h) (narrow_step addr.step (rest_is_named t (step_types addr.step) h))
narrow_inst (inst.StoreAtomic t v addr order align) h o u = and_from _ _ (narrow_first t (step_types addr.step) h) (narrow_step addr.step (rest_is_named t (step_types addr.step) h))
narrow_inst (inst.Cmpxchg weak addr t v other w success failure align) h o u =
    let more = rest_is_named t (other ∷ step_types addr.step) h in
    and_from _ _ (and_from _ _ (narrow_step addr.step (rest_is_named other (step_types addr.step) more)) (narrow_first t (other ∷ step_types addr.step) h)) (narrow_first other (step_types addr.step) more)
narrow_inst (inst.Rmw op addr t v order align) h o u = and_from _ _ (narrow_step addr.step (rest_is_named t (step_types addr.step) h)) (narrow_first t (step_types addr.step) h)
narrow_inst (inst.Call t name args) h o u =
    and_from _ _ (narrow_args args (split is_odd (result_types t) (flat_map arg_types args) h).1)
    (pointers_of_call t name args u (split is_other (result_types t) (flat_map arg_types args) o).1)
narrow_inst _ h o u = refl
