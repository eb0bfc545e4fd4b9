-- What an instruction does, with numbers of their types.
use Rattle.std.proofs.Common.{◌≡◌, ℕ, ◌<◌, ◌^◌, Bool, true, false, not, ◌&&◌, List, [], ◌∷◌, map, flat_map, Option, Some, None, refl, sym, ap, subst, arith}
use Rattle.std.specs.Prelude.{if◌then◌else◌, nat_eq}
use Rattle.std.specs.List.{list_any}
use Rattle.std.specs.Cmp.Lexicographic.{pointwise}
use Rattle.std.proofs.lemmas.Bool.{and_parts, or_parts, true≢false, false≢true}
use Rattle.std.proofs.lemmas.List.Elements.{All-nil}
use Rattle.ax_module.specs.declared.inst.Inst.{Inst}
use Rattle.ax_module.specs.declared.inst.Inst.TheVariants as inst
use Rattle.ax_module.specs.declared.module.Module.{Module}
use Rattle.ax_module.specs.declared.operand.Arg.{Arg}
use Rattle.ax_module.specs.declared.operand.Arg.TheVariants as arg
use Rattle.ax_module.specs.declared.operand.Base.{Base}
use Rattle.ax_module.specs.declared.operand.Base.TheVariants as base
use Rattle.ax_module.specs.declared.operand.Operand.TheVariants as operand
use Rattle.ax_module.specs.declared.types.Ty.{Ty}
use Rattle.ax_module.specs.declared.types.Ty.TheVariants.{I1, I64}
use Rattle.ax_module.specs.Kinds.{is_phi, is_terminator}
use Rattle.ax_words.specs.declared.source.SourceStatus.TheVariants.{Trapped}
use Rattle.ax_source_run.specs.SourceAccess.{Access, Reads, Writes, Updates, Compares, Silent, Found, FoundEqual}
use Rattle.ax_source_run.specs.SourceEvent.{number_of_next}
use Rattle.ax_source_run.specs.SourceInstructions.{access_of, changed, deed, deed_of, done_by, entered, fenced, is_out, is_seq_cst, out_number, pointers_of, result_in, store_may_wait, traps, written}
use Rattle.ax_source_run.specs.SourcePointers.{base_of, blocks_of, pointed, pointer_of, stepped}
use Rattle.ax_source_run.specs.SourceState.{SourceProcessor, SourceProgram, SourceValue, Number, Pair, PointsTo}
use Rattle.ax_source_run.specs.SourceValues.{computed, converted, holds, number_of_flag, operand_of, part_of, type_bits}
use Rattle.ax_rules.specs.declared.facts.Outcome.{Outcome}
use Rattle.ax_rules.specs.declared.facts.Outcome.TheVariants as outcome
use Rattle.ax_rules.specs.Facts.{outcome_at, outcome_of, part_type, scope_of}
use Rattle.ax_rules.specs.Kind.{is_alloca_address, is_bad_gep, is_object}
use Rattle.ax_access_rules.specs.Mixed.{is_mistyped, is_mixed_access, is_mixed_inst, is_pair_of}
use Rattle.ax_rules.specs.Parts.{arg_operands, operands_of, same_type}
use Rattle.ax_rules.specs.Signatures.{arg_type, called, fits_out, is_some_routine, same_result, user_call}
use Rattle.ax_access_rules.specs.RulesAtPoints.{has_width}
use Rattle.ax_check.specs.Accepted.{IsAccepted}
use Rattle.ax_check.specs.Defined.{IsDefined, further_uses}
use Rattle.ax_check.specs.Laws.{AtInstructions, AtPoints, IsSound}
use Rattle.ax_typed.specs.Typed.{AreTyped, IsAllocaOutcome, IsIntoBase, IsOf, IsResultOf, IsTypedProcessor, address_of, elem_of}
use Rattle.ax_typed.proofs.Accesses.{DeedIs, OperationIs, ReplyIs, access_typed}
use Rattle.ax_typed.proofs.Calls.{call_is, call_typed}
use Rattle.ax_typed.proofs.Entries.{entered_typed}
use Rattle.ax_typed.proofs.Facts.{at_other, element_at, gep_base_defined, gep_is_good, is_not_mixed, operand_at, operands_are_typed, result_is}
use Rattle.ax_typed.proofs.Objects.{StoreIs, address_typed, drained_typed, gets_typed, goes_typed, written_typed}
use Rattle.ax_typed.proofs.Pointers.{address_is, alloca_is, operand_typed, outcomes}
use Rattle.ax_typed.proofs.Standing.{Stands, sound_here}
use Rattle.ax_typed.proofs.Types.{ResultsFit, chosen, computed_fits, converted_fits, flag_fits, is_true, not_other, same_types}

-- ---- numbers
retyped : (t u : Ty) (n : ℕ) → t ≡ u → IsOf t n → IsOf u n
retyped t u n e h = subst (λ (w : Ty). IsOf w n) e h

pair_part : (t : Ty) (o : Outcome) (k part : ℕ) (v : SourceValue) → not (is_pair_of t o) ≡ false → IsResultOf o k v → IsOf (part_type t part) (part_of part v)
pair_part t (outcome.Pair u) k part v h is = subst (λ (w : Ty). IsOf (part_type w part) (part_of part v)) (sym (not_other t u h)) (is part)
pair_part t (outcome.Number u) k part v h is = absurd (true≢false h)
pair_part t (outcome.Alloca e) k part v h is = absurd (true≢false h)
pair_part t (outcome.Gep b elem u index) k part v h is = absurd (true≢false h)
pair_part t outcome.Nothing k part v h is = absurd (true≢false h)

-- the parts of a compare-exchange's pair
pub part_is : (t : Ty) (n : ℕ) (flag : Bool) (part : ℕ) → IsOf t n → IsOf (part_type t part) (part_of part (Pair n flag))
part_is t n flag part h = by (nat_eq part 0)
  where
    by : (b : Bool) → IsOf (if b then t else I1) (if b then n else number_of_flag flag)
    by true = h
    by false = flag_fits flag

module _ (program : SourceProgram) (accepted : IsAccepted program) (law : AtInstructions IsSound) (widths : AtPoints (λ m t p. has_width m p ≡ false)) (fit : ResultsFit) (c : SourceProcessor) (h : IsTypedProcessor program.source c) (numbers : ℕ → ℕ → ℕ) (typed : AreTyped program.source numbers) where
  abbrev m : Module
  m = program.source

  abbrev k : ℕ
  k = number_of_next program c

  -- an instruction of which only its own result changes
  goes : (i : Inst) → Stands program accepted law c i → (IsAllocaOutcome (outcome_of i) → ⊥) → DeedIs m (done_by program c None None k numbers)
  goes i s never = record { numbers = typed; processor = goes_typed m c k (at_other program accepted law c h i s never) h; output = tt }

  gives : (i : Inst) → Stands program accepted law c i → (IsAllocaOutcome (outcome_of i) → ⊥) → (v : SourceValue) → IsResultOf (outcome_of i) k v → DeedIs m (done_by program c None (Some v) k numbers)
  gives i s never v is = record { numbers = typed; processor = gets_typed m c k v (at_other program accepted law c h i s never) (result_is program accepted law c h i s v is) h; output = tt }

  -- an access of the type of its object's elements
  reaches : (i : Inst) → Stands program accepted law c i → (IsAllocaOutcome (outcome_of i) → ⊥) → (a : Access) (t : Ty) → t ≡ elem_of m c.function a.pointer.object → OperationIs t a.operation
      → (result : Option SourceValue) → (ReplyIs m c.function k t a.reply) → DeedIs m (done_by program c (Some a) result k numbers)
  reaches i s never a t e operation result reply =
      access_typed program fit c h numbers typed k a (at_other program accepted law c h i s never) (record {
        operation = subst (λ (u : Ty). OperationIs u a.operation) e operation;
        reply = subst (λ (u : Ty). ReplyIs m c.function k u a.reply) e reply;
      })

  ends : (i : Inst) (b : ℕ) → Stands program accepted law c i → is_terminator i ≡ true → DeedIs m (changed program c (entered (blocks_of m c.function) b c) numbers)
  ends i b s last = record { numbers = typed; processor = entered_typed program accepted law c h i s b last; output = tt }

  fence_typed : (b : Bool) (i : Inst) → Stands program accepted law c i → (IsAllocaOutcome (outcome_of i) → ⊥) → DeedIs m (fenced program c b numbers)
  fence_typed true i s never =
      let at = at_other program accepted law c h i s never in
      record {
        numbers = written_typed m c.pending numbers h.pending typed;
        processor = goes_typed m (record c { pending = [] }) k (record { entry = at.entry; other = at.other }) (drained_typed m c [] (All-nil (StoreIs m)) h);
        output = tt;
      }
  fence_typed false i s never = goes i s never

  -- ---- an alloca's address, and a getelementptr's
  gep_into : (i : Inst) (s : Stands program accepted law c i) (b : Base) → not (is_object (scope_of m s.function) b) ≡ false → ((q : ℕ) → b ≡ base.Value q → IsDefined s.function (record { block = c.block; number = k; inst = i }) (record { value = q; end_of = None })) → (index : ℕ) → IsIntoBase b (PointsTo (record (base_of b c.values) { index = index }))
  gep_into i s (base.Global g) object defined index = refl
  gep_into i s (base.Param q) object defined index = absurd (true≢false object)
  gep_into i s (base.Value q) object defined index =
      let address = address_is program accepted law c h i s q (alloca_is (outcome_at (scope_of m s.function) q) (is_true (is_alloca_address (outcome_at (scope_of m s.function) q)) object)) (defined q refl) in
      ap (λ (v : SourceValue). (pointed v).object) address

  -- ---- a call of `@out`
  out_fits : (args : List Arg) (i : Inst) (s : Stands program accepted law c i) → pointwise same_type (I64 ∷ []) (map arg_type args) ≡ true → list_any (is_mistyped (scope_of m s.function)) (flat_map arg_operands args) ≡ false → out_number program c args < 2 ^ 64
  out_fits [] i s e x = absurd (false≢true e)
  out_fits (arg.Pointer a ∷ args) i s e x = omega arith
  out_fits (arg.Value t v ∷ args) i s e x =
      let parts = and_parts (same_type I64 t) (pointwise same_type [] (map arg_type args)) e in
      let same : t ≡ I64 = sym (same_types I64 t parts.0) in
      retyped t I64 (operand_of t v c.values) same (operand_typed program accepted law c h i s t v (or_parts (is_mistyped (scope_of m s.function) (t, v)) (list_any (is_mistyped (scope_of m s.function)) (flat_map arg_operands args)) x).0)

  never_call : (result : Option Ty) (name : List ℕ) (args : List Arg) → IsAllocaOutcome (outcome_of (inst.Call result name args)) → ⊥
  unfolding outcome_of
  never_call None name args a = a
  never_call (Some t) name args a = a

  call_deed : (result : Option Ty) (name : List ℕ) (args : List Arg) (b : Bool) (s : Stands program accepted law c (inst.Call result name args)) → traps program c (inst.Call result name args) ≡ false → (if b then not (fits_out result args) else not (is_some_routine (called result name args))) ≡ false
      → DeedIs m (if b then written program c args numbers else done_by program c (access_of program c (inst.Call result name args)) (result_in program c k (inst.Call result name args)) k numbers)
  unfolding access_of result_in operands_of
  call_deed result name args true s inside e =
      let i = inst.Call result name args in
      let fits = (and_parts (same_result None result) (pointwise same_type (I64 ∷ []) (map arg_type args)) (is_true (fits_out result args) e)).1 in
      record {
        numbers = typed;
        processor = goes_typed m c k (at_other program accepted law c h i s (never_call result name args)) h;
        output = out_fits args i s fits (operands_are_typed program accepted law c h i s);
      }
  call_deed result name args false s inside e =
      let r = call_is result name args e in
      call_typed program accepted law widths fit c h result name args s inside r.0 r.1 numbers typed

  -- ---- each instruction
  pub inst_typed : (i : Inst) → Stands program accepted law c i → traps program c i ≡ false → DeedIs m (deed_of program c k numbers i)
  unfolding deed_of access_of result_in outcome_of operands_of pointers_of is_mixed_inst is_phi is_terminator is_bad_gep further_uses user_call
  inst_typed (inst.Bin op t v w) s inside =
      let i = inst.Bin op t v w in
      let a = operand_at program accepted law c h i s 0 t v refl in
      let b = operand_at program accepted law c h i s 1 t w refl in
      gives i s (λ x. x) (Number (computed op (type_bits t) (operand_of t v c.values) (operand_of t w c.values))) (computed_fits fit op (type_bits t) (operand_of t v c.values) (operand_of t w c.values) a b)
  inst_typed (inst.Icmp condition t v w) s inside =
      gives (inst.Icmp condition t v w) s (λ x. x) (Number (number_of_flag (holds condition (type_bits t) (operand_of t v c.values) (operand_of t w c.values)))) (flag_fits (holds condition (type_bits t) (operand_of t v c.values) (operand_of t w c.values)))
  inst_typed (inst.Select x t v u w) s inside =
      let i = inst.Select x t v u w in
      let same : u ≡ t = sym (not_other t u (is_not_mixed program accepted law c h i s)) in
      let a = operand_at program accepted law c h i s 1 t v refl in
      let b = retyped u t (operand_of u w c.values) same (operand_at program accepted law c h i s 2 u w refl) in
      gives i s (λ y. y) (Number (if nat_eq (operand_of I1 x c.values) 0 then operand_of u w c.values else operand_of t v c.values)) (chosen (nat_eq (operand_of I1 x c.values) 0) t (operand_of u w c.values) (operand_of t v c.values) b a)
  inst_typed (inst.Convert cast t v u) s inside =
      let i = inst.Convert cast t v u in
      gives i s (λ x. x) (Number (converted cast (type_bits t) (type_bits u) (operand_of t v c.values))) (converted_fits cast t u (operand_of t v c.values) (is_not_mixed program accepted law c h i s) (operand_at program accepted law c h i s 0 t v refl))
  inst_typed (inst.Phi t entries) s inside = goes (inst.Phi t entries) s (λ x. x)
  inst_typed (inst.Jump b) s inside = ends (inst.Jump b) b s refl
  inst_typed (inst.Branch v a b) s inside = ends (inst.Branch v a b) (if nat_eq (operand_of I1 v c.values) 0 then b else a) s refl
  inst_typed inst.RetVoid s inside = record {
    numbers = typed;
    processor = record { values = h.values; addresses = h.addresses; allocas = h.allocas; pending = h.pending };
    output = tt;
  }
  inst_typed (inst.Ret t v) s inside = goes (inst.Ret t v) s (λ x. x)
  inst_typed inst.Unreachable s inside = goes inst.Unreachable s (λ x. x)
  inst_typed (inst.Alloca t count align) s inside = record {
    numbers = typed;
    processor = address_typed m c k s.entry (result_is program accepted law c h (inst.Alloca t count align) s (address_of k) refl) h;
    output = tt;
  }
  inst_typed (inst.Gep elem count b t v) s inside =
      let i = inst.Gep elem count b t v in
      gives i s (λ x. x) (PointsTo (stepped m elem t v c (base_of b c.values))) (gep_into i s b (gep_is_good program accepted law c h i s) (gep_base_defined program accepted law c h i s refl b refl) (stepped m elem t v c (base_of b c.values)).index)
  inst_typed (inst.Load t a align) s inside =
      let i = inst.Load t a align in
      reaches i s (λ x. x) (record { pointer = pointer_of m a c; operation = Reads; may_wait = false; reply = Found }) t (element_at program accepted law c h i s inside refl 0 t a refl (is_not_mixed program accepted law c h i s)) tt None (λ n x. result_is program accepted law c h i s (Number n) x)
  inst_typed (inst.LoadAtomic t a order align) s inside =
      let i = inst.LoadAtomic t a order align in
      reaches i s (λ x. x) (record { pointer = pointer_of m a c; operation = Reads; may_wait = false; reply = Found }) t (element_at program accepted law c h i s inside refl 0 t a refl (is_not_mixed program accepted law c h i s)) tt None (λ n x. result_is program accepted law c h i s (Number n) x)
  inst_typed (inst.Store t v a align) s inside =
      let i = inst.Store t v a align in
      reaches i s (λ x. x) (record { pointer = pointer_of m a c; operation = Writes (operand_of t v c.values); may_wait = true; reply = Silent }) t (element_at program accepted law c h i s inside refl 0 t a refl (is_not_mixed program accepted law c h i s)) (operand_at program accepted law c h i s 0 t v refl) None tt
  inst_typed (inst.StoreAtomic t v a order align) s inside =
      let i = inst.StoreAtomic t v a order align in
      reaches i s (λ x. x) (record { pointer = pointer_of m a c; operation = Writes (operand_of t v c.values); may_wait = store_may_wait program.target t order align; reply = Silent }) t (element_at program accepted law c h i s inside refl 0 t a refl (is_not_mixed program accepted law c h i s)) (operand_at program accepted law c h i s 0 t v refl) None tt
  inst_typed (inst.Cmpxchg weak a t v u w success failure align) s inside =
      let i = inst.Cmpxchg weak a t v u w success failure align in
      let parts = or_parts (is_mixed_access (scope_of m s.function) t a) (not (same_type t u)) (is_not_mixed program accepted law c h i s) in
      let same : u ≡ t = sym (not_other t u parts.1) in
      reaches i s (λ x. x) (record { pointer = pointer_of m a c; operation = Compares (operand_of t v c.values) (operand_of u w c.values); may_wait = false; reply = FoundEqual }) t (element_at program accepted law c h i s inside refl 0 t a refl parts.0) (retyped u t (operand_of u w c.values) same (operand_at program accepted law c h i s 1 u w refl)) None
      (λ n flag x. result_is program accepted law c h i s (Pair n flag) (λ part. part_is t n flag part x))
  inst_typed (inst.Rmw op a t v order align) s inside =
      let i = inst.Rmw op a t v order align in
      reaches i s (λ x. x) (record { pointer = pointer_of m a c; operation = Updates op (operand_of t v c.values); may_wait = false; reply = Found }) t (element_at program accepted law c h i s inside refl 0 t a refl (is_not_mixed program accepted law c h i s)) (operand_at program accepted law c h i s 0 t v refl) None (λ n x. result_is program accepted law c h i s (Number n) x)
  inst_typed (inst.Fence single order) s inside = fence_typed (not single && is_seq_cst order) (inst.Fence single order) s (λ x. x)
  inst_typed (inst.Extract t (operand.Value q) part) s inside =
      let i = inst.Extract t (operand.Value q) part in
      gives i s (λ x. x) (Number (part_of part (c.values q))) (pair_part t (outcome_at (scope_of m s.function) q) q part (c.values q) (is_not_mixed program accepted law c h i s) (subst (λ (o : Outcome). IsResultOf o q (c.values q)) (sym (outcomes program accepted law c h i s q)) (h.values q)))
  inst_typed (inst.Extract t (operand.Const n) part) s inside = absurd (true≢false (is_not_mixed program accepted law c h (inst.Extract t (operand.Const n) part) s))
  inst_typed (inst.Extract t (operand.Wide n) part) s inside = absurd (true≢false (is_not_mixed program accepted law c h (inst.Extract t (operand.Wide n) part) s))
  inst_typed (inst.Extract t (operand.Param q) part) s inside = absurd (true≢false (is_not_mixed program accepted law c h (inst.Extract t (operand.Param q) part) s))
  inst_typed (inst.Call result name args) s inside = call_deed result name args (is_out name) s inside (sound_here program accepted law c (inst.Call result name args) s).call

  trapped : (b : Bool) (i : Inst) → (b ≡ false → DeedIs m (deed_of program c k numbers i)) → DeedIs m (if b then changed program c (record c { status = Trapped }) numbers else deed_of program c k numbers i)
  trapped true i goes_on = record {
    numbers = typed;
    processor = record { values = h.values; addresses = h.addresses; allocas = h.allocas; pending = h.pending };
    output = tt;
  }
  trapped false i goes_on = goes_on refl

  pub deed_typed : (i : Inst) → Stands program accepted law c i → DeedIs m (deed program c k numbers i)
  deed_typed i s = trapped (traps program c i) i (λ inside. inst_typed i s inside)
