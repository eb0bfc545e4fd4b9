-- All lines of an accepted module's code are small.
use Rattle.std.proofs.Common.{◌≡◌, ℕ, zero, suc, ◌+◌, ◌*◌, ◌%◌, ◌^◌, ◌<◌, ◌≤◌, pos, negsuc, Bool, true, false, not, ◌&&◌, ◌||◌, List, [], ◌∷◌, Option, Some, None, All, length, refl, sym, ap, ◌∙◌, subst, arith, div-add-mod', length-append, slice_get}
use Rattle.std.specs.Prelude.{if◌then◌else◌, nat_eq, nat_lt, slice_index_or}
use Rattle.std.specs.List.{list_all, list_any}
use Rattle.std.proofs.lemmas.Bool.{and_parts, eqb-true, or_parts, true≢false, false≢true}
use Rattle.std.proofs.lemmas.List.Concat.{length-flat_map}
use Rattle.std.proofs.lemmas.List.Elements.{All-cons, All-contains, All-nil}
use Rattle.std.proofs.lemmas.Option.{get_or_from_slice_get, none-some, same_Some, slice_get-map, slice_get_within}
use Rattle.std.specs.Option.{option_map}
use Rattle.ax_module.specs.declared.inst.BinOp.{BinOp}
use Rattle.ax_module.specs.declared.inst.Inst.{Inst}
use Rattle.ax_module.specs.declared.inst.Inst.TheVariants as inst
use Rattle.ax_module.specs.declared.module.Block.{Block}
use Rattle.ax_module.specs.declared.module.Function.{Function}
use Rattle.ax_module.specs.declared.module.Global.{Global}
use Rattle.ax_module.specs.declared.module.Module.{Module}
use Rattle.ax_module.specs.declared.operand.Addr.{Addr}
use Rattle.ax_module.specs.declared.operand.Arg.{Arg}
use Rattle.ax_module.specs.declared.operand.Arg.TheVariants as arg
use Rattle.ax_module.specs.declared.operand.Base.{Base}
use Rattle.ax_module.specs.declared.operand.Base.TheVariants as base
use Rattle.ax_module.specs.declared.operand.Operand.{Operand}
use Rattle.ax_module.specs.declared.operand.Operand.TheVariants as operand
use Rattle.ax_module.specs.declared.types.Ty.{Ty}
use Rattle.ax_module.specs.declared.types.Ty.TheVariants.{I1, I8, I16, I32, I64, I128, Int, Float, Double, Ptr, Vector}
use Rattle.ax_module.specs.Types.{type_bytes}
use Rattle.ax_module.specs.WellFormed.{NameCounts, has_result_at, is_addr, is_arg, is_base, is_bit, is_block_number, is_callee_name, is_entry, is_inst, is_nonempty, is_operand, is_order, is_result_type, is_step, is_type, is_typed, scope_of as formed_scope}
use Rattle.ax_layout.specs.declared.address_range.AddressRange.{AddressRange}
use Rattle.ax_map.specs.Map.{globals_start}
use Rattle.ax_layout.specs.Layout.{IsLaidOut, LayoutState, address_in, end_of_span, is_element_type, nowhere, span_after, span_in, spans_after}
use Rattle.ax_source_run.specs.SourceInstructions.{first_number, insts_of_block, is_out, pointers_of}
use Rattle.ax_source_run.specs.SourcePointers.{blocks_in, elements_of, elements_of_alloca, elements_of_global, insts_of}
use Rattle.ax_source_run.specs.SourceState.{Object, Private, Shared, SourceProgram}
use Rattle.ax_source_run.specs.SourceValues.{type_bits}
use Rattle.ax_tags.specs.declared.tags.Tag.TheVariants as tag
use Rattle.ax_words.specs.declared.mark.Op.TheVariants as operation
use Rattle.ax_words.specs.Orders.{merged_order}
use Rattle.ax_mid.specs.declared.code.Line.{Line}
use Rattle.ax_mid.specs.declared.instruction.MidInst.{MidInst}
use Rattle.ax_mid.specs.declared.instruction.MidInst.TheVariants as mid
use Rattle.ax_mid.specs.declared.registers.Virtual.{Virtual}
use Rattle.ax_mid.specs.WellFormed.{is_access_size, registers_of}
use Rattle.ax_rules.specs.declared.facts.Outcome.{Outcome}
use Rattle.ax_rules.specs.declared.facts.Outcome.TheVariants as outcome
use Rattle.ax_rules.specs.declared.facts.FunctionScope.{FunctionScope}
use Rattle.ax_rules.specs.Facts as facts
use Rattle.ax_rules.specs.Facts.{extent_of, extent_of_global, extent_of_outcome, origin_of_alloca, outcome_at, outcome_of}
use Rattle.ax_rules.specs.Kind as kind
use Rattle.ax_rules.specs.Kind.{is_bad_gep, is_bad_pointer, is_object, is_other}
use Rattle.ax_rules.specs.Parts.{operands_of, same_type, step_types, types_of}
use Rattle.ax_rules.specs.Width.{has_wide_step, is_amount, is_i128, is_left_out, is_odd, is_shift, is_shift_amount, is_wide_step, memory_types, shift_fault}
use Rattle.ax_access_rules.specs.Mixed.{converts, is_mistyped, is_mixed_access, is_mixed_inst, is_mixed_pointer, is_other_element}
use Rattle.ax_check.specs.Accepted.{IsAccepted}
use Rattle.ax_check.specs.Laws.{IsSoundHead}
use Rattle.ax_typed.specs.Typed.{outcome_if, outcome_in}
use Rattle.ax_typed.proofs.Places.{all_at, all_insts, block_at, place_of}
use Rattle.ax_typed.proofs.Standing.{block_formed, few_elements, outcome_is, sound_at}
use Rattle.ax_typed.proofs.Types.{is_true, not_other}
use Rattle.ax_selected.specs.Addresses.{bytes_of, frame_offset, index_at, index_of_base, index_of_step, index_of_value, object_of, object_of_value, stepped_object}
use Rattle.ax_selected.specs.Edges.{edge_lines}
use Rattle.ax_selected.specs.Formed.{IsSmallLine, SelectedLinesAreSmall}
use Rattle.ax_selected.specs.Operands.{constant_of, is_narrow}
use Rattle.ax_selected.specs.Pieces.{Straight, bin_lines, comparison, convert_lines, extract_lines, icmp_lines, select_lines}
use Rattle.ax_selected.specs.Ranges.{IsNear}
use Rattle.ax_selected.specs.Registers.{block_label, key, low_of, virtual}
use Rattle.ax_selected.specs.Selected.{atomic_load_lines, atomic_store_lines, blocks_lines, branch_lines, bytes_at, exchange_lines, fence_lines, function_lines, functions_lines, gep_lines, insts_lines, load_lines, lone, out_operand, piece, reach, selected, store_lines, straight, update_lines}
use Rattle.ax_selected.proofs.Aligned.{narrow_128}
use Rattle.ax_selected.proofs.Frames.{ends}
use Rattle.ax_selected.proofs.Lying.{few_bytes, lt_of}
use Rattle.ax_selected.proofs.Small.{AreLow, AreSmall, IsSmall, IsSmallStraight, atomics, bin_small, const, constant_in, copies, icmp_small, in_frame, labels, lone_small, low, nothing, offset_at, outs, ret, small_both, straight_small, trap}
use Rattle.ax_selected.proofs.SmallPieces.{AreNearPhis, IsNearPhi, IsSmallIndex, IsSmallObject, atomic_load_small, atomic_store_small, branch_small, convert_small, edge_small, exchange_small, extract_small, gep_small, load_small, select_small, step_small, store_small, through_small, update_small}
use Rattle.ax_selected.proofs.Whole.{Laws, as_is}

-- ---- types
bytes_most : (t : Ty) → is_odd t ≡ false → type_bytes t ≤ 16
bytes_most (Int bits) o = absurd (true≢false o)
bytes_most I1 o = omega arith
bytes_most I8 o = omega arith
bytes_most I16 o = omega arith
bytes_most I32 o = omega arith
bytes_most I64 o = omega arith
bytes_most I128 o = omega arith
bytes_most Float o = omega arith
bytes_most Double o = omega arith
bytes_most Ptr o = omega arith
bytes_most Vector o = omega arith

element_named : (t : Ty) → is_element_type t ≡ true → is_odd t ≡ false
element_named (Int bits) h = absurd (false≢true h)
element_named _ h = refl

access_size : (t : Ty) → is_odd t ≡ false → is_narrow t ≡ true → is_access_size (type_bytes t) ≡ true
access_size (Int bits) o e = absurd (true≢false o)
access_size I128 o e = absurd (false≢true e)
access_size _ o e = refl

-- ---- amounts of shifts
wide_bits : (t : Ty) → is_i128 t ≡ true → type_bits t ≡ 128
wide_bits I128 e = refl
wide_bits _ e = absurd (false≢true e)

mod_least : (n m : ℕ) → n % m ≤ n
mod_least n m = let e = div-add-mod' n m in omega (arith, e)

amount_below : (t : Ty) (n : ℕ) → is_amount t n ≡ true → n < type_bits t
amount_below t n h = by (is_i128 t) refl h
  where
    by : (b : Bool) → is_i128 t ≡ b → (if b then nat_eq n 64 else nat_lt n (type_bits t)) ≡ true → n < type_bits t
    by true e g = let same = eqb-true n 64 g in let bits = wide_bits t e in omega (arith, same, bits)
    by false e g = lt_of n (type_bits t) g

pub amount_is : (t : Ty) (y : Operand) → is_shift_amount t y ≡ true → constant_of t y < type_bits t
amount_is t (operand.Const (pos n)) h = let l = mod_least n (2 ^ type_bits t) in let b = amount_below t n h in omega (arith, l, b)
amount_is t (operand.Const (negsuc n)) h = absurd (false≢true h)
amount_is t (operand.Wide n) h = absurd (false≢true h)
amount_is t (operand.Value k) h = absurd (false≢true h)
amount_is t (operand.Param k) h = absurd (false≢true h)

amount : (o : BinOp) (t : Ty) (x y : Operand) → shift_fault (inst.Bin o t x y) ≡ false → is_shift o ≡ true → constant_of t y < type_bits t
unfolding shift_fault
amount o t x y h s = amount_is t y (is_true (is_shift_amount t y) (ap (λ (q : Bool). q && not (is_shift_amount t y)) (sym s) ∙ h))

-- ---- numbers of instructions
pub counted : (blocks : List Block) (b : ℕ) → first_number blocks b + length (insts_of_block blocks b) ≤ length (all_insts blocks)
counted [] b = omega arith
counted (y ∷ blocks) zero = let l = length-append y.insts (all_insts blocks) in omega (arith, l)
counted (y ∷ blocks) (suc b) =
    let l = length-append y.insts (all_insts blocks) in
    let r = counted blocks b in
    omega (arith, l, r)

-- ---- spans and allocas
none_there : (end : ℕ) (globals : List Global) (g : ℕ) → slice_get globals g ≡ None → slice_index_or (spans_after end globals) g nowhere ≡ nowhere
none_there end [] g e = refl
none_there end (v ∷ globals) zero e = absurd (none-some v (sym e))
none_there end (v ∷ globals) (suc g) e = none_there (end_of_span (span_after end v)) globals g e

alloca_named : (x : Inst) → list_any is_odd (types_of x) ≡ false → is_odd (elements_of_alloca (Some x)).elem ≡ false
unfolding elements_of_alloca types_of
alloca_named (inst.Alloca t count align) h = (or_parts (is_odd t) (list_any is_odd []) h).0
alloca_named _ h = refl

-- an alloca's elements have the type of the accesses, and what is no alloca has bytes
alloca_size : (t : Ty) → is_odd t ≡ false → is_narrow t ≡ true → (o : Option Inst) → is_other_element t (extent_of_outcome (outcome_if o)) ≡ false → is_access_size (type_bytes (elements_of_alloca o).elem) ≡ true
unfolding elements_of_alloca outcome_of
alloca_size t odd narrow None h = refl
alloca_size t odd narrow (Some (inst.Alloca u count align)) h = subst (λ (x : Ty). is_access_size (type_bytes x) ≡ true) (not_other t u h) (access_size t odd narrow)
alloca_size t odd narrow (Some _) h = refl

-- a getelementptr starts at a global or an alloca
abbrev starts_at_object : FunctionScope → Outcome → Bool
starts_at_object scope (outcome.Gep b elem t v) = is_object scope b
starts_at_object scope (outcome.Number t) = true
starts_at_object scope (outcome.Pair t) = true
starts_at_object scope (outcome.Alloca e) = true
starts_at_object scope outcome.Nothing = true

good_start : (scope : FunctionScope) (x : Inst) → is_bad_gep scope x ≡ false → starts_at_object scope (outcome_of x) ≡ true
unfolding is_bad_gep outcome_of
good_start scope (inst.Gep elem count b t v) h = is_true (is_object scope b) h
good_start scope (inst.Call (Some t) name args) h = refl
good_start scope (inst.Call None name args) h = refl
good_start scope _ h = refl

param_is_bad : (q : Bool) → not (false || (not q && false)) ≡ false → ⊥
param_is_bad true h = true≢false h
param_is_bad false h = true≢false h

-- ---- a function of an accepted module
module _ (laws : Laws) (program : SourceProgram) (accepted : IsAccepted program) (n : ℕ) (f : Function) (at : slice_get program.source.functions n ≡ Some f) where
  abbrev m : Module
  m = program.source

  abbrev scope : NameCounts
  scope = formed_scope (length m.globals) f

  abbrev its : FunctionScope
  its = facts.scope_of m f

  head : IsSoundHead n f
  head = laws.heads program n f accepted at

  few : length (all_insts f.blocks) ≤ 2048
  few = subst (λ (c : ℕ). c ≤ 2048) (sym (length-flat_map (λ (block : Block). block.insts) f.blocks)) head.instructions

  insts_are : insts_of m n ≡ all_insts f.blocks
  insts_are = ap (λ (o : Option Function). all_insts (blocks_in o)) at

  abbrev Here : ℕ → ℕ → Inst → Type 0
  Here b i x = slice_get (insts_of_block f.blocks b) i ≡ Some x

  -- what is known of each instruction
  record IsKnown (x : Inst) : Type 0 where
    formed : is_inst scope x ≡ true
    odd : list_any is_odd (types_of x) ≡ false
    left_out : is_left_out x ≡ false
    steps : list_any has_wide_step (pointers_of x) ≡ false
    mixed : is_mixed_inst its x ≡ false
    gep : is_bad_gep its x ≡ false
    pointers : list_any (is_bad_pointer its) (pointers_of x) ≡ false
    shift : shift_fault x ≡ false

  known : (b i : ℕ) (x : Inst) → Here b i x → IsKnown x
  known b i x h =
      let p = block_at f.blocks b i x h in
      let parts = and_parts (is_order p.0.insts) (list_all (is_inst scope) p.0.insts) (block_formed program accepted laws.sound n f at b p.0 p.1) in
      let sound = sound_at program accepted laws.sound n f at b i (first_number f.blocks b + i) x refl h in
      let two = list_any is_odd (types_of x) || list_any is_bit (memory_types x) in
      let last = or_parts (two || is_left_out x) (list_any has_wide_step (pointers_of x)) sound.width in
      let more = or_parts two (is_left_out x) last.0 in
      let mixed = or_parts (list_any (is_mistyped its) (operands_of x) || is_mixed_inst its x) (list_any (is_mixed_pointer its) (pointers_of x)) sound.mixed in
      let kinds = or_parts (list_any is_other (types_of x) || is_bad_gep its x) (list_any (is_bad_pointer its) (pointers_of x)) sound.kind in
      record {
        formed = all_at (is_inst scope) p.0.insts i x parts.1 (sym (ap (λ (insts : List Inst). slice_get insts i) p.2) ∙ h);
        odd = (or_parts (list_any is_odd (types_of x)) (list_any is_bit (memory_types x)) more.0).0;
        left_out = more.1;
        steps = last.1;
        mixed = (or_parts (list_any (is_mistyped its) (operands_of x)) (is_mixed_inst its x) mixed.0).1;
        gep = (or_parts (list_any is_other (types_of x)) (is_bad_gep its x) kinds.0).1;
        pointers = kinds.1;
        shift = sound.shift;
      }

  known_at : (k : ℕ) (x : Inst) → slice_get (all_insts f.blocks) k ≡ Some x → IsKnown x
  known_at k x e = let p = place_of f.blocks k x e in known p.block p.index x p.inst

  below : (b i : ℕ) (x : Inst) → Here b i x → first_number f.blocks b + i < 2048
  below b i x h =
      let l = slice_get_within (insts_of_block f.blocks b) i x h in
      let r = counted f.blocks b in
      omega (arith, l, r, few)

  -- ---- what an instruction names
  within : (k : ℕ) (o : Option Inst) → slice_get (all_insts f.blocks) k ≡ o → has_result_at o ≡ true → k < 2048
  within k None e h = absurd (false≢true h)
  within k (Some i) e h = let l = slice_get_within (all_insts f.blocks) k i e in omega (arith, l, few)

  near : (v : Operand) → is_operand scope v ≡ true → IsNear v
  near (operand.Value k) h = within k (slice_get (all_insts f.blocks) k) refl h
  near (operand.Const c) h = tt
  near (operand.Wide c) h = tt
  near (operand.Param k) h = tt

  typed : (t : Ty) (v : Operand) → is_typed scope t v ≡ true → IsNear v
  typed t v h = near v (and_parts (is_type t) (is_operand scope v) h).1

  entries_near : (es : List (Operand × ℕ)) → list_all (is_entry scope) es ≡ true → All (λ (e : Operand × ℕ). IsNear e.0) es
  entries_near [] h = All-nil (λ (e : Operand × ℕ). IsNear e.0)
  entries_near (e ∷ es) h =
      let p = and_parts (is_entry scope e) (list_all (is_entry scope) es) h in
      All-cons (λ (e : Operand × ℕ). IsNear e.0) e es (near e.0 (and_parts (is_operand scope e.0) (is_block_number scope e.1) p.0).0) (entries_near es p.1)

  phi_near : (k : ℕ) (x : Inst) → k < 2048 → IsKnown x → IsNearPhi k x
  unfolding is_inst types_of IsNearPhi
  phi_near k (inst.Phi t es) lt h = (lt, (or_parts (is_odd t) (list_any is_odd []) h.odd).0, entries_near es (and_parts (is_type t && is_nonempty es) (list_all (is_entry scope) es) h.formed).1)
  phi_near k _ lt h = tt

  phis : (d : ℕ) → AreNearPhis (first_number f.blocks d) (insts_of_block f.blocks d)
  phis d j x e = phi_near (first_number f.blocks d + j) x (below d j x e) (known d j x e)

  argument : (t : Ty) (v : Operand) → is_arg scope (arg.Value t v) ≡ true → IsNear v
  argument I1 v h = typed I1 v h
  argument I8 v h = typed I8 v h
  argument I16 v h = typed I16 v h
  argument I32 v h = typed I32 v h
  argument I64 v h = typed I64 v h
  argument I128 v h = typed I128 v h
  argument (Int bits) v h = typed (Int bits) v h
  argument Float v h = typed Float v h
  argument Double v h = typed Double v h
  argument Vector v h = typed Vector v h
  argument Ptr (operand.Value k) h = absurd (false≢true h)
  argument Ptr (operand.Const c) h = tt
  argument Ptr (operand.Wide c) h = tt
  argument Ptr (operand.Param k) h = tt

  -- ---- objects
  shared : (g : ℕ) → IsSmallObject program n (Shared g)
  shared g = by (slice_get m.globals g) refl
    where
      by : (o : Option Global) → slice_get m.globals g ≡ o → IsSmallObject program n (Shared g)
      by None e =
          let gone : span_in program.layout g ≡ nowhere = ap (λ (l : LayoutState). span_in l g) accepted.layout ∙ none_there globals_start m.globals g e in
          record {
            count = subst (λ (o : Option Global). (elements_of_global o).count < 2 ^ 64) (sym e) (omega arith);
            bytes = subst (λ (o : Option Global). type_bytes (elements_of_global o).elem < 2 ^ 64) (sym e) (omega arith);
            first = const tag.Silent refl 0 (address_in program.layout g 0) (omega arith) (subst (λ (x : AddressRange). x.start + 0 * x.bytes < 2 ^ 64) (sym gone) (omega arith));
            inside = λ j lt. let none : j < 0 = subst (λ (o : Option Global). j < (elements_of_global o).count) e lt in absurd (omega (arith, none));
          }
      by (Some v) e =
          let laid : IsLaidOut v = subst IsLaidOut (get_or_from_slice_get m.globals g v v e) ((laws.laid_out program accepted).globals g v (slice_get_within m.globals g v e)) in
          let least = laid.least in
          let most = laid.most in
          let size = bytes_most v.elem (element_named v.elem laid.element) in
          record {
            count = subst (λ (o : Option Global). (elements_of_global o).count < 2 ^ 64) (sym e) (omega (arith, most));
            bytes = subst (λ (o : Option Global). type_bytes (elements_of_global o).elem < 2 ^ 64) (sym e) (omega (arith, size));
            first = small_at 0 (omega (arith, least));
            inside = λ j lt. small_at j (subst (λ (o : Option Global). j < (elements_of_global o).count) e lt);
          }
        where
          small_at : (j : ℕ) → j < v.count → IsSmall tag.Silent (mid.Const (virtual 0) (address_in program.layout g j))
          small_at j lt =
              let those = (as_is laws program accepted).those g v e in
              let lies = (as_is laws program accepted).lie g j (record { global = those.within; element = subst (λ (c : ℕ). j < c) (sym those.count) lt }) in
              let last = lies.last in
              let limit = lies.limit in
              const tag.Silent refl 0 (address_in program.layout g j) (omega arith) (omega (arith, last, limit))

  private_size : (o : Option Inst) (r : ℕ) → slice_get (all_insts f.blocks) r ≡ o → type_bytes (elements_of_alloca o).elem ≤ 16
  unfolding elements_of_alloca
  private_size None r e = omega arith
  private_size (Some x) r e = bytes_most (elements_of_alloca (Some x)).elem (alloca_named x (known_at r x e).odd)

  private : (r : ℕ) → IsSmallObject program n (Private r)
  private r =
      let few_all = few_bytes m n f at head.bytes r in
      let size = private_size (slice_get (all_insts f.blocks) r) r refl in
      record {
        count = subst (λ (is : List Inst). (elements_of_alloca (slice_get is r)).count < 2 ^ 64) (sym insts_are) (few_elements program accepted laws.sound n f at r);
        bytes = subst (λ (is : List Inst). type_bytes (elements_of_alloca (slice_get is r)).elem < 2 ^ 64) (sym insts_are) (omega (arith, size));
        first = in_frame tag.Silent refl 0 (frame_offset m n r + 0 * type_bytes (elements_of m n (Private r)).elem) (omega arith) (omega (arith, few_all));
        inside = λ j lt. let end = ends m n r j lt in in_frame tag.Silent refl 0 (frame_offset m n r + j * type_bytes (elements_of m n (Private r)).elem) (omega arith) (omega (arith, few_all, end));
      }

  object_small : (o : Object) → IsSmallObject program n o
  object_small (Shared g) = shared g
  object_small (Private r) = private r

  -- ---- sizes of plain accesses of at most 64 bits
  good_outcome : (r : ℕ) → starts_at_object its (outcome_at its r) ≡ true
  good_outcome r = ap (starts_at_object its) (outcome_is program accepted laws.sound n f at r ∙ ap (λ (is : List Inst). outcome_if (slice_get is r)) insts_are) ∙ by (slice_get (all_insts f.blocks) r) refl
    where
      by : (o : Option Inst) → slice_get (all_insts f.blocks) r ≡ o → starts_at_object its (outcome_if o) ≡ true
      by None e = refl
      by (Some x) e = good_start its x (known_at r x e).gep

  module _ (t : Ty) (odd : is_odd t ≡ false) (narrow : is_narrow t ≡ true) where
    abbrev Fits : Object → Type 0
    Fits o = is_access_size (bytes_of program n o) ≡ true

    fits_shared : (g : ℕ) → is_other_element t (slice_get its.globals g) ≡ false → Fits (Shared g)
    fits_shared g h = by (slice_get m.globals g) refl
      where
        by : (o : Option Global) → slice_get m.globals g ≡ o → Fits (Shared g)
        by None e = ap (λ (o : Option Global). is_access_size (type_bytes (elements_of_global o).elem)) e
        by (Some v) e =
            let there : slice_get its.globals g ≡ Some (extent_of_global v) = slice_get-map extent_of_global m.globals g ∙ ap (option_map extent_of_global) e in
            let same : t ≡ v.elem = not_other t v.elem (ap (is_other_element t) (sym there) ∙ h) in
            ap (λ (o : Option Global). is_access_size (type_bytes (elements_of_global o).elem)) e ∙ (ap (λ (x : Ty). is_access_size (type_bytes x)) (sym same) ∙ access_size t odd narrow)

    fits_private : (r : ℕ) → is_other_element t (extent_of_outcome (outcome_at its r)) ≡ false → Fits (Private r)
    fits_private r h = alloca_size t odd narrow (slice_get (insts_of m n) r) (ap (λ (o : Outcome). is_other_element t (extent_of_outcome o)) (sym (outcome_is program accepted laws.sound n f at r)) ∙ h)

    -- of a getelementptr's base
    fits_stepped : (b : Base) → is_object its b ≡ true → is_other_element t (extent_of its (facts.origin_of_step its b)) ≡ false → Fits (stepped_object b)
    fits_stepped (base.Global g) o h = fits_shared g h
    fits_stepped (base.Value q) o h = fits_private q (by (outcome_at its q) refl h)
      where
        by : (x : Outcome) → outcome_at its q ≡ x → is_other_element t (extent_of its (origin_of_alloca q x)) ≡ false → is_other_element t (extent_of_outcome (outcome_at its q)) ≡ false
        by (outcome.Alloca e) same g = g
        by (outcome.Number u) same g = ap (λ (x : Outcome). is_other_element t (extent_of_outcome x)) same
        by (outcome.Pair u) same g = ap (λ (x : Outcome). is_other_element t (extent_of_outcome x)) same
        by (outcome.Gep b elem u v) same g = ap (λ (x : Outcome). is_other_element t (extent_of_outcome x)) same
        by outcome.Nothing same g = ap (λ (x : Outcome). is_other_element t (extent_of_outcome x)) same
    fits_stepped (base.Param q) o h = absurd (false≢true o)

    fits_value : (r : ℕ) (x : Outcome) → outcome_at its r ≡ x → is_other_element t (extent_of its (facts.origin_of_value its r x)) ≡ false → Fits (object_of_value x r)
    fits_value r (outcome.Gep b elem u v) same h = fits_stepped b (ap (starts_at_object its) (sym same) ∙ good_outcome r) h
    fits_value r (outcome.Alloca e) same h = fits_private r h
    fits_value r (outcome.Number u) same h = fits_private r (ap (λ (x : Outcome). is_other_element t (extent_of_outcome x)) same)
    fits_value r (outcome.Pair u) same h = fits_private r (ap (λ (x : Outcome). is_other_element t (extent_of_outcome x)) same)
    fits_value r outcome.Nothing same h = fits_private r (ap (λ (x : Outcome). is_other_element t (extent_of_outcome x)) same)

    fits_base : (b : Base) (step : Option (Ty × ℕ × Ty × Operand)) → is_bad_pointer its (record { base = b; step = step }) ≡ false → is_other_element t (extent_of its (facts.origin_of its b)) ≡ false → Fits (object_of program n b)
    fits_base (base.Global g) step good h = fits_shared g h
    fits_base (base.Value r) step good h = subst (λ (x : Outcome). Fits (object_of_value x r)) (outcome_is program accepted laws.sound n f at r) (fits_value r (outcome_at its r) refl h)
    fits_base (base.Param q) step good h = absurd (param_is_bad (kind.is_step step) good)

  fits : (t : Ty) (a : Addr) → is_odd t ≡ false → is_bad_pointer its a ≡ false → is_mixed_access its t a ≡ false → is_narrow t ≡ true → is_access_size (bytes_of program n (object_of program n a.base)) ≡ true
  fits t a odd good h narrow = fits_base t odd narrow a.base a.step good h

  -- ---- indexes
  value_index : (x : Outcome) (r : ℕ) → r < 2048 → IsSmallIndex (index_of_value x r)
  unfolding IsSmallIndex
  value_index (outcome.Gep b elem t v) r lt = (copies tag.Silent refl 1 (low_of r) (omega arith) (omega (arith, lt)), tt)
  value_index (outcome.Number t) r lt = omega arith
  value_index (outcome.Pair t) r lt = omega arith
  value_index (outcome.Alloca e) r lt = omega arith
  value_index outcome.Nothing r lt = omega arith

  base_index : (b : Base) → is_base scope b ≡ true → IsSmallIndex (index_of_base program n b)
  unfolding IsSmallIndex
  base_index (base.Global g) h = omega arith
  base_index (base.Value r) h = value_index (outcome_in m n r) r (within r (slice_get (all_insts f.blocks) r) refl h)
  base_index (base.Param q) h = omega arith

  index : (b : Base) (s : Option (Ty × ℕ × Ty × Operand)) → is_base scope b ≡ true → is_step scope s ≡ true → list_any is_odd (step_types s) ≡ false → is_wide_step s ≡ false → IsSmallIndex (index_at program n b s)
  index b None hb hs odd wide = base_index b hb
  index b (Some s) hb hs odd wide =
      let named = (or_parts (is_odd s.2) (list_any is_odd []) (or_parts (is_odd s.0) (list_any is_odd (s.2 ∷ [])) odd).1).0 in
      step_small program n (object_of program n b) s.0 s.2 s.3 (typed s.2 s.3 (and_parts (is_type s.0) (is_typed scope s.2 s.3) hs).1) named (narrow_128 s.2 named wide)

  -- ---- each instruction
  module _ (b k : ℕ) (lt : k < 2048) where
    reaches : (a : Addr) (rest : Straight) → is_addr scope a ≡ true → list_any is_odd (step_types a.step) ≡ false → list_any has_wide_step (a ∷ []) ≡ false → IsSmallStraight rest → AreSmall (reach n k program f.blocks b a rest)
    reaches a rest ha odd wide h =
        let p = and_parts (is_base scope a.base) (is_step scope a.step) ha in
        through_small n k program (object_of program n a.base) (object_small (object_of program n a.base)) rest h (index_at program n a.base a.step)
        (index a.base a.step p.0 p.1 odd (or_parts (has_wide_step a) (list_any has_wide_step []) wide).0)

    rest : (t : Ty) (ts : List Ty) → list_any is_odd (t ∷ ts) ≡ false → (is_odd t ≡ false) × (list_any is_odd ts ≡ false)
    rest t ts o = or_parts (is_odd t) (list_any is_odd ts) o

    good : (a : Addr) → list_any (is_bad_pointer its) (a ∷ []) ≡ false → is_bad_pointer its a ≡ false
    good a h = (or_parts (is_bad_pointer its a) (list_any (is_bad_pointer its) []) h).0

    idle : AreSmall (straight n k (lone mid.Nop))
    idle = straight_small n k (lone mid.Nop) (lone_small mid.Nop nothing)

    stops : AreSmall (straight n k (lone mid.Trap))
    stops = straight_small n k (lone mid.Trap) (lone_small mid.Trap trap)

    out_small : (args : List Arg) → list_all (is_arg scope) args ≡ true → IsSmallStraight (out_operand n k args)
    out_small [] h = lone_small mid.Nop nothing
    out_small (arg.Pointer a ∷ args) h = lone_small mid.Nop nothing
    out_small (arg.Value t v ∷ args) h = record { quiet = (low 0 t v (omega arith) (argument t v (and_parts (is_arg scope (arg.Value t v)) (list_all (is_arg scope) args) h).0), tt); last = outs }

    piece_small : (x : Inst) → IsKnown x → AreSmall (piece n k program f.blocks b x)
    unfolding piece is_inst types_of is_left_out is_mixed_inst pointers_of
    piece_small (inst.Bin o t v w) h =
        let p = and_parts (is_typed scope t v) (is_operand scope w) h.formed in
        straight_small n k (bin_lines o k t v w) (bin_small k lt t v w (rest t [] h.odd).0 (typed t v p.0) (near w p.1) o (amount o t v w h.shift) h.left_out)
    piece_small (inst.Icmp q t v w) h =
        let p = and_parts (is_typed scope t v) (is_operand scope w) h.formed in
        straight_small n k (icmp_lines q k t v w) (icmp_small k lt t v w (rest t [] h.odd).0 (typed t v p.0) (near w p.1) (comparison q))
    piece_small (inst.Select c t v u w) h =
        let p = and_parts (is_operand scope c && is_typed scope t v) (is_typed scope u w) h.formed in
        let q = and_parts (is_operand scope c) (is_typed scope t v) p.0 in
        let r = rest t (u ∷ []) h.odd in
        straight_small n k (select_lines k c t v u w) (select_small k lt c t u v w (near c q.0) (typed t v q.1) (typed u w p.1) r.0 (rest u [] r.1).0)
    piece_small (inst.Convert cast t v u) h =
        let r = rest t (u ∷ []) h.odd in
        straight_small n k (convert_lines cast k t v u) (convert_small k lt cast t u v (typed t v (and_parts (is_typed scope t v) (is_type u) h.formed).0) r.0 (rest u [] r.1).0 (is_true (converts cast t u) h.mixed) h.left_out)
    piece_small (inst.Phi t es) h = tt
    piece_small (inst.Jump d) h = straight_small n k (edge_lines n f.blocks b d) (edge_small n f.blocks b d (phis d))
    piece_small (inst.Branch v d e) h = by (nat_eq d e)
      where
        by : (q : Bool) → AreSmall (if q then straight n k (edge_lines n f.blocks b d) else branch_lines n k v (edge_lines n f.blocks b d) (edge_lines n f.blocks b e))
        by true = straight_small n k (edge_lines n f.blocks b d) (edge_small n f.blocks b d (phis d))
        by false =
            let p = and_parts (is_operand scope v && is_block_number scope d) (is_block_number scope e) h.formed in
            branch_small n k v (edge_lines n f.blocks b d) (edge_lines n f.blocks b e) (near v (and_parts (is_operand scope v) (is_block_number scope d) p.0).0) (edge_small n f.blocks b d (phis d)) (edge_small n f.blocks b e (phis e))
    piece_small inst.RetVoid h = straight_small n k (lone mid.Ret) (lone_small mid.Ret ret)
    piece_small (inst.Ret t v) h = stops
    piece_small inst.Unreachable h = stops
    piece_small (inst.Alloca t count align) h = idle
    piece_small (inst.Gep elem count x t v) h =
        let named = (rest t [] (rest elem (t ∷ []) h.odd).1).0 in
        let p = and_parts (is_type elem && is_base scope x) (is_typed scope t v) h.formed in
        let i = index_of_step program n (object_of program n x) elem t v in
        straight_small n k (gep_lines n k i) (gep_small n k lt i (step_small program n (object_of program n x) elem t v (typed t v p.1) named (narrow_128 t named h.left_out)))
    piece_small (inst.Load t a align) h =
        let r = rest t (step_types a.step) h.odd in
        let bytes = bytes_at n k program f.blocks b a in
        reaches a (load_lines k t bytes) (and_parts (is_type t) (is_addr scope a) h.formed).1 r.1 h.steps (load_small k lt t bytes (fits t a r.0 (good a h.pointers) h.mixed))
    piece_small (inst.LoadAtomic t a order align) h =
        let r = rest t (step_types a.step) h.odd in
        reaches a (atomic_load_lines k t order) (and_parts (is_type t) (is_addr scope a) h.formed).1 r.1 h.steps (atomic_load_small k lt t r.0 order)
    piece_small (inst.Store t v a align) h =
        let p = and_parts (is_typed scope t v) (is_addr scope a) h.formed in
        let r = rest t (step_types a.step) h.odd in
        let bytes = bytes_at n k program f.blocks b a in
        reaches a (store_lines t v bytes) p.1 r.1 h.steps (store_small t v bytes (typed t v p.0) r.0 (fits t a r.0 (good a h.pointers) h.mixed))
    piece_small (inst.StoreAtomic t v a order align) h =
        let p = and_parts (is_typed scope t v) (is_addr scope a) h.formed in
        let r = rest t (step_types a.step) h.odd in
        reaches a (atomic_store_lines t v order) p.1 r.1 h.steps (atomic_store_small k lt t r.0 v (typed t v p.0) order)
    piece_small (inst.Cmpxchg weak a t v u w success failure align) h =
        let p = and_parts (is_addr scope a && is_typed scope t v) (is_typed scope u w) h.formed in
        let q = and_parts (is_addr scope a) (is_typed scope t v) p.0 in
        let r = rest t (u ∷ step_types a.step) h.odd in
        let same = sym (not_other t u (or_parts (is_mixed_access its t a) (not (same_type t u)) h.mixed).1) in
        reaches a (exchange_lines k weak t v u w (merged_order success failure)) q.0 (rest u (step_types a.step) r.1).1 h.steps (exchange_small k lt t r.0 weak v u w (merged_order success failure) same (typed t v q.1) (typed u w p.1))
    piece_small (inst.Rmw o a t v order align) h =
        let p = and_parts (is_addr scope a) (is_typed scope t v) h.formed in
        let r = rest t (step_types a.step) h.odd in
        reaches a (update_lines k (operation.Rmw o) t v order) p.0 r.1 h.steps (update_small k lt t r.0 o v (typed t v p.1) order)
    piece_small (inst.Fence true order) h = idle
    piece_small (inst.Fence false order) h = straight_small n k (fence_lines n k false order) (lone_small _ (atomics operation.Fence _ order false [] [] refl refl tt tt))
    piece_small (inst.Extract t (operand.Value r) part) h = straight_small n k (extract_lines k r part) (extract_small k lt r part (typed t (operand.Value r) (and_parts (is_typed scope t (operand.Value r)) (nat_lt part 2) h.formed).0))
    piece_small (inst.Extract t (operand.Const c) part) h = idle
    piece_small (inst.Extract t (operand.Wide c) part) h = idle
    piece_small (inst.Extract t (operand.Param c) part) h = idle
    piece_small (inst.Call result name args) h = by (is_out name)
      where
        by : (q : Bool) → AreSmall (if q then straight n k (out_operand n k args) else straight n k (lone mid.Nop))
        by true = straight_small n k (out_operand n k args) (out_small args (and_parts (is_result_type result && is_callee_name name) (list_all (is_arg scope) args) h.formed).1)
        by false = idle

  each_small : (d j : ℕ) (x : Inst) → Here d j x → (b : ℕ) → AreSmall (piece n (first_number f.blocks d + j) program f.blocks b x)
  each_small d j x e b = piece_small b (first_number f.blocks d + j) (below d j x e) x (known d j x e)

-- ---- the whole code
module _ (program : SourceProgram) where
  insts_small : (f : ℕ) (blocks : List Block) (b k : ℕ) (insts : List Inst) → ((j : ℕ) (x : Inst) → slice_get insts j ≡ Some x → AreSmall (piece f (k + j) program blocks b x)) → AreSmall (insts_lines program f blocks b k insts)
  insts_small f blocks b k [] h = tt
  insts_small f blocks b k (i ∷ insts) h =
      let first : k + 0 ≡ k = omega arith in
      small_both (piece f k program blocks b i) (insts_lines program f blocks b (k + 1) insts)
      (subst (λ (n : ℕ). AreSmall (piece f n program blocks b i)) first (h 0 i refl))
      (insts_small f blocks b (k + 1) insts (λ j x e. let next : k + suc j ≡ k + 1 + j = omega arith in subst (λ (n : ℕ). AreSmall (piece f n program blocks b x)) next (h (suc j) x e)))

  blocks_small : (f : ℕ) (all : List Block) (b k : ℕ) (blocks : List Block) → ((d j : ℕ) (x : Inst) → slice_get (insts_of_block blocks d) j ≡ Some x → (c : ℕ) → AreSmall (piece f (k + (first_number blocks d + j)) program all c x)) → AreSmall (blocks_lines program f all b k blocks)
  blocks_small f all b k [] h = tt
  blocks_small f all b k (block ∷ blocks) h = (
    labels (block_label f k),
    small_both (insts_lines program f all b k block.insts) (blocks_lines program f all (b + 1) (k + length block.insts) blocks)
        (insts_small f all b k block.insts (λ j x e. let same : k + (0 + j) ≡ k + j = omega arith in subst (λ (n : ℕ). AreSmall (piece f n program all b x)) same (h 0 j x e b)))
        (blocks_small f all (b + 1) (k + length block.insts) blocks (λ d j x e c.
        let first = first_number blocks d in
        let same : k + (length block.insts + first + j) ≡ k + length block.insts + (first + j) = omega arith in
        subst (λ (n : ℕ). AreSmall (piece f n program all c x)) same (h (suc d) j x e c))),
  )

  functions_small : Laws → IsAccepted program → (f : ℕ) (functions : List Function) → ((n : ℕ) (g : Function) → slice_get functions n ≡ Some g → slice_get program.source.functions (f + n) ≡ Some g) → AreSmall (functions_lines program f functions)
  functions_small laws accepted f [] at = tt
  functions_small laws accepted f (g ∷ functions) at =
      let own : slice_get program.source.functions f ≡ Some g = subst (λ (n : ℕ). slice_get program.source.functions n ≡ Some g) (omega arith) (at 0 g refl) in
      small_both (function_lines program f g) (functions_lines program (f + 1) functions)
      (blocks_small f g.blocks 0 0 g.blocks (λ d j x e c.
      let n = first_number g.blocks d + j in
      let same : n ≡ 0 + n = omega arith in
      subst (λ (n : ℕ). AreSmall (piece f n program g.blocks c x)) same (each_small laws program accepted f g own d j x e c)))
      (functions_small laws accepted (f + 1) functions (λ n h e. let next : f + suc n ≡ f + 1 + n = omega arith in subst (λ (m : ℕ). slice_get program.source.functions m ≡ Some h) next (at (suc n) h e)))

small_at : (lines : List (Line Virtual)) (place : ℕ) (line : Line Virtual) → slice_get lines place ≡ Some line → AreSmall lines → IsSmall line.tag line.inst
small_at [] place line e h = absurd (none-some line e)
small_at (x ∷ lines) zero line e h = subst (λ (y : Line Virtual). IsSmall y.tag y.inst) (same_Some x line e) h.0
small_at (x ∷ lines) (suc place) line e h = small_at lines place line e h.1

all_low : (rs : List Virtual) → AreLow rs → All (λ (r : Virtual). key r < 8208) rs
all_low [] h = All-nil (λ (r : Virtual). key r < 8208)
all_low (r ∷ rs) h = All-cons (λ (r : Virtual). key r < 8208) r rs h.0 (all_low rs h.1)

is_small_line : (line : Line Virtual) → IsSmall line.tag line.inst → IsSmallLine line
unfolding constant_in offset_at
is_small_line line h = record {
  shaped = h.shaped;
  constant = λ to n e. subst (λ (i : MidInst Virtual). constant_in i < 2 ^ 64) e h.constant;
  frame = λ to n e. subst (λ (i : MidInst Virtual). offset_at i ≤ 32768) e h.frame;
  registers = λ r c. All-contains (λ (r : Virtual). key r < 8208) (registers_of line.inst) r (all_low (registers_of line.inst) h.registers) c;
}

pub lines_are_small : Laws → SelectedLinesAreSmall
lines_are_small laws program accepted place line e =
    is_small_line line (small_at (selected program).lines place line e
    (functions_small program laws accepted 0 program.source.functions (λ n g at. let same : n ≡ 0 + n = omega arith in subst (λ (m : ℕ). slice_get program.source.functions m ≡ Some g) same at)))
