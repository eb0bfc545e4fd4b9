-- An accepted module is ready to be selected.
use Rattle.std.proofs.Common.{◌≡◌, ◌≢◌, ℕ, ◌+◌, ◌%◌, ◌^◌, ◌<◌, ◌≤◌, pos, negsuc, Bool, true, false, not, ◌&&◌, ◌||◌, List, [], ◌∷◌, Option, Some, None, All, length, flat_map, get_or, refl, sym, ap, ◌∙◌, subst, arith, div-add-mod', slice_get}
use Rattle.std.specs.Prelude.{if◌then◌else◌, nat_eq, nat_lt}
use Rattle.std.specs.List.{list_all, list_any}
use Rattle.std.proofs.lemmas.Bool.{and_parts, eqb-true, or_parts, true≢false, false≢true}
use Rattle.std.proofs.lemmas.Bool.Decides.{nat_tests}
use Rattle.std.proofs.lemmas.List.Concat.{length-flat_map}
use Rattle.std.proofs.lemmas.List.Elements.{All-cons, All-nil}
use Rattle.std.proofs.lemmas.List.Folds.{list_any-append}
use Rattle.std.proofs.lemmas.Option.{slice_get-get_or, slice_get_within}
use Rattle.ax_module.specs.declared.inst.BinOp.{BinOp}
use Rattle.ax_module.specs.declared.inst.BinOp.TheVariants as bin
use Rattle.ax_module.specs.declared.inst.Inst.{Inst}
use Rattle.ax_module.specs.declared.inst.Inst.TheVariants as inst
use Rattle.ax_module.specs.declared.module.Block.{Block}
use Rattle.ax_module.specs.declared.module.Function.{Function}
use Rattle.ax_module.specs.declared.operand.Addr.{Addr}
use Rattle.ax_module.specs.declared.operand.Arg.{Arg}
use Rattle.ax_module.specs.declared.operand.Arg.TheVariants as arg
use Rattle.ax_module.specs.declared.operand.Base.{Base}
use Rattle.ax_module.specs.declared.operand.Base.TheVariants as base
use Rattle.ax_module.specs.declared.operand.Operand.{Operand}
use Rattle.ax_module.specs.declared.operand.Operand.TheVariants as operand
use Rattle.ax_module.specs.declared.types.Ty.{Ty}
use Rattle.ax_module.specs.declared.types.Ty.TheVariants.{I1, I8, I16, I32, I64, I128, Int, Float, Double, Ptr, Vector}
use Rattle.ax_module.specs.WellFormed.{NameCounts, has_result_at, is_addr, is_arg, is_base, is_block_number, is_constant, is_count, is_entry, is_function_counted, is_inst, is_nonempty, is_operand, is_order, is_result_type, is_callee_name, is_step, is_type, is_typed, scope_of as formed_scope}
use Rattle.ax_words.specs.declared.order.Access.{Access}
use Rattle.ax_words.specs.declared.order.Access.TheVariants.{CmpFailure, CmpSuccess}
use Rattle.ax_words.specs.declared.order.Order.{Order}
use Rattle.ax_words.specs.declared.order.Order.TheVariants.{Unordered}
use Rattle.ax_words.specs.Orders.{is_legal}
use Rattle.ax_layout.specs.Layout.{CanBeLaidOut}
use Rattle.ax_source_run.specs.SourceInstructions.{first_number, insts_of_block}
use Rattle.ax_source_run.specs.SourceState.{SourceProgram}
use Rattle.ax_source_run.specs.SourceValues.{type_bits}
use Rattle.ax_rules.specs.Parts.{arg_types, pointers_of, result_types, step_types, types_of}
use Rattle.ax_rules.specs.Width.{has_wide_step, is_amount, is_i128, is_left_out, is_odd, is_shift_amount, memory_types, shift_fault}
use Rattle.ax_module.specs.WellFormed.{is_bit}
use Rattle.ax_access_rules.specs.Orders.{order_fault}
use Rattle.ax_check.specs.Accepted.{IsAccepted}
use Rattle.ax_check.specs.Laws.{AtInstructions, IsSound, IsSoundHead}
use Rattle.ax_typed.proofs.Facts.{any_at}
use Rattle.ax_typed.proofs.Places.{all_at, all_insts, block_at}
use Rattle.ax_typed.proofs.Standing.{block_formed, sound_at}
use Rattle.ax_typed.proofs.Types.{is_true}
use Rattle.ax_cells.specs.Memories.{starts_from}
use Rattle.ax_cells.specs.Narrow.{is_narrow}
use Rattle.ax_pieces.specs.Near.{AreNear, IsAmount, IsNearEdge, IsNearOut, IsNearPhi}
use Rattle.ax_reach.specs.Near.{IsNearAddr, IsNearBase, IsNearNumber, IsNearStep}
use Rattle.ax_selected.specs.Operands.{constant_of}
use Rattle.ax_selected.specs.Ranges.{IsNear}
use Rattle.ax_select.specs.Ready.{IsNearPair, IsReady, IsReadyFunction, IsReadyProgram}
use Rattle.ax_select.proofs.Counts.{counted, number_below}

-- ---- types and amounts of shifts
narrow : (t : Ty) → is_odd t ≡ false → is_narrow t ≡ true
narrow (Int bits) h = absurd (true≢false h)
narrow _ h = refl

wide_bits : (t : Ty) → is_i128 t ≡ true → type_bits t ≡ 128
wide_bits I128 e = refl
wide_bits _ e = absurd (false≢true e)

mod_least : (n m : ℕ) → n % m ≤ n
mod_least n m = let e = div-add-mod' n m in omega (arith, e)

lt_of : (a b : ℕ) → nat_lt a b ≡ true → a < b
lt_of a b h = grind (arith, nat_tests)

amount_below : (t : Ty) (n : ℕ) → is_amount t n ≡ true → n < type_bits t
amount_below t n h = by (is_i128 t) refl h
  where
    by : (b : Bool) → is_i128 t ≡ b → (if b then nat_eq n 64 else nat_lt n (type_bits t)) ≡ true → n < type_bits t
    by true e g = let same = eqb-true n 64 g in let bits = wide_bits t e in omega (arith, same, bits)
    by false e g = lt_of n (type_bits t) g

amount_is : (t : Ty) (y : Operand) → is_shift_amount t y ≡ true → constant_of t y < type_bits t
amount_is t (operand.Const (pos n)) h = let l = mod_least n (2 ^ type_bits t) in let b = amount_below t n h in omega (arith, l, b)
amount_is t (operand.Const (negsuc n)) h = absurd (false≢true h)
amount_is t (operand.Wide n) h = absurd (false≢true h)
amount_is t (operand.Value k) h = absurd (false≢true h)
amount_is t (operand.Param k) h = absurd (false≢true h)

-- of a shift, the others have none
amount : (o : BinOp) (t : Ty) (x y : Operand) → shift_fault (inst.Bin o t x y) ≡ false → IsAmount o (record { ty = t; a = x; b = y })
unfolding shift_fault
amount bin.Shl t x y h = amount_is t y (is_true (is_shift_amount t y) h)
amount bin.Lshr t x y h = amount_is t y (is_true (is_shift_amount t y) h)
amount bin.Ashr t x y h = amount_is t y (is_true (is_shift_amount t y) h)
amount _ t x y h = tt

legal : (a : Access) (o : Order) → is_legal a Unordered ≡ false → not (is_legal a o) ≡ false → o ≢ Unordered
legal a o none h e = true≢false (sym (is_true (is_legal a o) h) ∙ (ap (is_legal a) e ∙ none))

-- ---- what an instruction names
module _ (scope : NameCounts) (few : length scope.insts ≤ 2048) where
  within : (k : ℕ) (o : Option Inst) → slice_get scope.insts k ≡ o → has_result_at o ≡ true → k < 2048
  within k None e h = absurd (false≢true h)
  within k (Some i) e h = let l = slice_get_within scope.insts k i e in omega (arith, l, few)

  near : (v : Operand) → is_operand scope v ≡ true → IsNear v
  near (operand.Value k) h = within k (slice_get scope.insts k) refl h
  near (operand.Const n) h = tt
  near (operand.Wide n) h = tt
  near (operand.Param k) h = tt

  near_base : (b : Base) → is_base scope b ≡ true → IsNearBase b
  near_base (base.Value k) h = within k (slice_get scope.insts k) refl h
  near_base (base.Global g) h = tt
  near_base (base.Param k) h = tt

  typed : (t : Ty) (v : Operand) → is_typed scope t v ≡ true → IsNear v
  typed t v h = near v (and_parts (is_type t) (is_operand scope v) h).1

  value : (t : Ty) (v : Operand) → is_typed scope t v ≡ true → is_odd t ≡ false → IsNearNumber t v
  value t v h o = (narrow t o, typed t v h)

  near_step : (s : Option (Ty × ℕ × Ty × Operand)) → is_step scope s ≡ true → list_any is_odd (step_types s) ≡ false → IsNearStep s
  near_step None h o = tt
  near_step (Some s) h o = (narrow s.2 (any_at is_odd (s.0 ∷ s.2 ∷ []) 1 s.2 o refl), typed s.2 s.3 (and_parts (is_type s.0) (is_typed scope s.2 s.3) h).1)

  addr : (a : Addr) → is_addr scope a ≡ true → list_any is_odd (step_types a.step) ≡ false → IsNearAddr a
  addr a h o =
      let p = and_parts (is_base scope a.base) (is_step scope a.step) h in
      record { base = near_base a.base p.0; step = near_step a.step p.1 o }

  entries : (es : List (Operand × ℕ)) → list_all (is_entry scope) es ≡ true → All (λ (e : Operand × ℕ). IsNear e.0) es
  entries [] h = All-nil (λ (e : Operand × ℕ). IsNear e.0)
  entries (e ∷ es) h =
      let p = and_parts (is_entry scope e) (list_all (is_entry scope) es) h in
      All-cons (λ (e : Operand × ℕ). IsNear e.0) e es (near e.0 (and_parts (is_operand scope e.0) (is_block_number scope e.1) p.0).0) (entries es p.1)

  phi : (x : Inst) → is_inst scope x ≡ true → list_any is_odd (types_of x) ≡ false → IsNearPhi x
  unfolding is_inst types_of IsNearPhi
  phi (inst.Phi t es) h o = (narrow t (any_at is_odd (t ∷ []) 0 t o refl), entries es (and_parts (is_type t && is_nonempty es) (list_all (is_entry scope) es) h).1)
  phi _ h o = tt

  constant : (v : Operand) → is_constant v ≡ true → IsNear v
  constant (operand.Value k) h = absurd (false≢true h)
  constant (operand.Const n) h = tt
  constant (operand.Wide n) h = tt
  constant (operand.Param k) h = tt

  argument : (t : Ty) (v : Operand) → is_arg scope (arg.Value t v) ≡ true → IsNear v
  argument I1 v h = typed I1 v h
  argument I8 v h = typed I8 v h
  argument I16 v h = typed I16 v h
  argument I32 v h = typed I32 v h
  argument I64 v h = typed I64 v h
  argument I128 v h = typed I128 v h
  argument (Int bits) v h = typed (Int bits) v h
  argument Float v h = typed Float v h
  argument Double v h = typed Double v h
  argument Ptr v h = constant v h
  argument Vector v h = typed Vector v h

  out : (args : List Arg) → list_all (is_arg scope) args ≡ true → list_any is_odd (flat_map arg_types args) ≡ false → IsNearOut args
  out [] h o = tt
  out (arg.Pointer a ∷ args) h o = tt
  out (arg.Value t v ∷ args) h o = (narrow t (any_at is_odd (t ∷ flat_map arg_types args) 0 t o refl), argument t v (and_parts (is_arg scope (arg.Value t v)) (list_all (is_arg scope) args) h).0)

  pair : (k : ℕ) (t : Ty) (v : Operand) → k < 2048 → is_typed scope t v ≡ true → IsNearPair k v
  pair k t (operand.Value r) lt h = (lt, typed t (operand.Value r) h)
  pair k t (operand.Const n) lt h = tt
  pair k t (operand.Wide n) lt h = tt
  pair k t (operand.Param n) lt h = tt

-- ---- an instruction of a function
module _ (program : SourceProgram) (accepted : IsAccepted program) (law : AtInstructions IsSound) (n : ℕ) (f : Function) (at : slice_get program.source.functions n ≡ Some f) (number : n < 64) (head : IsSoundHead n f) where
  abbrev scope : NameCounts
  scope = formed_scope (length program.source.globals) f

  few : length (all_insts f.blocks) ≤ 2048
  few = subst (λ (c : ℕ). c ≤ 2048) (sym (length-flat_map (λ (block : Block). block.insts) f.blocks)) head.instructions

  abbrev Here : ℕ → ℕ → Inst → Type 0
  Here b i x = slice_get (insts_of_block f.blocks b) i ≡ Some x

  formed : (b i : ℕ) (x : Inst) → Here b i x → is_inst scope x ≡ true
  formed b i x h =
      let p = block_at f.blocks b i x h in
      let parts = and_parts (is_order p.0.insts) (list_all (is_inst scope) p.0.insts) (block_formed program accepted law n f at b p.0 p.1) in
      all_at (is_inst scope) p.0.insts i x parts.1 (sym (ap (λ (insts : List Inst). slice_get insts i) p.2) ∙ h)

  sound : (b i : ℕ) (x : Inst) → Here b i x → IsSound program f (record { block = b; number = first_number f.blocks b + i; inst = x })
  sound b i x h = sound_at program accepted law n f at b i (first_number f.blocks b + i) x refl h

  none_odd : (b i : ℕ) (x : Inst) → Here b i x → list_any is_odd (types_of x) ≡ false
  none_odd b i x h =
      let two = list_any is_odd (types_of x) || list_any is_bit (memory_types x) in
      let last = or_parts (two || is_left_out x) (list_any has_wide_step (pointers_of x)) (sound b i x h).width in
      (or_parts (list_any is_odd (types_of x)) (list_any is_bit (memory_types x)) (or_parts two (is_left_out x) last.0).0).0

  edge : (d : ℕ) → nat_lt d (length f.blocks) ≡ true → IsNearEdge n f.blocks (starts_from 0 f.blocks) d
  edge d lt =
      let insts = insts_of_block f.blocks d in
      let room = counted f.blocks d in
      record {
        function = number;
        begins = refl;
        inside = lt_of d (length f.blocks) lt;
        few = omega (arith, room, few);
        phis = λ j x below. let is = slice_get-get_or insts j x below in phi scope few (get_or insts j x) (formed d j (get_or insts j x) is) (none_odd d j (get_or insts j x) is);
      }

  module _ (b k : ℕ) (lt : k < 2048) where
    abbrev Ready : Inst → Type 0
    Ready x = IsReady f.blocks (starts_from 0 f.blocks) n b k x

    access : (a : Addr) (t : Ty) (v : Operand) → is_addr scope a ≡ true → is_typed scope t v ≡ true → is_odd t ≡ false → list_any is_odd (step_types a.step) ≡ false → (k < 2048) × IsNearAddr a × IsNearNumber t v
    access a t v ha hv ot os = (lt, addr scope few a ha os, value scope few t v hv ot)

    rest : (t : Ty) (ts : List Ty) → list_any is_odd (t ∷ ts) ≡ false → (is_odd t ≡ false) × (list_any is_odd ts ≡ false)
    rest t ts o = or_parts (is_odd t) (list_any is_odd ts) o

    both : (t : Ty) (v w : Operand) → is_typed scope t v && is_operand scope w ≡ true → is_odd t ≡ false → AreNear k (record { ty = t; a = v; b = w })
    both t v w h o =
        let p = and_parts (is_typed scope t v) (is_operand scope w) h in
        record { instruction = lt; narrow = narrow t o; a = typed scope few t v p.0; b = near scope few w p.1 }

    ready : (x : Inst) → is_inst scope x ≡ true → list_any is_odd (types_of x) ≡ false → shift_fault x ≡ false → order_fault x ≡ false → Ready x
    unfolding is_inst types_of order_fault IsReady
    ready (inst.Bin o t v w) h odd s g = (both t v w h (rest t [] odd).0, amount o t v w s)
    ready (inst.Icmp q t v w) h odd s g = both t v w h (rest t [] odd).0
    ready (inst.Select test t v u w) h odd s g =
        let p = and_parts (is_operand scope test && is_typed scope t v) (is_typed scope u w) h in
        let q = and_parts (is_operand scope test) (is_typed scope t v) p.0 in
        let r = rest t (u ∷ []) odd in
        record { instruction = lt; narrow = narrow t r.0; narrow_other = narrow u (rest u [] r.1).0; test = near scope few test q.0; a = typed scope few t v q.1; b = typed scope few u w p.1 }
    ready (inst.Convert cast t v u) h odd s g =
        let p = and_parts (is_typed scope t v) (is_type u) h in
        let r = rest t (u ∷ []) odd in
        record { instruction = lt; narrow = narrow t r.0; narrow_to = narrow u (rest u [] r.1).0; a = typed scope few t v p.0 }
    ready (inst.Phi t es) h odd s g = tt
    ready (inst.Jump d) h odd s g = edge d h
    ready (inst.Branch v d e) h odd s g =
        let p = and_parts (is_operand scope v && is_block_number scope d) (is_block_number scope e) h in
        let q = and_parts (is_operand scope v) (is_block_number scope d) p.0 in
        record { instruction = lt; test = near scope few v q.0; along_true = edge d q.1; along_false = edge e p.1 }
    ready inst.RetVoid h odd s g = tt
    ready (inst.Ret t v) h odd s g = tt
    ready inst.Unreachable h odd s g = tt
    ready (inst.Alloca t count align) h odd s g = tt
    ready (inst.Gep elem count x t v) h odd s g =
        let p = and_parts (is_type elem && is_base scope x) (is_typed scope t v) h in
        (lt, value scope few t v p.1 (rest t [] (rest elem (t ∷ []) odd).1).0)
    ready (inst.Load t a align) h odd s g = (lt, addr scope few a (and_parts (is_type t) (is_addr scope a) h).1 (rest t (step_types a.step) odd).1)
    ready (inst.LoadAtomic t a order align) h odd s g = (lt, addr scope few a (and_parts (is_type t) (is_addr scope a) h).1 (rest t (step_types a.step) odd).1)
    ready (inst.Store t v a align) h odd s g =
        let p = and_parts (is_typed scope t v) (is_addr scope a) h in
        let r = rest t (step_types a.step) odd in
        access a t v p.1 p.0 r.0 r.1
    ready (inst.StoreAtomic t v a order align) h odd s g =
        let p = and_parts (is_typed scope t v) (is_addr scope a) h in
        let r = rest t (step_types a.step) odd in
        access a t v p.1 p.0 r.0 r.1
    ready (inst.Cmpxchg weak a t v u w success failure align) h odd s g =
        let p = and_parts (is_addr scope a && is_typed scope t v) (is_typed scope u w) h in
        let q = and_parts (is_addr scope a) (is_typed scope t v) p.0 in
        let r = rest t (u ∷ step_types a.step) odd in
        let z = rest u (step_types a.step) r.1 in
        let orders = or_parts (not (is_legal CmpSuccess success)) (not (is_legal CmpFailure failure)) g in
        (lt, addr scope few a q.0 z.1, record { expected = value scope few t v q.1 r.0; desired = value scope few u w p.1 z.0 }, legal CmpSuccess success refl orders.0, legal CmpFailure failure refl orders.1)
    ready (inst.Rmw o a t v order align) h odd s g =
        let p = and_parts (is_addr scope a) (is_typed scope t v) h in
        let r = rest t (step_types a.step) odd in
        access a t v p.0 p.1 r.0 r.1
    ready (inst.Fence single order) h odd s g = tt
    ready (inst.Extract t v part) h odd s g = pair scope few k t v lt (and_parts (is_typed scope t v) (nat_lt part 2) h).0
    ready (inst.Call t name args) h odd s g =
        let p = and_parts (is_result_type t && is_callee_name name) (list_all (is_arg scope) args) h in
        let r = or_parts (list_any is_odd (result_types t)) (list_any is_odd (flat_map arg_types args)) (sym (list_any-append is_odd (result_types t) (flat_map arg_types args)) ∙ odd) in
        out scope few args p.1 r.1

  function_is : nat_lt (length f.blocks) (2 ^ 32) ≡ true → IsReadyFunction n f.blocks
  function_is count = record {
    blocks_counted = lt_of (length f.blocks) (2 ^ 32) count;
    few = few;
    ready = λ b i x h.
        let s = sound b i x h in
        let below = number_below f.blocks b i x h in
        ready b (first_number f.blocks b + i) (omega (arith, below, few)) x (formed b i x h) (none_odd b i x h) s.shift s.order;
  }

-- ---- the module
pub module_is : AtInstructions IsSound → ((program : SourceProgram) → IsAccepted program → length program.source.functions ≤ 64) → ((program : SourceProgram) (n : ℕ) (f : Function) → IsAccepted program → slice_get program.source.functions n ≡ Some f → IsSoundHead n f) → ((program : SourceProgram) → IsAccepted program → CanBeLaidOut program.source)
    → (program : SourceProgram) → IsAccepted program → IsReadyProgram program
module_is law most heads laid program accepted = record {
  few = most program accepted;
  functions = λ n f at.
      let within = slice_get_within program.source.functions n f at in
      let counts = and_parts (is_count (length program.source.globals) && is_count (length program.source.functions)) (list_all is_function_counted program.source.functions) accepted.formed.counts in
      let own = all_at is_function_counted program.source.functions n f counts.1 at in
      let blocks = and_parts (is_count (length f.params)) (is_count (length f.blocks)) (and_parts (is_count (length f.params) && is_count (length f.blocks)) (is_count (length (all_insts f.blocks))) own).0 in
      let all = most program accepted in
      function_is program accepted law n f at (omega (arith, within, all)) (heads program n f accepted at) blocks.1;
  limits = laid program accepted;
  layout = accepted.layout;
}
