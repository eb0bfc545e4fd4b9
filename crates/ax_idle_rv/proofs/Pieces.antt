-- Selected code is calm: from each line it isn't far to an Act.
use Rattle.std.proofs.Common.{◌≡◌, ℕ, zero, suc, ◌+◌, ◌-◌, ◌*◌, ◌≤◌, Bool, true, false, cond, List, [], ◌∷◌, ◌++◌, map, Option, Some, None, length, refl, sym, ap, ◌∙◌, subst, arith, append_assoc, count_by, nat_eq, slice_get}
use Rattle.std.specs.List.{list_any}
use Rattle.std.specs.Prelude.{if◌then◌else◌, nat_lt}
use Rattle.std.proofs.lemmas.Bool.{or_parts}
use Rattle.std.proofs.lemmas.Bool.Decides.{nat_tests}
use Rattle.std.proofs.lemmas.List.{append-nil}
use Rattle.std.proofs.lemmas.List.Sums.{sum_by-cons}
use Rattle.ax_words.specs.declared.mark.Op.TheVariants as operation
use Rattle.ax_words.specs.Orders.{merged_order}
use Rattle.ax_module.specs.declared.inst.BinOp.{BinOp}
use Rattle.ax_module.specs.declared.inst.BinOp.TheVariants as bin
use Rattle.ax_module.specs.declared.inst.Cast.{Cast}
use Rattle.ax_module.specs.declared.inst.Cast.TheVariants.{Zext, Sext, Trunc}
use Rattle.ax_module.specs.declared.inst.Inst.{Inst}
use Rattle.ax_module.specs.declared.inst.Inst.TheVariants as inst
use Rattle.ax_module.specs.declared.module.Block.{Block}
use Rattle.ax_module.specs.declared.module.Function.{Function}
use Rattle.ax_module.specs.declared.operand.Addr.{Addr}
use Rattle.ax_module.specs.declared.operand.Arg.{Arg}
use Rattle.ax_module.specs.declared.operand.Arg.TheVariants as arg
use Rattle.ax_module.specs.declared.operand.Base.{Base}
use Rattle.ax_module.specs.declared.operand.Base.TheVariants as base
use Rattle.ax_module.specs.declared.operand.Operand.{Operand}
use Rattle.ax_module.specs.declared.operand.Operand.TheVariants as operand
use Rattle.ax_module.specs.declared.types.Ty.{Ty}
use Rattle.ax_module.specs.declared.types.Ty.TheVariants.{I1}
use Rattle.ax_module.specs.Kinds as kinds
use Rattle.ax_source_run.specs.SourceInstructions.{first_number, insts_of_block, is_out, is_phi, phi_count}
use Rattle.ax_source_run.specs.SourceState.{Object, Private, Shared, SourceProgram}
use Rattle.ax_rules.specs.declared.facts.Outcome.{Outcome}
use Rattle.ax_rules.specs.declared.facts.Outcome.TheVariants as outcome
use Rattle.ax_rules.specs.Limits.{has_many_phis}
use Rattle.ax_typed.specs.Typed.{outcome_in}
use Rattle.ax_mid.specs.declared.code.Line.{Line}
use Rattle.ax_mid.specs.declared.instruction.MidInst.{MidInst}
use Rattle.ax_mid.specs.declared.instruction.MidInst.TheVariants as mid
use Rattle.ax_mid.specs.declared.registers.Virtual.{Virtual}
use Rattle.ax_selected.specs.Addresses.{Brought, Fixed, IndexAt, address_of, bytes_of, count_of, index_at, index_of_base, index_of_step, index_of_value, object_of}
use Rattle.ax_selected.specs.Edges.{coming_in, edge_lines, operand_from, set_phis}
use Rattle.ax_selected.specs.Operands.{high_into, is_narrow, low_into}
use Rattle.ax_selected.specs.Pieces.{Comparison, Straight, bin_lines, comparison, convert_lines, extract_lines, icmp_lines, narrow_bin, narrow_icmp, select_lines, wide_bin, wide_icmp}
use Rattle.ax_selected.specs.Registers.{block_label, first_label, high_in, low_in, low_of, high_of, second_label, virtual}
use Rattle.ax_selected.specs.Selected.{acting, atomic_load_lines, atomic_store_lines, blocks_lines, branch_lines, bytes_at, compared, chosen_by, exchange_lines, fence_lines, found, function_lines, functions_lines, gep_lines, guarded, halves_into, insts_lines, label_line, load_lines, lone, next_half, out_operand, piece, reach as reached, selected, silent, store_lines, straight, through, update_lines}
use Rattle.ax_idle_rv.proofs.Ranks.{IsInner, inner_rank}
use Rattle.ax_idle_rv.proofs.Reach.{Calm, CalmBy, most_reach, most_width, reach, reach_by, width}

-- ---- silent instructions
-- it computes, or accesses the frame or an object
abbrev Plain : MidInst Virtual → Type 0
Plain (mid.Jump n) = ⊥
Plain (mid.Branch test a b) = ⊥
Plain (mid.Label n) = ⊥
Plain (mid.Atomic o w order weak address args results) = ⊥
Plain _ = Unit {0}

abbrev Each : List (MidInst Virtual) → Type 0
Each [] = Unit {0}
Each (i ∷ is) = Plain i × Each is

each_both : (is js : List (MidInst Virtual)) → Each is → Each js → Each (is ++ js)
each_both [] js h g = g
each_both (i ∷ is) js h g = (h.0, each_both is js h.1 g)

abbrev weights : List (MidInst Virtual) → ℕ
weights [] = 0
weights (i ∷ is) = width i + weights is

weights_both : (is js : List (MidInst Virtual)) → weights (is ++ js) ≡ weights is + weights js
weights_both [] js = omega arith
weights_both (i ∷ is) js = let e = weights_both is js in omega (arith, e)

plain_width : (i : MidInst Virtual) → Plain i → width i ≤ 20
plain_width (mid.Jump n) h = absurd h
plain_width (mid.Branch test a b) h = absurd h
plain_width (mid.Label n) h = absurd h
plain_width (mid.Atomic o w order weak address args results) h = absurd h
plain_width _ h = omega arith

plain_reach : (i : MidInst Virtual) (rest : ℕ) → Plain i → reach_by true i rest ≡ width i + rest
plain_reach (mid.Branch test a b) rest h = absurd h
plain_reach _ rest h = refl

plain_calm : (i : MidInst Virtual) (rest : ℕ) → Plain i → CalmBy true i rest
plain_calm (mid.Jump n) rest h = absurd h
plain_calm (mid.Branch test a b) rest h = absurd h
plain_calm (mid.Label n) rest h = absurd h
plain_calm _ rest h = tt

few_weights : (is : List (MidInst Virtual)) → Each is → weights is ≤ 20 * length is
few_weights [] h = omega arith
few_weights (i ∷ is) h = let more = few_weights is h.1 in let one = plain_width i h.0 in omega (arith, more, one)

append_length : {A : Type 0} (xs ys : List A) → length (xs ++ ys) ≡ length xs + length ys
append_length [] ys = omega arith
append_length (x ∷ xs) ys = let e = append_length xs ys in omega (arith, e)

-- ---- lists of lines
abbrev pub Good : List (Line Virtual) → Type 0
Good lines = Calm lines × (reach lines ≤ most_reach)

-- whatever good lines follow
abbrev GoodBefore : List (Line Virtual) → Type 0
GoodBefore lines = (rest : List (Line Virtual)) → Good rest → Good (lines ++ rest)

before_both : (xs ys : List (Line Virtual)) → GoodBefore xs → GoodBefore ys → GoodBefore (xs ++ ys)
before_both xs ys h g rest good = subst Good (sym (append_assoc xs ys rest)) (h (ys ++ rest) (g rest good))

module _ (f k : ℕ) where
  silent_reach : (is : List (MidInst Virtual)) (lines : List (Line Virtual)) → Each is → reach (map (silent f k) is ++ lines) ≡ weights is + reach lines
  silent_reach [] lines h = omega arith
  silent_reach (i ∷ is) lines h =
      let more = silent_reach is lines h.1 in
      let one = plain_reach i (reach (map (silent f k) is ++ lines)) h.0 in
      omega (arith, more, one)

  silent_calm : (is : List (MidInst Virtual)) (lines : List (Line Virtual)) → Each is → weights is + reach lines ≤ most_reach → Calm lines → Calm (map (silent f k) is ++ lines)
  silent_calm [] lines h few calm = calm
  silent_calm (i ∷ is) lines h few calm =
      let own = silent_reach (i ∷ is) lines h in
      (omega (arith, own, few), plain_calm i (reach (map (silent f k) is ++ lines)) h.0, silent_calm is lines h.1 (omega (arith, few)) calm)

  -- silent instructions and one that acts
  ending : (is : List (MidInst Virtual)) (last : MidInst Virtual) (rest : List (Line Virtual)) → (map (silent f k) is ++ acting f k last ∷ []) ++ rest ≡ map (silent f k) is ++ (acting f k last ∷ rest)
  ending is last rest = append_assoc (map (silent f k) is) (acting f k last ∷ []) rest

  straight_reach : (is : List (MidInst Virtual)) (last : MidInst Virtual) (rest : List (Line Virtual)) → Each is → reach ((map (silent f k) is ++ acting f k last ∷ []) ++ rest) ≡ weights is + most_width
  straight_reach is last rest h = ap reach (ending is last rest) ∙ silent_reach is (acting f k last ∷ rest) h

  straight_calm : (is : List (MidInst Virtual)) (last : MidInst Virtual) (rest : List (Line Virtual)) → Each is → weights is + most_width ≤ most_reach → Calm rest → Calm ((map (silent f k) is ++ acting f k last ∷ []) ++ rest)
  straight_calm is last rest h few calm = subst Calm (sym (ending is last rest)) (silent_calm is (acting f k last ∷ rest) h few (omega arith, tt, calm))

  -- silent instructions, so many at most, and one that acts
  record Flat (n : ℕ) (s : Straight) : Type 0 where
    each : Each s.silent
    few : length s.silent ≤ n

  flat_weights : (n : ℕ) (s : Straight) → Flat n s → weights s.silent ≤ 20 * n
  flat_weights n s h = let w = few_weights s.silent h.each in let few = h.few in omega (arith, w, few)

  straight_good : (s : Straight) → Each s.silent → weights s.silent ≤ inner_rank - most_width → GoodBefore (straight f k s)
  straight_good s each few rest good =
      let r = straight_reach s.silent s.last rest each in
      (straight_calm s.silent s.last rest each (omega (arith, few)) good.0, omega (arith, r, few))

  flat_good : (s : Straight) → Flat 12 s → GoodBefore (straight f k s)
  flat_good s h = straight_good s h.each (let w = flat_weights 12 s h in omega (arith, w))

  lone_good : (i : MidInst Virtual) → GoodBefore (straight f k (lone i))
  lone_good i = flat_good (lone i) (record { each = tt; few = omega arith })

  inner_first : IsInner (first_label f k)
  inner_first e = omega (arith, e)

  inner_second : IsInner (second_label f k)
  inner_second e = omega (arith, e)

-- ---- operands
low : (r : ℕ) (t : Ty) (v : Operand) → Plain (low_into r t v)
low r t (operand.Value q) = tt
low r t (operand.Const n) = tt
low r t (operand.Wide n) = tt
low r t (operand.Param q) = tt

high : (r : ℕ) (t : Ty) (v : Operand) → Plain (high_into r t v)
high r t (operand.Value q) = tt
high r t (operand.Const n) = tt
high r t (operand.Wide n) = tt
high r t (operand.Param q) = tt

low_width : (r : ℕ) (t : Ty) (v : Operand) → width (low_into r t v) ≡ 6
low_width r t (operand.Value q) = refl
low_width r t (operand.Const n) = refl
low_width r t (operand.Wide n) = refl
low_width r t (operand.Param q) = refl

high_width : (r : ℕ) (t : Ty) (v : Operand) → width (high_into r t v) ≡ 6
high_width r t (operand.Value q) = refl
high_width r t (operand.Const n) = refl
high_width r t (operand.Wide n) = refl
high_width r t (operand.Param q) = refl

-- ---- what computes
module _ (f k : ℕ) where
  abbrev Few : Straight → Type 0
  Few s = Flat f k 8 s

  by_width : (b : Bool) (x y : Straight) → Few x → Few y → Few (if b then x else y)
  by_width true x y h g = h
  by_width false x y h g = g

  more_flat : (s : Straight) → Few s → Flat f k 12 s
  more_flat s h = let few = h.few in record { each = h.each; few = omega (arith, few) }

  narrow_few : (o : BinOp) (t : Ty) (v w : Operand) → Few (narrow_bin o k t v w)
  narrow_few bin.Shl t v w = record { each = (low 0 t v, (tt, tt)); few = omega arith }
  narrow_few bin.Lshr t v w = record { each = (low 0 t v, tt); few = omega arith }
  narrow_few bin.Ashr t v w = record { each = (low 0 t v, (tt, (tt, tt))); few = omega arith }
  narrow_few _ t v w = record { each = (low 0 t v, (low 1 t w, (tt, tt))); few = omega arith }

  wide_few : (o : BinOp) (t : Ty) (v w : Operand) → Few (wide_bin o k t v w)
  wide_few bin.Add t v w = record { each = (low 0 t v, (high 1 t v, (low 2 t w, (high 3 t w, (tt, (tt, (tt, (tt, tt)))))))); few = omega arith }
  wide_few bin.Sub t v w = record { each = (low 0 t v, (high 1 t v, (low 2 t w, (high 3 t w, (tt, (tt, (tt, (tt, tt)))))))); few = omega arith }
  wide_few bin.Mul t v w = record { each = (low 0 t v, (low 1 t w, (tt, tt))); few = omega arith }
  wide_few bin.Shl t v w = record { each = (low 0 t v, (tt, tt)); few = omega arith }
  wide_few bin.Lshr t v w = record { each = (high 0 t v, (tt, tt)); few = omega arith }
  wide_few bin.Ashr t v w = record { each = (high 0 t v, (tt, tt)); few = omega arith }
  wide_few _ t v w = record { each = (low 0 t v, (high 1 t v, (low 2 t w, (high 3 t w, (tt, tt))))); few = omega arith }

  bin_few : (o : BinOp) (t : Ty) (v w : Operand) → Few (bin_lines o k t v w)
  bin_few o t v w = by_width (is_narrow t) (narrow_bin o k t v w) (wide_bin o k t v w) (narrow_few o t v w) (wide_few o t v w)

  icmp_few : (c : Comparison) (t : Ty) (v w : Operand) → Few (if is_narrow t then narrow_icmp c k t v w else wide_icmp c k t v w)
  icmp_few c t v w =
      by_width (is_narrow t) (narrow_icmp c k t v w) (wide_icmp c k t v w) (record { each = (low 0 t v, (low 1 t w, (tt, (tt, tt)))); few = omega arith })
      (record { each = (low 0 t v, (high 1 t v, (low 2 t w, (high 3 t w, (tt, (tt, (tt, (tt, tt)))))))); few = omega arith })

  select_few : (c : Operand) (t u : Ty) (v w : Operand) → Few (select_lines k c t v u w)
  select_few c t u v w = by (is_narrow t)
    where
      by : (q : Bool) → Few (if q then record { silent = low_into 0 I1 c ∷ low_into 1 t v ∷ low_into 2 u w ∷ []; last = mid.Select (virtual (low_of k)) (virtual 0) (virtual 1) (virtual 2) } else record {
        silent = low_into 0 I1 c ∷ low_into 1 t v ∷ low_into 2 u w ∷ high_into 3 t v ∷ high_into 4 u w ∷ mid.Select (virtual (high_of k)) (virtual 0) (virtual 3) (virtual 4) ∷ [];
        last = mid.Select (virtual (low_of k)) (virtual 0) (virtual 1) (virtual 2);
      })
      by true = record { each = (low 0 I1 c, (low 1 t v, (low 2 u w, tt))); few = omega arith }
      by false = record { each = (low 0 I1 c, (low 1 t v, (low 2 u w, (high 3 t v, (high 4 u w, (tt, tt)))))); few = omega arith }

  convert_few : (o : Cast) (t u : Ty) (v : Operand) → Few (convert_lines o k t v u)
  convert_few Zext t u v = record { each = (low 0 t v, (tt, tt)); few = omega arith }
  convert_few Sext t u v = record { each = (low 0 t v, (tt, tt)); few = omega arith }
  convert_few Trunc t u v = record { each = (low 0 t v, tt); few = omega arith }

  extract_few : (r part : ℕ) → Few (extract_lines k r part)
  extract_few r part = by_width (nat_eq part 0) (extract_lines k r 0) (extract_lines k r 1) (record { each = (tt, (tt, (tt, tt))); few = omega arith }) (record { each = tt; few = omega arith })

  out_few : (args : List Arg) → Few (out_operand f k args)
  out_few [] = record { each = tt; few = omega arith }
  out_few (arg.Value t v ∷ args) = record { each = (low 0 t v, tt); few = omega arith }
  out_few (arg.Pointer a ∷ args) = record { each = tt; few = omega arith }

  -- ---- indexes
  unfoldable IndexFew : IndexAt → Type 0
  IndexFew (Fixed j) = Unit {0}
  IndexFew (Brought lines) = Each lines × (length lines ≤ 2)

  step_few : (program : SourceProgram) (o : Object) (t u : Ty) (v : Operand) → IndexFew (index_of_step program f o t u v)
  unfolding IndexFew
  step_few program o t u (operand.Value q) = ((low 1 u (operand.Value q), (tt, tt)), omega arith)
  step_few program o t u (operand.Const n) = tt
  step_few program o t u (operand.Wide n) = tt
  step_few program o t u (operand.Param q) = tt

  value_few : (o : Outcome) (r : ℕ) → IndexFew (index_of_value o r)
  unfolding IndexFew
  value_few (outcome.Gep b elem t v) r = ((tt, tt), omega arith)
  value_few (outcome.Number t) r = tt
  value_few (outcome.Pair t) r = tt
  value_few (outcome.Alloca e) r = tt
  value_few outcome.Nothing r = tt

  base_few : (program : SourceProgram) (b : Base) → IndexFew (index_of_base program f b)
  unfolding IndexFew
  base_few program (base.Global g) = tt
  base_few program (base.Value r) = value_few (outcome_in program.source f r) r
  base_few program (base.Param q) = tt

  index_few : (program : SourceProgram) (b : Base) (o : Option (Ty × ℕ × Ty × Operand)) → IndexFew (index_at program f b o)
  index_few program b None = base_few program b
  index_few program b (Some step) = step_few program (object_of program f b) step.0 step.2 step.3

  gep_few : (index : IndexAt) → IndexFew index → Few (gep_lines f k index)
  unfolding IndexFew
  gep_few (Fixed j) h = record { each = tt; few = omega arith }
  gep_few (Brought lines) h = let few = h.1 in record { each = h.0; few = omega (arith, few) }

  -- ---- accesses
  abbrev Fewer : Straight → Type 0
  Fewer s = Flat f k 6 s

  by_type : (b : Bool) (x y : Straight) → Fewer x → Fewer y → Fewer (if b then x else y)
  by_type true x y h g = h
  by_type false x y h g = g

  record Halves (is : List (MidInst Virtual)) : Type 0 where
    each : Each is
    few : length is ≤ 2

  halves : (r s : ℕ) (t : Ty) (v : Operand) → Halves (halves_into r s t v)
  halves r s t v = by (is_narrow t)
    where
      by : (q : Bool) → Halves (if q then low_into r t v ∷ [] else low_into r t v ∷ high_into s t v ∷ [])
      by true = record { each = (low r t v, tt); few = omega arith }
      by false = record { each = (low r t v, (high s t v, tt)); few = omega arith }

  load_few : (t : Ty) (bytes : ℕ) → Fewer (load_lines k t bytes)
  load_few t bytes = by (is_narrow t)
    where
      by : (q : Bool) → Fewer (if q then record { silent = []; last = mid.Load (virtual (low_of k)) (virtual 0) bytes } else record { silent = mid.Load (virtual (low_of k)) (virtual 0) 8 ∷ next_half; last = mid.Load (virtual (high_of k)) (virtual 1) 8 })
      by true = record { each = tt; few = omega arith }
      by false = record { each = (tt, (tt, (tt, tt))); few = omega arith }

  store_few : (t : Ty) (v : Operand) (bytes : ℕ) → Fewer (store_lines t v bytes)
  store_few t v bytes = by (is_narrow t)
    where
      by : (q : Bool) → Fewer (if q then record { silent = low_into 3 t v ∷ []; last = mid.Store (virtual 0) (virtual 3) bytes } else record { silent = low_into 3 t v ∷ high_into 4 t v ∷ mid.Store (virtual 0) (virtual 3) 8 ∷ next_half; last = mid.Store (virtual 1) (virtual 4) 8 })
      by true = record { each = (low 3 t v, tt); few = omega arith }
      by false = record { each = (low 3 t v, (high 4 t v, (tt, (tt, (tt, tt))))); few = omega arith }

  halves_few : (r s : ℕ) (t : Ty) (v : Operand) (last : MidInst Virtual) → Fewer (record { silent = halves_into r s t v; last = last })
  halves_few r s t v last = let h = halves r s t v in let few = h.few in record { each = h.each; few = omega (arith, few) }

  address_plain : (program : SourceProgram) (o : Object) (j : ℕ) → Plain (address_of program f o j)
  address_plain program (Shared g) j = tt
  address_plain program (Private r) j = tt

  -- an index is compared, and behind the trap stands the access
  guarded_good : (program : SourceProgram) (o : Object) (lines : List (MidInst Virtual)) (rest : Straight) → Each lines → length lines ≤ 2 → Fewer rest → GoodBefore (guarded f k program o lines rest)
  guarded_good program o lines rest each few h more good =
      let front : List (MidInst Virtual) = lines ++ compared f k (count_of program f o) in
      let back : List (MidInst Virtual) = found f k (address_of program f o 0) (bytes_of program f o) ++ rest.silent in
      let end : List (Line Virtual) = straight f k (record { silent = back; last = rest.last }) in
      let branch : Line Virtual = silent f k (mid.Branch (virtual 2) (second_label f k) (first_label f k)) in
      let tail : List (Line Virtual) = branch ∷ silent f k (mid.Label (first_label f k)) ∷ acting f k mid.Trap ∷ silent f k (mid.Label (second_label f k)) ∷ end in
      let each_front = each_both lines (compared f k (count_of program f o)) each (tt, (tt, tt)) in
      let long_front = append_length lines (compared f k (count_of program f o)) in
      let weighs_front = few_weights front each_front in
      let each_back : Each back = (tt, (tt, (address_plain program o 0, (tt, h.each)))) in
      let weighs_back = few_weights back each_back in
      let few_back = h.few in
      let r = straight_reach f k back rest.last more each_back in
      let calm_end : Calm (end ++ more) = straight_calm f k back rest.last more each_back (omega (arith, weighs_back, few_back)) good.0 in
      let calm_label : Calm (silent f k (mid.Label (second_label f k)) ∷ (end ++ more)) = (omega (arith, r, weighs_back, few_back), (λ inner. omega (arith, r, weighs_back, few_back)), calm_end) in
      let calm_tail : Calm (tail ++ more) = (omega arith, (inner_second f k, inner_first f k), (omega arith, (λ inner. omega arith), (omega arith, tt, calm_label))) in
      let own = silent_reach f k front (tail ++ more) each_front in
      let reach_tail : reach (tail ++ more) ≡ 20 + inner_rank = refl in
      subst Good (sym (append_assoc (map (silent f k) front) tail more))
      (silent_calm f k front (tail ++ more) each_front (omega (arith, weighs_front, long_front, few)) calm_tail, omega (arith, own, weighs_front, long_front, few, reach_tail))

  through_good : (program : SourceProgram) (o : Object) (index : IndexAt) (rest : Straight) → IndexFew index → Fewer rest → GoodBefore (through f k program o index rest)
  unfolding IndexFew
  through_good program o (Fixed j) rest is h = by (nat_lt j (count_of program f o))
    where
      by : (q : Bool) → GoodBefore (chosen_by f k q program o j rest)
      by true = flat_good f k (record { silent = address_of program f o j ∷ rest.silent; last = rest.last }) (record { each = (address_plain program o j, h.each); few = (let few = h.few in omega (arith, few)) })
      by false = guarded_good program o (mid.Const (virtual 1) j ∷ []) rest (tt, tt) (omega arith) h
  through_good program o (Brought lines) rest is h = guarded_good program o lines rest is.0 is.1 h

  -- ---- edges
  coming_each : (b j : ℕ) (insts : List Inst) → Each (coming_in b j insts)
  unfolding coming_in
  coming_each b j [] = tt
  coming_each b j (inst.Phi t entries ∷ insts) = (low (low_in j) t (operand_from b entries), (high (high_in j) t (operand_from b entries), coming_each b (j + 1) insts))
  coming_each b j (_ ∷ insts) = tt

  sets_each : (j : ℕ) (insts : List Inst) → Each (set_phis j insts)
  unfolding set_phis
  sets_each j [] = tt
  sets_each j (inst.Phi t entries ∷ insts) = (tt, (tt, sets_each (j + 1) insts))
  sets_each j (_ ∷ insts) = tt

  coming_weights : (b j : ℕ) (insts : List Inst) → weights (coming_in b j insts) ≡ 12 * phi_count insts
  unfolding coming_in is_phi
  coming_weights b j [] = refl
  coming_weights b j (inst.Phi t entries ∷ insts) =
      let more = coming_weights b (j + 1) insts in
      let one = low_width (low_in j) t (operand_from b entries) in
      let two = high_width (high_in j) t (operand_from b entries) in
      omega (arith, more, one, two)
  coming_weights b j (_ ∷ insts) = refl

  sets_weights : (j : ℕ) (insts : List Inst) → weights (set_phis j insts) ≡ 12 * phi_count insts
  unfolding set_phis is_phi
  sets_weights j [] = refl
  sets_weights j (inst.Phi t entries ∷ insts) = let more = sets_weights (j + 1) insts in omega (arith, more)
  sets_weights j (_ ∷ insts) = refl

  record Edge (s : Straight) : Type 0 where
    each : Each s.silent
    few : weights s.silent ≤ inner_rank - most_width

  edge : (blocks : List Block) (b d : ℕ) → phi_count (insts_of_block blocks d) ≤ 64 → Edge (edge_lines f blocks b d)
  edge blocks b d few =
      let first = first_number blocks d in
      let insts = insts_of_block blocks d in
      let one = coming_weights b first insts in
      let two = sets_weights first insts in
      let both = weights_both (coming_in b first insts) (set_phis first insts) in
      record { each = each_both (coming_in b first insts) (set_phis first insts) (coming_each b first insts) (sets_each first insts); few = omega (arith, one, two, both, few) }

  edge_good : (s : Straight) → Edge s → GoodBefore (straight f k s)
  edge_good s h = straight_good f k s h.each h.few

  branch_good : (v : Operand) (a b : Straight) → Edge a → Edge b → GoodBefore (branch_lines f k v a b)
  branch_good v a b ha hb more good =
      let one : List (Line Virtual) = straight f k a in
      let two : List (Line Virtual) = straight f k b in
      let next : List (Line Virtual) = silent f k (mid.Label (second_label f k)) ∷ (two ++ more) in
      let wa = ha.few in
      let wb = hb.few in
      let rb = straight_reach f k b.silent b.last more hb.each in
      let ra = straight_reach f k a.silent a.last next ha.each in
      let calm_b : Calm (two ++ more) = straight_calm f k b.silent b.last more hb.each (omega (arith, wb)) good.0 in
      let calm_next : Calm next = (omega (arith, rb, wb), (λ inner. omega (arith, rb, wb)), calm_b) in
      let calm_a : Calm (one ++ next) = straight_calm f k a.silent a.last next ha.each (omega (arith, wa)) calm_next in
      let head : Line Virtual = silent f k (low_into 0 I1 v) in
      let branch : Line Virtual = silent f k (mid.Branch (virtual 0) (first_label f k) (second_label f k)) in
      let label : Line Virtual = silent f k (mid.Label (first_label f k)) in
      let calm_label : Calm (label ∷ (one ++ next)) = (omega (arith, ra, wa), (λ inner. omega (arith, ra, wa)), calm_a) in
      let calm_branch : Calm (branch ∷ label ∷ (one ++ next)) = (omega arith, (inner_first f k, inner_second f k), calm_label) in
      let r = plain_reach (low_into 0 I1 v) (20 + inner_rank) (low 0 I1 v) in
      let w = low_width 0 I1 v in
      let whole : Good (head ∷ branch ∷ label ∷ (one ++ next)) = ((omega (arith, r, w), plain_calm (low_into 0 I1 v) (20 + inner_rank) (low 0 I1 v), calm_branch), omega (arith, r, w)) in
      subst (λ (lines : List (Line Virtual)). Good (head ∷ branch ∷ label ∷ lines)) (sym (append_assoc one (silent f k (mid.Label (second_label f k)) ∷ two) more)) whole

-- ---- pieces
abbrev FewPhis : List Block → Type 0
FewPhis blocks = (d : ℕ) → phi_count (insts_of_block blocks d) ≤ 64

module _ (program : SourceProgram) where
  module _ (f k b : ℕ) (blocks : List Block) (phis : FewPhis blocks) where
    reaches : (a : Addr) (rest : Straight) → Fewer f k rest → GoodBefore (reached f k program blocks b a rest)
    reaches a rest h = through_good f k program (object_of program f a.base) (index_at program f a.base a.step) rest (index_few f k program a.base a.step) h

    exchanged : (weak : Bool) (t : Ty) (v : Operand) (u : Ty) (w : Operand) (last : MidInst Virtual) → Fewer f k (record { silent = halves_into 3 4 t v ++ halves_into 5 6 u w; last = last })
    exchanged weak t v u w last =
        let one = halves f k 3 4 t v in
        let two = halves f k 5 6 u w in
        let a = one.few in
        let c = two.few in
        let long = append_length (halves_into 3 4 t v) (halves_into 5 6 u w) in
        record { each = each_both (halves_into 3 4 t v) (halves_into 5 6 u w) one.each two.each; few = omega (arith, a, c, long) }

    computed : (s : Straight) → Few f k s → GoodBefore (straight f k s)
    computed s h = flat_good f k s (more_flat f k s h)

    piece_good : (i : Inst) → GoodBefore (piece f k program blocks b i)
    unfolding piece
    piece_good (inst.Bin o t v w) = computed (bin_lines o k t v w) (bin_few f k o t v w)
    piece_good (inst.Icmp c t v w) = computed (icmp_lines c k t v w) (icmp_few f k (comparison c) t v w)
    piece_good (inst.Select c t v u w) = computed (select_lines k c t v u w) (select_few f k c t u v w)
    piece_good (inst.Convert o t v u) = computed (convert_lines o k t v u) (convert_few f k o t u v)
    piece_good (inst.Phi t entries) = λ rest good. good
    piece_good (inst.Jump d) = edge_good f k (edge_lines f blocks b d) (edge f k blocks b d (phis d))
    piece_good (inst.Branch v d e) = by (nat_eq d e)
      where
        by : (q : Bool) → GoodBefore (if q then straight f k (edge_lines f blocks b d) else branch_lines f k v (edge_lines f blocks b d) (edge_lines f blocks b e))
        by true = edge_good f k (edge_lines f blocks b d) (edge f k blocks b d (phis d))
        by false = branch_good f k v (edge_lines f blocks b d) (edge_lines f blocks b e) (edge f k blocks b d (phis d)) (edge f k blocks b e (phis e))
    piece_good inst.RetVoid = lone_good f k mid.Ret
    piece_good (inst.Ret t v) = lone_good f k mid.Trap
    piece_good inst.Unreachable = lone_good f k mid.Trap
    piece_good (inst.Alloca t count align) = lone_good f k mid.Nop
    piece_good (inst.Gep t count a u v) = computed (gep_lines f k (index_of_step program f (object_of program f a) t u v)) (gep_few f k (index_of_step program f (object_of program f a) t u v) (step_few f k program (object_of program f a) t u v))
    piece_good (inst.Load t a align) = reaches a (load_lines k t (bytes_at f k program blocks b a)) (load_few f k t (bytes_at f k program blocks b a))
    piece_good (inst.LoadAtomic t a order align) = reaches a (atomic_load_lines k t order) (record { each = tt; few = omega arith })
    piece_good (inst.Store t v a align) = reaches a (store_lines t v (bytes_at f k program blocks b a)) (store_few f k t v (bytes_at f k program blocks b a))
    piece_good (inst.StoreAtomic t v a order align) = reaches a (atomic_store_lines t v order) (halves_few f k 3 4 t v (atomic_store_lines t v order).last)
    piece_good (inst.Cmpxchg weak a t v u w success failure align) = reaches a (exchange_lines k weak t v u w (merged_order success failure)) (exchanged weak t v u w (exchange_lines k weak t v u w (merged_order success failure)).last)
    piece_good (inst.Rmw o a t v order align) = reaches a (update_lines k (operation.Rmw o) t v order) (halves_few f k 3 4 t v (update_lines k (operation.Rmw o) t v order).last)
    piece_good (inst.Fence true order) = lone_good f k mid.Nop
    piece_good (inst.Fence false order) = computed (fence_lines f k false order) (record { each = tt; few = omega arith })
    piece_good (inst.Extract t (operand.Value r) part) = computed (extract_lines k r part) (extract_few f k r part)
    piece_good (inst.Extract t (operand.Const n) part) = lone_good f k mid.Nop
    piece_good (inst.Extract t (operand.Wide n) part) = lone_good f k mid.Nop
    piece_good (inst.Extract t (operand.Param n) part) = lone_good f k mid.Nop
    piece_good (inst.Call result name args) = by (is_out name)
      where
        by : (q : Bool) → GoodBefore (if q then straight f k (out_operand f k args) else straight f k (lone mid.Nop))
        by true = computed (out_operand f k args) (out_few f k args)
        by false = lone_good f k mid.Nop

  -- ---- the whole code
  insts_good : (f : ℕ) (blocks : List Block) (b k : ℕ) (insts : List Inst) → FewPhis blocks → GoodBefore (insts_lines program f blocks b k insts)
  insts_good f blocks b k [] phis = λ rest good. good
  insts_good f blocks b k (i ∷ insts) phis = before_both (piece f k program blocks b i) (insts_lines program f blocks b (k + 1) insts) (piece_good f k b blocks phis i) (insts_good f blocks b (k + 1) insts phis)

  outer : (f k : ℕ) → IsInner (block_label f k) → ⊥
  outer f k inner = inner (omega arith)

  label_good : (f k : ℕ) (lines : List (Line Virtual)) → GoodBefore lines → GoodBefore (label_line program f k ∷ lines)
  label_good f k lines h rest good =
      let own = h rest good in
      let few = own.1 in
      ((omega (arith, few), (λ inner. absurd (outer f k inner)), own.0), omega (arith, few))

  blocks_good : (f : ℕ) (all : List Block) (b k : ℕ) (blocks : List Block) → FewPhis all → GoodBefore (blocks_lines program f all b k blocks)
  blocks_good f all b k [] phis = λ rest good. good
  blocks_good f all b k (block ∷ blocks) phis =
      let own = insts_lines program f all b k block.insts in
      let more = blocks_lines program f all (b + 1) (k + length block.insts) blocks in
      label_good f k (own ++ more) (before_both own more (insts_good f all b k block.insts phis) (blocks_good f all (b + 1) (k + length block.insts) blocks phis))

  functions_good : (f : ℕ) (functions : List Function) → ((n : ℕ) (g : Function) → slice_get functions n ≡ Some g → FewPhis g.blocks) → GoodBefore (functions_lines program f functions)
  functions_good f [] phis = λ rest good. good
  functions_good f (g ∷ functions) phis =
      before_both (function_lines program f g) (functions_lines program (f + 1) functions) (blocks_good f g.blocks 0 0 g.blocks (phis 0 g refl)) (functions_good (f + 1) functions (λ n h e. phis (suc n) h e))

  pub selected_good : ((n : ℕ) (g : Function) → slice_get program.source.functions n ≡ Some g → FewPhis g.blocks) → Good (selected program).lines
  selected_good phis = subst Good (append-nil (selected program).lines) (functions_good 0 program.source.functions phis [] (tt, omega arith))

-- ---- at most 64 phis of a block
same_phi : (i : Inst) → is_phi i ≡ kinds.is_phi i
unfolding is_phi kinds.is_phi
same_phi _ = refl

abbrev phi_or_not : Inst → ℕ
phi_or_not i = cond (kinds.is_phi i) 1 0

leading : (b c : Bool) (n m : ℕ) → b ≡ c → n ≤ m → cond b (n + 1) 0 ≤ cond c 1 0 + m
leading true true n m e h = omega arith
leading false c n m e h = omega arith
leading true false n m e h = cc

phis_are_counted : (insts : List Inst) → phi_count insts ≤ count_by kinds.is_phi insts
phis_are_counted [] = omega arith
phis_are_counted (i ∷ insts) =
    subst (λ n. phi_count (i ∷ insts) ≤ n) (sym (sum_by-cons phi_or_not i insts))
    (leading (is_phi i) (kinds.is_phi i) (phi_count insts) (count_by kinds.is_phi insts) (same_phi i) (phis_are_counted insts))

few_phis : (block : Block) → has_many_phis block ≡ false → phi_count block.insts ≤ 64
few_phis block h = let a = phis_are_counted block.insts in grind (arith, nat_tests)

pub phis_in : (blocks : List Block) (b : ℕ) → list_any has_many_phis blocks ≡ false → phi_count (insts_of_block blocks b) ≤ 64
phis_in [] b h = omega arith
phis_in (x ∷ blocks) zero h = few_phis x (or_parts (has_many_phis x) (list_any has_many_phis blocks) h).0
phis_in (x ∷ blocks) (suc b) h = phis_in blocks b (or_parts (has_many_phis x) (list_any has_many_phis blocks) h).1
