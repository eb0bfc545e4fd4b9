-- The code of each instruction keeps its contract.
use Rattle.std.proofs.Common.{◌≡◌, ℕ, ◌≤◌, pos, Bool, true, false, not, ◌||◌, List, [], ◌∷◌, Some, refl, sym, ap, ◌∙◌, subst, arith, slice_get}
use Rattle.std.specs.Prelude.{if◌then◌else◌, nat_eq, nat_lt}
use Rattle.std.specs.List.{list_any}
use Rattle.std.proofs.lemmas.Bool.{eqb-true, or_parts, true≢false, false≢true}
use Rattle.std.proofs.lemmas.Option.{none-some}
use Rattle.ax_check.specs.Accepted.{IsAccepted}
use Rattle.ax_check.specs.Defined.{further_uses}
use Rattle.ax_check.specs.Laws.{AtInstructions, IsSound}
use Rattle.ax_layout.specs.Layout.{is_alignment}
use Rattle.ax_module.specs.declared.inst.BinOp.{BinOp}
use Rattle.ax_module.specs.declared.inst.BinOp.TheVariants as bin
use Rattle.ax_module.specs.declared.inst.Cast.{Cast}
use Rattle.ax_module.specs.declared.inst.Cast.TheVariants.{Sext, Trunc, Zext}
use Rattle.ax_module.specs.declared.inst.Inst.{Inst}
use Rattle.ax_module.specs.declared.inst.Inst.TheVariants as inst
use Rattle.ax_module.specs.declared.inst.Pred.{Pred}
use Rattle.ax_module.specs.declared.inst.Pred.TheVariants.{Eq, Ne}
use Rattle.ax_module.specs.declared.module.Module.{Module}
use Rattle.ax_module.specs.declared.operand.Addr.{Addr}
use Rattle.ax_module.specs.declared.operand.Base.{Base}
use Rattle.ax_module.specs.declared.operand.Operand.{Operand}
use Rattle.ax_module.specs.declared.operand.Operand.TheVariants as operand
use Rattle.ax_module.specs.declared.types.Ty.{Ty}
use Rattle.ax_module.specs.declared.types.Ty.TheVariants.{I1, I8, I16, I32, I64, I128, Int, Float, Double, Ptr, Vector}
use Rattle.ax_module.specs.Kinds.{is_phi}
use Rattle.ax_module.specs.Types.{type_bytes}
use Rattle.ax_module.specs.WellFormed.{is_bit}
use Rattle.ax_source_run.specs.SourceEvent.{expected_by, number_of_next, seen_by}
use Rattle.ax_source_run.specs.SourceInstructions.{access_of, deed_of, is_inline, is_inside, is_unreachable, pointers_of, result_in, traps, width_of}
use Rattle.ax_source_run.specs.SourcePointers.{base_of, elements_of, pointer_of, scaled, stepped}
use Rattle.ax_source_run.specs.SourceState.{Object, Pointer, PointsTo, SourceProcessor, SourceProgram}
use Rattle.ax_source_run.specs.SourceValues.{index_of, operand_of, type_bits}
use Rattle.ax_mid.specs.declared.code.Mid.{Mid}
use Rattle.ax_mid.specs.declared.instruction.MidInst.TheVariants as line
use Rattle.ax_mid.specs.declared.registers.Virtual.{Virtual}
use Rattle.ax_mid.specs.Machine as machine
use Rattle.ax_mid.specs.Machine.{is_wide, may_wait, missed_by, private_step}
use Rattle.ax_mid.specs.Processor as mid
use Rattle.ax_mid.specs.Processor.{MidProcessor}
use Rattle.ax_rules.specs.declared.facts.Origin.{Origin}
use Rattle.ax_rules.specs.declared.facts.Origin.TheVariants as origin
use Rattle.ax_rules.specs.declared.facts.FunctionScope.{FunctionScope}
use Rattle.ax_access_rules.specs.Alignment.{is_overstated, is_plain_locked}
use Rattle.ax_access_rules.specs.Allocas.{is_address, is_late_alloca, misplaced, to_alloca}
use Rattle.ax_rules.specs.Facts.{extent_of, is_alloca, origin_of, outcome_of}
use Rattle.ax_rules.specs.Kind.{is_bad_gep, is_object, is_other}
use Rattle.ax_rules.specs.Limits.{alignment_in, is_beyond}
use Rattle.ax_access_rules.specs.Mixed.{converts, is_mixed_access, is_mixed_inst}
use Rattle.ax_rules.specs.Parts.{operands_of, types_of}
use Rattle.ax_rules.specs.Width.{is_i128, is_left_out, is_odd, shift_fault}
use Rattle.ax_target.specs.Decisions.{is_native}
use Rattle.ax_target.specs.declared.decision.Way.{Way}
use Rattle.ax_target.specs.declared.decision.Way.TheVariants.{Sized, Generic}
use Rattle.ax_typed.proofs.Facts.{element_at, gep_is_good, is_not_mixed, operand_at}
use Rattle.ax_typed.proofs.Standing as standing
use Rattle.ax_typed.proofs.Types.{ResultsFit, is_true, not_other}
use Rattle.ax_typed.specs.Typed.{elem_of}
use Rattle.ax_words.specs.Width.{bytes_of}
use Rattle.ax_selected.specs.Addresses as addresses
use Rattle.ax_selected.specs.Addresses.{Brought, Fixed, IndexAt, index_at, index_of_step, object_of}
use Rattle.ax_selected.specs.Contract.{Alike, Follows, Known, Stands}
use Rattle.ax_selected.specs.Laid.{IsLaid, piece_of}
use Rattle.ax_selected.specs.Operands.{is_narrow}
use Rattle.ax_selected.specs.Pieces.{copy}
use Rattle.ax_selected.specs.Registers.{key, low_of, virtual}
use Rattle.ax_selected.specs.Selected.{gep_lines, lone, piece, straight}
use Rattle.ax_selected.proofs.Accessing.{Grounds, Step, further_used, is, made_by, none_left_out, odd_at, points, scope, sound}
use Rattle.ax_selected.proofs.Aligned.{narrow_128, some_bits, wide_is}
use Rattle.ax_selected.proofs.Choices.{select_narrow, select_wide, sext_follows, zext_follows}
use Rattle.ax_selected.proofs.Comparisons.{icmp_narrow}
use Rattle.ax_selected.proofs.Computes.{gives, held, outcome_is}
use Rattle.ax_selected.proofs.Elements.{OnNative}
use Rattle.ax_selected.proofs.Entering.{number_of_address}
use Rattle.ax_selected.proofs.Frames.{OnOwn}
use Rattle.ax_selected.proofs.Lying.{lt_of}
use Rattle.ax_selected.proofs.Natives.{atomics, extent_known, no_large_plain, on_large, on_native, on_own, on_wide, plains}
use Rattle.ax_selected.proofs.Pointing as pointing
use Rattle.ax_selected.proofs.Pointing.{at_first, step_index}
use Rattle.ax_selected.proofs.Registers.{no_temps, pointer_result}
use Rattle.ax_selected.proofs.Shifts.{and_wide, ashr_narrow, ashr_wide, eq_wide, lshr_narrow, lshr_wide, ne_wide, or_wide, shl_narrow, shl_wide, xor_wide}
use Rattle.ax_selected.proofs.Wide.{OnWide}
use Rattle.ax_selected.proofs.WideFrames.{OnLarge}
use Rattle.ax_selected.proofs.Sums.{add_narrow, add_wide, and_narrow, mul_narrow, narrow_le, or_narrow, sub_narrow, sub_wide, trunc_narrow, xor_narrow}

pub most_bits : (t : Ty) → is_odd t ≡ false → type_bits t ≤ 128
most_bits I1 o = omega arith
most_bits I8 o = omega arith
most_bits I16 o = omega arith
most_bits I32 o = omega arith
most_bits I64 o = omega arith
most_bits I128 o = omega arith
most_bits (Int bits) o = absurd (true≢false o)
most_bits Float o = omega arith
most_bits Double o = omega arith
most_bits Ptr o = omega arith
most_bits Vector o = omega arith

-- of two types the one of fewer bits has at most 64
pub fewer : (t u : Ty) → is_odd t ≡ false → is_odd u ≡ false → nat_lt (type_bits t) (type_bits u) ≡ true → is_narrow t ≡ true
fewer t u ot ou less = by (is_narrow t) refl
  where
    by : (b : Bool) → is_narrow t ≡ b → is_narrow t ≡ true
    by true e = e
    by false e =
        let l = lt_of (type_bits t) (type_bits u) less in
        let top = most_bits u ou in
        let all : type_bits t ≡ 128 = ap type_bits (wide_is t ot e) in
        absurd (omega (arith, l, top, all))

-- the way of an atomic store with its own size as alignment
pub same_way : (b c d e : Bool) (w : Way) → b ≡ true → d ≡ true → is_inline (if b then w else if c then Sized else Generic) ≡ is_inline (if d then w else if e then Sized else Generic)
same_way true c true e w h g = refl
same_way false c d e w h g = absurd (false≢true h)
same_way true c false e w h g = absurd (false≢true g)

module _ (program : SourceProgram) (accepted : IsAccepted program) (law : AtInstructions IsSound) (fit : ResultsFit) (code : Mid Virtual) (begins : ℕ → ℕ → ℕ → ℕ) (laid : IsLaid program code.lines begins) (most base : ℕ) (enough : 512 ≤ most) (s : SourceProcessor) (c : MidProcessor) (numbers : ℕ → ℕ → ℕ) (alike : Alike s c) (here_is : Stands program.source begins s c) (grounds : Grounds program code base) where
  abbrev k : ℕ
  k = number_of_next program s

  abbrev m : Module
  m = program.source

  abbrev f : ℕ
  f = s.function

  abbrev Follow : Inst → Type 0
  Follow i = Follows key program code begins most base s c numbers i

  abbrev Knows : Inst → Type 0
  Knows i = Known program s numbers i

  abbrev odd : (i : Inst) (known : Knows i) (j : ℕ) (t : Ty) → slice_get (types_of i) j ≡ Some t → is_odd t ≡ false
  odd i known = odd_at program accepted law fit code begins laid most base enough s c numbers alike here_is grounds i known

  abbrev left_out : (i : Inst) (known : Knows i) → is_left_out i ≡ false
  left_out i known = none_left_out program accepted law fit code begins laid most base enough s c numbers alike here_is grounds i known

  abbrev at_spot : (i : Inst) (known : Knows i) → IsSound program (is program accepted law fit code begins laid most base enough s c numbers alike here_is grounds i known).function (record { block = s.block; number = k; inst = i })
  at_spot i known = sound program accepted law fit code begins laid most base enough s c numbers alike here_is grounds i known

  abbrev pub not_mixed : (i : Inst) (known : Knows i) → is_mixed_inst (scope program accepted law fit code begins laid most base enough s c numbers alike here_is grounds i known) i ≡ false
  not_mixed i known = is_not_mixed program accepted law s known.typed i (is program accepted law fit code begins laid most base enough s c numbers alike here_is grounds i known)

  -- ---- operations of at most 64 bits
  bin_narrow : (o : BinOp) (t : Ty) (v w : Operand) → Knows (inst.Bin o t v w) → is_narrow t ≡ true → 1 ≤ type_bits t → shift_fault (inst.Bin o t v w) ≡ false → Follow (inst.Bin o t v w)
  unfolding shift_fault
  bin_narrow bin.Add t v w known e some x = add_narrow program accepted law fit code begins laid most base enough s c numbers alike here_is t v w known e
  bin_narrow bin.Sub t v w known e some x = sub_narrow program accepted law fit code begins laid most base enough s c numbers alike here_is t v w known e
  bin_narrow bin.Mul t v w known e some x = mul_narrow program accepted law fit code begins laid most base enough s c numbers alike here_is t v w known e
  bin_narrow bin.And t v w known e some x = and_narrow program accepted law fit code begins laid most base enough s c numbers alike here_is t v w known e
  bin_narrow bin.Or t v w known e some x = or_narrow program accepted law fit code begins laid most base enough s c numbers alike here_is t v w known e
  bin_narrow bin.Xor t v w known e some x = xor_narrow program accepted law fit code begins laid most base enough s c numbers alike here_is t v w known e
  bin_narrow bin.Shl t v (operand.Const (pos n)) known e some x = shl_narrow program accepted law fit code begins laid most base enough s c numbers alike here_is t v n known e
  bin_narrow bin.Lshr t v (operand.Const (pos n)) known e some x = lshr_narrow program accepted law fit code begins laid most base enough s c numbers alike here_is t v n known e
  bin_narrow bin.Ashr t v (operand.Const (pos n)) known e some x = ashr_narrow program accepted law fit code begins laid most base enough s c numbers alike here_is t v n known e some
  bin_narrow bin.Shl t v _ known e some x = absurd (true≢false x)
  bin_narrow bin.Lshr t v _ known e some x = absurd (true≢false x)
  bin_narrow bin.Ashr t v _ known e some x = absurd (true≢false x)

  -- ---- and of 128
  by_64 : (o : BinOp) (v : Operand) (n : ℕ) → Knows (inst.Bin o I128 v (operand.Const (pos n))) → not (nat_eq n 64) ≡ false → (Knows (inst.Bin o I128 v (operand.Const (pos 64))) → Follow (inst.Bin o I128 v (operand.Const (pos 64)))) → Follow (inst.Bin o I128 v (operand.Const (pos n)))
  by_64 o v n known x follow =
      let same : n ≡ 64 = eqb-true n 64 (is_true (nat_eq n 64) x) in
      subst (λ (q : ℕ). Knows (inst.Bin o I128 v (operand.Const (pos q))) → Follow (inst.Bin o I128 v (operand.Const (pos q)))) (sym same) follow known

  bin_wide : (o : BinOp) (v w : Operand) → Knows (inst.Bin o I128 v w) → shift_fault (inst.Bin o I128 v w) ≡ false → is_left_out (inst.Bin o I128 v w) ≡ false → Follow (inst.Bin o I128 v w)
  unfolding shift_fault is_left_out
  bin_wide bin.Add v w known x y = add_wide program accepted law fit code begins laid most base enough s c numbers alike here_is I128 v w known refl refl
  bin_wide bin.Sub v w known x y = sub_wide program accepted law fit code begins laid most base enough s c numbers alike here_is I128 v w known refl refl
  bin_wide bin.Mul v w known x y = absurd (true≢false y)
  bin_wide bin.And v w known x y = and_wide program accepted law fit code begins laid most base enough s c numbers alike here_is I128 v w known refl
  bin_wide bin.Or v w known x y = or_wide program accepted law fit code begins laid most base enough s c numbers alike here_is I128 v w known refl
  bin_wide bin.Xor v w known x y = xor_wide program accepted law fit code begins laid most base enough s c numbers alike here_is I128 v w known refl
  bin_wide bin.Shl v (operand.Const (pos n)) known x y = by_64 bin.Shl v n known x (shl_wide program accepted law fit code begins laid most base enough s c numbers alike here_is I128 v refl refl)
  bin_wide bin.Lshr v (operand.Const (pos n)) known x y = by_64 bin.Lshr v n known x (lshr_wide program accepted law fit code begins laid most base enough s c numbers alike here_is I128 v refl refl)
  bin_wide bin.Ashr v (operand.Const (pos n)) known x y = by_64 bin.Ashr v n known x (ashr_wide program accepted law fit code begins laid most base enough s c numbers alike here_is I128 v refl refl)
  bin_wide bin.Shl v _ known x y = absurd (true≢false x)
  bin_wide bin.Lshr v _ known x y = absurd (true≢false x)
  bin_wide bin.Ashr v _ known x y = absurd (true≢false x)

  pub bin_follows : (o : BinOp) (t : Ty) (v w : Operand) → Knows (inst.Bin o t v w) → Follow (inst.Bin o t v w)
  unfolding types_of
  bin_follows o t v w known = by (is_narrow t) refl
    where
      not_odd : is_odd t ≡ false
      not_odd = odd (inst.Bin o t v w) known 0 t refl

      by : (b : Bool) → is_narrow t ≡ b → Follow (inst.Bin o t v w)
      by true e = bin_narrow o t v w known e (some_bits t not_odd) (at_spot (inst.Bin o t v w) known).shift
      by false e =
          subst (λ (u : Ty). Knows (inst.Bin o u v w) → Follow (inst.Bin o u v w)) (sym (wide_is t not_odd e))
          (λ there. bin_wide o v w there (at_spot (inst.Bin o I128 v w) there).shift (left_out (inst.Bin o I128 v w) there)) known

  -- ---- comparisons
  icmp_wide : (q : Pred) (v w : Operand) → Knows (inst.Icmp q I128 v w) → is_left_out (inst.Icmp q I128 v w) ≡ false → Follow (inst.Icmp q I128 v w)
  unfolding is_left_out
  icmp_wide Eq v w known x = eq_wide program accepted law fit code begins laid most base enough s c numbers alike here_is I128 v w known refl
  icmp_wide Ne v w known x = ne_wide program accepted law fit code begins laid most base enough s c numbers alike here_is I128 v w known refl
  icmp_wide _ v w known x = absurd (true≢false x)

  pub icmp_follows : (q : Pred) (t : Ty) (v w : Operand) → Knows (inst.Icmp q t v w) → Follow (inst.Icmp q t v w)
  unfolding types_of
  icmp_follows q t v w known = by (is_narrow t) refl
    where
      not_odd : is_odd t ≡ false
      not_odd = odd (inst.Icmp q t v w) known 0 t refl

      by : (b : Bool) → is_narrow t ≡ b → Follow (inst.Icmp q t v w)
      by true e = icmp_narrow program accepted law code begins laid most base enough s c numbers alike here_is q t v w known e (some_bits t not_odd)
      by false e =
          subst (λ (u : Ty). Knows (inst.Icmp q u v w) → Follow (inst.Icmp q u v w)) (sym (wide_is t not_odd e))
          (λ there. icmp_wide q v w there (left_out (inst.Icmp q I128 v w) there)) known

  pub select_follows : (x : Operand) (t : Ty) (v : Operand) (u : Ty) (w : Operand) → Knows (inst.Select x t v u w) → Follow (inst.Select x t v u w)
  unfolding is_mixed_inst
  select_follows x t v u w known = by (is_narrow t) refl
    where
      same : u ≡ t
      same = sym (not_other t u (not_mixed (inst.Select x t v u w) known))

      by : (b : Bool) → is_narrow t ≡ b → Follow (inst.Select x t v u w)
      by true e = select_narrow program accepted law fit code begins laid most base enough s c numbers alike here_is x t v u w known same e
      by false e = select_wide program accepted law fit code begins laid most base enough s c numbers alike here_is x t v u w known same e

  convert_by : (cast : Cast) (t : Ty) (v : Operand) (u : Ty) → Knows (inst.Convert cast t v u) → is_odd t ≡ false → is_odd u ≡ false → converts cast t u ≡ true → is_left_out (inst.Convert cast t v u) ≡ false → Follow (inst.Convert cast t v u)
  unfolding is_left_out
  convert_by Zext t v u known ot ou less x = zext_follows program accepted law fit code begins laid most base enough s c numbers alike here_is t u v known (narrow_le t (fewer t u ot ou less))
  convert_by Sext t v u known ot ou less x =
      let l = lt_of (type_bits t) (type_bits u) less in
      sext_follows program accepted law fit code begins laid most base enough s c numbers alike here_is t u v known (some_bits t ot) (omega (arith, l)) (narrow_le u (narrow_128 u ou (or_parts (is_i128 t) (is_i128 u) x).1))
  convert_by Trunc t v u known ot ou less x = trunc_narrow program accepted law fit code begins laid most base enough s c numbers alike here_is t u v known (fewer u t ou ot less)

  pub convert_follows : (cast : Cast) (t : Ty) (v : Operand) (u : Ty) → Knows (inst.Convert cast t v u) → Follow (inst.Convert cast t v u)
  unfolding types_of is_mixed_inst
  convert_follows cast t v u known =
      let i = inst.Convert cast t v u in
      convert_by cast t v u known (odd i known 0 t refl) (odd i known 1 u refl) (is_true (converts cast t u) (not_mixed i known)) (left_out i known)

  -- ---- a getelementptr
  module _ (elem : Ty) (count : ℕ) (b : Base) (t : Ty) (v : Operand) (known : Knows (inst.Gep elem count b t v)) where
    abbrev gep : Inst
    gep = inst.Gep elem count b t v

    abbrev q : Pointer
    q = stepped m elem t v s (base_of b s.values)

    gep_by : (at : IndexAt) → pointing.Index program accepted law code begins laid most base enough s c numbers alike here_is gep known at q.index → piece_of program s gep ≡ straight f k (gep_lines f k at) → Follow gep
    unfolding outcome_of deed_of access_of result_in is_unreachable pointers_of seen_by expected_by private_step machine.seen_by missed_by
    gep_by (Fixed n) same is_piece =
        let d = mid.gets (low_of k) n c in
        gives program accepted law code begins laid most base s c numbers gep known alike here_is (PointsTo q) (lone (line.Const (virtual (low_of k)) n)) c d (record {
          piece = is_piece;
          does = refl;
          calm = record { seen = refl; expected = refl };
          few = omega (arith, enough);
          runs = refl;
          last = refl;
          plain = record { seen = λ y ns. refl; missed = λ y. refl };
          place = refl;
          status = refl;
          pending = refl;
          matches = pointer_result program.source s c k here_is.matches d refl b elem t v q n c.regs (outcome_is program accepted law code begins laid most base s c numbers gep known alike here_is) (sym same) (no_temps c.regs) refl;
        })
    gep_by (Brought lines) brings is_piece =
        let x = brings.to in
        let d = mid.gets (low_of k) (x.regs 1) x in
        let short = brings.few in
        gives program accepted law code begins laid most base s c numbers gep known alike here_is (PointsTo q) (record { silent = lines; last = copy (low_of k) 1 }) x d (record {
          piece = is_piece;
          does = refl;
          calm = record { seen = refl; expected = refl };
          few = omega (arith, enough, short);
          runs = brings.runs;
          last = refl;
          plain = record { seen = λ y ns. refl; missed = λ y. refl };
          place = refl;
          status = brings.moved.status;
          pending = brings.moved.pending;
          matches = pointer_result program.source s c k here_is.matches d brings.moved.frame b elem t v q (x.regs 1) x.regs (outcome_is program accepted law code begins laid most base s c numbers gep known alike here_is) brings.is_index brings.moved.temps refl;
        })

    pub gep_follows : Follow gep
    unfolding piece operands_of types_of is_mixed_inst is_bad_gep is_left_out further_uses is_phi
    gep_follows =
        let stands = is program accepted law fit code begins laid most base enough s c numbers alike here_is grounds gep known in
        let the_scope = scope program accepted law fit code begins laid most base enough s c numbers alike here_is grounds gep known in
        let object_there = is_true (is_object the_scope b) (gep_is_good program accepted law s known.typed gep stands) in
        let made = made_by program accepted law fit code begins laid most base enough s c numbers alike here_is grounds gep known b (further_used program accepted law fit code begins laid most base enough s c numbers alike here_is grounds gep known b refl refl) in
        let first = at_first program accepted law code begins laid most base enough s c numbers alike here_is gep known b made object_there in
        let few = narrow_le t (narrow_128 t (odd gep known 1 t refl) (left_out gep known)) in
        let at = step_index program accepted law code begins laid most base enough s c numbers alike here_is gep known b (object_of program f b) elem count t v first.stepped object_there (not_mixed gep known) (held program accepted law code begins laid most base s c numbers gep known alike here_is 0 t v refl) (operand_at program accepted law s known.typed gep stands 0 t v refl) few in
        gep_by (index_of_step program f (object_of program f b) elem t v)
        (subst (λ (o : Object). pointing.Index program accepted law code begins laid most base enough s c numbers alike here_is gep known (index_of_step program f (object_of program f b) elem t v) (scaled elem (type_bytes (elements_of m f o).elem) (index_of t (operand_of t v s.values)))) (sym first.object) at)
        refl

  -- ---- accesses
  module _ (i : Inst) (known : Knows i) (a : Addr) (one : pointers_of i ≡ a ∷ []) (body : is_phi i ≡ false) (step : Step program accepted law fit code begins laid most base enough s c numbers alike here_is grounds i known a.step) where
    abbrev the_scope : FunctionScope
    the_scope = scope program accepted law fit code begins laid most base enough s c numbers alike here_is grounds i known

    abbrev stands : standing.Stands program accepted law s i
    stands = is program accepted law fit code begins laid most base enough s c numbers alike here_is grounds i known

    abbrev p : Pointer
    p = pointer_of m a s

    abbrev address : ℕ
    address = number_of_address program code begins laid most base enough f k c (object_of program f a.base) p.index

    module _ (t : Ty) (mixed : is_mixed_access the_scope t a ≡ false) (ot : is_odd t ≡ false) (kt : is_other t ≡ false) (bt : is_bit t ≡ false) (goes : traps program s i ≡ false) (inside : is_inside program s a ≡ true) where
      elem : t ≡ elem_of m f p.object
      elem = element_at program accepted law s known.typed i stands goes body 0 t a (ap (λ (addrs : List Addr). slice_get addrs 0) one) mixed

      abbrev pub On : Type 0
      On = OnNative program accepted law code begins laid most base enough s c numbers alike here_is p t address

      abbrev pub Own : Type 0
      Own = OnOwn program accepted law code begins laid most base enough s c numbers alike here_is p t address

      -- the bytes of an element are those of the type
      pub bytes_are : addresses.bytes_of program f (object_of program f a.base) ≡ type_bytes t
      bytes_are = ap (λ (o : Object). type_bytes (elements_of m f o).elem) (sym (points program accepted law fit code begins laid most base enough s c numbers alike here_is grounds i known a one body step).object) ∙ ap type_bytes (sym elem)

      pub by_origin : (o : Origin) → origin_of the_scope a.base ≡ o → (P : Type 0) → ((g : ℕ) → origin_of the_scope a.base ≡ origin.Global g → P) → ((r : ℕ) → origin_of the_scope a.base ≡ origin.Alloca r → P) → P
      by_origin (origin.Global g) e P shared own = shared g e
      by_origin (origin.Alloca r) e P shared own = own r e
      by_origin origin.Neither e P shared own =
          absurd (none-some _ (ap (extent_of the_scope) (sym e)
          ∙ extent_known program accepted law fit code begins laid most base enough s c numbers alike here_is grounds i known a one body step inside))

      abbrev pub OnPair : Type 0
      OnPair = OnWide program accepted law code begins laid most base enough s c numbers alike here_is p t address

      module _ (align : ℕ) (no_alloca : to_alloca the_scope a ≡ false) (over : is_overstated program.layout the_scope a align ≡ false) (stated : is_alignment (Some align) ≡ true) (native : is_native program.target (bytes_of (width_of t)) align ≡ true) where
        pub atomic_on : is_narrow t ≡ true → On
        atomic_on narrow =
            by_origin (origin_of the_scope a.base) refl On
            (λ g o. on_native program accepted law fit code begins laid most base enough s c numbers alike here_is grounds i known a one body step inside t elem ot kt bt g o narrow
            (atomics program accepted law fit code begins laid most base enough s c numbers alike here_is grounds i known a one body step inside t elem ot kt bt g o align over stated native))
            (λ r o. absurd (true≢false (sym (ap is_alloca o) ∙ no_alloca)))

        pub atomic_large : is_wide (width_of t) ≡ true → OnPair
        atomic_large wide =
            by_origin (origin_of the_scope a.base) refl OnPair
            (λ g o. on_wide program accepted law fit code begins laid most base enough s c numbers alike here_is grounds i known a one body step inside t elem ot kt bt g o wide
            (atomics program accepted law fit code begins laid most base enough s c numbers alike here_is grounds i known a one body step inside t elem ot kt bt g o align over stated native))
            (λ r o. absurd (true≢false (sym (ap is_alloca o) ∙ no_alloca)))

      pub plain_on : is_narrow t ≡ true → (g : ℕ) → origin_of the_scope a.base ≡ origin.Global g → is_plain_locked program.layout program.target the_scope (origin_of the_scope a.base) ≡ false → On
      plain_on narrow g o locked =
          on_native program accepted law fit code begins laid most base enough s c numbers alike here_is grounds i known a one body step inside t elem ot kt bt g o narrow
          (plains program accepted law fit code begins laid most base enough s c numbers alike here_is grounds i known a one body step inside t elem ot kt bt g o locked)

      pub own_on : is_narrow t ≡ true → (r : ℕ) → origin_of the_scope a.base ≡ origin.Alloca r → Own
      own_on narrow r o = on_own program accepted law fit code begins laid most base enough s c numbers alike here_is grounds i known a one body step inside t elem ot kt bt narrow r o

      pub large_on : t ≡ I128 → (r : ℕ) → origin_of the_scope a.base ≡ origin.Alloca r → OnLarge program accepted law code begins laid most base enough s c numbers alike here_is p address
      large_on large r o = on_large program accepted law fit code begins laid most base enough s c numbers alike here_is grounds i known a one body step inside t elem ot kt bt large r o

      pub no_large : (g : ℕ) → origin_of the_scope a.base ≡ origin.Global g → is_plain_locked program.layout program.target the_scope (origin_of the_scope a.base) ≡ false → t ≡ I128 → ⊥
      no_large g o locked large = no_large_plain program accepted law fit code begins laid most base enough s c numbers alike here_is grounds i known a one body step inside t elem ot kt bt g o locked large

    -- an atomic instruction's pointer is to no alloca
    pub no_alloca : misplaced the_scope i ≡ false
    no_alloca =
        (or_parts (is_late_alloca s.block i) (misplaced the_scope i) (or_parts (is_late_alloca s.block i || misplaced the_scope i) (list_any (is_address the_scope) (operands_of i)) (at_spot i known).alloca).0).1

    pub aligned : is_alignment (alignment_in i) ≡ true
    aligned = is_true (is_alignment (alignment_in i)) (or_parts (not (is_alignment (alignment_in i))) (list_any is_beyond (operands_of i)) (at_spot i known).limit).0
