-- A choice between two numbers, conversions to more bits, and a part of a pair.
use Rattle.std.proofs.Common.{◌≡◌, ℕ, ◌/◌, ◌%◌, ◌^◌, ◌<◌, ◌≤◌, Bool, true, false, inl, inr, [], ◌∷◌, Some, refl, sym, ap, ◌∙◌, subst, arith}
use Rattle.std.specs.Prelude.{if◌then◌else◌, nat_eq}
use Rattle.ax_check.specs.Accepted.{IsAccepted}
use Rattle.ax_check.specs.Laws.{AtInstructions, IsSound}
use Rattle.ax_module.specs.declared.inst.Cast.TheVariants.{Sext, Zext}
use Rattle.ax_module.specs.declared.inst.Inst.TheVariants as inst
use Rattle.ax_module.specs.declared.operand.Operand.{Operand}
use Rattle.ax_module.specs.declared.operand.Operand.TheVariants as operand
use Rattle.ax_module.specs.declared.types.Ty.{Ty}
use Rattle.ax_module.specs.declared.types.Ty.TheVariants.{I1}
use Rattle.ax_source_run.specs.SourceEvent.{expected_by, number_of_next, seen_by}
use Rattle.ax_source_run.specs.SourceInstructions.{access_of, deed_of, is_unreachable, pointers_of, result_in}
use Rattle.ax_source_run.specs.SourceState.{Number, Pair, PointsTo, SourceProcessor, SourceProgram, SourceValue}
use Rattle.ax_source_run.specs.SourceValues.{number_of_flag, operand_of, part_of, type_bits, wrapped}
use Rattle.ax_ops.specs.Operation.{signed}
use Rattle.ax_mid.specs.declared.code.Mid.{Mid}
use Rattle.ax_mid.specs.declared.instruction.MidInst.TheVariants as line
use Rattle.ax_mid.specs.declared.registers.Virtual.{Virtual}
use Rattle.ax_mid.specs.Machine as machine
use Rattle.ax_mid.specs.Machine.{missed_by, private_step}
use Rattle.ax_mid.specs.Numbers.{extended, selected}
use Rattle.ax_mid.specs.Processor as mid
use Rattle.ax_mid.specs.Processor.{MidProcessor}
use Rattle.ax_rules.specs.declared.facts.Outcome.{Outcome}
use Rattle.ax_rules.specs.declared.facts.Outcome.TheVariants as outcome
use Rattle.ax_rules.specs.Facts.{outcome_of, part_type}
use Rattle.ax_rules.specs.Parts.{operands_of}
use Rattle.ax_typed.proofs.Types.{ResultsFit, chosen}
use Rattle.ax_typed.specs.Typed.{IsOf, IsResultOf, outcome_in}
use Rattle.ax_selected.specs.Contract.{Alike, Follows, Known, Stands}
use Rattle.ax_selected.specs.Laid.{IsLaid}
use Rattle.ax_selected.specs.Matches.{HoldsPair, HoldsValue}
use Rattle.ax_selected.specs.Operands.{high_into, is_narrow, low_into}
use Rattle.ax_selected.specs.Pieces.{Straight, copy}
use Rattle.ax_selected.specs.Registers.{flag_of, high_of, key, low_of, virtual}
use Rattle.ax_selected.specs.Selected.{piece, straight}
use Rattle.ax_selected.proofs.Comparisons.{extends}
use Rattle.ax_selected.proofs.Computes.{Held, gives, held_temps, high_fetched, low_fetched, outcome_is}
use Rattle.ax_selected.proofs.Cuts.{sign_cut}
use Rattle.ax_selected.proofs.Registers.{Temps, fits_64, half_below, narrow_result, no_temps, put_other, temp, wide_result}
use Rattle.ax_selected.proofs.Shifts.{halves_follow, one_step}
use Rattle.ax_selected.proofs.Sums.{held_at, narrow_le, typed_at}

-- a half of the number that is chosen
low_chosen : (q : Bool) (a b : ℕ) → (if q then b % 2 ^ 64 else a % 2 ^ 64) ≡ (if q then b else a) % 2 ^ 64
low_chosen true a b = refl
low_chosen false a b = refl

high_chosen : (q : Bool) (a b : ℕ) → (if q then b / 2 ^ 64 else a / 2 ^ 64) ≡ (if q then b else a) / 2 ^ 64
high_chosen true a b = refl
high_chosen false a b = refl

-- the parts of a pair
first_part : (part : ℕ) (v : SourceValue) → nat_eq part 0 ≡ true → part_of part v ≡ part_of 0 v
first_part part (Number n) e = refl
first_part part (Pair n flag) e = ap (λ (b : Bool). if b then n else number_of_flag flag) e
first_part part (PointsTo p) e = refl

second_part : (part : ℕ) (v : SourceValue) → nat_eq part 0 ≡ false → part_of part v ≡ part_of 1 v
second_part part (Number n) e = refl
second_part part (Pair n flag) e = ap (λ (b : Bool). if b then n else number_of_flag flag) e
second_part part (PointsTo p) e = refl

module _ (program : SourceProgram) (accepted : IsAccepted program) (law : AtInstructions IsSound) (fit : ResultsFit) (code : Mid Virtual) (begins : ℕ → ℕ → ℕ → ℕ) (laid : IsLaid program code.lines begins) (most base : ℕ) (enough : 512 ≤ most) (s : SourceProcessor) (c : MidProcessor) (numbers : ℕ → ℕ → ℕ) (alike : Alike s c) (here : Stands program.source begins s c) where
  abbrev k : ℕ
  k = number_of_next program s

  abbrev read : Ty → Operand → ℕ
  read t v = operand_of t v s.values

  -- ---- a choice
  module _ (x : Operand) (t : Ty) (v : Operand) (u : Ty) (w : Operand) (known : Known program s numbers (inst.Select x t v u w)) (same : u ≡ t) where
    abbrev test : ℕ
    test = read I1 x

    abbrev n : ℕ
    n = if nat_eq test 0 then read u w else read t v

    abbrev i : Rattle.ax_module.specs.declared.inst.Inst.Inst
    i = inst.Select x t v u w

    hx : Held x s.values c.regs
    unfolding operands_of
    hx = held_at program accepted law fit code begins laid most base enough s c numbers alike here i known 0 I1 x refl

    hv : Held v s.values c.regs
    unfolding operands_of
    hv = held_at program accepted law fit code begins laid most base enough s c numbers alike here i known 1 t v refl

    hw : Held w s.values c.regs
    unfolding operands_of
    hw = held_at program accepted law fit code begins laid most base enough s c numbers alike here i known 2 u w refl

    full_test : test % 2 ^ 64 ≡ test
    unfolding operands_of
    full_test = let h = typed_at program accepted law fit code begins laid most base enough s c numbers alike here i known 0 I1 x refl in (half_below test (omega (arith, h))).0

    n_typed : IsOf t n
    unfolding operands_of
    n_typed =
        chosen (nat_eq test 0) t (read u w) (read t v) (subst (λ (y : Ty). IsOf y (read u w)) same (typed_at program accepted law fit code begins laid most base enough s c numbers alike here i known 2 u w refl))
        (typed_at program accepted law fit code begins laid most base enough s c numbers alike here i known 1 t v refl)

    low_is : selected (test % 2 ^ 64) (read t v % 2 ^ 64) (read u w % 2 ^ 64) ≡ n % 2 ^ 64
    low_is = ap (λ (q : ℕ). selected q (read t v % 2 ^ 64) (read u w % 2 ^ 64)) full_test ∙ low_chosen (nat_eq test 0) (read t v) (read u w)

    high_is : selected (test % 2 ^ 64) (read t v / 2 ^ 64) (read u w / 2 ^ 64) ≡ n / 2 ^ 64
    high_is = ap (λ (q : ℕ). selected q (read t v / 2 ^ 64) (read u w / 2 ^ 64)) full_test ∙ high_chosen (nat_eq test 0) (read t v) (read u w)

    abbrev y1 : MidProcessor
    y1 = mid.gets 0 (test % 2 ^ 64) c

    abbrev y2 : MidProcessor
    y2 = mid.gets 1 (read t v % 2 ^ 64) y1

    abbrev y3 : MidProcessor
    y3 = mid.gets 2 (read u w % 2 ^ 64) y2

    t1 : Temps c.regs y1.regs
    t1 = temp c.regs c.regs 0 (test % 2 ^ 64) (omega arith) (no_temps c.regs)

    t2 : Temps c.regs y2.regs
    t2 = temp c.regs y1.regs 1 (read t v % 2 ^ 64) (omega arith) t1

    t3 : Temps c.regs y3.regs
    t3 = temp c.regs y2.regs 2 (read u w % 2 ^ 64) (omega arith) t2

    pub select_narrow : is_narrow t ≡ true → Follows key program code begins most base s c numbers i
    unfolding piece outcome_of deed_of access_of result_in is_unreachable pointers_of seen_by expected_by private_step machine.seen_by missed_by
    select_narrow e =
        let narrow = narrow_le t e in
        let below = fits_64 n (type_bits t) narrow n_typed in
        let d = mid.gets (low_of k) n y3 in
        gives program accepted law code begins laid most base s c numbers i known alike here (Number n) (record { silent = low_into 0 I1 x ∷ low_into 1 t v ∷ low_into 2 u w ∷ []; last = line.Select (virtual (low_of k)) (virtual 0) (virtual 1) (virtual 2) }) y3 d (record {
          piece = ap (λ (b : Bool). straight s.function k (if b then record { silent = low_into 0 I1 x ∷ low_into 1 t v ∷ low_into 2 u w ∷ []; last = line.Select (virtual (low_of k)) (virtual 0) (virtual 1) (virtual 2) } else record { silent = low_into 0 I1 x ∷ low_into 1 t v ∷ low_into 2 u w ∷ high_into 3 t v ∷ high_into 4 u w ∷ line.Select (virtual (high_of k)) (virtual 0) (virtual 3) (virtual 4) ∷ []; last = line.Select (virtual (low_of k)) (virtual 0) (virtual 1) (virtual 2) })) e;
          does = refl;
          calm = record { seen = refl; expected = refl };
          few = omega (arith, enough);
          runs = (y1, low_fetched program code base 0 I1 x s.values c hx, refl, (y2, low_fetched program code base 1 t v s.values y1 (held_temps v s.values c.regs y1.regs t1 hv), refl, (y3, low_fetched program code base 2 u w s.values y2 (held_temps w s.values c.regs y2.regs t2 hw), refl, refl)));
          last = ap (λ (r : ℕ). Some (mid.gets (low_of k) r y3)) (low_is ∙ (half_below n below).0);
          plain = record { seen = λ q ns. refl; missed = λ q. refl };
          place = refl;
          status = refl;
          pending = refl;
          matches = narrow_result program.source s c k here.matches d refl t n y3.regs (outcome_is program accepted law code begins laid most base s c numbers i known alike here) known.typed narrow below t3 refl;
        })

    pub select_wide : is_narrow t ≡ false → Follows key program code begins most base s c numbers i
    unfolding piece outcome_of deed_of access_of result_in is_unreachable pointers_of seen_by expected_by private_step machine.seen_by missed_by
    select_wide e =
        let y4 = mid.gets 3 (read t v / 2 ^ 64) y3 in
        let t4 = temp c.regs y3.regs 3 (read t v / 2 ^ 64) (omega arith) t3 in
        let y5 = mid.gets 4 (read u w / 2 ^ 64) y4 in
        let t5 = temp c.regs y4.regs 4 (read u w / 2 ^ 64) (omega arith) t4 in
        let high = n / 2 ^ 64 in
        let y6 = mid.gets (high_of k) high y5 in
        let low = n % 2 ^ 64 in
        let d = mid.gets (low_of k) low y6 in
        let r0 = put_other y5.regs (high_of k) high 0 (inl (omega arith)) in
        let r1 = put_other y5.regs (high_of k) high 1 (inl (omega arith)) in
        let r2 = put_other y5.regs (high_of k) high 2 (inl (omega arith)) in
        let st : Straight = record { silent = low_into 0 I1 x ∷ low_into 1 t v ∷ low_into 2 u w ∷ high_into 3 t v ∷ high_into 4 u w ∷ line.Select (virtual (high_of k)) (virtual 0) (virtual 3) (virtual 4) ∷ []; last = line.Select (virtual (low_of k)) (virtual 0) (virtual 1) (virtual 2) } in
        gives program accepted law code begins laid most base s c numbers i known alike here (Number n) st y6 d (record {
          piece = ap (λ (b : Bool). straight s.function k (if b then record { silent = low_into 0 I1 x ∷ low_into 1 t v ∷ low_into 2 u w ∷ []; last = line.Select (virtual (low_of k)) (virtual 0) (virtual 1) (virtual 2) } else st)) e;
          does = refl;
          calm = record { seen = refl; expected = refl };
          few = omega (arith, enough);
          runs = (
            y1,
            low_fetched program code base 0 I1 x s.values c hx,
            refl,
            (
              y2,
              low_fetched program code base 1 t v s.values y1 (held_temps v s.values c.regs y1.regs t1 hv),
              refl,
              (
                y3,
                low_fetched program code base 2 u w s.values y2 (held_temps w s.values c.regs y2.regs t2 hw),
                refl,
                (y4, high_fetched program code base 3 t v s.values y3 (held_temps v s.values c.regs y3.regs t3 hv), refl, (y5, high_fetched program code base 4 u w s.values y4 (held_temps w s.values c.regs y4.regs t4 hw), refl, (y6, ap (λ (r : ℕ). Some (mid.gets (high_of k) r y5)) high_is, refl, refl))),
              ),
            ),
          );
          last = ap (λ (r : ℕ). Some (mid.gets (low_of k) (selected r (y6.regs 1) (y6.regs 2)) y6)) r0
              ∙ (ap (λ (r : ℕ). Some (mid.gets (low_of k) (selected (test % 2 ^ 64) r (y6.regs 2)) y6)) r1 ∙ (ap (λ (r : ℕ). Some (mid.gets (low_of k) (selected (test % 2 ^ 64) (read t v % 2 ^ 64) r) y6)) r2 ∙ ap (λ (r : ℕ). Some (mid.gets (low_of k) r y6)) low_is));
          plain = record { seen = λ q ns. refl; missed = λ q. refl };
          place = refl;
          status = refl;
          pending = refl;
          matches = wide_result program.source s c k here.matches d refl t n low high y5.regs (outcome_is program accepted law code begins laid most base s c numbers i known alike here) refl refl t5 refl;
        })

  -- ---- conversions
  pub zext_follows : (t u : Ty) (v : Operand) → Known program s numbers (inst.Convert Zext t v u) → type_bits t ≤ 64 → Follows key program code begins most base s c numbers (inst.Convert Zext t v u)
  unfolding piece operands_of outcome_of deed_of access_of result_in is_unreachable pointers_of seen_by expected_by private_step machine.seen_by missed_by
  zext_follows t u v known few =
      let i = inst.Convert Zext t v u in
      let n = read t v in
      let below = fits_64 n (type_bits t) few (typed_at program accepted law fit code begins laid most base enough s c numbers alike here i known 0 t v refl) in
      let y = mid.gets 0 (n % 2 ^ 64) c in
      let zero = put_other y.regs (high_of k) 0 0 (inl (omega arith)) in
      halves_follow program accepted law fit code begins laid most base enough s c numbers alike here i known u (low_into 0 t v) (line.Const (virtual (high_of k)) 0) (copy (low_of k) 0) (n % 2 ^ 64) (n % 2 ^ 64) 0 n
      refl refl (record { seen = refl; expected = refl }) (outcome_is program accepted law code begins laid most base s c numbers i known alike here)
      (low_fetched program code base 0 t v s.values c (held_at program accepted law fit code begins laid most base enough s c numbers alike here i known 0 t v refl)) refl
      (ap (λ (r : ℕ). Some (mid.gets (low_of k) r (mid.gets (high_of k) 0 y))) zero) (record { seen = λ q ns. refl; missed = λ q. refl }) refl (sym (half_below n below).1)

  pub sext_follows : (t u : Ty) (v : Operand) → Known program s numbers (inst.Convert Sext t v u) → 1 ≤ type_bits t → type_bits t ≤ type_bits u → type_bits u ≤ 64 → Follows key program code begins most base s c numbers (inst.Convert Sext t v u)
  unfolding piece operands_of outcome_of deed_of access_of result_in is_unreachable pointers_of seen_by expected_by private_step
  sext_follows t u v known some more few =
      let i = inst.Convert Sext t v u in
      let n = read t v in
      let typed = typed_at program accepted law fit code begins laid most base enough s c numbers alike here i known 0 t v refl in
      let is = extends program accepted law code begins laid most base enough s c numbers alike here true (type_bits t) n typed (omega (arith, more, few)) in
      one_step program accepted law fit code begins laid most base enough s c numbers alike here i known t u v (line.Extend (virtual 0) (virtual 0) (type_bits t) true) (extended (type_bits t) true (n % 2 ^ 64)) (wrapped (type_bits u) (signed (type_bits t) n))
      refl refl (record { seen = refl; expected = refl }) (outcome_is program accepted law code begins laid most base s c numbers i known alike here) few (held_at program accepted law fit code begins laid most base enough s c numbers alike here i known 0 t v refl)
      refl (ap (λ (a : ℕ). a % 2 ^ type_bits u) is ∙ sign_cut (type_bits t) (type_bits u) n some more few typed)

  -- ---- a part of a pair
  module _ (t : Ty) (r part : ℕ) (known : Known program s numbers (inst.Extract t (operand.Value r) part)) (u : Ty) (pair : outcome_in program.source s.function r ≡ outcome.Pair u) where
    abbrev j : Rattle.ax_module.specs.declared.inst.Inst.Inst
    j = inst.Extract t (operand.Value r) part

    holds : HoldsPair c.regs r (s.values r)
    holds = subst (λ (o : Outcome). HoldsValue o c.regs r (s.values r)) pair (here.matches.values r)

    abbrev silent_first : Straight
    silent_first = record { silent = copy 0 (low_of r) ∷ copy 1 (high_of r) ∷ copy (high_of k) 1 ∷ []; last = copy (low_of k) 0 }

    abbrev second : Straight
    second = record { silent = []; last = copy (low_of k) (flag_of r) }

    extract_first : nat_eq part 0 ≡ true → Follows key program code begins most base s c numbers j
    unfolding piece outcome_of deed_of access_of result_in is_unreachable pointers_of seen_by expected_by private_step machine.seen_by missed_by
    extract_first e =
        let m = part_of part (s.values r) in
        let is = first_part part (s.values r) e in
        let lo = m % 2 ^ 64 in
        let hi = m / 2 ^ 64 in
        let z1 = mid.gets 0 lo c in
        let z2 = mid.gets 1 hi z1 in
        let z3 = mid.gets (high_of k) hi z2 in
        let d = mid.gets (low_of k) lo z3 in
        let low : c.regs (low_of r) ≡ lo = holds.number.low ∙ ap (λ (q : ℕ). q % 2 ^ 64) (sym is) in
        let high : z1.regs (high_of r) ≡ hi = put_other c.regs 0 lo (high_of r) (inr (omega arith)) ∙ (holds.number.high ∙ ap (λ (q : ℕ). q / 2 ^ 64) (sym is)) in
        let back = put_other z2.regs (high_of k) hi 0 (inl (omega arith)) in
        gives program accepted law code begins laid most base s c numbers j known alike here (Number m) silent_first z3 d (record {
          piece = ap (λ (b : Bool). straight s.function k (if b then silent_first else second)) e;
          does = refl;
          calm = record { seen = refl; expected = refl };
          few = omega (arith, enough);
          runs = (z1, ap (λ (q : ℕ). Some (mid.gets 0 q c)) low, refl, (z2, ap (λ (q : ℕ). Some (mid.gets 1 q z1)) high, refl, (z3, refl, refl, refl)));
          last = ap (λ (q : ℕ). Some (mid.gets (low_of k) q z3)) back;
          plain = record { seen = λ q ns. refl; missed = λ q. refl };
          place = refl;
          status = refl;
          pending = refl;
          matches = wide_result program.source s c k here.matches d refl (part_type t part) m lo hi z2.regs (outcome_is program accepted law code begins laid most base s c numbers j known alike here) refl refl
              (temp c.regs z1.regs 1 hi (omega arith) (temp c.regs c.regs 0 lo (omega arith) (no_temps c.regs))) refl;
        })

    extract_second : nat_eq part 0 ≡ false → Follows key program code begins most base s c numbers j
    unfolding piece outcome_of deed_of access_of result_in is_unreachable pointers_of seen_by expected_by private_step machine.seen_by missed_by
    extract_second e =
        let m = part_of part (s.values r) in
        let is = second_part part (s.values r) e in
        let d = mid.gets (low_of k) m c in
        let small : part_of 1 (s.values r) < 2 = (subst (λ (o : Outcome). IsResultOf o r (s.values r)) pair (known.typed.values r)) 1 in
        let below : m < 2 ^ 64 = omega (arith, is, small) in
        let out : outcome_in program.source s.function k ≡ outcome.Number I1 = outcome_is program accepted law code begins laid most base s c numbers j known alike here ∙ ap (λ (b : Bool). outcome.Number (if b then t else I1)) e in
        gives program accepted law code begins laid most base s c numbers j known alike here (Number m) second c d (record {
          piece = ap (λ (b : Bool). straight s.function k (if b then silent_first else second)) e;
          does = refl;
          calm = record { seen = refl; expected = refl };
          few = omega (arith, enough);
          runs = refl;
          last = ap (λ (q : ℕ). Some (mid.gets (low_of k) q c)) (holds.flag ∙ sym is);
          plain = record { seen = λ q ns. refl; missed = λ q. refl };
          place = refl;
          status = refl;
          pending = refl;
          matches = narrow_result program.source s c k here.matches d refl I1 m c.regs out known.typed (omega arith) below (no_temps c.regs) refl;
        })

    pub extract_follows : Follows key program code begins most base s c numbers j
    extract_follows = by (nat_eq part 0) refl
      where
        by : (b : Bool) → nat_eq part 0 ≡ b → Follows key program code begins most base s c numbers j
        by true e = extract_first e
        by false e = extract_second e
