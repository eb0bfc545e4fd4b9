-- Instructions that compute with numbers, kind by kind.
use Rattle.std.proofs.Common.{◌≡◌, ℕ, ◌+◌, ◌-◌, ◌*◌, ◌/◌, ◌%◌, ◌^◌, ◌<◌, ◌≤◌, Bool, true, false, List, [], ◌∷◌, ◌++◌, Some, refl, ap, ◌∙◌, subst, arith}
use Rattle.std.specs.Prelude.{if◌then◌else◌, nat_le, nat_eq, nat_lt}
use Rattle.std.proofs.Common.{inl}
use Rattle.std.proofs.Math.Nat.{mod-eq_of_lt}
use Rattle.std.proofs.lemmas.Bool.Decides.{nat_tests}
use Rattle.std.proofs.lemmas.Nat.{mod_below, pow_pos}
use Rattle.ax_module.specs.declared.inst.BinOp.{BinOp}
use Rattle.ax_module.specs.declared.inst.BinOp.TheVariants as bin
use Rattle.ax_module.specs.declared.inst.Cast.TheVariants.{Trunc}
use Rattle.ax_module.specs.declared.inst.Inst.{Inst}
use Rattle.ax_module.specs.declared.inst.Inst.TheVariants as inst
use Rattle.ax_module.specs.declared.operand.Operand.{Operand}
use Rattle.ax_module.specs.declared.types.Ty.{Ty}
use Rattle.ax_check.specs.Accepted.{IsAccepted}
use Rattle.ax_check.specs.Laws.{AtInstructions, IsSound}
use Rattle.ax_source_run.specs.SourceAccess.{gets, put_at}
use Rattle.ax_source_run.specs.SourceEvent.{expected_by, number_of_next, seen_by}
use Rattle.ax_source_run.specs.SourceInstructions.{access_of, changed, deed, deed_of, is_unreachable, pointers_of, result_in}
use Rattle.ax_source_run.specs.SourceState.{Number, SourceProcessor, SourceProgram, SourceValue}
use Rattle.ax_source_run.specs.SourceValues.{computed, operand_of, type_bits}
use Rattle.ax_mid.specs.declared.code.Mid.{Mid}
use Rattle.ax_mid.specs.declared.instruction.MidInst.{MidInst}
use Rattle.ax_mid.specs.declared.instruction.MidOp.{MidOp}
use Rattle.ax_mid.specs.declared.instruction.MidOp.TheVariants as op
use Rattle.ax_mid.specs.declared.registers.Virtual.{Virtual}
use Rattle.ax_mid.specs.Machine as machine
use Rattle.ax_mid.specs.Machine.{missed_by, private_step}
use Rattle.ax_mid.specs.Numbers.{applied}
use Rattle.ax_mid.specs.Processor as mid
use Rattle.ax_mid.specs.Processor.{MidProcessor}
use Rattle.ax_rules.specs.declared.facts.Outcome.TheVariants as outcome
use Rattle.ax_rules.specs.Facts.{outcome_of}
use Rattle.ax_rules.specs.Parts.{operands_of}
use Rattle.ax_typed.proofs.Facts.{operand_at}
use Rattle.ax_typed.proofs.Types.{ResultsFit, computed_fits}
use Rattle.ax_typed.specs.Typed.{IsOf, outcome_in}
use Rattle.ax_selected.specs.Contract.{Alike, Follows, Known, Stands}
use Rattle.ax_selected.specs.Laid.{IsLaid, piece_of}
use Rattle.ax_selected.specs.Operands.{is_narrow, low_into}
use Rattle.ax_selected.specs.Pieces.{Straight, apply, both_into, copy, cut_into, narrow_bin, narrow_op, wide_bin}
use Rattle.ax_selected.specs.Registers.{high_of, key, low_of}
use Rattle.ax_selected.specs.Selected.{piece, straight}
use Rattle.ax_selected.proofs.Arith.{add_high, add_low, sub_64, sub_high, sub_low, wrapped_64}
use Rattle.ax_selected.proofs.Computes.{Gives, Held, IsCalm, IsPlain, gives, held, held_temps, high_fetched, low_fetched, outcome_is}
use Rattle.ax_selected.proofs.Registers.{Temps, fits_64, half_below, narrow_result, no_temps, put_other, temp, wide_result}
use Rattle.ax_selected.proofs.Straight.{Runs, runs_both}

pub narrow_le : (t : Ty) → is_narrow t ≡ true → type_bits t ≤ 64
narrow_le t e = grind (arith, nat_tests)

pub cut_fits : (x bits : ℕ) → bits ≤ 64 → x % 2 ^ bits < 2 ^ 64
cut_fits x bits le = fits_64 (x % 2 ^ bits) bits le (mod_below x (2 ^ bits) (pow_pos bits))

module _ (program : SourceProgram) (accepted : IsAccepted program) (law : AtInstructions IsSound) (fit : ResultsFit) (code : Mid Virtual) (begins : ℕ → ℕ → ℕ → ℕ) (laid : IsLaid program code.lines begins) (most base : ℕ) (enough : 512 ≤ most) (s : SourceProcessor) (c : MidProcessor) (numbers : ℕ → ℕ → ℕ) (alike : Alike s c) (here : Stands program.source begins s c) where
  abbrev k : ℕ
  k = number_of_next program s

  abbrev pub read : Ty → Operand → ℕ
  read t v = operand_of t v s.values

  abbrev pub low : Ty → Operand → ℕ
  low t v = operand_of t v s.values % 2 ^ 64

  abbrev pub high : Ty → Operand → ℕ
  high t v = operand_of t v s.values / 2 ^ 64

  abbrev pub runs : List (MidInst Virtual) → MidProcessor → MidProcessor → Type 0
  runs = Runs program.target code base

  -- the machine after register 0, and 1, got a number
  abbrev pub one : ℕ → MidProcessor
  one a = mid.gets 0 a c

  abbrev pub two : ℕ → ℕ → MidProcessor
  two a b = mid.gets 1 b (one a)

  pub temps_one : (a : ℕ) → Temps c.regs (one a).regs
  temps_one a = temp c.regs c.regs 0 a (omega arith) (no_temps c.regs)

  pub temps_two : (a b : ℕ) → Temps c.regs (two a b).regs
  temps_two a b = temp c.regs (one a).regs 1 b (omega arith) (temps_one a)

  -- ---- what an instruction's operands are
  module _ (i : Inst) (known : Known program s numbers i) where
    abbrev pub follows : Type 0
    follows = Follows key program code begins most base s c numbers i

    abbrev pub gives_it : (v : SourceValue) (st : Straight) (x d : MidProcessor) → Gives program accepted law code begins laid most base s c numbers i known alike here v st x d → follows
    gives_it = gives program accepted law code begins laid most base s c numbers i known alike here

    abbrev pub held_at : (j : ℕ) (t : Ty) (v : Operand) → Rattle.std.specs.Prelude.slice_get (operands_of i) j ≡ Some (t, v) → Held v s.values c.regs
    held_at = held program accepted law code begins laid most base s c numbers i known alike here

    abbrev pub typed_at : (j : ℕ) (t : Ty) (v : Operand) → Rattle.std.specs.Prelude.slice_get (operands_of i) j ≡ Some (t, v) → IsOf t (operand_of t v s.values)
    typed_at = operand_at program accepted law s known.typed i (Rattle.ax_typed.proofs.Standing.stands program accepted law s i known.next)

    abbrev pub number : ℕ → Type 0
    number n = deed program s k numbers i ≡ changed program s (gets k (Number n) s) numbers

    -- two operands, an operation of 64 bits, and its low bits
    pub narrow_op_follows : (t : Ty) (v w : Operand) (o : MidOp) (n : ℕ) → piece_of program s i ≡ straight s.function k (narrow_op o k t v w) → number n → IsCalm program accepted law code begins laid most base s c numbers i known alike here
        → outcome_in program.source s.function k ≡ outcome.Number t → type_bits t ≤ 64 → Held v s.values c.regs → Held w s.values c.regs → applied o (low t v) (low t w) % 2 ^ type_bits t ≡ n → follows
    unfolding private_step machine.seen_by missed_by
    narrow_op_follows t v w o n is does calm out narrow hv hw value =
        let a = low t v in
        let b = low t w in
        let x = mid.gets 0 (applied o a b) (two a b) in
        let d = mid.gets (low_of k) (applied o a b % 2 ^ type_bits t) x in
        gives_it (Number n) (narrow_op o k t v w) x d (record {
          piece = is;
          does = does;
          calm = calm;
          few = omega (arith, enough);
          runs = (one a, low_fetched program code base 0 t v s.values c hv, refl, (two a b, low_fetched program code base 1 t w s.values (one a) (held_temps w s.values c.regs (one a).regs (temps_one a) hw), refl, (x, refl, refl, refl)));
          last = refl;
          plain = record { seen = λ y ns. refl; missed = λ y. refl };
          place = refl;
          status = refl;
          pending = refl;
          matches = narrow_result program.source s c k here.matches d refl t n x.regs out known.typed narrow (subst (λ (y : ℕ). y < 2 ^ 64) value (cut_fits (applied o a b) (type_bits t) narrow))
              (temp c.regs (two a b).regs 0 (applied o a b) (omega arith) (temps_two a b)) (ap (put_at x.regs (low_of k)) value);
        })

    -- one operand of at most 64 bits, and a line that gives the result
    pub narrow_one_follows : (t u : Ty) (v : Operand) (last : MidInst Virtual) (n : ℕ) → piece_of program s i ≡ straight s.function k (record { silent = low_into 0 t v ∷ []; last = last }) → number n → IsCalm program accepted law code begins laid most base s c numbers i known alike here
        → outcome_in program.source s.function k ≡ outcome.Number u → type_bits u ≤ 64 → n < 2 ^ 64 → Held v s.values c.regs → private_step key program.target code base last (one (low t v)) ≡ Some (mid.gets (low_of k) n (one (low t v))) → IsPlain program code base last → follows
    narrow_one_follows t u v last n is does calm out narrow fits hv step plain =
        let x = one (low t v) in
        let d = mid.gets (low_of k) n x in
        gives_it (Number n) (record { silent = low_into 0 t v ∷ []; last = last }) x d (record {
          piece = is;
          does = does;
          calm = calm;
          few = omega (arith, enough);
          runs = (x, low_fetched program code base 0 t v s.values c hv, refl, refl);
          last = step;
          plain = plain;
          place = refl;
          status = refl;
          pending = refl;
          matches = narrow_result program.source s c k here.matches d refl u n x.regs out known.typed narrow fits (temps_one (low t v)) refl;
        })

    -- ---- both halves of two operands, in registers 0 to 3
    module _ (t : Ty) (v w : Operand) (hv : Held v s.values c.regs) (hw : Held w s.values c.regs) where
      abbrev pub four : MidProcessor
      four = mid.gets 3 (high t w) (mid.gets 2 (low t w) (mid.gets 1 (high t v) (mid.gets 0 (low t v) c)))

      temps_3 : Temps c.regs (mid.gets 2 (low t w) (two (low t v) (high t v))).regs
      temps_3 = temp c.regs (two (low t v) (high t v)).regs 2 (low t w) (omega arith) (temps_two (low t v) (high t v))

      pub temps_4 : Temps c.regs four.regs
      temps_4 = temp c.regs (mid.gets 2 (low t w) (two (low t v) (high t v))).regs 3 (high t w) (omega arith) temps_3

      at_1 : Held v s.values (one (low t v)).regs
      at_1 = held_temps v s.values c.regs (one (low t v)).regs (temps_one (low t v)) hv

      at_2 : Held w s.values (two (low t v) (high t v)).regs
      at_2 = held_temps w s.values c.regs (two (low t v) (high t v)).regs (temps_two (low t v) (high t v)) hw

      at_3 : Held w s.values (mid.gets 2 (low t w) (two (low t v) (high t v))).regs
      at_3 = held_temps w s.values c.regs (mid.gets 2 (low t w) (two (low t v) (high t v))).regs temps_3 hw

      pub fetched : runs (both_into t v w) c four
      fetched = (
        one (low t v),
        low_fetched program code base 0 t v s.values c hv,
        refl,
        (
          two (low t v) (high t v),
          high_fetched program code base 1 t v s.values (one (low t v)) at_1,
          refl,
          (mid.gets 2 (low t w) (two (low t v) (high t v)), low_fetched program code base 2 t w s.values (two (low t v) (high t v)) at_2, refl, (four, high_fetched program code base 3 t w s.values (mid.gets 2 (low t w) (two (low t v) (high t v))) at_3, refl, refl)),
        ),
      )

      -- a sum or a difference of 128 bits: the low halves, what they carry, the high halves, and the carry added or taken away
      wide_follows : (o : MidOp) (x y n sum carry part : ℕ) → (x < 5) → (y < 5)
          → piece_of program s i ≡ straight s.function k (record { silent = both_into t v w ++ apply o 4 0 2 ∷ apply op.Ult 5 x y ∷ apply o 6 1 3 ∷ apply o (high_of k) 6 5 ∷ []; last = copy (low_of k) 4 })
          → number n → IsCalm program accepted law code begins laid most base s c numbers i known alike here → outcome_in program.source s.function k ≡ outcome.Number t
          → applied o (low t v) (low t w) ≡ sum → applied op.Ult (put_at four.regs 4 sum x) (put_at four.regs 4 sum y) ≡ carry → applied o (high t v) (high t w) ≡ part
          → sum ≡ n % 2 ^ 64 → applied o part carry ≡ n / 2 ^ 64 → follows
      unfolding private_step machine.seen_by missed_by
      wide_follows o x y n sum carry part lx ly is does calm out is_sum is_carry is_part is_low is_high =
          let y5 = mid.gets 4 sum four in
          let y6 = mid.gets 5 carry y5 in
          let y7 = mid.gets 6 part y6 in
          let y8 = mid.gets (high_of k) (applied o part carry) y7 in
          let d = mid.gets (low_of k) sum y8 in
          let last : y8.regs 4 ≡ sum = put_other y7.regs (high_of k) (applied o part carry) 4 (inl (omega arith)) in
          gives_it (Number n) (record { silent = both_into t v w ++ apply o 4 0 2 ∷ apply op.Ult 5 x y ∷ apply o 6 1 3 ∷ apply o (high_of k) 6 5 ∷ []; last = copy (low_of k) 4 }) y8 d (record {
            piece = is;
            does = does;
            calm = calm;
            few = omega (arith, enough);
            runs = runs_both program.target code base (both_into t v w) (apply o 4 0 2 ∷ apply op.Ult 5 x y ∷ apply o 6 1 3 ∷ apply o (high_of k) 6 5 ∷ []) c four y8 fetched
                (y5, ap (λ (r : ℕ). Some (mid.gets 4 r four)) is_sum, refl, (y6, ap (λ (r : ℕ). Some (mid.gets 5 r y5)) is_carry, refl, (y7, ap (λ (r : ℕ). Some (mid.gets 6 r y6)) is_part, refl, (y8, refl, refl, refl))));
            last = ap (λ (r : ℕ). Some (mid.gets (low_of k) r y8)) last;
            plain = record { seen = λ z ns. refl; missed = λ z. refl };
            place = refl;
            status = refl;
            pending = refl;
            matches = wide_result program.source s c k here.matches d refl t n sum (applied o part carry) y7.regs out is_low is_high
                (temp c.regs y6.regs 6 part (omega arith) (temp c.regs y5.regs 5 carry (omega arith) (temp c.regs four.regs 4 sum (omega arith) temps_4))) refl;
          })

  -- ---- add and sub
  pub full : (t : Ty) (n : ℕ) → type_bits t ≤ 64 → IsOf t n → n % 2 ^ 64 ≡ n
  full t n narrow h = (half_below n (fits_64 n (type_bits t) narrow h)).0

  -- operations that are cut to their type's bits
  bin_narrow : (o : BinOp) (p : MidOp) (t : Ty) (v w : Operand) → Known program s numbers (inst.Bin o t v w) → is_narrow t ≡ true → narrow_bin o k t v w ≡ narrow_op p k t v w → applied p (read t v) (read t w) % 2 ^ type_bits t ≡ computed o (type_bits t) (read t v) (read t w)
      → Follows key program code begins most base s c numbers (inst.Bin o t v w)
  unfolding piece operands_of outcome_of deed_of access_of result_in is_unreachable pointers_of seen_by expected_by
  bin_narrow o p t v w known e is value =
      let i = inst.Bin o t v w in
      let narrow = narrow_le t e in
      let fv = full t (read t v) narrow (typed_at i known 0 t v refl) in
      let fw = full t (read t w) narrow (typed_at i known 1 t w refl) in
      narrow_op_follows i known t v w p (computed o (type_bits t) (read t v) (read t w))
      (ap (λ (b : Bool). straight s.function k (if b then narrow_bin o k t v w else wide_bin o k t v w)) e ∙ ap (straight s.function k) is)
      refl (record { seen = refl; expected = refl }) (outcome_is program accepted law code begins laid most base s c numbers i known alike here) narrow (held_at i known 0 t v refl) (held_at i known 1 t w refl)
      (ap (λ (x : ℕ). applied p x (read t w % 2 ^ 64) % 2 ^ type_bits t) fv ∙ ap (λ (x : ℕ). applied p (read t v) x % 2 ^ type_bits t) fw ∙ value)

  pub small : (o : BinOp) (t : Ty) (v w : Operand) → (known : Known program s numbers (inst.Bin o t v w)) → computed o (type_bits t) (read t v) (read t w) % 2 ^ type_bits t ≡ computed o (type_bits t) (read t v) (read t w)
  unfolding operands_of
  small o t v w known = mod-eq_of_lt (computed_fits fit o (type_bits t) (read t v) (read t w) (typed_at (inst.Bin o t v w) known 0 t v refl) (typed_at (inst.Bin o t v w) known 1 t w refl))

  pub add_narrow : (t : Ty) (v w : Operand) → Known program s numbers (inst.Bin bin.Add t v w) → is_narrow t ≡ true → Follows key program code begins most base s c numbers (inst.Bin bin.Add t v w)
  add_narrow t v w known e = bin_narrow bin.Add op.Add t v w known e refl (wrapped_64 (read t v + read t w) (type_bits t) (narrow_le t e))

  pub sub_narrow : (t : Ty) (v w : Operand) → Known program s numbers (inst.Bin bin.Sub t v w) → is_narrow t ≡ true → Follows key program code begins most base s c numbers (inst.Bin bin.Sub t v w)
  unfolding operands_of
  sub_narrow t v w known e = bin_narrow bin.Sub op.Sub t v w known e refl (sub_64 (read t v) (read t w) (type_bits t) (narrow_le t e) (typed_at (inst.Bin bin.Sub t v w) known 1 t w refl))

  pub mul_narrow : (t : Ty) (v w : Operand) → Known program s numbers (inst.Bin bin.Mul t v w) → is_narrow t ≡ true → Follows key program code begins most base s c numbers (inst.Bin bin.Mul t v w)
  mul_narrow t v w known e = bin_narrow bin.Mul op.Mul t v w known e refl (wrapped_64 (read t v * read t w) (type_bits t) (narrow_le t e))

  pub and_narrow : (t : Ty) (v w : Operand) → Known program s numbers (inst.Bin bin.And t v w) → is_narrow t ≡ true → Follows key program code begins most base s c numbers (inst.Bin bin.And t v w)
  and_narrow t v w known e = bin_narrow bin.And op.And t v w known e refl (small bin.And t v w known)

  pub or_narrow : (t : Ty) (v w : Operand) → Known program s numbers (inst.Bin bin.Or t v w) → is_narrow t ≡ true → Follows key program code begins most base s c numbers (inst.Bin bin.Or t v w)
  or_narrow t v w known e = bin_narrow bin.Or op.Or t v w known e refl (small bin.Or t v w known)

  pub xor_narrow : (t : Ty) (v w : Operand) → Known program s numbers (inst.Bin bin.Xor t v w) → is_narrow t ≡ true → Follows key program code begins most base s c numbers (inst.Bin bin.Xor t v w)
  xor_narrow t v w known e = bin_narrow bin.Xor op.Xor t v w known e refl (small bin.Xor t v w known)

  pub wide_of : (t : Ty) (n : ℕ) → type_bits t ≡ 128 → IsOf t n → n < 2 ^ 128
  wide_of t n e h = subst (λ (bits : ℕ). n < 2 ^ bits) e h

  pub add_wide : (t : Ty) (v w : Operand) → Known program s numbers (inst.Bin bin.Add t v w) → is_narrow t ≡ false → type_bits t ≡ 128 → Follows key program code begins most base s c numbers (inst.Bin bin.Add t v w)
  unfolding piece operands_of outcome_of deed_of access_of result_in is_unreachable pointers_of seen_by expected_by
  add_wide t v w known e bits =
      let i = inst.Bin bin.Add t v w in
      let a = wide_of t (read t v) bits (typed_at i known 0 t v refl) in
      let b = wide_of t (read t w) bits (typed_at i known 1 t w refl) in
      let n = (read t v + read t w) % 2 ^ 128 in
      wide_follows i known t v w (held_at i known 0 t v refl) (held_at i known 1 t w refl) op.Add 4 0 n ((low t v + low t w) % 2 ^ 64) (applied op.Ult ((low t v + low t w) % 2 ^ 64) (low t v)) ((high t v + high t w) % 2 ^ 64) (omega arith) (omega arith)
      (ap (λ (x : Bool). straight s.function k (if x then narrow_bin bin.Add k t v w else wide_bin bin.Add k t v w)) e)
      (ap (λ (x : ℕ). changed program s (gets k (Number ((read t v + read t w) % 2 ^ x)) s) numbers) bits) (record { seen = refl; expected = refl }) (outcome_is program accepted law code begins laid most base s c numbers i known alike here)
      refl refl refl (add_low (read t v) (read t w)) (add_high (read t v) (read t w) a b)

  pub sub_wide : (t : Ty) (v w : Operand) → Known program s numbers (inst.Bin bin.Sub t v w) → is_narrow t ≡ false → type_bits t ≡ 128 → Follows key program code begins most base s c numbers (inst.Bin bin.Sub t v w)
  unfolding piece operands_of outcome_of deed_of access_of result_in is_unreachable pointers_of seen_by expected_by
  sub_wide t v w known e bits =
      let i = inst.Bin bin.Sub t v w in
      let a = wide_of t (read t v) bits (typed_at i known 0 t v refl) in
      let b = wide_of t (read t w) bits (typed_at i known 1 t w refl) in
      let n = (read t v + (2 ^ 128 - read t w)) % 2 ^ 128 in
      wide_follows i known t v w (held_at i known 0 t v refl) (held_at i known 1 t w refl) op.Sub 0 2 n ((low t v + (2 ^ 64 - low t w)) % 2 ^ 64) (applied op.Ult (low t v) (low t w)) ((high t v + (2 ^ 64 - high t w)) % 2 ^ 64) (omega arith) (omega arith)
      (ap (λ (x : Bool). straight s.function k (if x then narrow_bin bin.Sub k t v w else wide_bin bin.Sub k t v w)) e)
      (ap (λ (x : ℕ). changed program s (gets k (Number ((read t v + (2 ^ x - read t w)) % 2 ^ x)) s) numbers) bits) (record { seen = refl; expected = refl }) (outcome_is program accepted law code begins laid most base s c numbers i known alike here)
      refl refl refl (sub_low (read t v) (read t w) a b) (sub_high (read t v) (read t w) a b)

  -- ---- conversions
  pub trunc_narrow : (t u : Ty) (v : Operand) → Known program s numbers (inst.Convert Trunc t v u) → is_narrow u ≡ true → Follows key program code begins most base s c numbers (inst.Convert Trunc t v u)
  unfolding piece operands_of outcome_of deed_of access_of result_in is_unreachable pointers_of seen_by expected_by private_step machine.seen_by missed_by
  trunc_narrow t u v known e =
      let i = inst.Convert Trunc t v u in
      let narrow = narrow_le u e in
      let cut = wrapped_64 (read t v) (type_bits u) narrow in
      narrow_one_follows i known t u v (cut_into (low_of k) 0 (type_bits u)) (read t v % 2 ^ type_bits u) refl refl (record { seen = refl; expected = refl })
      (outcome_is program accepted law code begins laid most base s c numbers i known alike here) narrow (cut_fits (read t v) (type_bits u) narrow) (held_at i known 0 t v refl)
      (ap (λ (x : ℕ). Some (mid.gets (low_of k) x (one (low t v)))) cut) (record { seen = λ y ns. refl; missed = λ y. refl })
