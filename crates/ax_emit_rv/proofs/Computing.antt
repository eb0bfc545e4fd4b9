-- RV64's code of lines that compute.
use Rattle.std.proofs.Common.{◌≡◌, ℕ, zero, suc, ◌+◌, ◌-◌, ◌*◌, ◌%◌, ◌^◌, ◌<◌, ◌≤◌, Bool, true, false, List, [], ◌∷◌, ◌++◌, length, Some, refl, sym, ap, ◌∙◌, subst, arith, length-append}
use Rattle.std.specs.Prelude.{nat_lt}
use Rattle.std.proofs.lemmas.Bool.{false≢true}
use Rattle.ax_words.specs.declared.mark.Op.{Op}
use Rattle.ax_words.specs.declared.order.Order.{Order}
use Rattle.ax_words.specs.declared.width.Width.{Width}
use Rattle.ax_tags.specs.declared.tags.Tag.{Tag}
use Rattle.ax_isa.specs.Processor.{Processor}
use Rattle.ax_isa.specs.Steps.{Kind, go_with}
use Rattle.ax_isa.proofs.Functions.{at_same, at_other}
use Rattle.ax_mid.specs.declared.code.Line.{Line}
use Rattle.ax_mid.specs.declared.instruction.MidInst.{MidInst}
use Rattle.ax_mid.specs.declared.instruction.MidInst.TheVariants as inst
use Rattle.ax_mid.specs.declared.instruction.MidOp.{MidOp}
use Rattle.ax_mid.specs.declared.instruction.MidOp.TheVariants as mid
use Rattle.ax_mid.specs.declared.instruction.MidShift.{MidShift}
use Rattle.ax_mid.specs.Machine.{private_step}
use Rattle.ax_mid.specs.Numbers as middle
use Rattle.ax_mid.specs.Numbers.{applied, selected}
use Rattle.ax_mid.specs.Processor.{MidProcessor, gets}
use Rattle.ax_rv.specs.declared.instructions.Binary.TheVariants as binary
use Rattle.ax_rv.specs.declared.instructions.RvInstr.{RvInstr}
use Rattle.ax_rv.specs.declared.instructions.RvInstr.TheVariants.{Li, Unary, Binary, Shift}
use Rattle.ax_rv.specs.declared.instructions.Shift.TheVariants as shift
use Rattle.ax_rv.specs.declared.instructions.Unary.TheVariants as unary
use Rattle.ax_rv.specs.Arithmetic.{binary_of, shifted, unary_of}
use Rattle.ax_rv.specs.Instructions.{rv_kind}
use Rattle.ax_expand.specs.Doing.{read_regs}
use Rattle.ax_expand.specs.Private.{Private, went, Goes}
use Rattle.ax_expand.proofs.Straight.{goes_append}
use Rattle.ax_emit.specs.Atomics.{AllOf, Distinct, firsts, gets_all, seconds}
use Rattle.ax_fine.specs.Fine.{Program, Spelled, is_label, private_at, room_of}
use Rattle.ax_emit.specs.Laws.{AtomicLineFollows, BranchedLineFollows, ComputedLineFollows, EndedLineFollows, LabelLineFollows, LoadLineFollows, StoreLineFollows}
use Rattle.ax_emit.specs.Lines.{LineCode}
use Rattle.ax_emit.specs.Performs.{Computes, at_frame}
use Rattle.ax_emit.specs.Table.{Based}
use Rattle.ax_emit.specs.Touches.{is_private}
use Rattle.ax_emit.proofs.Moves.{got_all, got_fixed}
use Rattle.ax_emit_rv.specs.Code.{Expansion, computed, extend_code, extend_down, inst_code, piece_of, op_code, select_code, shift_of}
use Rattle.ax_emit_rv.specs.Laws.{Low, RvBased}
use Rattle.ax_emit_rv.specs.Slots.{down, get_by, is_usable, near_slots, rv_table}
use Rattle.ax_emit_rv.proofs.Numbers.{choice_is, extend_is, masked_choice, op_is, op_number, shift_is}
use Rattle.ax_emit_rv.proofs.Tables.{rv_slots}

-- the contracts of lines, as laws of emission
pub record Laws {R W : Type 0} (m : Program R W) : Type 0 where
  pub computed : ComputedLineFollows rv_kind m
  pub ended : EndedLineFollows rv_kind m
  pub branched : BranchedLineFollows rv_kind m
  pub atomic : AtomicLineFollows rv_kind m
  pub load : LoadLineFollows rv_kind m
  pub store : StoreLineFollows rv_kind m
  pub label : LabelLineFollows rv_kind m

pub based : {R W : Type 0} (m : Program R W) → RvBased m → Based rv_kind m rv_table
based m h =
    record {
      does = rv_slots m.count;
      sound = h.sound;
      laws = h.laws;
      stack = h.stack;
      home = h.home;
      free = λ t u. h.free t (at_least t u);
      via = h.free 8 (omega arith);
    }
  where
    at_least : (t : ℕ) → is_usable t ≡ true → 3 ≤ t
    at_least zero u = absurd (false≢true u)
    at_least (suc zero) u = absurd (false≢true u)
    at_least (suc (suc zero)) u = absurd (false≢true u)
    at_least (suc (suc (suc t))) u = omega arith

-- registers 0 to 2 alone are fixed
pub fixed_low : {R W : Type 0} (m : Program R W) → RvBased m → (q : ℕ) → m.fixed q ≡ true → q < 3
fixed_low m h zero k = omega arith
fixed_low m h (suc zero) k = omega arith
fixed_low m h (suc (suc zero)) k = omega arith
fixed_low m h (suc (suc (suc q))) k = absurd (false≢true (sym (h.free (suc (suc (suc q))) (omega arith)) ∙ k))

-- how long the code of slots is
get_short : (near : Bool) (t r : ℕ) → length (get_by near t r) ≤ 3
get_short true t r = omega arith
get_short false t r = omega arith

pub gets_short : (zs : List (ℕ × ℕ)) → length (gets_all rv_table zs) ≤ 3 * length zs
gets_short [] = omega arith
gets_short (z ∷ zs) = let a = length-append (get_by (nat_lt z.1 near_slots) z.0 z.1) (gets_all rv_table zs) in let b = get_short (nat_lt z.1 near_slots) z.0 z.1 in let c = gets_short zs in omega (arith, a, b, c)

-- a piece has its size wherever it stands
pub resized : {I R W : Type 0} (k : Kind I) (m : Program R W) (most size : ℕ) (piece : (ℕ → ℕ) → ℕ → List (I × Tag)) (line : Line R) → LineCode k m most size piece line → LineCode k m most (length (piece (λ j. 0) 0)) piece line
resized k m most size piece line h = subst (λ q. LineCode k m most q piece line) (sym (h.length_is (λ j. 0) 0)) h

-- after code on registers 5, 6 and 7, which leaves its number in register 7 and touches no register that is fixed
pub record Made (room : ℕ → Bool) (is : List RvInstr) (s : MidProcessor) (y : Private) (value : ℕ) : Type 0 where
  pub private : Private
  pub goes : Goes rv_kind room is y private
  pub frame : private.frame ≡ y.frame
  pub number : ((r : ℕ) → s.regs r < 2 ^ 64) → private.cpu.regs 7 ≡ value
  pub low : (q : ℕ) → q < 3 → private.cpu.regs q ≡ y.cpu.regs q

-- one register gets a number
abbrev pub set_to : ℕ → ℕ → Private → Private
set_to r v y = record { cpu = go_with r v y.cpu; frame = y.frame }

low_set : (r v q : ℕ) (y : Private) → 3 ≤ r → q < 3 → (set_to r v y).cpu.regs q ≡ y.cpu.regs q
low_set r v q y hi lo = at_other y.cpu.regs r v q (λ e. omega (arith, e, hi, lo))

one : (room : ℕ → Bool) (i : RvInstr) (v value : ℕ) (s : MidProcessor) (y : Private) → went room (rv_kind.effect_of i y.cpu) y ≡ Some (set_to 7 v y) → (((r : ℕ) → s.regs r < 2 ^ 64) → v ≡ value) → Made room (i ∷ []) s y value
one room i v value s y w e = record { private = set_to 7 v y; goes = (set_to 7 v y, w, refl); frame = refl; number = λ small. at_same y.cpu.regs 7 v ∙ e small; low = λ q lo. low_set 7 v q y (omega arith) lo }

two : (room : ℕ → Bool) (i j : RvInstr) (v value : ℕ) (g : ℕ → ℕ) (s : MidProcessor) (y : Private) → went room (rv_kind.effect_of i y.cpu) y ≡ Some (set_to 7 v y) → ((z : Private) → went room (rv_kind.effect_of j z.cpu) z ≡ Some (set_to 7 (g (z.cpu.regs 7)) z)) → (((r : ℕ) → s.regs r < 2 ^ 64) → g v ≡ value)
    → Made room (i ∷ j ∷ []) s y value
two room i j v value g s y w w2 e =
    let z = set_to 7 v y in
    let a = set_to 7 (g (z.cpu.regs 7)) z in
    record {
      private = a;
      goes = (z, w, (a, w2 z, refl));
      frame = refl;
      number = λ small. at_same z.cpu.regs 7 (g (z.cpu.regs 7)) ∙ ap g (at_same y.cpu.regs 7 v) ∙ e small;
      low = λ q lo. low_set 7 (g (z.cpu.regs 7)) q z (omega arith) lo ∙ low_set 7 v q y (omega arith) lo;
    }

made_op : (room : ℕ → Bool) (o : MidOp) (value : ℕ) (s : MidProcessor) (y : Private) → (((r : ℕ) → s.regs r < 2 ^ 64) → op_number o (y.cpu.regs 5) (y.cpu.regs 6) ≡ value) → Made room (op_code o) s y value
made_op room mid.Add value s y e = one room (Binary binary.Add 7 5 6) _ value s y refl e
made_op room mid.Sub value s y e = one room (Binary binary.Subtract 7 5 6) _ value s y refl e
made_op room mid.Mul value s y e = one room (Binary binary.Multiply 7 5 6) _ value s y refl e
made_op room mid.And value s y e = one room (Binary binary.And 7 5 6) _ value s y refl e
made_op room mid.Or value s y e = one room (Binary binary.Or 7 5 6) _ value s y refl e
made_op room mid.Xor value s y e = one room (Binary binary.Xor 7 5 6) _ value s y refl e
made_op room mid.Ult value s y e = one room (Binary binary.IsBelow 7 5 6) _ value s y refl e
made_op room mid.Slt value s y e = one room (Binary binary.IsLess 7 5 6) _ value s y refl e
made_op room mid.Eq value s y e = two room (Binary binary.Subtract 7 5 6) (Unary unary.IsZero 7 7) _ value (unary_of unary.IsZero) s y refl (λ z. refl) e
made_op room mid.Ne value s y e = two room (Binary binary.Subtract 7 5 6) (Unary unary.IsNotZero 7 7) _ value (unary_of unary.IsNotZero) s y refl (λ z. refl) e
made_op room mid.Ule value s y e = two room (Binary binary.IsBelow 7 6 5) (Unary unary.IsZero 7 7) _ value (unary_of unary.IsZero) s y refl (λ z. refl) e
made_op room mid.Sle value s y e = two room (Binary binary.IsLess 7 6 5) (Unary unary.IsZero 7 7) _ value (unary_of unary.IsZero) s y refl (λ z. refl) e

made_extend : (room : ℕ → Bool) (bits : ℕ) (signed : Bool) (value : ℕ) (s : MidProcessor) (y : Private) → (((r : ℕ) → s.regs r < 2 ^ 64) → shifted (extend_down signed) (shifted shift.Left (y.cpu.regs 7) ((64 - bits) % 64)) ((64 - bits) % 64) ≡ value) → Made room (extend_code bits signed) s y value
made_extend room bits signed value s y e = two room (Shift shift.Left 7 7 (64 - bits)) (Shift (extend_down signed) 7 7 (64 - bits)) (shifted shift.Left (y.cpu.regs 7) ((64 - bits) % 64)) value (λ v. shifted (extend_down signed) v ((64 - bits) % 64)) s y refl (λ z. refl) e

made_select : (room : ℕ → Bool) (value : ℕ) (s : MidProcessor) (y : Private) → (((r : ℕ) → s.regs r < 2 ^ 64) → masked_choice (y.cpu.regs 5) (y.cpu.regs 6) (y.cpu.regs 7) ≡ value) → Made room select_code s y value
made_select room value s y e =
    let y1 = set_to 5 (unary_of unary.IsNotZero (y.cpu.regs 5)) y in
    let y2 = set_to 5 (unary_of unary.Negate (y1.cpu.regs 5)) y1 in
    let y3 = set_to 6 (binary_of binary.Subtract (y2.cpu.regs 6) (y2.cpu.regs 7)) y2 in
    let y4 = set_to 6 (binary_of binary.And (y3.cpu.regs 6) (y3.cpu.regs 5)) y3 in
    let y5 = set_to 7 (binary_of binary.Add (y4.cpu.regs 7) (y4.cpu.regs 6)) y4 in
    record {
      private = y5;
      goes = (y1, refl, (y2, refl, (y3, refl, (y4, refl, (y5, refl, refl)))));
      frame = refl;
      number = λ small. (let q : y5.cpu.regs 7 ≡ masked_choice (y.cpu.regs 5) (y.cpu.regs 6) (y.cpu.regs 7) = refl in q ∙ e small);
      low = λ q lo. low_set 7 _ q y4 (omega arith) lo ∙ low_set 6 _ q y3 (omega arith) lo ∙ low_set 6 _ q y2 (omega arith) lo ∙ low_set 5 _ q y1 (omega arith) lo ∙ low_set 5 _ q y (omega arith) lo;
    }

-- what the private steps of lines that compute are
const_does : {R W : Type 0} (m : Program R W) (to : R) (n p : ℕ) (s : MidProcessor) → private_at m p (inst.Const to n) s ≡ Some (gets (m.key to) n s)
unfolding private_step
const_does m to n p s = refl

copy_does : {R W : Type 0} (m : Program R W) (to from : R) (p : ℕ) (s : MidProcessor) → private_at m p (inst.Copy to from) s ≡ Some (gets (m.key to) (s.regs (m.key from)) s)
unfolding private_step
copy_does m to from p s = refl

apply_does : {R W : Type 0} (m : Program R W) (o : MidOp) (to left right : R) (p : ℕ) (s : MidProcessor) → private_at m p (inst.Apply o to left right) s ≡ Some (gets (m.key to) (applied o (s.regs (m.key left)) (s.regs (m.key right))) s)
unfolding private_step
apply_does m o to left right p s = refl

shift_does : {R W : Type 0} (m : Program R W) (o : MidShift) (to from : R) (by p : ℕ) (s : MidProcessor) → private_at m p (inst.Shift o to from by) s ≡ Some (gets (m.key to) (middle.shifted o (s.regs (m.key from)) by) s)
unfolding private_step
shift_does m o to from by p s = refl

extend_does : {R W : Type 0} (m : Program R W) (to from : R) (bits : ℕ) (signed : Bool) (p : ℕ) (s : MidProcessor) → private_at m p (inst.Extend to from bits signed) s ≡ Some (gets (m.key to) (middle.extended bits signed (s.regs (m.key from))) s)
unfolding private_step
extend_does m to from bits signed p s = refl

select_does : {R W : Type 0} (m : Program R W) (to test x y : R) (p : ℕ) (s : MidProcessor) → private_at m p (inst.Select to test x y) s ≡ Some (gets (m.key to) (selected (s.regs (m.key test)) (s.regs (m.key x)) (s.regs (m.key y))) s)
unfolding private_step
select_does m to test x y p s = refl

address_does : {R W : Type 0} (m : Program R W) (to : R) (offset p : ℕ) (s : MidProcessor) → private_at m p (inst.FrameAddress to offset) s ≡ Some (gets (m.key to) (m.base p + offset) s)
unfolding private_step
address_does m to offset p s = refl

op_short : (o : MidOp) → length (op_code o) ≤ 2
op_short mid.Add = omega arith
op_short mid.Sub = omega arith
op_short mid.Mul = omega arith
op_short mid.And = omega arith
op_short mid.Or = omega arith
op_short mid.Xor = omega arith
op_short mid.Eq = omega arith
op_short mid.Ne = omega arith
op_short mid.Ult = omega arith
op_short mid.Ule = omega arith
op_short mid.Slt = omega arith
op_short mid.Sle = omega arith

module _ {R W : Type 0} (m : Program R W) (h : RvBased m) (law : Laws m) (most : ℕ) (enough : 16 ≤ most) (line : Line R) where
  -- what a processor finds once registers have the numbers of slots
  pub record Ready (zs : List (ℕ × ℕ)) (p : ℕ) (s : MidProcessor) (y : Private) : Type 0 where
    pub numbers : read_regs (firsts zs) y.cpu.regs ≡ read_regs (seconds zs) s.regs
    pub stack : y.cpu.regs 2 ≡ m.top p
    pub lives : m.lives p ≡ true

  -- A LINE THAT COMPUTES, from slots
  from_slots : (i : MidInst R) (to : R) (zs : List (ℕ × ℕ)) (ops : List RvInstr) (value : ℕ → MidProcessor → ℕ) → line.inst ≡ i → is_label i ≡ false → is_private i ≡ true → Low m to → Distinct (firsts zs) → AllOf (λ t. is_usable t ≡ true) (firsts zs) → AllOf (λ r. r < m.count) (seconds zs) → 3 * length zs + length ops ≤ 14
      → ((p : ℕ) (s : MidProcessor) → private_at m p i s ≡ Some (gets (m.key to) (value p s) s)) → ((p : ℕ) (s : MidProcessor) (y : Private) → Ready zs p s y → Made (room_of m p) ops s y (value p s))
      → LineCode rv_kind m most (length (computed m.key to (gets_all rv_table zs ++ ops))) (λ places start. computed m.key to (gets_all rv_table zs ++ ops)) line
  from_slots i to zs ops value is no_label private low distinct usable few short does makes =
      resized rv_kind m most _ (λ places start. computed m.key to (gets_all rv_table zs ++ ops)) line
      (law.computed rv_table (based m h) line most (gets_all rv_table zs ++ ops) (m.key to) 7 (ap is_label is ∙ no_label) (ap is_private is ∙ private) low refl (let a = length-append (gets_all rv_table zs) ops in let b = gets_short zs in omega (arith, a, b, short, enough)) computes)
    where
      computes : (p : ℕ) (c : Processor) (f : ℕ → ℕ) (s : MidProcessor) → Spelled m p c f s → Computes rv_kind m p line.inst (m.key to) 7 (gets_all rv_table zs ++ ops) s (at_frame c f)
      computes p c f s spelt =
          let g = got_all rv_kind m rv_table (based m h) p zs s (at_frame c f) distinct usable few spelt in
          let fixed = got_fixed rv_kind m rv_table (based m h) p zs s (at_frame c f) g usable in
          let made = makes p s g.private (record { numbers = g.numbers; stack = fixed 2 h.stack ∙ spelt.fixed 2 h.stack ∙ h.home p; lives = spelt.lives }) in
          record {
            value = value p s;
            does = ap (λ j. private_at m p j s) is ∙ does p s;
            private = made.private;
            goes = goes_append rv_kind (room_of m p) (gets_all rv_table zs) ops (at_frame c f) g.private made.private g.goes made.goes;
            frame = made.frame ∙ g.frame;
            number = made.number;
            fixed = λ q k. made.low q (fixed_low m h q k) ∙ fixed q k;
          }

  module _ (expansions : Op → Width → Order → Bool → Expansion) where
    abbrev Follows : MidInst R → Type 0
    Follows i = LineCode rv_kind m most (length (inst_code m expansions i (λ j. 0) 0)) (λ places start. inst_code m expansions i places start) line

    pub const_line : (to : R) (n : ℕ) → line.inst ≡ inst.Const to n → Low m to → Follows (inst.Const to n)
    unfolding piece_of
    const_line to n is low =
        from_slots (inst.Const to n) to [] (Li 7 n ∷ []) (λ p s. n) is refl refl low tt tt tt (omega arith) (const_does m to n) (λ p s y r. one (room_of m p) (Li 7 n) n n s y refl (λ small. refl))

    pub copy_line : (to from : R) → line.inst ≡ inst.Copy to from → Low m to → Low m from → Follows (inst.Copy to from)
    unfolding piece_of
    copy_line to from is low low_from =
        from_slots (inst.Copy to from) to ((7, m.key from) ∷ []) [] (λ p s. s.regs (m.key from)) is refl refl low (tt, tt) (refl, tt) (low_from, tt) (omega arith) (copy_does m to from)
        (λ p s y r. record { private = y; goes = refl; frame = refl; number = λ small. (let e = r.numbers in cc); low = λ q lo. refl })

    pub apply_line : (o : MidOp) (to left right : R) → line.inst ≡ inst.Apply o to left right → Low m to → Low m left → Low m right → Follows (inst.Apply o to left right)
    unfolding piece_of
    apply_line o to left right is low low_left low_right =
        from_slots (inst.Apply o to left right) to ((5, m.key left) ∷ (6, m.key right) ∷ []) (op_code o) (λ p s. applied o (s.regs (m.key left)) (s.regs (m.key right))) is refl refl low ((λ e. omega (arith, e), tt), (tt, tt)) (refl, (refl, tt)) (low_left, (low_right, tt)) (let e = op_short o in omega (arith, e)) (apply_does m o to left right)
        (λ p s y r. made_op (room_of m p) o (applied o (s.regs (m.key left)) (s.regs (m.key right))) s y (λ small. (
        let five : y.cpu.regs 5 ≡ s.regs (m.key left) = (let e = r.numbers in cc) in
        let six : y.cpu.regs 6 ≡ s.regs (m.key right) = (let e = r.numbers in cc) in
        ap (λ v. op_number o v (y.cpu.regs 6)) five ∙ ap (op_number o (s.regs (m.key left))) six ∙ op_is o (s.regs (m.key left)) (s.regs (m.key right)) (small (m.key left)) (small (m.key right)))))

    pub shift_line : (o : MidShift) (to from : R) (by : ℕ) → line.inst ≡ inst.Shift o to from by → Low m to → Low m from → by < 64 → Follows (inst.Shift o to from by)
    unfolding piece_of
    shift_line o to from by is low low_from below =
        from_slots (inst.Shift o to from by) to ((7, m.key from) ∷ []) (Shift (shift_of o) 7 7 by ∷ []) (λ p s. middle.shifted o (s.regs (m.key from)) by) is refl refl low (tt, tt) (refl, tt) (low_from, tt) (omega arith) (shift_does m o to from by)
        (λ p s y r. one (room_of m p) (Shift (shift_of o) 7 7 by) (shifted (shift_of o) (y.cpu.regs 7) (by % 64)) (middle.shifted o (s.regs (m.key from)) by) s y refl (λ small. (
        let seven : y.cpu.regs 7 ≡ s.regs (m.key from) = (let e = r.numbers in cc) in
        ap (λ v. shifted (shift_of o) v (by % 64)) seven ∙ shift_is o (s.regs (m.key from)) by below)))

    pub extend_line : (to from : R) (bits : ℕ) (signed : Bool) → line.inst ≡ inst.Extend to from bits signed → Low m to → Low m from → 1 ≤ bits → bits ≤ 64 → Follows (inst.Extend to from bits signed)
    unfolding piece_of
    extend_line to from bits signed is low low_from some_bits few_bits =
        from_slots (inst.Extend to from bits signed) to ((7, m.key from) ∷ []) (extend_code bits signed) (λ p s. middle.extended bits signed (s.regs (m.key from))) is refl refl low (tt, tt) (refl, tt) (low_from, tt) (omega arith) (extend_does m to from bits signed)
        (λ p s y r. made_extend (room_of m p) bits signed (middle.extended bits signed (s.regs (m.key from))) s y (λ small. (
        let seven : y.cpu.regs 7 ≡ s.regs (m.key from) = (let e = r.numbers in cc) in
        ap (λ v. shifted (extend_down signed) (shifted shift.Left v ((64 - bits) % 64)) ((64 - bits) % 64)) seven ∙ extend_is signed (s.regs (m.key from)) bits some_bits few_bits)))

    pub select_line : (to test a b : R) → line.inst ≡ inst.Select to test a b → Low m to → Low m test → Low m a → Low m b → Follows (inst.Select to test a b)
    unfolding piece_of
    select_line to test a b is low low_test low_a low_b =
        from_slots (inst.Select to test a b) to ((5, m.key test) ∷ (6, m.key a) ∷ (7, m.key b) ∷ []) select_code (λ p s. selected (s.regs (m.key test)) (s.regs (m.key a)) (s.regs (m.key b))) is refl refl low ((λ e. omega (arith, e), (λ e. omega (arith, e), tt)), ((λ e. omega (arith, e), tt), (tt, tt))) (refl, (refl, (refl, tt))) (low_test, (low_a, (low_b, tt))) (omega arith) (select_does m to test a b)
        (λ p s y r. made_select (room_of m p) (selected (s.regs (m.key test)) (s.regs (m.key a)) (s.regs (m.key b))) s y (λ small. (
        let five : y.cpu.regs 5 ≡ s.regs (m.key test) = (let e = r.numbers in cc) in
        let six : y.cpu.regs 6 ≡ s.regs (m.key a) = (let e = r.numbers in cc) in
        let seven : y.cpu.regs 7 ≡ s.regs (m.key b) = (let e = r.numbers in cc) in
        ap (λ v. masked_choice v (y.cpu.regs 6) (y.cpu.regs 7)) five ∙ ap (λ v. masked_choice (s.regs (m.key test)) v (y.cpu.regs 7)) six ∙ ap (masked_choice (s.regs (m.key test)) (s.regs (m.key a))) seven
        ∙ choice_is (s.regs (m.key test)) (s.regs (m.key a)) (s.regs (m.key b)) (small (m.key a)) (small (m.key b)))))

    pub address_line : (to : R) (offset : ℕ) → line.inst ≡ inst.FrameAddress to offset → Low m to → offset < m.depth → Follows (inst.FrameAddress to offset)
    unfolding piece_of
    address_line to offset is low below =
        from_slots (inst.FrameAddress to offset) to [] (Li 7 (down (m.depth - offset)) ∷ Binary binary.Add 7 2 7 ∷ []) (λ p s. m.base p + offset) is refl refl low tt tt tt (omega arith) (address_does m to offset)
        (λ p s y r. (
        let d = down (m.depth - offset) in
        let y1 = set_to 7 d y in
        let sum = (y1.cpu.regs 2 + y1.cpu.regs 7) % 2 ^ 64 in
        let y2 = set_to 7 sum y1 in
        record {
          private = y2;
          goes = (y1, refl, (y2, refl, refl));
          frame = refl;
          number = λ small. (let top = r.stack in let deep = h.sound.deep p in let wide = h.sound.wide p r.lives in
              let q : (y.cpu.regs 2 + (2 ^ 64 - (m.depth - offset))) % 2 ^ 64 ≡ m.base p + offset = omega (arith, top, deep, wide, below) in q);
          low = λ q lo. low_set 7 sum q y1 (omega arith) lo ∙ low_set 7 d q y (omega arith) lo;
        }))
