-- AArch64's code of lines that compute.
use Rattle.std.proofs.Common.{◌≡◌, ℕ, suc, ◌+◌, ◌-◌, ◌*◌, ◌%◌, ◌^◌, ◌<◌, ◌≤◌, Bool, true, false, List, [], ◌∷◌, ◌++◌, length, Some, refl, sym, ap, ◌∙◌, subst, arith, length-append}
use Rattle.std.specs.Prelude.{if◌then◌else◌, nat_eq, nat_lt, not}
use Rattle.std.proofs.lemmas.Bool.{false≢true}
use Rattle.std.proofs.lemmas.Bool.Decides.{nat_tests}
use Rattle.ax_words.specs.declared.mark.Op.{Op}
use Rattle.ax_words.specs.declared.order.Order.{Order}
use Rattle.ax_words.specs.declared.width.Width.{Width}
use Rattle.ax_tags.specs.declared.tags.Tag.{Tag}
use Rattle.ax_isa.specs.Processor.{Processor}
use Rattle.ax_isa.specs.Steps.{Kind, go_on, go_with, with_compared}
use Rattle.ax_isa.proofs.Functions.{at_other}
use Rattle.ax_mid.specs.declared.code.Line.{Line}
use Rattle.ax_mid.specs.declared.instruction.MidInst.{MidInst}
use Rattle.ax_mid.specs.declared.instruction.MidInst.TheVariants as inst
use Rattle.ax_mid.specs.declared.instruction.MidOp.{MidOp}
use Rattle.ax_mid.specs.declared.instruction.MidOp.TheVariants as mid
use Rattle.ax_mid.specs.declared.instruction.MidShift.{MidShift}
use Rattle.ax_mid.specs.Machine.{private_step}
use Rattle.ax_mid.specs.Numbers as middle
use Rattle.ax_mid.specs.Numbers.{applied, selected}
use Rattle.ax_mid.specs.Processor.{MidProcessor, gets}
use Rattle.ax_arm.specs.declared.instructions.Alu.{Alu as AluOp}
use Rattle.ax_arm.specs.declared.instructions.Alu.TheVariants as alu
use Rattle.ax_arm.specs.declared.instructions.Condition.{Condition}
use Rattle.ax_arm.specs.declared.instructions.Condition.TheVariants as condition
use Rattle.ax_arm.specs.declared.instructions.Shift.TheVariants as shift
use Rattle.ax_arm.specs.declared.instructions.ArmInstr.{ArmInstr}
use Rattle.ax_arm.specs.declared.instructions.ArmInstr.TheVariants.{Constant, Alu, Shift}
use Rattle.ax_arm.specs.Effects.{combined, effect_of, shifted}
use Rattle.ax_arm.specs.Instructions.{arm_kind}
use Rattle.ax_expand.specs.Doing.{read_regs}
use Rattle.ax_expand.specs.Private.{Private, went, Goes}
use Rattle.ax_expand.proofs.Straight.{goes_append}
use Rattle.ax_fine.specs.Fine.{Program, Spelled, is_label, private_at, room_of}
use Rattle.ax_emit.specs.Atomics.{AllOf, Distinct, firsts, gets_all, seconds}
use Rattle.ax_emit.specs.Laws.{AtomicLineFollows, BranchedLineFollows, ComputedLineFollows, EndedLineFollows, LabelLineFollows, LoadLineFollows, StoreLineFollows}
use Rattle.ax_emit.specs.Lines.{LineCode}
use Rattle.ax_emit.specs.Performs.{Computes, at_frame}
use Rattle.ax_emit.specs.Table.{Based}
use Rattle.ax_emit.specs.Touches.{is_private}
use Rattle.ax_emit.proofs.Moves.{got_all, got_fixed}
use Rattle.ax_emit_arm.specs.Code.{Expansion, computed, extend_code, extend_down, flag_code, inst_code, piece_of, op_code, select_code, shift_of}
use Rattle.ax_emit_arm.specs.Laws.{Low, ArmBased}
use Rattle.ax_emit_arm.specs.Slots.{arm_table, is_usable}
use Rattle.ax_emit_arm.proofs.Numbers.{choice_is, extend_is, flag_number, op_is, op_number, shift_is}
use Rattle.ax_emit_arm.proofs.Tables.{arm_slots}

-- the contracts of lines, as laws of emission
pub record Laws {R W : Type 0} (m : Program R W) : Type 0 where
  pub computed : ComputedLineFollows arm_kind m
  pub ended : EndedLineFollows arm_kind m
  pub branched : BranchedLineFollows arm_kind m
  pub atomic : AtomicLineFollows arm_kind m
  pub load : LoadLineFollows arm_kind m
  pub store : StoreLineFollows arm_kind m
  pub label : LabelLineFollows arm_kind m

usable_low : (t : ℕ) → is_usable t ≡ true → t < 30
usable_low t u = grind (arith, nat_tests, u)

pub based : {R W : Type 0} (m : Program R W) → ArmBased m → Based arm_kind m arm_table
based m h =
    record {
      does = arm_slots m.count;
      sound = h.sound;
      laws = h.laws;
      stack = h.stack;
      home = h.home;
      free = λ t u. h.free t (usable_low t u);
      via = h.free 29 (omega arith);
    }

-- registers from 30 on alone are fixed
pub fixed_high : {R W : Type 0} (m : Program R W) → ArmBased m → (q : ℕ) → m.fixed q ≡ true → 30 ≤ q
fixed_high m h q k = go (nat_lt q 30) refl
  where
    go : (t : Bool) → nat_lt q 30 ≡ t → 30 ≤ q
    go true e = let low : q < 30 = grind (arith, nat_tests, e) in absurd (false≢true (sym (h.free q low) ∙ k))
    go false e = grind (arith, nat_tests, e)

-- how long the code of slots is
pub gets_short : (zs : List (ℕ × ℕ)) → length (gets_all arm_table zs) ≡ 3 * length zs
gets_short [] = refl
gets_short (z ∷ zs) = (let c = gets_short zs in let q : suc (suc (suc (length (gets_all arm_table zs)))) ≡ 3 * suc (length zs) = omega (arith, c) in q)

-- a piece has its size wherever it stands
pub resized : {I R W : Type 0} (k : Kind I) (m : Program R W) (most size : ℕ) (piece : (ℕ → ℕ) → ℕ → List (I × Tag)) (line : Line R) → LineCode k m most size piece line → LineCode k m most (length (piece (λ j. 0) 0)) piece line
resized k m most size piece line h = subst (λ q. LineCode k m most q piece line) (sym (h.length_is (λ j. 0) 0)) h

-- after code on registers 0 to 3, which leaves its number in register 0 and touches no register that is fixed
pub record Made (room : ℕ → Bool) (is : List ArmInstr) (s : MidProcessor) (y : Private) (value : ℕ) : Type 0 where
  pub private : Private
  pub goes : Goes arm_kind room is y private
  pub frame : private.frame ≡ y.frame
  pub number : ((r : ℕ) → s.regs r < 2 ^ 64) → private.cpu.regs 0 ≡ value
  pub high : (q : ℕ) → 30 ≤ q → private.cpu.regs q ≡ y.cpu.regs q

-- a register gets a number
abbrev pub set_to : ℕ → ℕ → Private → Private
set_to r v y = record { cpu = go_with r v y.cpu; frame = y.frame }

-- two numbers are compared
abbrev pub compare : ℕ → ℕ → Private → Private
compare left right y = record { cpu = with_compared (left, right) (go_on y.cpu); frame = y.frame }

high_set : (v q : ℕ) (y : Private) → 30 ≤ q → (set_to 0 v y).cpu.regs q ≡ y.cpu.regs q
high_set v q y hi = at_other y.cpu.regs 0 v q (λ e. omega (arith, e, hi))

one : (room : ℕ → Bool) (i : ArmInstr) (v value : ℕ) (s : MidProcessor) (y : Private) → went room (effect_of i y.cpu) y ≡ Some (set_to 0 v y) → (((r : ℕ) → s.regs r < 2 ^ 64) → v ≡ value) → Made room (i ∷ []) s y value
one room i v value s y w e = record { private = set_to 0 v y; goes = (set_to 0 v y, w, refl); frame = refl; number = λ small. e small; high = λ q hi. high_set v q y hi }

made_alu : (room : ℕ → Bool) (o : AluOp) (value : ℕ) (s : MidProcessor) (y : Private) → (((r : ℕ) → s.regs r < 2 ^ 64) → combined o (y.cpu.regs 1) (y.cpu.regs 2) ≡ value) → Made room (Alu o 0 1 2 ∷ []) s y value
unfolding effect_of
made_alu room o value s y e = one room (Alu o 0 1 2) (combined o (y.cpu.regs 1) (y.cpu.regs 2)) value s y refl e

made_flag : (room : ℕ → Bool) (c : Condition) (value : ℕ) (s : MidProcessor) (y : Private) → (((r : ℕ) → s.regs r < 2 ^ 64) → flag_number c (y.cpu.regs 1) (y.cpu.regs 2) ≡ value) → Made room (flag_code c) s y value
unfolding effect_of
made_flag room c value s y e =
    let y1 = compare (y.cpu.regs 1) (y.cpu.regs 2) y in
    let y2 = set_to 0 (flag_number c (y.cpu.regs 1) (y.cpu.regs 2)) y1 in
    record { private = y2; goes = (y1, refl, (y2, refl, refl)); frame = refl; number = λ small. e small; high = λ q hi. high_set (flag_number c (y.cpu.regs 1) (y.cpu.regs 2)) q y1 hi }

made_op : (room : ℕ → Bool) (o : MidOp) (value : ℕ) (s : MidProcessor) (y : Private) → (((r : ℕ) → s.regs r < 2 ^ 64) → op_number o (y.cpu.regs 1) (y.cpu.regs 2) ≡ value) → Made room (op_code o) s y value
made_op room mid.Add value s y e = made_alu room alu.Add value s y e
made_op room mid.Sub value s y e = made_alu room alu.Sub value s y e
made_op room mid.Mul value s y e = made_alu room alu.Mul value s y e
made_op room mid.And value s y e = made_alu room alu.And value s y e
made_op room mid.Or value s y e = made_alu room alu.Orr value s y e
made_op room mid.Xor value s y e = made_alu room alu.Eor value s y e
made_op room mid.Eq value s y e = made_flag room condition.Eq value s y e
made_op room mid.Ne value s y e = made_flag room condition.Ne value s y e
made_op room mid.Ult value s y e = made_flag room condition.Lo value s y e
made_op room mid.Ule value s y e = made_flag room condition.Ls value s y e
made_op room mid.Slt value s y e = made_flag room condition.Lt value s y e
made_op room mid.Sle value s y e = made_flag room condition.Le value s y e

made_extend : (room : ℕ → Bool) (bits : ℕ) (signed : Bool) (value : ℕ) (s : MidProcessor) (y : Private) → (((r : ℕ) → s.regs r < 2 ^ 64) → shifted (extend_down signed) (shifted shift.Lsl (y.cpu.regs 0) ((64 - bits) % 64)) ((64 - bits) % 64) ≡ value) → Made room (extend_code bits signed) s y value
unfolding effect_of
made_extend room bits signed value s y e =
    let up = shifted shift.Lsl (y.cpu.regs 0) ((64 - bits) % 64) in
    let down = shifted (extend_down signed) up ((64 - bits) % 64) in
    let y1 = set_to 0 up y in
    let y2 = set_to 0 down y1 in
    record { private = y2; goes = (y1, refl, (y2, refl, refl)); frame = refl; number = λ small. e small; high = λ q hi. high_set down q y1 hi ∙ high_set up q y hi }

made_select : (room : ℕ → Bool) (value : ℕ) (s : MidProcessor) (y : Private) → (((r : ℕ) → s.regs r < 2 ^ 64) → selected (y.cpu.regs 3) (y.cpu.regs 1) (y.cpu.regs 2) ≡ value) → Made room select_code s y value
unfolding effect_of
made_select room value s y e =
    let chosen = if not (nat_eq (y.cpu.regs 3) 0) then y.cpu.regs 1 else y.cpu.regs 2 in
    let y1 = set_to 0 0 y in
    let y2 = compare (y.cpu.regs 3) 0 y1 in
    let y3 = set_to 0 chosen y2 in
    record { private = y3; goes = (y1, refl, (y2, refl, (y3, refl, refl))); frame = refl; number = λ small. choice_is (y.cpu.regs 3) (y.cpu.regs 1) (y.cpu.regs 2) ∙ e small; high = λ q hi. high_set chosen q y2 hi ∙ high_set 0 q y hi }

made_address : (room : ℕ → Bool) (d value : ℕ) (s : MidProcessor) (y : Private) → (((r : ℕ) → s.regs r < 2 ^ 64) → combined alu.Sub (y.cpu.regs 31) d ≡ value) → Made room (Constant 0 d ∷ Alu alu.Sub 0 31 0 ∷ []) s y value
unfolding effect_of
made_address room d value s y e =
    let y1 = set_to 0 d y in
    let y2 = set_to 0 (combined alu.Sub (y.cpu.regs 31) d) y1 in
    record { private = y2; goes = (y1, refl, (y2, refl, refl)); frame = refl; number = λ small. e small; high = λ q hi. high_set (combined alu.Sub (y.cpu.regs 31) d) q y1 hi ∙ high_set d q y hi }

made_number : (room : ℕ → Bool) (n : ℕ) (s : MidProcessor) (y : Private) → Made room (Constant 0 n ∷ []) s y n
unfolding effect_of
made_number room n s y = one room (Constant 0 n) n n s y refl (λ small. refl)

made_shift : (room : ℕ → Bool) (o : MidShift) (by value : ℕ) (s : MidProcessor) (y : Private) → (((r : ℕ) → s.regs r < 2 ^ 64) → shifted (shift_of o) (y.cpu.regs 0) (by % 64) ≡ value) → Made room (Shift (shift_of o) 0 0 by ∷ []) s y value
unfolding effect_of
made_shift room o by value s y e = one room (Shift (shift_of o) 0 0 by) (shifted (shift_of o) (y.cpu.regs 0) (by % 64)) value s y refl e

-- what the private steps of lines that compute are
const_does : {R W : Type 0} (m : Program R W) (to : R) (n p : ℕ) (s : MidProcessor) → private_at m p (inst.Const to n) s ≡ Some (gets (m.key to) n s)
unfolding private_step
const_does m to n p s = refl

copy_does : {R W : Type 0} (m : Program R W) (to from : R) (p : ℕ) (s : MidProcessor) → private_at m p (inst.Copy to from) s ≡ Some (gets (m.key to) (s.regs (m.key from)) s)
unfolding private_step
copy_does m to from p s = refl

apply_does : {R W : Type 0} (m : Program R W) (o : MidOp) (to left right : R) (p : ℕ) (s : MidProcessor) → private_at m p (inst.Apply o to left right) s ≡ Some (gets (m.key to) (applied o (s.regs (m.key left)) (s.regs (m.key right))) s)
unfolding private_step
apply_does m o to left right p s = refl

shift_does : {R W : Type 0} (m : Program R W) (o : MidShift) (to from : R) (by p : ℕ) (s : MidProcessor) → private_at m p (inst.Shift o to from by) s ≡ Some (gets (m.key to) (middle.shifted o (s.regs (m.key from)) by) s)
unfolding private_step
shift_does m o to from by p s = refl

extend_does : {R W : Type 0} (m : Program R W) (to from : R) (bits : ℕ) (signed : Bool) (p : ℕ) (s : MidProcessor) → private_at m p (inst.Extend to from bits signed) s ≡ Some (gets (m.key to) (middle.extended bits signed (s.regs (m.key from))) s)
unfolding private_step
extend_does m to from bits signed p s = refl

select_does : {R W : Type 0} (m : Program R W) (to test x y : R) (p : ℕ) (s : MidProcessor) → private_at m p (inst.Select to test x y) s ≡ Some (gets (m.key to) (selected (s.regs (m.key test)) (s.regs (m.key x)) (s.regs (m.key y))) s)
unfolding private_step
select_does m to test x y p s = refl

address_does : {R W : Type 0} (m : Program R W) (to : R) (offset p : ℕ) (s : MidProcessor) → private_at m p (inst.FrameAddress to offset) s ≡ Some (gets (m.key to) (m.base p + offset) s)
unfolding private_step
address_does m to offset p s = refl

op_short : (o : MidOp) → length (op_code o) ≤ 2
op_short mid.Add = omega arith
op_short mid.Sub = omega arith
op_short mid.Mul = omega arith
op_short mid.And = omega arith
op_short mid.Or = omega arith
op_short mid.Xor = omega arith
op_short mid.Eq = omega arith
op_short mid.Ne = omega arith
op_short mid.Ult = omega arith
op_short mid.Ule = omega arith
op_short mid.Slt = omega arith
op_short mid.Sle = omega arith

module _ {R W : Type 0} (m : Program R W) (h : ArmBased m) (law : Laws m) (most : ℕ) (enough : 16 ≤ most) (line : Line R) where
  -- what a processor finds once registers have the numbers of slots
  pub record Ready (zs : List (ℕ × ℕ)) (p : ℕ) (s : MidProcessor) (y : Private) : Type 0 where
    pub numbers : read_regs (firsts zs) y.cpu.regs ≡ read_regs (seconds zs) s.regs
    pub stack : y.cpu.regs 31 ≡ m.top p
    pub lives : m.lives p ≡ true

  -- A LINE THAT COMPUTES, from slots
  from_slots : (i : MidInst R) (to : R) (zs : List (ℕ × ℕ)) (ops : List ArmInstr) (value : ℕ → MidProcessor → ℕ) → line.inst ≡ i → is_label i ≡ false → is_private i ≡ true → Low m to → Distinct (firsts zs) → AllOf (λ t. is_usable t ≡ true) (firsts zs) → AllOf (λ r. r < m.count) (seconds zs) → 3 * length zs + length ops ≤ 14
      → ((p : ℕ) (s : MidProcessor) → private_at m p i s ≡ Some (gets (m.key to) (value p s) s)) → ((p : ℕ) (s : MidProcessor) (y : Private) → Ready zs p s y → Made (room_of m p) ops s y (value p s))
      → LineCode arm_kind m most (length (computed m.key to (gets_all arm_table zs ++ ops))) (λ places start. computed m.key to (gets_all arm_table zs ++ ops)) line
  from_slots i to zs ops value is no_label private low distinct usable few short does makes =
      resized arm_kind m most _ (λ places start. computed m.key to (gets_all arm_table zs ++ ops)) line
      (law.computed arm_table (based m h) line most (gets_all arm_table zs ++ ops) (m.key to) 0 (ap is_label is ∙ no_label) (ap is_private is ∙ private) low refl (let a = length-append (gets_all arm_table zs) ops in let b = gets_short zs in omega (arith, a, b, short, enough)) computes)
    where
      computes : (p : ℕ) (c : Processor) (f : ℕ → ℕ) (s : MidProcessor) → Spelled m p c f s → Computes arm_kind m p line.inst (m.key to) 0 (gets_all arm_table zs ++ ops) s (at_frame c f)
      computes p c f s spelt =
          let g = got_all arm_kind m arm_table (based m h) p zs s (at_frame c f) distinct usable few spelt in
          let fixed = got_fixed arm_kind m arm_table (based m h) p zs s (at_frame c f) g usable in
          let made = makes p s g.private (record { numbers = g.numbers; stack = fixed 31 h.stack ∙ spelt.fixed 31 h.stack ∙ h.home p; lives = spelt.lives }) in
          record {
            value = value p s;
            does = ap (λ j. private_at m p j s) is ∙ does p s;
            private = made.private;
            goes = goes_append arm_kind (room_of m p) (gets_all arm_table zs) ops (at_frame c f) g.private made.private g.goes made.goes;
            frame = made.frame ∙ g.frame;
            number = made.number;
            fixed = λ q k. made.high q (fixed_high m h q k) ∙ fixed q k;
          }

  module _ (expansions : Op → Width → Order → Bool → Expansion) where
    abbrev Follows : MidInst R → Type 0
    Follows i = LineCode arm_kind m most (length (inst_code m expansions i (λ j. 0) 0)) (λ places start. inst_code m expansions i places start) line

    pub const_line : (to : R) (n : ℕ) → line.inst ≡ inst.Const to n → Low m to → Follows (inst.Const to n)
    unfolding piece_of
    const_line to n is low = from_slots (inst.Const to n) to [] (Constant 0 n ∷ []) (λ p s. n) is refl refl low tt tt tt (omega arith) (const_does m to n) (λ p s y r. made_number (room_of m p) n s y)

    pub copy_line : (to from : R) → line.inst ≡ inst.Copy to from → Low m to → Low m from → Follows (inst.Copy to from)
    unfolding piece_of
    copy_line to from is low low_from =
        from_slots (inst.Copy to from) to ((0, m.key from) ∷ []) [] (λ p s. s.regs (m.key from)) is refl refl low (tt, tt) (refl, tt) (low_from, tt) (omega arith) (copy_does m to from)
        (λ p s y r. record { private = y; goes = refl; frame = refl; number = λ small. (let e = r.numbers in cc); high = λ q hi. refl })

    pub apply_line : (o : MidOp) (to left right : R) → line.inst ≡ inst.Apply o to left right → Low m to → Low m left → Low m right → Follows (inst.Apply o to left right)
    unfolding piece_of
    apply_line o to left right is low low_left low_right =
        from_slots (inst.Apply o to left right) to ((1, m.key left) ∷ (2, m.key right) ∷ []) (op_code o) (λ p s. applied o (s.regs (m.key left)) (s.regs (m.key right))) is refl refl low ((λ e. omega (arith, e), tt), (tt, tt)) (refl, (refl, tt)) (low_left, (low_right, tt)) (let e = op_short o in omega (arith, e)) (apply_does m o to left right)
        (λ p s y r. made_op (room_of m p) o (applied o (s.regs (m.key left)) (s.regs (m.key right))) s y (λ small. (
        let one : y.cpu.regs 1 ≡ s.regs (m.key left) = (let e = r.numbers in cc) in
        let two : y.cpu.regs 2 ≡ s.regs (m.key right) = (let e = r.numbers in cc) in
        ap (λ v. op_number o v (y.cpu.regs 2)) one ∙ ap (op_number o (s.regs (m.key left))) two ∙ op_is o (s.regs (m.key left)) (s.regs (m.key right)) (small (m.key left)) (small (m.key right)))))

    pub shift_line : (o : MidShift) (to from : R) (by : ℕ) → line.inst ≡ inst.Shift o to from by → Low m to → Low m from → by < 64 → Follows (inst.Shift o to from by)
    unfolding piece_of
    shift_line o to from by is low low_from below =
        from_slots (inst.Shift o to from by) to ((0, m.key from) ∷ []) (Shift (shift_of o) 0 0 by ∷ []) (λ p s. middle.shifted o (s.regs (m.key from)) by) is refl refl low (tt, tt) (refl, tt) (low_from, tt) (omega arith) (shift_does m o to from by)
        (λ p s y r. made_shift (room_of m p) o by (middle.shifted o (s.regs (m.key from)) by) s y (λ small. (
        let zero : y.cpu.regs 0 ≡ s.regs (m.key from) = (let e = r.numbers in cc) in
        ap (λ v. shifted (shift_of o) v (by % 64)) zero ∙ shift_is o (s.regs (m.key from)) by (small (m.key from)) below)))

    pub extend_line : (to from : R) (bits : ℕ) (signed : Bool) → line.inst ≡ inst.Extend to from bits signed → Low m to → Low m from → 1 ≤ bits → bits ≤ 64 → Follows (inst.Extend to from bits signed)
    unfolding piece_of
    extend_line to from bits signed is low low_from some_bits few_bits =
        from_slots (inst.Extend to from bits signed) to ((0, m.key from) ∷ []) (extend_code bits signed) (λ p s. middle.extended bits signed (s.regs (m.key from))) is refl refl low (tt, tt) (refl, tt) (low_from, tt) (omega arith) (extend_does m to from bits signed)
        (λ p s y r. made_extend (room_of m p) bits signed (middle.extended bits signed (s.regs (m.key from))) s y (λ small. (
        let zero : y.cpu.regs 0 ≡ s.regs (m.key from) = (let e = r.numbers in cc) in
        ap (λ v. shifted (extend_down signed) (shifted shift.Lsl v ((64 - bits) % 64)) ((64 - bits) % 64)) zero ∙ extend_is signed (s.regs (m.key from)) bits some_bits few_bits)))

    pub select_line : (to test a b : R) → line.inst ≡ inst.Select to test a b → Low m to → Low m test → Low m a → Low m b → Follows (inst.Select to test a b)
    unfolding piece_of
    select_line to test a b is low low_test low_a low_b =
        from_slots (inst.Select to test a b) to ((3, m.key test) ∷ (1, m.key a) ∷ (2, m.key b) ∷ []) select_code (λ p s. selected (s.regs (m.key test)) (s.regs (m.key a)) (s.regs (m.key b))) is refl refl low ((λ e. omega (arith, e), (λ e. omega (arith, e), tt)), ((λ e. omega (arith, e), tt), (tt, tt))) (refl, (refl, (refl, tt))) (low_test, (low_a, (low_b, tt))) (omega arith) (select_does m to test a b)
        (λ p s y r. made_select (room_of m p) (selected (s.regs (m.key test)) (s.regs (m.key a)) (s.regs (m.key b))) s y (λ small. (
        let three : y.cpu.regs 3 ≡ s.regs (m.key test) = (let e = r.numbers in cc) in
        let one : y.cpu.regs 1 ≡ s.regs (m.key a) = (let e = r.numbers in cc) in
        let two : y.cpu.regs 2 ≡ s.regs (m.key b) = (let e = r.numbers in cc) in
        ap (λ v. selected v (y.cpu.regs 1) (y.cpu.regs 2)) three ∙ ap (λ v. selected (s.regs (m.key test)) v (y.cpu.regs 2)) one ∙ ap (selected (s.regs (m.key test)) (s.regs (m.key a))) two)))

    pub address_line : (to : R) (offset : ℕ) → line.inst ≡ inst.FrameAddress to offset → Low m to → offset < m.depth → Follows (inst.FrameAddress to offset)
    unfolding piece_of
    address_line to offset is low below =
        from_slots (inst.FrameAddress to offset) to [] (Constant 0 (m.depth - offset) ∷ Alu alu.Sub 0 31 0 ∷ []) (λ p s. m.base p + offset) is refl refl low tt tt tt (omega arith) (address_does m to offset)
        (λ p s y r. made_address (room_of m p) (m.depth - offset) (m.base p + offset) s y (λ small. (
        let top = r.stack in
        let deep = h.sound.deep p in
        let wide = h.sound.wide p r.lives in
        let q : (y.cpu.regs 31 + (2 ^ 64 - (m.depth - offset))) % 2 ^ 64 ≡ m.base p + offset = omega (arith, top, deep, wide, below) in q)))
