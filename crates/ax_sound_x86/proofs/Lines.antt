-- The code of each instruction is good where it stands, and so x86-64's pieces are sound.
use Rattle.std.proofs.Common.{ℕ, ◌+◌, ◌-◌, ◌<◌, ◌≤◌, pos, Bool, List, [], ◌∷◌, ◌++◌, length, refl, arith}
use Rattle.ax_words.specs.declared.mark.Op.{Op}
use Rattle.ax_words.specs.declared.order.Order.{Order}
use Rattle.ax_words.specs.declared.width.Width.{Width}
use Rattle.ax_tags.specs.declared.tags.Tag.{Tag}
use Rattle.ax_tags.specs.declared.tags.Tag.TheVariants.{Act}
use Rattle.ax_target.specs.declared.target.Target.{Target}
use Rattle.ax_x86.specs.declared.instructions.Alu.TheVariants as alu
use Rattle.ax_x86.specs.declared.instructions.Condition.{Condition}
use Rattle.ax_x86.specs.declared.instructions.Condition.TheVariants as condition
use Rattle.ax_x86.specs.declared.instructions.X86Instr.{X86Instr}
use Rattle.ax_x86.specs.declared.instructions.X86Instr.TheVariants.{Alu, Movabs, Nop, Ret, Shift, Syscall, Ud2}
use Rattle.ax_x86.specs.Instructions.{IsInstr, IsOperand}
use Rattle.ax_mid.specs.declared.instruction.MidInst.{MidInst}
use Rattle.ax_mid.specs.declared.instruction.MidInst.TheVariants as mid
use Rattle.ax_mid.specs.declared.instruction.MidOp.{MidOp}
use Rattle.ax_mid.specs.declared.instruction.MidOp.TheVariants as op
use Rattle.ax_mid.specs.declared.registers.Virtual.{Virtual}
use Rattle.ax_mid.specs.WellFormed.{is_last, labels_named, registers_of}
use Rattle.ax_expand.specs.Standing.{wrap}
use Rattle.ax_emit.specs.Atomics.{gets_all, puts_all}
use Rattle.ax_emit.specs.Lines.{access_code}
use Rattle.ax_emit_x86.specs.Code.{Expansion, at_address, computed, extend_code, flag_code, get_one, homes_from, jump_to, load_in, op_code, piece_of, select_code, shift_of, store_in, test_code, turn}
use Rattle.ax_emit_x86.specs.Emitters.{LineCodeIsSteady}
use Rattle.ax_emit_x86.specs.Slots.{down, put_last, x86_table}
use Rattle.ax_typed.proofs.Places.{here, there}
use Rattle.ax_selected.specs.Registers.{key}
use Rattle.ax_selected.proofs.Small.{AreLow}
use Rattle.ax_sound.specs.Fit.{IsFit, IsOperation, StandsInside}
use Rattle.ax_sound.proofs.Places.{forward}
use Rattle.ax_sound.proofs.Registers.{each_low, low_parts}
use Rattle.ax_sound.proofs.Shapes.{AllPairs, branch_good, branch_size, performed_straight, wrapped_good, wrapped_size}
use Rattle.ax_sound.proofs.Straight.{AllGo, go_both, straight_good}
use Rattle.ax_sound_x86.specs.Laws.{X86PiecesAreSound, x86_coding}
use Rattle.ax_sound_x86.specs.Operations.{AreSoundExpansions}
use Rattle.ax_sound_x86.proofs.Instructions.{AreGood, GoesOn, fits_forward, jump_good, turn_good, x86}
use Rattle.ax_sound_x86.proofs.Sizes.{size_least, size_most}
use Rattle.ax_sound_x86.proofs.Slots.{HasSlot, gets_go, homes_are, last_goes, puts_go}

-- ---- parts
flag_goes : (c : Condition) → AllGo x86 (flag_code c)
unfolding IsInstr
flag_goes c = ((omega arith, omega arith), (omega arith, ((omega arith, omega arith), tt)))

op_goes : (o : MidOp) → AllGo x86 (op_code o)
unfolding IsInstr
op_goes op.Add = ((omega arith, omega arith), tt)
op_goes op.Sub = ((omega arith, omega arith), tt)
op_goes op.Mul = ((omega arith, omega arith), tt)
op_goes op.And = ((omega arith, omega arith), tt)
op_goes op.Or = ((omega arith, omega arith), tt)
op_goes op.Xor = ((omega arith, omega arith), tt)
op_goes op.Eq = flag_goes condition.Equal
op_goes op.Ne = flag_goes condition.NotEqual
op_goes op.Ult = flag_goes condition.Below
op_goes op.Ule = flag_goes condition.BelowOrEqual
op_goes op.Slt = flag_goes condition.Less
op_goes op.Sle = flag_goes condition.LessOrEqual

extend_goes : (bits : ℕ) (signed : Bool) → 1 ≤ bits → AllGo x86 (extend_code bits signed)
unfolding IsInstr
extend_goes bits signed some = ((omega (arith, some), omega arith), ((omega (arith, some), omega arith), tt))

select_goes : AllGo x86 select_code
unfolding IsInstr
select_goes = ((omega arith, omega arith), ((omega arith, omega arith), ((omega arith, omega arith), tt)))

test_goes : AllGo x86 test_code
unfolding IsInstr
test_goes = ((omega arith, omega arith), ((omega arith, omega arith), tt))

address_is : IsOperand at_address
address_is = (fits_forward 0 (omega arith), omega arith)

module _ (n start : ℕ) where
  computed_good : (to : Virtual) (zs : List (ℕ × ℕ)) (is : List X86Instr) → key to < 8208 → AllPairs HasSlot zs → AllGo x86 is → AreGood n start (computed key to (gets_all x86_table zs ++ is))
  computed_good to zs is low h g =
      let code = gets_all x86_table zs ++ is in
      straight_good x86 n start (computed key to code) (performed_straight x86 code (put_last (key to) 0) [] (go_both x86 (gets_all x86_table zs) is (gets_go zs h) g) (last_goes (key to) 0 (omega arith) low) tt)

  access_good : (zs ys : List (ℕ × ℕ)) (acts : X86Instr) → AllPairs HasSlot zs → AllPairs HasSlot ys → GoesOn acts → AreGood n start (wrap (gets_all x86_table zs) (access_code acts []) (puts_all x86_table ys) start)
  access_good zs ys acts h g goes =
      let at = start + length (gets_all x86_table zs) in
      wrapped_good x86 n start (gets_all x86_table zs) (access_code acts []) (puts_all x86_table ys) (gets_go zs h) (puts_go ys g) (straight_good x86 n at (access_code acts [] at) (goes, tt, tt))

module _ (target : Target) (depth frame_size : ℕ) (behind : ℕ → ℕ) (expansions : Op → Width → Order → Bool → Expansion) (deep : 32768 < depth) (sound : AreSoundExpansions target expansions) (places : ℕ → ℕ) (n : ℕ) where
  abbrev code : MidInst Virtual → ℕ → List (X86Instr × Tag)
  code i start = (x86_coding depth frame_size behind expansions).piece i places start

  abbrev Stands : MidInst Virtual → ℕ → Type 0
  Stands i start = StandsInside behind places n start (length (code i start)) i

  branch_line : (test : Virtual) (a b start : ℕ) → key test < 8208 → Stands (mid.Branch test a b) start → AreGood n start (code (mid.Branch test a b) start)
  unfolding piece_of labels_named
  branch_line test a b start low at =
      let is = get_one key 0 test ++ test_code in
      let long = branch_size is turn jump_to (places (behind a)) (places (behind b)) start in
      let last = at.last in
      let le : start + length is + 2 ≤ n = omega (arith, long, last) in
      branch_good x86 n start is turn jump_to (places (behind a)) (places (behind b)) (go_both x86 (get_one key 0 test) test_code (gets_go ((0, key test) ∷ []) ((omega arith, low), tt)) test_goes) le
      (turn_good n (start + length is) condition.NotEqual (pos 2) (fits_forward 2 (omega arith)) (forward n (start + length is) 2 at.short (omega arith) le) (omega (arith, le)))
      (jump_good n (start + length is + 1) (places (behind b)) at.short (omega (arith, le)) (at.labels b (there a b (b ∷ []) (here b []))))
      (jump_good n (start + length is + 2) (places (behind a)) at.short le (at.labels a (here a (b ∷ []))))

  -- behind an operation there is code: no function ends with it
  atomic_line : (o : Op) (width : Width) (order : Order) (weak : Bool) (address : Virtual) (args results : List Virtual) (start : ℕ) → IsOperation target o width order args results → AreLow (address ∷ (args ++ results))
      → (let i = mid.Atomic o width order weak address args results in Stands i start → AreGood n start (code i start))
  unfolding piece_of is_last
  atomic_line o width order weak address args results start words low at =
      let before : List (ℕ × ℕ) = (6, key address) ∷ homes_from key 0 args in
      let after = homes_from key 0 results in
      let is = gets_all x86_table before in
      let js = puts_all x86_table after in
      let piece = (expansions o width order weak).piece in
      let long = wrapped_size is piece js start in
      let more = at.more refl in
      let some = at.first in
      let parts = low_parts args results low.1 in
      wrapped_good x86 n start is piece js (gets_go before ((omega arith, low.0), homes_are 0 args parts.0)) (puts_go after (homes_are 0 results parts.1))
      (sound.good o width order weak n (start + length is) words.way at.short (omega (arith, some)) (omega (arith, long, more)))

  by_registers : (i : MidInst Virtual) (start : ℕ) → IsFit target i → AreLow (registers_of i) → Stands i start → AreGood n start (code i start)
  unfolding piece_of labels_named registers_of IsInstr
  by_registers (mid.Const to m) start fit low at = computed_good n start to [] (Movabs m 0 ∷ []) low.0 tt ((fit.numbers, omega arith), tt)
  by_registers (mid.Copy to from) start fit low at = computed_good n start to ((0, key from) ∷ []) [] low.0 ((omega arith, low.1.0), tt) tt
  by_registers (mid.Apply o to left right) start fit low at = computed_good n start to ((0, key left) ∷ (2, key right) ∷ []) (op_code o) low.0 ((omega arith, low.1.0), ((omega arith, low.1.1.0), tt)) (op_goes o)
  by_registers (mid.Shift o to from by) start fit low at = let less = fit.numbers in computed_good n start to ((0, key from) ∷ []) (Shift (shift_of o) by 0 ∷ []) low.0 ((omega arith, low.1.0), tt) ((omega (arith, less), omega arith), tt)
  by_registers (mid.Extend to from bits signed) start fit low at = computed_good n start to ((0, key from) ∷ []) (extend_code bits signed) low.0 ((omega arith, low.1.0), tt) (extend_goes bits signed fit.numbers.0)
  by_registers (mid.Select to test x y) start fit low at =
      computed_good n start to ((1, key test) ∷ (2, key x) ∷ (0, key y) ∷ []) select_code low.0 ((omega arith, low.1.0), ((omega arith, low.1.1.0), ((omega arith, low.1.1.1.0), tt))) select_goes
  by_registers (mid.FrameAddress to offset) start fit low at =
      let below = fit.numbers in
      computed_good n start to [] (Movabs (down (depth - offset)) 0 ∷ Alu alu.Add 4 0 ∷ []) low.0 tt ((omega (arith, below, deep), omega arith), ((omega arith, omega arith), tt))
  by_registers (mid.Load to address m) start fit low at = access_good n start ((6, key address) ∷ []) ((0, key to) ∷ []) (load_in m) ((omega arith, low.1.0), tt) ((omega arith, low.0), tt) (address_is, omega arith)
  by_registers (mid.Store address from m) start fit low at = access_good n start ((6, key address) ∷ (0, key from) ∷ []) [] (store_in m) ((omega arith, low.0), ((omega arith, low.1.0), tt)) tt (omega arith, address_is)
  by_registers (mid.Label m) start fit low at = tt
  by_registers (mid.Jump m) start fit low at = let last = at.last in (jump_good n start (places (behind m)) at.short (omega (arith, last)) (at.labels m (here m [])), tt, tt)
  by_registers (mid.Branch test a b) start fit low at = branch_line test a b start low.0 at
  by_registers (mid.Atomic o width order weak address args results) start fit low at = atomic_line o width order weak address args results start fit.numbers low at
  by_registers (mid.Out from) start fit low at = straight_good x86 n start (code (mid.Out from) start) (performed_straight x86 (get_one key 7 from) Syscall [] (gets_go ((7, key from) ∷ []) ((omega arith, low.0), tt)) tt tt)
  by_registers mid.Trap start fit low at = straight_good x86 n start ((Ud2, Act) ∷ []) (tt, tt, tt)
  by_registers mid.Ret start fit low at = straight_good x86 n start ((Ret, Act) ∷ []) (tt, tt, tt)
  by_registers mid.Nop start fit low at = straight_good x86 n start ((Nop, Act) ∷ []) (tt, tt, tt)
  by_registers (mid.Call routine role args results) start fit low at = tt

  pub line_good : (i : MidInst Virtual) (start : ℕ) → IsFit target i → Stands i start → AreGood n start (code i start)
  line_good i start fit at = by_registers i start fit (each_low (registers_of i) fit.registers) at

pub pieces_are_sound : LineCodeIsSteady Virtual → X86PiecesAreSound
pieces_are_sound lines target depth frame_size behind expansions deep frame sound =
    record {
      steady = lines key depth behind expansions sound.steady;
      most = size_most target depth frame_size behind expansions sound;
      least = size_least target depth frame_size behind expansions sound;
      good = λ i places size start fit at. line_good target depth frame_size behind expansions deep sound places size i start fit at;
      frame = frame;
    }
