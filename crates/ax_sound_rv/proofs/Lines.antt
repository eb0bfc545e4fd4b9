-- The code of each instruction is good where it stands.
use Rattle.std.proofs.Common.{ℕ, ◌+◌, ◌-◌, ◌≤◌, pos, Bool, true, false, List, [], ◌∷◌, ◌++◌, length, refl, arith}
use Rattle.std.specs.Prelude.{if◌then◌else◌, nat_eq}
use Rattle.ax_words.specs.declared.mark.Op.{Op}
use Rattle.ax_words.specs.declared.order.Order.{Order}
use Rattle.ax_words.specs.declared.width.Width.{Width}
use Rattle.ax_tags.specs.declared.tags.Tag.{Tag}
use Rattle.ax_tags.specs.declared.tags.Tag.TheVariants.{Act}
use Rattle.ax_target.specs.declared.target.Target.{Target}
use Rattle.ax_rv.specs.declared.instructions.Binary.TheVariants as binary
use Rattle.ax_rv.specs.declared.instructions.Condition.TheVariants as condition
use Rattle.ax_rv.specs.declared.instructions.RvInstr.{RvInstr}
use Rattle.ax_rv.specs.declared.instructions.RvInstr.TheVariants.{Binary, Branch, Ebreak, Ecall, Li, Nop, Ret, Shift}
use Rattle.ax_mid.specs.declared.instruction.MidInst.{MidInst}
use Rattle.ax_mid.specs.declared.instruction.MidInst.TheVariants as mid
use Rattle.ax_mid.specs.declared.instruction.MidOp.{MidOp}
use Rattle.ax_mid.specs.declared.instruction.MidOp.TheVariants as op
use Rattle.ax_mid.specs.declared.registers.Virtual.{Virtual}
use Rattle.ax_mid.specs.WellFormed.{is_last, labels_named}
use Rattle.ax_expand.specs.Standing.{wrap}
use Rattle.ax_emit.specs.Atomics.{gets_all, puts_all}
use Rattle.ax_emit.specs.Lines.{access_code}
use Rattle.ax_emit_rv.specs.Code.{cleared, computed, extend_code, first_argument, first_result, get_one, homes_from, jump_to, load_in, op_code, piece_of, select_code, shift_of, store_in}
use Rattle.ax_emit_rv.specs.Slots.{down, put_first, put_last, rv_table}
use Rattle.ax_image_rv.specs.Image.{frame_depth}
use Rattle.ax_typed.proofs.Places.{here, there}
use Rattle.ax_direct_rv.specs.Direct.{direct_expansions}
use Rattle.ax_selected.specs.Registers.{key}
use Rattle.ax_sound.specs.Fit.{IsFit, IsOperation, StandsInside}
use Rattle.ax_sound.proofs.Places.{forward}
use Rattle.ax_sound.proofs.Shapes.{AllPairs, branch_good, branch_size, performed_straight, wrapped_good, wrapped_size}
use Rattle.ax_sound.proofs.Straight.{AllGo, go_both, straight_good, straight_silently}
use Rattle.ax_sound.proofs.Registers.{few_registers}
use Rattle.ax_sound_rv.proofs.Instructions.{AreGood, GoesOn, HasRegister, first_goes, gets_go, homes_are, jump_good, last_goes, puts_go, rv, turn_good}
use Rattle.ax_sound_rv.proofs.Loops.{direct_good}
use Rattle.ax_sound_rv.proofs.Sizes.{direct_coding}

-- ---- parts
op_goes : (o : MidOp) → AllGo rv (op_code o)
op_goes op.Add = ((omega arith, omega arith, omega arith), tt)
op_goes op.Sub = ((omega arith, omega arith, omega arith), tt)
op_goes op.Mul = ((omega arith, omega arith, omega arith), tt)
op_goes op.And = ((omega arith, omega arith, omega arith), tt)
op_goes op.Or = ((omega arith, omega arith, omega arith), tt)
op_goes op.Xor = ((omega arith, omega arith, omega arith), tt)
op_goes op.Eq = ((omega arith, omega arith, omega arith), ((omega arith, omega arith), tt))
op_goes op.Ne = ((omega arith, omega arith, omega arith), ((omega arith, omega arith), tt))
op_goes op.Ult = ((omega arith, omega arith, omega arith), tt)
op_goes op.Ule = ((omega arith, omega arith, omega arith), ((omega arith, omega arith), tt))
op_goes op.Slt = ((omega arith, omega arith, omega arith), tt)
op_goes op.Sle = ((omega arith, omega arith, omega arith), ((omega arith, omega arith), tt))

extend_goes : (bits : ℕ) (signed : Bool) → 1 ≤ bits → AllGo rv (extend_code bits signed)
extend_goes bits signed some = ((omega arith, omega arith, omega (arith, some)), ((omega arith, omega arith, omega (arith, some)), tt))

select_goes : AllGo rv select_code
select_goes = ((omega arith, omega arith), ((omega arith, omega arith), ((omega arith, omega arith, omega arith), ((omega arith, omega arith, omega arith), ((omega arith, omega arith, omega arith), tt)))))

cleared_goes : (n : ℕ) → AllGo rv (cleared n)
cleared_goes n = by (nat_eq n 4)
  where
    by : (b : Bool) → AllGo rv (if b then extend_code 32 false else [])
    by true = extend_goes 32 false (omega arith)
    by false = tt

module _ (n start : ℕ) where
  computed_good : (to : Virtual) (zs : List (ℕ × ℕ)) (is : List RvInstr) → AllPairs HasRegister zs → AllGo rv is → AreGood n start (computed key to (gets_all rv_table zs ++ is))
  computed_good to zs is h g =
      let code = gets_all rv_table zs ++ is in
      straight_good rv n start (computed key to code)
      (performed_straight rv (code ++ put_first (key to) 7) (put_last (key to) 7) [] (go_both rv code (put_first (key to) 7) (go_both rv (gets_all rv_table zs) is (gets_go zs h) g) (first_goes (key to) 7 (omega arith))) (last_goes (key to) 7 (omega arith)) tt)

  access_good : (zs ys : List (ℕ × ℕ)) (acts : RvInstr) (clears : List RvInstr) → AllPairs HasRegister zs → AllPairs HasRegister ys → GoesOn acts → AllGo rv clears → AreGood n start (wrap (gets_all rv_table zs) (access_code acts clears) (puts_all rv_table ys) start)
  access_good zs ys acts clears h g here cleared =
      let at = start + length (gets_all rv_table zs) in
      wrapped_good rv n start (gets_all rv_table zs) (access_code acts clears) (puts_all rv_table ys) (gets_go zs h) (puts_go ys g) (straight_good rv n at (access_code acts clears at) (here, tt, straight_silently rv clears cleared))

module _ (target : Target) (behind places : ℕ → ℕ) (n : ℕ) where
  abbrev code : MidInst Virtual → ℕ → List (RvInstr × Tag)
  code i start = (direct_coding target behind).piece i places start

  abbrev Stands : MidInst Virtual → ℕ → Type 0
  Stands i start = StandsInside behind places n start (length (code i start)) i

  branch_line : (test : Virtual) (a b start : ℕ) → Stands (mid.Branch test a b) start → AreGood n start (code (mid.Branch test a b) start)
  unfolding piece_of labels_named
  branch_line test a b start at =
      let is = get_one key 5 test in
      let turn = Branch condition.NotEqual 5 0 (pos 2) in
      let long = branch_size is turn jump_to (places (behind a)) (places (behind b)) start in
      let last = at.last in
      let le : start + length is + 2 ≤ n = omega (arith, long, last) in
      branch_good rv n start is turn jump_to (places (behind a)) (places (behind b)) (gets_go ((5, key test) ∷ []) (omega arith, tt)) le
      (turn_good n (start + length is) condition.NotEqual 5 0 (pos 2) (omega arith, omega arith, omega arith) (forward n (start + length is) 2 at.short (omega arith) le))
      (jump_good n (start + length is + 1) (places (behind b)) at.short (omega (arith, le)) (at.labels b (there a b (b ∷ []) (here b []))))
      (jump_good n (start + length is + 2) (places (behind a)) at.short le (at.labels a (here a (b ∷ []))))

  -- behind an operation there is code: no function ends with it
  atomic_line : (o : Op) (width : Width) (order : Order) (weak : Bool) (address : Virtual) (args results : List Virtual) (start : ℕ) → IsOperation target o width order args results
      → (let i = mid.Atomic o width order weak address args results in Stands i start → AreGood n start (code i start))
  unfolding piece_of is_last
  atomic_line o width order weak address args results start words at =
      let before : List (ℕ × ℕ) = (10, key address) ∷ homes_from key first_argument args in
      let after = homes_from key first_result results in
      let is = gets_all rv_table before in
      let js = puts_all rv_table after in
      let piece = (direct_expansions target o width order weak).piece in
      let long = wrapped_size is piece js start in
      let more = at.more refl in
      let some = at.first in
      let registers = few_registers target o width order args results words in
      let taken = registers.0 in
      let given = registers.1 in
      wrapped_good rv n start is piece js (gets_go before (omega arith, homes_are key first_argument args (omega (arith, taken)))) (puts_go after (homes_are key first_result results (omega (arith, given))))
      (direct_good target width order weak n at.short (start + length is) (omega (arith, some)) o (omega (arith, long, more)))

  pub line_good : (i : MidInst Virtual) (start : ℕ) → IsFit target i → Stands i start → AreGood n start (code i start)
  unfolding piece_of labels_named
  line_good (mid.Const to m) start fit at = computed_good n start to [] (Li 7 m ∷ []) tt ((omega arith, fit.numbers), tt)
  line_good (mid.Copy to from) start fit at = computed_good n start to ((7, key from) ∷ []) [] (omega arith, tt) tt
  line_good (mid.Apply o to left right) start fit at = computed_good n start to ((5, key left) ∷ (6, key right) ∷ []) (op_code o) (omega arith, (omega arith, tt)) (op_goes o)
  line_good (mid.Shift o to from by) start fit at = computed_good n start to ((7, key from) ∷ []) (Shift (shift_of o) 7 7 by ∷ []) (omega arith, tt) ((omega arith, omega arith, fit.numbers), tt)
  line_good (mid.Extend to from bits signed) start fit at = computed_good n start to ((7, key from) ∷ []) (extend_code bits signed) (omega arith, tt) (extend_goes bits signed fit.numbers.0)
  line_good (mid.Select to test x y) start fit at = computed_good n start to ((5, key test) ∷ (6, key x) ∷ (7, key y) ∷ []) select_code (omega arith, (omega arith, (omega arith, tt))) select_goes
  line_good (mid.FrameAddress to offset) start fit at =
      let below = fit.numbers in
      computed_good n start to [] (Li 7 (down (frame_depth - offset)) ∷ Binary binary.Add 7 2 7 ∷ []) tt ((omega arith, omega (arith, below)), ((omega arith, omega arith, omega arith), tt))
  line_good (mid.Load to address m) start fit at = access_good n start ((5, key address) ∷ []) ((7, key to) ∷ []) (load_in m) (cleared m) (omega arith, tt) (omega arith, tt) (omega arith, omega arith, omega arith) (cleared_goes m)
  line_good (mid.Store address from m) start fit at = access_good n start ((5, key address) ∷ (6, key from) ∷ []) [] (store_in m) [] (omega arith, (omega arith, tt)) tt (omega arith, omega arith, omega arith) tt
  line_good (mid.Label m) start fit at = tt
  line_good (mid.Jump m) start fit at = let last = at.last in (jump_good n start (places (behind m)) at.short (omega (arith, last)) (at.labels m (here m [])), tt, tt)
  line_good (mid.Branch test a b) start fit at = branch_line test a b start at
  line_good (mid.Atomic o width order weak address args results) start fit at = atomic_line o width order weak address args results start fit.numbers at
  line_good (mid.Out from) start fit at = straight_good rv n start (code (mid.Out from) start) (performed_straight rv (get_one key 10 from) Ecall [] (gets_go ((10, key from) ∷ []) (omega arith, tt)) tt tt)
  line_good mid.Trap start fit at = straight_good rv n start ((Ebreak, Act) ∷ []) (tt, tt, tt)
  line_good mid.Ret start fit at = straight_good rv n start ((Ret, Act) ∷ []) (tt, tt, tt)
  line_good mid.Nop start fit at = straight_good rv n start ((Nop, Act) ∷ []) (tt, tt, tt)
  line_good (mid.Call routine role args results) start fit at = tt
