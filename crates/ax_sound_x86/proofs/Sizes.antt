-- How long the code of an instruction is: at most 31 instructions for each unit of its weight, and at least one where a function can end with it.
use Rattle.std.proofs.Common.{◌≡◌, ℕ, ◌+◌, ◌*◌, ◌≤◌, Bool, true, List, [], ◌∷◌, ◌++◌, length, arith, length-append}
use Rattle.std.proofs.lemmas.Bool.{false≢true}
use Rattle.ax_words.specs.declared.mark.Op.{Op}
use Rattle.ax_words.specs.declared.order.Order.{Order}
use Rattle.ax_words.specs.declared.width.Width.{Width}
use Rattle.ax_target.specs.declared.target.Target.{Target}
use Rattle.ax_x86.specs.declared.instructions.X86Instr.{X86Instr}
use Rattle.ax_mid.specs.declared.instruction.MidInst.{MidInst}
use Rattle.ax_mid.specs.declared.instruction.MidInst.TheVariants as mid
use Rattle.ax_mid.specs.declared.instruction.MidOp.{MidOp}
use Rattle.ax_mid.specs.declared.instruction.MidOp.TheVariants as op
use Rattle.ax_mid.specs.declared.registers.Virtual.{Virtual}
use Rattle.ax_mid.specs.WellFormed.{is_last, weight}
use Rattle.ax_emit.specs.Atomics.{gets_all, puts_all}
use Rattle.ax_emit_x86.specs.Code.{Expansion, computed, homes_from, op_code, piece_of}
use Rattle.ax_emit_x86.specs.Slots.{put_last, x86_table}
use Rattle.ax_emit_x86.proofs.Atomics.{puts_short}
use Rattle.ax_emit_x86.proofs.Computing.{gets_short}
use Rattle.ax_selected.specs.Registers.{key}
use Rattle.ax_sound.specs.Fit.{IsFit, IsOperation}
use Rattle.ax_sound.proofs.Registers.{few_registers}
use Rattle.ax_sound.proofs.Shapes.{performed_size, wrapped_size}
use Rattle.ax_sound_x86.specs.Laws.{x86_coding}
use Rattle.ax_sound_x86.specs.Operations.{AreSoundExpansions}
use Rattle.ax_sound_x86.proofs.Slots.{homes_length}

-- ---- parts
op_three : (o : MidOp) → length (op_code o) ≤ 3
op_three op.Add = omega arith
op_three op.Sub = omega arith
op_three op.Mul = omega arith
op_three op.And = omega arith
op_three op.Or = omega arith
op_three op.Xor = omega arith
op_three _ = omega arith

computed_size : (to : Virtual) (zs : List (ℕ × ℕ)) (is : List X86Instr) → length (computed key to (gets_all x86_table zs ++ is)) ≡ length zs + length is + 1
computed_size to zs is =
    let a = performed_size (gets_all x86_table zs ++ is) (put_last (key to) 0) [] in
    let b = length-append (gets_all x86_table zs) is in
    let c = gets_short zs in
    omega (arith, a, b, c)

-- ---- instructions
module _ (target : Target) (depth frame_size : ℕ) (behind : ℕ → ℕ) (expansions : Op → Width → Order → Bool → Expansion) (sound : AreSoundExpansions target expansions) where
  abbrev size : MidInst Virtual → ℕ
  size i = length ((x86_coding depth frame_size behind expansions).piece i (λ j. 0) 0)

  atomic_size : (o : Op) (width : Width) (order : Order) (weak : Bool) (address : Virtual) (args results : List Virtual) → IsOperation target o width order args results → size (mid.Atomic o width order weak address args results) ≤ 31 * 8
  unfolding piece_of
  atomic_size o width order weak address args results words =
      let before : List (ℕ × ℕ) = (6, key address) ∷ homes_from key 0 args in
      let after = homes_from key 0 results in
      let a = wrapped_size (gets_all x86_table before) (expansions o width order weak).piece (puts_all x86_table after) 0 in
      let b = gets_short before in
      let c = puts_short after in
      let d = sound.steady o width order weak (0 + length (gets_all x86_table before)) in
      let e = sound.most o width order weak words.way in
      let f = homes_length 0 args in
      let g = homes_length 0 results in
      let registers = few_registers target o width order args results words in
      let taken = registers.0 in
      let given = registers.1 in
      omega (arith, a, b, c, d, e, f, g, taken, given)

  pub size_most : (i : MidInst Virtual) → IsFit target i → size i ≤ 31 * weight i
  unfolding piece_of weight
  size_most (mid.Const to n) fit = omega arith
  size_most (mid.Copy to from) fit = omega arith
  size_most (mid.Apply o to left right) fit = let a = computed_size to ((0, key left) ∷ (2, key right) ∷ []) (op_code o) in let b = op_three o in omega (arith, a, b)
  size_most (mid.Shift o to from by) fit = omega arith
  size_most (mid.Extend to from bits signed) fit = omega arith
  size_most (mid.Select to test x y) fit = omega arith
  size_most (mid.FrameAddress to offset) fit = omega arith
  size_most (mid.Load to address n) fit = omega arith
  size_most (mid.Store address from n) fit = omega arith
  size_most (mid.Label n) fit = omega arith
  size_most (mid.Jump n) fit = omega arith
  size_most (mid.Branch test a b) fit = omega arith
  size_most (mid.Atomic o width order weak address args results) fit = atomic_size o width order weak address args results fit.numbers
  size_most (mid.Out from) fit = omega arith
  size_most mid.Trap fit = omega arith
  size_most mid.Ret fit = omega arith
  size_most mid.Nop fit = omega arith
  size_most (mid.Call routine role args results) fit = omega arith

  pub size_least : (i : MidInst Virtual) → is_last i ≡ true → 1 ≤ size i
  unfolding piece_of is_last
  size_least (mid.Jump n) h = omega arith
  size_least (mid.Branch test a b) h = omega arith
  size_least mid.Trap h = omega arith
  size_least mid.Ret h = omega arith
  size_least _ h = absurd (false≢true h)
