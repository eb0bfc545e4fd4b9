-- EACH LINE'S CODE HAS ITS CONTRACT, and so the image follows.
use Rattle.std.proofs.Common.{◌≡◌, ℕ, ◌≤◌, Bool, length, refl, ap}
use Rattle.ax_words.specs.declared.mark.Op.{Op}
use Rattle.ax_words.specs.declared.order.Order.{Order}
use Rattle.ax_words.specs.declared.width.Width.{Width}
use Rattle.ax_mid.specs.declared.code.Line.{Line}
use Rattle.ax_mid.specs.declared.instruction.MidInst.{MidInst}
use Rattle.ax_mid.specs.declared.instruction.MidInst.TheVariants as inst
use Rattle.ax_arm.specs.Instructions.{arm_kind}
use Rattle.ax_fine.specs.Fine.{Program, is_label}
use Rattle.ax_emit.specs.Laws.{EmittedCodeFollows}
use Rattle.ax_emit.specs.Lines.{LineCode}
use Rattle.ax_emit_arm.specs.Code.{Expansion, code_of, inst_code, piece_of, size_of}
use Rattle.ax_emit_arm.specs.Laws.{IsReady, ArmBased, ArmCodeFollows, ArmLineFollows}
use Rattle.ax_emit_arm.proofs.Computing.{Laws, address_line, apply_line, const_line, copy_line, extend_line, select_line, shift_line}
use Rattle.ax_emit_arm.proofs.Atomics.{atomic_line}
use Rattle.ax_emit_arm.proofs.Ends.{branch_line, jump_line, nop_line, out_line, ret_line, trap_line}
use Rattle.ax_emit_arm.proofs.Frames.{load_line, store_line}

module _ {R W : Type 0} (m : Program R W) (law : Laws m) where
  module _ (h : ArmBased m) (expansions : Op → Width → Order → Bool → Expansion) (most : ℕ) (enough : 16 ≤ most) (line : Line R) where
    abbrev Follows : MidInst R → Type 0
    Follows i = LineCode arm_kind m most (length (inst_code m expansions i (λ j. 0) 0)) (λ places start. inst_code m expansions i places start) line

    labels : (n : ℕ) → line.inst ≡ inst.Label n → Follows (inst.Label n)
    unfolding piece_of
    labels n is = law.label most line (ap is_label is)

    by_inst : (i : MidInst R) → line.inst ≡ i → IsReady m expansions most i → Follows i
    by_inst (inst.Const to n) is r = const_line m h law most enough line expansions to n is r
    by_inst (inst.Copy to from) is r = copy_line m h law most enough line expansions to from is r.0 r.1
    by_inst (inst.Apply o to left right) is r = apply_line m h law most enough line expansions o to left right is r.0 r.1 r.2
    by_inst (inst.Shift o to from by) is r = shift_line m h law most enough line expansions o to from by is r.0 r.1 r.2
    by_inst (inst.Extend to from bits signed) is r = extend_line m h law most enough line expansions to from bits signed is r.0 r.1 r.2 r.3
    by_inst (inst.Select to test x y) is r = select_line m h law most enough line expansions to test x y is r.0 r.1 r.2 r.3
    by_inst (inst.Label n) is r = labels n is
    by_inst (inst.Jump n) is r = jump_line m h law most enough line expansions n is
    by_inst (inst.Branch test a b) is r = branch_line m h law most enough line expansions test a b is r
    by_inst (inst.FrameAddress to offset) is r = address_line m h law most enough line expansions to offset is r.0 r.1
    by_inst (inst.Load to address n) is r = load_line m h law most enough line expansions to address n is r.0 r.1 r.2 r.3
    by_inst (inst.Store address from n) is r = store_line m h law most enough line expansions address from n is r.0 r.1 r.2 r.3
    by_inst (inst.Atomic o width order weak address args results) is r = atomic_line m h law most line expansions o width order weak address args results is r.0 r.1 r.2 r.3
    by_inst (inst.Call routine role args results) is r = absurd r
    by_inst (inst.Out from) is r = out_line m h law most enough line expansions from is r
    by_inst inst.Trap is r = trap_line m h law most enough line expansions is
    by_inst inst.Ret is r = ret_line m h law most enough line expansions is
    by_inst inst.Nop is r = nop_line m h law most enough line expansions is

  pub line_follows : ArmLineFollows m
  line_follows h expansions most enough line ready = by_inst h expansions most enough line line.inst refl ready

pub code_follows : {R W : Type 0} (m : Program R W) → ArmLineFollows m → EmittedCodeFollows arm_kind m → ArmCodeFollows m
code_follows m line emitted h expansions most enough ready lib words counts public few = emitted (size_of m expansions) (code_of m expansions) most (λ j l e. line h expansions most enough l (ready j l e)) lib words counts public few
