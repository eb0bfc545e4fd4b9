use Rattle.std.proofs.Common.{◌<◌, ◌+◌, ℕ, length, drop, sym, ap, subst, arith}
use Rattle.ax_selected.specs.Selected.{insts_lines, piece}
use Rattle.ax_select.specs.Ready.{IsReady}
use Rattle.ax_select.proofs.Grown.{grown, item, next}
use Rattle.ax_select.proofs.functions.push_insts.Goals as goal

pub push_piece-requires-clause-ready : goal.push_piece-requires-clause-ready
push_piece-requires-clause-ready c =
    let s = c.args.setting.now in
    let i = c.loop-inst.inst-index in
    let x = c.inst-item.result in
    let before : i < length c.args.insts.now = omega arith in
    subst (λ (k : ℕ). IsReady s.blocks.now s.starts.items c.args.function c.args.b k x) (sym c.loop-inst.invariant.number) (c.requires.ready i x (item c.args.insts.now i x before c.inst-item.is))

pub loop-inst-preserved : goal.loop-inst-preserved
loop-inst-preserved c =
    let s = c.args.setting.now in
    let insts = c.args.insts.now in
    let i = c.loop-inst.inst-index in
    let k = c.loop-inst.instruction in
    let x = c.inst-item.result in
    let before : i < length insts = omega arith in
    let lines = insts_lines s.pointers.program c.args.function s.blocks.now c.args.b in
    record {
      number = omega (arith, c.loop-inst.invariant.number);
      code = grown _ _ _ (piece c.args.function k s.pointers.program s.blocks.now c.args.b x) (lines k (drop i insts)) (lines (k + 1) (drop (i + 1) insts)) _ c.loop-inst.invariant.code c.in_ok-push_piece.ensures (ap (lines k) (next insts i x before c.inst-item.is));
    }
