use Rattle.std.proofs.Common.{◌≡◌, ◌<◌, ◌+◌, ℕ, List, [], ◌∷◌, ◌++◌, length, drop, refl, sym, ap, ◌∙◌, subst, arith, slice_get}
use Rattle.ax_module.specs.declared.inst.Inst.{Inst}
use Rattle.ax_source_run.specs.SourceInstructions.{first_number}
use Rattle.ax_selected.specs.Selected.{blocks_lines, insts_lines, label_line}
use Rattle.ax_select.specs.Ready.{IsReady}
use Rattle.ax_mid.specs.Built.{pushed}
use Rattle.ax_select.proofs.Counts.{block_is, next_first, no_first, room}
use Rattle.ax_select.proofs.Grown.{begun, grown, item, next}
use Rattle.ax_select.proofs.functions.push_blocks.Goals as goal

pub push_insts-requires-clause-ready : goal.push_insts-requires-clause-ready
push_insts-requires-clause-ready c = λ i x at.
    let s = c.args.setting.now in
    let blocks = s.blocks.now in
    let b = c.loop-block.block-index in
    let block = c.block-item.result in
    let f = c.args.function in
    let before : b < length blocks = omega arith in
    let is = block_is blocks b block (item blocks b block before c.block-item.is) in
    let ready = c.requires.ready.ready b i x (ap (λ (insts : List Inst). slice_get insts i) (is ∙ sym c.as_slice-insts.ensures) ∙ at) in
    subst (λ (d : ℕ). IsReady blocks s.starts.items f d (c.loop-block.start + i) x) (sym c.loop-block.invariant.block)
    (subst (λ (k : ℕ). IsReady blocks s.starts.items f b (k + i) x) (sym c.loop-block.invariant.number)
    (subst (λ (starts : List ℕ). IsReady blocks starts f b (first_number blocks b + i) x) (sym c.requires.starts) ready))

pub loop-block-preserved : goal.loop-block-preserved
loop-block-preserved c =
    let s = c.args.setting.now in
    let blocks = s.blocks.now in
    let i = c.loop-block.block-index in
    let b = c.loop-block.b in
    let k = c.loop-block.start in
    let block = c.block-item.result in
    let before : i < length blocks = omega arith in
    let at = item blocks i block before c.block-item.is in
    let p = s.pointers.program in
    let f = c.args.function in
    let lines = insts_lines p f blocks b k block.insts in
    let size = ap (λ (insts : List Inst). length insts) c.as_slice-insts.ensures in
    let rest = blocks_lines p f blocks (b + 1) (k + length c.as_slice-insts.result.now) (drop (i + 1) blocks) in
    record {
      block = omega (arith, c.loop-block.invariant.block);
      number = omega (arith, next_first blocks i block at, c.loop-block.invariant.number, ap (λ (insts : List Inst). length insts) c.as_slice-insts.ensures);
      code = grown _ _ _ lines (lines ++ rest) rest _
          (grown _ _ _ (label_line p f k ∷ []) (blocks_lines p f blocks b k (drop i blocks)) (lines ++ rest) _ c.loop-block.invariant.code c.in_ok-push_label.ensures (ap (blocks_lines p f blocks b k) (next blocks i block before c.block-item.is) ∙ ap (λ (n : ℕ). label_line p f k ∷ lines ++ blocks_lines p f blocks (b + 1) (k + n) (drop (i + 1) blocks)) (sym size)))
          (subst (λ (insts : List Inst). c.push_insts.new.code ≡ pushed (insts_lines p f blocks b k insts) c.push_label.new.code) c.as_slice-insts.ensures c.in_ok-push_insts.ensures) refl;
    }

pub loop-block-init : goal.loop-block-init
loop-block-init c = record {
  block = refl;
  number = sym (no_first c.args.setting.now.blocks.now);
  code = begun _ _;
}

pub push_label-requires-clause-instruction : goal.push_label-requires-clause-instruction
push_label-requires-clause-instruction c =
    let blocks = c.args.setting.now.blocks.now in
    let i = c.loop-block.block-index in
    let block = c.block-item.result in
    let before : i < length blocks = omega arith in
    let most = room blocks i block (item blocks i block before c.block-item.is) c.requires.ready.few in
    omega (arith, most, c.loop-block.invariant.number)

pub push_insts-requires-clause-few : goal.push_insts-requires-clause-few
push_insts-requires-clause-few c =
    let blocks = c.args.setting.now.blocks.now in
    let i = c.loop-block.block-index in
    let block = c.block-item.result in
    let before : i < length blocks = omega arith in
    let most = room blocks i block (item blocks i block before c.block-item.is) c.requires.ready.few in
    omega (arith, most, c.loop-block.invariant.number, ap (λ (insts : List Inst). length insts) c.as_slice-insts.ensures)

pub overflow_cast-start : goal.overflow_cast-start
overflow_cast-start c =
    let blocks = c.args.setting.now.blocks.now in
    let i = c.loop-block.block-index in
    let block = c.block-item.result in
    let before : i < length blocks = omega arith in
    let most = room blocks i block (item blocks i block before c.block-item.is) c.requires.ready.few in
    omega (arith, most, ap (λ (insts : List Inst). length insts) c.as_slice-insts.ensures)

pub overflow_add-start : goal.overflow_add-start
overflow_add-start c =
    let blocks = c.args.setting.now.blocks.now in
    let i = c.loop-block.block-index in
    let block = c.block-item.result in
    let before : i < length blocks = omega arith in
    let most = room blocks i block (item blocks i block before c.block-item.is) c.requires.ready.few in
    omega (arith, most, c.loop-block.invariant.number, ap (λ (insts : List Inst). length insts) c.as_slice-insts.ensures)
