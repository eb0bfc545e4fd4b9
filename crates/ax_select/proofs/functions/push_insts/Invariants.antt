use Rattle.std.proofs.Common.{◌≡◌, ◌+◌, drop}
use Rattle.ax_selected.specs.Selected.{insts_lines}
use Rattle.ax_select.proofs.Grown.{IsUpTo}
use Rattle.ax_select.proofs.functions.push_insts.Given as goal

abbrev pub invariant-loop-inst : goal.invariant-loop-inst
invariant-loop-inst l = record {
  number : l.instruction ≡ l.start + l.inst-index;
  code : IsUpTo l.fn.code l.code (insts_lines l.setting.pointers.program l.function l.setting.blocks.now l.b l.instruction (drop l.inst-index l.insts)) (insts_lines l.setting.pointers.program l.function l.setting.blocks.now l.b l.start l.insts);
}
