use Rattle.std.proofs.Common.{◌≡◌, drop}
use Rattle.ax_source_run.specs.SourceInstructions.{first_number}
use Rattle.ax_selected.specs.Selected.{blocks_lines}
use Rattle.ax_select.proofs.Grown.{IsUpTo}
use Rattle.ax_select.proofs.functions.push_blocks.Given as goal

abbrev pub invariant-loop-block : goal.invariant-loop-block
invariant-loop-block l = record {
  block : l.b ≡ l.block-index;
  number : l.start ≡ first_number l.setting.blocks.now l.block-index;
  code : IsUpTo l.fn.code l.code (blocks_lines l.setting.pointers.program l.function l.setting.blocks.now l.b l.start (drop l.block-index l.setting.blocks.now)) (blocks_lines l.setting.pointers.program l.function l.setting.blocks.now 0 0 l.setting.blocks.now);
}
