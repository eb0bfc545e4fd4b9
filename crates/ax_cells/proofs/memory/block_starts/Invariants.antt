use Rattle.std.proofs.Common.{◌≡◌, ◌+◌, ◌++◌, drop, length}
use Rattle.std.specs.List.{flat_map}
use Rattle.ax_module.specs.declared.module.Block.{Block}
use Rattle.ax_cells.specs.Memories.{starts_from}
use Rattle.ax_cells.proofs.memory.block_starts.Given as goal

abbrev pub invariant-loop-block : goal.invariant-loop-block
invariant-loop-block l = record {
  starts : l.starts.items ++ starts_from l.n (drop l.block-index l.blocks) ≡ starts_from 0 l.blocks;
  count : l.n + length (flat_map (λ (block : Block). block.insts) (drop l.block-index l.blocks)) ≡ length (flat_map (λ (block : Block). block.insts) l.blocks);
}
