use Rattle.std.proofs.Common.{◌≡◌, ◌++◌, map, drop}
use Rattle.std.specs.List.{flat_map}
use Rattle.ax_module.specs.declared.module.Block.{Block}
use Rattle.ax_cells.specs.Memories.{zeros_of}
use Rattle.ax_cells.proofs.memory.alloca_arrays.Given as goal

abbrev pub invariant-loop-block : goal.invariant-loop-block
invariant-loop-block l = l.arrays.items ++ map zeros_of (flat_map (λ (block : Block). block.insts) (drop l.block-index l.blocks)) ≡ map zeros_of (flat_map (λ (block : Block). block.insts) l.blocks)
