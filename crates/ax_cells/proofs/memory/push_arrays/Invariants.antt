use Rattle.std.proofs.Common.{◌≡◌, ◌++◌, map, take}
use Rattle.ax_cells.specs.Memories.{zeros_of}
use Rattle.ax_cells.proofs.memory.push_arrays.Given as goal

abbrev pub invariant-loop-inst : goal.invariant-loop-inst
invariant-loop-inst l = l.arrays.items ≡ l.fn.arrays.items ++ map zeros_of (take l.inst-index l.insts)
