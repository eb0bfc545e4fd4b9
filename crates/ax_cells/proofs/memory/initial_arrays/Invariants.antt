use Rattle.std.proofs.Common.{◌≡◌, map, take}
use Rattle.ax_cells.specs.Memories.{initial_array}
use Rattle.ax_cells.proofs.memory.initial_arrays.Given as goal

abbrev pub invariant-loop-global : goal.invariant-loop-global
invariant-loop-global l = l.arrays.items ≡ map initial_array (take l.global-index l.globals)
