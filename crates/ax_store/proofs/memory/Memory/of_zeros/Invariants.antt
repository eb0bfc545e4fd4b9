use Rattle.std.proofs.Common.{◌≡◌, take}
use Rattle.ax_store.specs.Places.{regions_of}
use Rattle.ax_store.proofs.memory.Memory.of_zeros.Given as goal

abbrev pub invariant-loop-frame : goal.invariant-loop-frame
invariant-loop-frame l = l.regions.items ≡ regions_of l.table l.globals (take l.frame-index l.frames)
