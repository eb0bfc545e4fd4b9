use Rattle.std.proofs.Common.{◌≡◌, take, flat_map}
use Rattle.ax_isa.specs.Marks.{is_among}
use Rattle.ax_arm.specs.Skeletons.{mark_of}
use Rattle.ax_arm.proofs.skeletons.skeleton.Given as goal

abbrev pub invariant-loop-i : goal.invariant-loop-i
invariant-loop-i l = l.marks.items ≡ flat_map (mark_of (is_among l.skip)) (take l.i-index l.code)
