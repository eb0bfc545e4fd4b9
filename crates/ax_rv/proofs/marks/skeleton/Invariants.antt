use Rattle.std.proofs.Common.{◌≡◌, take}
use Rattle.ax_isa.specs.Marks.{is_among}
use Rattle.ax_rv.specs.Skeleton.{skeleton}
use Rattle.ax_rv.proofs.marks.skeleton.Given as goal

abbrev pub invariant-loop-i : goal.invariant-loop-i
invariant-loop-i l = l.marks.items ≡ skeleton (is_among l.skip) (take l.i-index l.code)
