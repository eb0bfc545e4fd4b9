use Rattle.std.proofs.Common.{◌≡◌, take}
use Rattle.ax_run.specs.Start.{frames_for}
use Rattle.ax_run.proofs.start.frames.Given as goal

abbrev pub invariant-loop-f : goal.invariant-loop-f
invariant-loop-f l = l.frames.items ≡ frames_for l.sizes (take l.f-index l.entries)
