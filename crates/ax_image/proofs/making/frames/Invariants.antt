use Rattle.std.proofs.Common.{◌≡◌, map, take}
use Rattle.ax_image.proofs.making.frames.Given as goal

abbrev pub invariant-loop : goal.invariant-loop
invariant-loop l = l.frames.items ≡ map (λ f. l.bytes) (take l.index l.functions)
