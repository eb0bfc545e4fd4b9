use Rattle.std.proofs.Common.{◌≡◌, ◌++◌, drop}
use Rattle.ax_emit.specs.Behind.{behind_in}
use Rattle.ax_image.specs.Entries.{entries_at}
use Rattle.ax_image.proofs.making.entries.Given as goal

abbrev pub invariant-loop-f : goal.invariant-loop-f
invariant-loop-f l = l.entries.items ++ entries_at (behind_in l.labels) l.places l.f (drop l.f l.functions) ≡ entries_at (behind_in l.labels) l.places 0 l.functions
