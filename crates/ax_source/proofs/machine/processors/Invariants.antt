use Rattle.std.proofs.Common.{◌≡◌, map, take}
use Rattle.ax_source.specs.Beginnings.{begun, room_for}
use Rattle.ax_source.proofs.machine.processors.Given as goal

abbrev pub invariant-loop-entry : goal.invariant-loop-entry
invariant-loop-entry l = l.processors.items ≡ map (begun l.program (room_for l.program l.events)) (take l.entry-index l.entries)
