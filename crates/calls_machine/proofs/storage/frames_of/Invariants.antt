use Rattle.std.proofs.Common.{All}
use Rattle.ax_map.specs.Map.{IsFrameSize}
use Rattle.calls_machine.proofs.storage.frames_of.Given as goal

abbrev pub invariant-loop-word : goal.invariant-loop-word
invariant-loop-word l = All IsFrameSize l.frames.items
