use Rattle.ax_source.specs.MachineSteps.{Stays}
use Rattle.calls_middle.proofs.shown.play.Given as goal

abbrev pub invariant-loop-event : goal.invariant-loop-event
invariant-loop-event l = Stays l.fn.machine l.machine
