use Rattle.std.proofs.Common.{◌≡◌, ◌++◌, drop}
use Rattle.ax_run.specs.Start.{cpus_from}
use Rattle.ax_run.proofs.start.cpus.Given as goal

abbrev pub invariant-loop-p : goal.invariant-loop-p
invariant-loop-p l = l.cpus.items ++ cpus_from l.stack l.places l.p (drop l.p l.entries) ≡ cpus_from l.stack l.places 0 l.entries
