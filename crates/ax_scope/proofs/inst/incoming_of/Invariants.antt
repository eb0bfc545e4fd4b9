use Rattle.std.proofs.Common.{◌≡◌, drop}
use Rattle.ax_scope.specs.Around.{looks}
use Rattle.ax_scope.specs.Resolve.{incoming_of}
use Rattle.ax_scope.proofs.Behind.{behind}
use Rattle.ax_scope.proofs.inst.incoming_of.Given as goal

abbrev pub invariant-loop-value : goal.invariant-loop-value
invariant-loop-value l = incoming_of (looks l.names) l.pairs ≡ behind l.incoming.items (incoming_of (looks l.names) (drop l.value-index l.pairs))
