use Rattle.std.proofs.Common.{◌≡◌, drop}
use Rattle.ax_scope.specs.Around.{looks}
use Rattle.ax_scope.specs.Resolve.{args_of}
use Rattle.ax_scope.proofs.Behind.{behind}
use Rattle.ax_scope.proofs.inst.args_of.Given as goal

abbrev pub invariant-loop-argument : goal.invariant-loop-argument
invariant-loop-argument l = args_of (looks l.names) l.arguments ≡ behind l.args.items (args_of (looks l.names) (drop l.argument-index l.arguments))
