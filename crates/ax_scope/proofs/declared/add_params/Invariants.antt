use Rattle.std.proofs.Common.{◌≡◌, drop}
use Rattle.ax_scope.specs.NameTable.{added}
use Rattle.ax_scope.specs.Names.{params_from}
use Rattle.ax_scope.proofs.declared.add_params.Given as goal

abbrev pub invariant-loop-number : goal.invariant-loop-number
invariant-loop-number l = added l.values (params_from l.text l.number (drop l.number l.params)) ≡ added l.fn.values (params_from l.text 0 l.params)
