use Rattle.std.proofs.Common.{◌≡◌, ◌≤◌, drop}
use Rattle.ax_scope.specs.NameTable.{added}
use Rattle.ax_scope.specs.Names.{results_from}
use Rattle.ax_scope.proofs.declared.add_results.Given as goal

abbrev pub invariant-loop-line : goal.invariant-loop-line
invariant-loop-line l = record {
  adds : added l.values (results_from l.text l.number (drop l.line-index l.inside)) ≡ added l.fn.values (results_from l.text 0 l.inside);
  within : l.number ≤ l.line-index;
}
