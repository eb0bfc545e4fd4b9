use Rattle.std.proofs.Common.{◌≡◌, ◌≤◌, [], drop}
use Rattle.ax_scope.specs.NameTable.{added}
use Rattle.ax_scope.specs.Names.{globals_from}
use Rattle.ax_scope.proofs.declared.globals_of.Given as goal

abbrev pub invariant-loop-line : goal.invariant-loop-line
invariant-loop-line l = record {
  adds : added l.globals (globals_from l.text l.number (drop l.line-index l.lines)) ≡ added [] (globals_from l.text 0 l.lines);
  within : l.number ≤ l.line-index;
}
