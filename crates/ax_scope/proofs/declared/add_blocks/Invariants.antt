use Rattle.std.proofs.Common.{◌≡◌, ◌≤◌, true, drop}
use Rattle.ax_scope.specs.NameTable.{added}
use Rattle.ax_scope.specs.Names.{blocks_from}
use Rattle.ax_scope.proofs.declared.add_blocks.Given as goal

abbrev pub invariant-loop-line : goal.invariant-loop-line
invariant-loop-line l = record {
  adds : added l.blocks (blocks_from l.text l.entry l.first l.number (drop l.line-index l.inside)) ≡ added l.fn.blocks (blocks_from l.text l.entry true 0 l.inside);
  within : l.number ≤ l.line-index;
}
