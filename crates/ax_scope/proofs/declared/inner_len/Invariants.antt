use Rattle.std.proofs.Common.{◌≡◌, ◌+◌, ◌≤◌, drop}
use Rattle.std.specs.List.{prefix_len}
use Rattle.ax_scope.specs.Names.{is_inner}
use Rattle.ax_scope.proofs.declared.inner_len.Given as goal

abbrev pub invariant-loop-line : goal.invariant-loop-line
invariant-loop-line l = record {
  is : l.count + prefix_len is_inner (drop l.line-index l.behind) ≡ prefix_len is_inner l.behind;
  within : l.count ≤ l.line-index;
}
