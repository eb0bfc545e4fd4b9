use Rattle.std.proofs.Common.{◌≡◌, ◌≤◌, take}
use Rattle.std.specs.List.{count_by}
use Rattle.ax_scope.specs.Names.{is_number, text_at}
use Rattle.ax_scope.proofs.declared.number_count.Given as goal

abbrev pub invariant-loop-name : goal.invariant-loop-name
invariant-loop-name l = record {
  is : l.count ≡ count_by (λ p. is_number (text_at l.text p.1)) (take l.name-index l.params);
  within : l.count ≤ l.name-index;
}
