use Rattle.std.proofs.Common.{◌≡◌, ◌++◌, map, drop}
use Rattle.ax_scope.specs.Names.{text_at}
use Rattle.ax_scope.specs.Faults.{again}
use Rattle.ax_scope.proofs.outer.declare_params.Given as goal

abbrev pub invariant-loop-name : goal.invariant-loop-name
invariant-loop-name l = record {
  repeats : again l.so_far (map (λ p. text_at l.text p.1) (drop l.name-index l.params)) ≡ again l.fn.so_far (map (λ p. text_at l.text p.1) l.params);
  adds : l.so_far ++ map (λ p. text_at l.text p.1) (drop l.name-index l.params) ≡ l.fn.so_far ++ map (λ p. text_at l.text p.1) l.params;
}
