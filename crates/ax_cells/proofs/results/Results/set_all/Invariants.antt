use Rattle.std.proofs.Common.{◌≡◌, ◌+◌, drop, length}
use Rattle.ax_cells.specs.Shapes.{numbers_put, values_of}
use Rattle.ax_cells.proofs.results.Results.set_all.Given as goal

abbrev pub invariant-loop-j : goal.invariant-loop-j
invariant-loop-j l = record {
  count : length l.self ≡ length l.fn.self;
  values : numbers_put (l.k + l.j) (drop l.j l.numbers) (values_of l.self) ≡ numbers_put l.k l.numbers (values_of l.fn.self);
}
