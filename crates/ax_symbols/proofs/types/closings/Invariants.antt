use Rattle.std.proofs.Common.{◌≡◌, ◌-◌, Some}
use Rattle.ax_symbols.specs.Vectors.{closed_times}
use Rattle.ax_symbols.proofs.types.closings.Given as goal

abbrev pub invariant-loop : goal.invariant-loop
invariant-loop l = closed_times (l.depth - l.counter) (Some (l.found.0, l.found.1.now)) ≡ closed_times l.fn.depth (Some (l.fn.ty, l.fn.line))
