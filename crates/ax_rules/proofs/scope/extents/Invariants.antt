use Rattle.std.proofs.Common.{◌≡◌, map, take}
use Rattle.ax_rules.specs.Facts.{extent_of_global}
use Rattle.ax_rules.proofs.scope.extents.Given as goal

abbrev pub invariant-loop-variable : goal.invariant-loop-variable
invariant-loop-variable l = l.all.items ≡ map extent_of_global (take l.variable-index l.m.globals)
