use Rattle.std.proofs.Common.{◌≡◌, map, take}
use Rattle.ax_scope.specs.Module.{constant_of}
use Rattle.ax_scope.proofs.global.constants_of.Given as goal

abbrev pub invariant-loop-value : goal.invariant-loop-value
invariant-loop-value l = l.constants.items ≡ map constant_of (take l.value-index l.values)
