use Rattle.std.proofs.Common.{◌≡◌, ◌++◌, take}
use Rattle.std.specs.List.{flat_map}
use Rattle.ax_rules.specs.Parts.{arg_types, result_types}
use Rattle.ax_rules.proofs.parts.types_of_call.Given as goal

abbrev pub invariant-loop-arg : goal.invariant-loop-arg
invariant-loop-arg l = l.all.items ≡ result_types l.fn.returned ++ flat_map arg_types (take l.arg-index l.args)
