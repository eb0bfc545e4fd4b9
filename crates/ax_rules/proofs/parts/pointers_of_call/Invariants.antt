use Rattle.std.proofs.Common.{◌≡◌, take}
use Rattle.std.specs.List.{flat_map}
use Rattle.ax_source_run.specs.SourceInstructions.{pointers_of_arg}
use Rattle.ax_rules.proofs.parts.pointers_of_call.Given as goal

abbrev pub invariant-loop-arg : goal.invariant-loop-arg
invariant-loop-arg l = l.all.items ≡ flat_map pointers_of_arg (take l.arg-index l.args)
