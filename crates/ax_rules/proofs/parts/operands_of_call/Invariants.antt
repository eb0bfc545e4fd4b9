use Rattle.std.proofs.Common.{◌≡◌, take}
use Rattle.std.specs.List.{flat_map}
use Rattle.ax_rules.specs.Parts.{arg_operands}
use Rattle.ax_rules.proofs.parts.operands_of_call.Given as goal

abbrev pub invariant-loop-arg : goal.invariant-loop-arg
invariant-loop-arg l = l.all.items ≡ flat_map arg_operands (take l.arg-index l.args)
