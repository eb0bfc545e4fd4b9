use Rattle.std.proofs.Common.{◌≡◌, drop}
use Rattle.ax_source.specs.Instructions.{any_outside}
use Rattle.ax_source.proofs.processor.Processor.any_outside.Given as goal

abbrev pub invariant-loop-arg : goal.invariant-loop-arg
invariant-loop-arg l = any_outside l.self (drop l.arg-index l.args) ≡ any_outside l.self l.args
