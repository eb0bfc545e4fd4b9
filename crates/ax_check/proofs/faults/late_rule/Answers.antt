use Rattle.ax_check.proofs.Ranges.{operands_in_range}
use Rattle.ax_check.proofs.faults.late_rule.Goals as goal

pub has_limit-requires-clause-range : goal.has_limit-requires-clause-range
has_limit-requires-clause-range c = operands_in_range c.args.parts.now c.args.inst.now c.requires.parts c.requires.range
