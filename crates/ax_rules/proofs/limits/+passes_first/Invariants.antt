use Rattle.std.proofs.Common.{length}
use Rattle.ax_rules.proofs.limits.+passes_first.Given as goal

abbrev pub decreases-passes_first : goal.decreases-passes_first
decreases-passes_first l = length l.globals.now
