use Rattle.std.proofs.Common.{ℕ, ◌<◌, slice_index_or}
use Rattle.ax_check.specs.Walk.{Leads}
use Rattle.ax_module.specs.declared.operand.Operand.{Operand}
use Rattle.ax_check.proofs.phis.names_other.Given as goal

abbrev pub invariant-loop-operand : goal.invariant-loop-operand
invariant-loop-operand l = (k : ℕ) (d : Operand × ℕ) → k < l._operand-index → Leads l.walks (slice_index_or l.entries k d).1 l.b
