use Rattle.std.proofs.Common.{◌≡◌, ◌+◌, take, sum_by}
use Rattle.ax_rules.specs.Limits.{alloca_bytes}
use Rattle.ax_rules.proofs.limits.left_behind.Given as goal

abbrev pub invariant-loop-inst : goal.invariant-loop-inst
invariant-loop-inst l = l.left + sum_by alloca_bytes (take l.inst-index l.block.insts) ≡ l.bytes
