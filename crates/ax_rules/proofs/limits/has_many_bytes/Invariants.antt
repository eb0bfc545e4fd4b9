use Rattle.std.proofs.Common.{◌≡◌, ◌+◌, take, sum_by}
use Rattle.ax_rules.specs.Limits.{alloca_bytes}
use Rattle.ax_rules.proofs.limits.has_many_bytes.Given as goal

abbrev pub invariant-loop-block : goal.invariant-loop-block
invariant-loop-block l = l.left + sum_by (λ b. sum_by alloca_bytes b.insts) (take l.block-index l.f.blocks) ≡ 32768
