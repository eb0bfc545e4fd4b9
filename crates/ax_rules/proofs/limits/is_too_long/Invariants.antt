use Rattle.std.proofs.Common.{◌≡◌, ◌+◌, length, take, sum_by}
use Rattle.ax_rules.proofs.limits.is_too_long.Given as goal

abbrev pub invariant-loop-block : goal.invariant-loop-block
invariant-loop-block l = l.left + sum_by (λ b. length b.insts) (take l.block-index l.f.blocks) ≡ 2048
