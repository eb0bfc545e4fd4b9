use Rattle.std.proofs.Common.{◌≡◌, ◌++◌, map, take}
use Rattle.std.specs.List.{flat_map}
use Rattle.ax_rules.specs.Facts.{outcome_of}
use Rattle.ax_rules.proofs.scope.outcomes.Given as goal

abbrev pub invariant-loop-block : goal.invariant-loop-block
invariant-loop-block l = l.all.items ≡ map outcome_of (flat_map (λ b. b.insts) (take l.block-index l.f.blocks))

abbrev pub invariant-loop-inst : goal.invariant-loop-inst
invariant-loop-inst l = l.all.items ≡ l.initial.all.items ++ map outcome_of (take l.inst-index l.inst-items)
