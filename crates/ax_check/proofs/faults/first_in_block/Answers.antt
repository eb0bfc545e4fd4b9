use Rattle.std.proofs.Common.{rules, ◌+◌, subst, arith}
use Rattle.ax_rules.specs.Points.{AtInst}
use Rattle.ax_check.specs.Faults.{FirstRule}
use Rattle.ax_check.proofs.Firsts.{block_skip, block_stop}
use Rattle.ax_check.proofs.faults.first_in_block.Goals as goal

pub returns-in-Some : goal.returns-in-Some
returns-in-Some c = λ m ready.
    c.loop-i.invariant m ready _
    (block_stop m c.args.t c.args.k c.args.f.now c.args.b (c.args.start + c.loop-i.i) c.loop-i.i c.args.block.now.insts c.inst-item.result c.in-Some.rule c.number.result c.number.ensures (search rules) (search rules) (subst (λ o. FirstRule m c.args.t (AtInst c.args.k c.args.f.now (record { block = c.args.b; number = c.args.start + c.loop-i.i; inst = c.inst-item.result })) o) c.in-Some.is (c.in_ok-rule.ensures m c.args.k ready)))

pub loop-i-preserved : goal.loop-i-preserved
loop-i-preserved c = λ m ready r h. c.loop-i.invariant m ready r
    (block_skip m c.args.t c.args.k c.args.f.now c.args.b (c.args.start + c.loop-i.i) (c.args.start + (c.loop-i.i + 1)) c.loop-i.i c.args.block.now.insts c.inst-item.result (omega arith) (search rules) (search rules) (subst (λ o. FirstRule m c.args.t (AtInst c.args.k c.args.f.now (record { block = c.args.b; number = c.args.start + c.loop-i.i; inst = c.inst-item.result })) o) c.in_default.is (c.in_ok-rule.ensures m c.args.k ready)) r h)
