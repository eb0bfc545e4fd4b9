use Rattle.std.proofs.Common.{Some, Option, subst}
use Rattle.std.proofs.lemmas.Result.{IfOk-weaker}
use Rattle.ax_rules.specs.declared.rule.Rule.{Rule}
use Rattle.ax_check.specs.First.{FirstBy}
use Rattle.ax_check.specs.Ready.{IsFaultHere, early_rules, late_rules}
use Rattle.ax_check.proofs.Firsts.{first_skip, first_stop}
use Rattle.ax_check.proofs.Here.{here}
use Rattle.ax_check.proofs.faults.rule_at.Goals as goal

pub returns-in-Some : goal.returns-in-Some
returns-in-Some c = λ m k ready.
    here m c.args.t k c.args.f.now (record { block = c.args.b; number = c.args.number; inst = c.args.inst.now }) c.args.layout.now c.args.setting.now (Some c.in-Some.rule) ready
    (first_stop (IsFaultHere c.args.t c.args.layout.now c.args.setting.now.scope c.args.f.now (record { block = c.args.b; number = c.args.number; inst = c.args.inst.now })) (λ r. r) early_rules late_rules c.in-Some.rule
    (subst (λ (o : Option Rule). FirstBy (IsFaultHere c.args.t c.args.layout.now c.args.setting.now.scope c.args.f.now (record { block = c.args.b; number = c.args.number; inst = c.args.inst.now })) (λ r. r) early_rules o) c.in-Some.is (c.early_rule.ensures c.args.t c.args.layout.now c.args.f.now c.args.b c.args.number)))

pub returns : goal.returns
returns c = λ m k ready.
    IfOk-weaker c.late_rule.result _ _
    (λ r h. here m c.args.t k c.args.f.now (record { block = c.args.b; number = c.args.number; inst = c.args.inst.now }) c.args.layout.now c.args.setting.now r ready
    (first_skip (IsFaultHere c.args.t c.args.layout.now c.args.setting.now.scope c.args.f.now (record { block = c.args.b; number = c.args.number; inst = c.args.inst.now })) (λ r. r) early_rules late_rules r
    (subst (λ (o : Option Rule). FirstBy (IsFaultHere c.args.t c.args.layout.now c.args.setting.now.scope c.args.f.now (record { block = c.args.b; number = c.args.number; inst = c.args.inst.now })) (λ r. r) early_rules o) c.in-None.is (c.early_rule.ensures c.args.t c.args.layout.now c.args.f.now c.args.b c.args.number)) h))
    c.late_rule.ensures
