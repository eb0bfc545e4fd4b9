use Rattle.std.proofs.Common.{subst}
use Rattle.std.proofs.lemmas.Result.{IfOk-weaker}
use Rattle.ax_rules.specs.Points.{AtHead}
use Rattle.ax_check.specs.Faults.{FirstRule}
use Rattle.ax_check.proofs.Firsts.{head_skip, head_stop}
use Rattle.ax_check.proofs.Shapes.{is_graph}
use Rattle.ax_check.proofs.faults.first_in_function.Goals as goal

pub returns-in-Some-clause-first : goal.returns-in-Some-clause-first
returns-in-Some-clause-first c = head_stop c.args.m.now c.args.t c.args.k c.args.f.now c.in-Some.rule c.number.result c.number.ensures (subst (λ o. FirstRule c.args.m.now c.args.t (AtHead c.args.k c.args.f.now) o) c.in-Some.is (c.rule_at_head.ensures.first c.args.m.now c.args.t))

pub setting_of-requires-clause-graph : goal.setting_of-requires-clause-graph
setting_of-requires-clause-graph c = is_graph _ c.args.f.now c.requires.formed

pub returns-clause-first : goal.returns-clause-first
returns-clause-first c =
    IfOk-weaker c.first_in_blocks.result _ _
    (λ r h. head_skip c.args.m.now c.args.t c.args.k c.args.f.now r (subst (λ o. FirstRule c.args.m.now c.args.t (AtHead c.args.k c.args.f.now) o) c.in_default.is (c.rule_at_head.ensures.first c.args.m.now c.args.t)) h)
    (c.first_in_blocks.ensures c.args.m.now c.in_ok-setting.ensures)
