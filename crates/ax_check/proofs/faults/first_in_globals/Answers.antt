use Rattle.std.proofs.Common.{rules, subst, arith}
use Rattle.ax_rules.specs.Points.{AtGlobal}
use Rattle.ax_check.specs.Faults.{FirstRule}
use Rattle.ax_check.proofs.Firsts.{globals_skip, globals_stop}
use Rattle.ax_module.specs.Ranges.{is_global_in_range}
use Rattle.ax_check.proofs.Lays.{fine_on}
use Rattle.ax_check.proofs.Ranges.{passes_at}
use Rattle.ax_check.proofs.faults.first_in_globals.Goals as goal

pub returns-in-Some-clause-first : goal.returns-in-Some-clause-first
returns-in-Some-clause-first c = λ t.
    c.loop-g.invariant.first t _
    (globals_stop c.args.m.now t c.loop-g.g c.args.m.now.globals c.variable-item.result c.in-Some.rule c.number.result c.number.ensures (search rules) (search rules) (subst (λ o. FirstRule c.args.m.now t (AtGlobal c.loop-g.g c.variable-item.result) o) c.in-Some.is (c.rule_at_global.ensures.first t)))

pub loop-g-preserved : goal.loop-g-preserved
loop-g-preserved c =
    record {
      few = omega (arith, c.rule_at_global.ensures.few c.in_default.is);
      fine = fine_on c.args.m.now c.loop-g.g c.args.m.now.globals c.variable-item.result (search rules) (search rules) (c.rule_at_global.ensures.fine c.in_default.is) c.loop-g.invariant.fine;
      first = λ t r h. c.loop-g.invariant.first t r
          (globals_skip c.args.m.now t c.loop-g.g c.args.m.now.globals c.variable-item.result r (search rules) (search rules) (subst (λ o. FirstRule c.args.m.now t (AtGlobal c.loop-g.g c.variable-item.result) o) c.in_default.is (c.rule_at_global.ensures.first t)) h);
    }

pub rule_at_global-requires : goal.rule_at_global-requires
rule_at_global-requires c = passes_at is_global_in_range c.args.m.now.globals c.loop-g.g c.variable-item.result (search rules) (search rules) c.requires
