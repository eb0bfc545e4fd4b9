use Rattle.std.proofs.Common.{rules, subst, arith}
use Rattle.ax_rules.specs.Points.{points_of_function}
use Rattle.ax_check.specs.Faults.{FirstAt}
use Rattle.ax_check.proofs.Firsts.{functions_skip, functions_stop}
use Rattle.ax_check.proofs.faults.first_in_functions.Goals as goal

pub returns-in-Some : goal.returns-in-Some
returns-in-Some c =
    c.loop-k.invariant.first _
    (functions_stop c.args.m.now c.args.t c.loop-k.k c.args.m.now.functions c.f-item.result c.in-Some.refusal (search rules) (search rules) (subst (λ o. FirstAt c.args.m.now c.args.t (points_of_function c.loop-k.k c.f-item.result) o) c.in-Some.is c.in_ok-refusal.ensures.first))

pub loop-k-preserved : goal.loop-k-preserved
loop-k-preserved c =
    record {
      few = omega (arith, c.in_ok-refusal.ensures.few c.in_default.is);
      first = λ r h. c.loop-k.invariant.first r
          (functions_skip c.args.m.now c.args.t c.loop-k.k c.args.m.now.functions c.f-item.result r (search rules) (search rules) (subst (λ o. FirstAt c.args.m.now c.args.t (points_of_function c.loop-k.k c.f-item.result) o) c.in_default.is c.in_ok-refusal.ensures.first) h);
    }
