use Rattle.std.proofs.Common.{None, Option, Some, subst}
use Rattle.ax_rules.specs.Points.{points_of_functions, points_of_globals}
use Rattle.ax_check.specs.declared.refusal.Refusal.{Refusal}
use Rattle.ax_check.specs.Faults.{FirstInFunctions, FirstInGlobals}
use Rattle.ax_check.proofs.Firsts.{points_skip, points_stop}
use Rattle.ax_check.proofs.accepted.judge.Goals as goal

pub returns-in-Some-clause-first : goal.returns-in-Some-clause-first
returns-in-Some-clause-first c =
    points_stop c.args.m.now c.args.t (points_of_globals 0 c.args.m.now.globals) (points_of_functions 0 c.args.m.now.functions) c.in-Some.refusal
    (subst (λ (o : Option Refusal). FirstInGlobals c.args.m.now c.args.t 0 c.args.m.now.globals o) c.in-Some.is (c.first_in_globals.ensures.first c.args.t))

pub returns-in-Some-2-clause-first : goal.returns-in-Some-2-clause-first
returns-in-Some-2-clause-first c =
    points_skip c.args.m.now c.args.t (points_of_globals 0 c.args.m.now.globals) (points_of_functions 0 c.args.m.now.functions) (Some c.in-Some-2.refusal)
    (subst (λ (o : Option Refusal). FirstInGlobals c.args.m.now c.args.t 0 c.args.m.now.globals o) c.in_default.is (c.first_in_globals.ensures.first c.args.t))
    (subst (λ (o : Option Refusal). FirstInFunctions c.args.m.now c.args.t 0 c.args.m.now.functions o) c.in-Some-2.is c.in_ok-refusal.ensures)

pub returns-in-None-clause-first : goal.returns-in-None-clause-first
returns-in-None-clause-first c =
    points_skip c.args.m.now c.args.t (points_of_globals 0 c.args.m.now.globals) (points_of_functions 0 c.args.m.now.functions) None
    (subst (λ (o : Option Refusal). FirstInGlobals c.args.m.now c.args.t 0 c.args.m.now.globals o) c.in_default.is (c.first_in_globals.ensures.first c.args.t))
    (subst (λ (o : Option Refusal). FirstInFunctions c.args.m.now c.args.t 0 c.args.m.now.functions o) c.in-None.is c.in_ok-refusal.ensures)
