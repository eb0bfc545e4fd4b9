use Rattle.ax_target.specs.declared.target.Target.TheVariants.{Rv}
use Rattle.ax_llsc.proofs.Idle.{idle_few}
use Rattle.ax_llsc.proofs.Coded.{are_counted, expands}
use Rattle.ax_llsc.proofs.Rows.{rows}
use Rattle.ax_llsc.proofs.laws.direct_code_expands.Goals as goal

pub returns-clause-expands : goal.returns-clause-expands
returns-clause-expands c = λ zabha zacas x way. (
    let target = Rv zabha zacas in
    (expands zabha zacas (λ y. c.one_access_follows.ensures (target, y)) (λ y at. c.wrapped_code_follows.ensures (at, (target, y))) c.masked_code_expands.ensures.expands (λ y. c.pair_exchange_expands.ensures (target, y)) (λ y. c.retry_loop_expands.ensures (target, y)) x way, idle_few target x))

pub returns-clause-counted : goal.returns-clause-counted
returns-clause-counted c = λ zabha zacas x way. are_counted zabha zacas x way

pub returns-clause-rows : goal.returns-clause-rows
returns-clause-rows c = λ zabha zacas o width order weak start way legal. rows c.masked_code_expands.ensures.rows zabha zacas o width order weak start way legal
