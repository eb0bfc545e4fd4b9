use Rattle.std.proofs.Common.{arith}
use Rattle.std.proofs.lemmas.Grind.{common_steps}
use Rattle.ax_run.specs.Machine.{cpu_in}
use Rattle.ax_run.specs.Plans.{is_running}
use Rattle.ax_run.proofs.Plans.{set_each}
use Rattle.ax_run.proofs.machine.Machine.running.Goals as goal

pub loop-p-preserved : goal.loop-p-preserved
loop-p-preserved c =
    let long = c.loop-p.invariant.0 in
    let few = c.processors-p-end.ensures.few in
    let less = c.loop-p-test.true in
    (grind (arith, common_steps), set_each c.loop-p.running c.loop-p.p c.is_running.result (λ q. is_running (cpu_in c.args.self.now q).status) (omega (arith, long, few, less)) c.is_running.ensures c.loop-p.invariant.1)

pub returns : goal.returns
returns c = (let all = c.processors-p-end.ensures.count in let over = c.loop-p-test.false in λ p less. c.loop-p.invariant.1 p (omega (arith, all, over, less)))
