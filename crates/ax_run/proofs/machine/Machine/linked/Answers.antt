use Rattle.std.proofs.Common.{arith}
use Rattle.std.proofs.lemmas.Grind.{common_steps}
use Rattle.std.specs.Prelude.{is_some}
use Rattle.ax_store.specs.Store.{storage_of}
use Rattle.ax_run.proofs.Plans.{set_each}
use Rattle.ax_run.proofs.machine.Machine.linked.Goals as goal

pub loop-p-preserved : goal.loop-p-preserved
loop-p-preserved c =
    let long = c.loop-p.invariant.0 in
    let few = c.processors-p-end.ensures.few in
    let less = c.loop-p-test.true in
    (grind (arith, common_steps), set_each c.loop-p.linked c.loop-p.p c.is_linked.result (λ q. is_some ((storage_of c.args.self.now.store).linked q)) (omega (arith, long, few, less)) c.is_linked.ensures c.loop-p.invariant.1)

pub returns : goal.returns
returns c = (let all = c.processors-p-end.ensures.count in let over = c.loop-p-test.false in λ p less. c.loop-p.invariant.1 p (omega (arith, all, over, less)))
