use Rattle.std.proofs.Common.{arith}
use Rattle.ax_store.specs.Store.{storage_of}
use Rattle.ax_store.proofs.Reading.{fit}
use Rattle.ax_run.proofs.Reading.{below}
use Rattle.ax_run.proofs.memory.number_in.Goals as goal

pub overflow_mul-number : goal.overflow_mul-number
overflow_mul-number c =
    let h = fit c.loop-i.i c.args.n c.loop-i.number 0 c.requires.few c.loop-i-test.true c.loop-i.invariant.within c.loop-i.invariant.small (omega arith) in
    omega arith

pub overflow_add-number : goal.overflow_add-number
overflow_add-number c =
    let h = fit c.loop-i.i c.args.n c.loop-i.number c.byte.result c.requires.few c.loop-i-test.true c.loop-i.invariant.within c.loop-i.invariant.small c.byte.type_inv in
    omega arith

pub loop-i-preserved : goal.loop-i-preserved
loop-i-preserved c = below (storage_of c.args.store.now).mem c.args.address c.loop-i.i c.args.n c.loop-i.number c.byte.result c.loop-i-test.true c.loop-i.invariant c.byte.ensures c.byte.type_inv
