use Rattle.std.proofs.Common.{arith}
use Rattle.ax_store.specs.Places.{byte_at}
use Rattle.ax_store.proofs.Reading.{below, fit}
use Rattle.ax_store.proofs.memory.Memory.read_each.Goals as goal

pub overflow_mul-value : goal.overflow_mul-value
overflow_mul-value c =
    let h = fit c.loop-i.i c.args.n c.loop-i.value 0 c.requires c.loop-i-test.true c.loop-i.invariant.within c.loop-i.invariant.small (omega arith) in
    omega arith

pub overflow_add-value : goal.overflow_add-value
overflow_add-value c =
    let h = fit c.loop-i.i c.args.n c.loop-i.value c.byte.result c.requires c.loop-i-test.true c.loop-i.invariant.within c.loop-i.invariant.small c.byte.type_inv in
    omega arith

pub loop-i-preserved : goal.loop-i-preserved
loop-i-preserved c = below (byte_at c.args.self.now) c.args.a c.loop-i.i c.args.n c.loop-i.value c.byte.result c.loop-i-test.true c.loop-i.invariant.within c.loop-i.invariant.number c.loop-i.invariant.small c.byte.ensures c.byte.type_inv
