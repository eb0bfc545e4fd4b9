use Rattle.std.proofs.Common.{◌+◌, ◌-◌, arith}
use Rattle.ax_store.specs.Storage.{seen}
use Rattle.ax_store.specs.Store.{storage_of}
use Rattle.ax_store.proofs.Reading.{below, fit, seen_byte, width_le}
use Rattle.ax_store.proofs.store.Store.load_each.Goals as goal

pub overflow_mul-value : goal.overflow_mul-value
overflow_mul-value c =
    let h = fit c.loop-i.i c.args.n c.loop-i.value 0 (width_le c.args.n c.requires.width) c.loop-i-test.true c.loop-i.invariant.within c.loop-i.invariant.small (omega arith) in
    omega arith

pub overflow_add-value : goal.overflow_add-value
overflow_add-value c =
    let h = fit c.loop-i.i c.args.n c.loop-i.value c.byte_seen.result (width_le c.args.n c.requires.width) c.loop-i-test.true c.loop-i.invariant.within c.loop-i.invariant.small c.byte_seen.type_inv in
    omega arith

pub loop-i-preserved : goal.loop-i-preserved
loop-i-preserved c =
    let at = seen_byte c.args.p (c.args.a + (c.loop-i.i - 1)) c.byte_seen.result _ (storage_of c.args.self.now) (c.latest-own.ensures.found (c.loop-i.i - 1) (let h = c.loop-i.invariant.within in omega arith)) c.byte_seen.ensures in
    below (seen c.args.p (storage_of c.args.self.now)) c.args.a c.loop-i.i c.args.n c.loop-i.value c.byte_seen.result c.loop-i-test.true c.loop-i.invariant.within c.loop-i.invariant.number c.loop-i.invariant.small at c.byte_seen.type_inv
