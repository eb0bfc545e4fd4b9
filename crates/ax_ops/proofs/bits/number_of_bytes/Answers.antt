use Rattle.std.proofs.Common.{◌<◌, ◌*◌, ◌^◌, rules}
use Rattle.ax_ops.proofs.Words.{room}
use Rattle.ax_ops.proofs.bits.number_of_bytes.Goals as goal

pub overflow_mul-number : goal.overflow_mul-number
overflow_mul-number c =
    let small : c.loop-i.number * 256 < 2 ^ 128 =
    room c.loop-i.number _ c.loop-i.i c.requires c.loop-i-test.true c.loop-i.invariant.0 c.loop-i.invariant.2
    in
    search rules
