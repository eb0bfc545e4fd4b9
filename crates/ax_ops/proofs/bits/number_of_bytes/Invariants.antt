use Rattle.std.proofs.Common.{◌≡◌, ◌-◌, ◌*◌, ◌^◌, ◌<◌, ◌≤◌, drop, length}
use Rattle.ax_ops.specs.Bytes.{number_of}
use Rattle.ax_ops.proofs.bits.number_of_bytes.Given as goal

abbrev pub invariant-loop-i : goal.invariant-loop-i
invariant-loop-i l =
    (l.i ≤ length l.b) × (l.number ≡ number_of (drop l.i l.b)) × (l.number < 2 ^ (8 * (length l.b - l.i)))

abbrev pub decreases-loop-i : goal.decreases-loop-i
decreases-loop-i l = l.i
