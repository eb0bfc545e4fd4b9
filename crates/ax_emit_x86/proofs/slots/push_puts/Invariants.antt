use Rattle.std.proofs.Common.{◌≡◌, ◌++◌, drop}
use Rattle.ax_emit.specs.Atomics.{puts_all}
use Rattle.ax_expand.specs.Standing.{silently}
use Rattle.ax_emit_x86.specs.Code.{homes_from}
use Rattle.ax_emit_x86.specs.Emitters.{AreReached, slot_of}
use Rattle.ax_emit_x86.specs.Slots.{x86_table}
use Rattle.ax_emit_x86.proofs.slots.push_puts.Given as goal

abbrev pub invariant-loop-k : goal.invariant-loop-k
invariant-loop-k l = record {
  reached : AreReached (drop l.k l.to);
  left : l.out.items ++ silently (puts_all x86_table (homes_from slot_of l.k (drop l.k l.to))) ≡ l.fn.out.items ++ silently (puts_all x86_table (homes_from slot_of 0 l.to));
}
