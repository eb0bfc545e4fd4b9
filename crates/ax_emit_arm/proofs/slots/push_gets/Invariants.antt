use Rattle.std.proofs.Common.{◌≡◌, ◌+◌, ◌++◌, drop}
use Rattle.ax_emit.specs.Atomics.{gets_all}
use Rattle.ax_expand.specs.Standing.{silently}
use Rattle.ax_emit_arm.specs.Code.{homes_from}
use Rattle.ax_emit_arm.specs.Emitters.{slot_of}
use Rattle.ax_emit_arm.specs.Slots.{arm_table}
use Rattle.ax_emit_arm.proofs.slots.push_gets.Given as goal

abbrev pub invariant-loop-register : goal.invariant-loop-register
invariant-loop-register l = record {
  number : l.rt ≡ l.fn.first + l.register-index;
  left : l.out.items ++ silently (gets_all arm_table (homes_from slot_of l.rt (drop l.register-index l.from))) ≡ l.fn.out.items ++ silently (gets_all arm_table (homes_from slot_of l.fn.first l.from));
}
