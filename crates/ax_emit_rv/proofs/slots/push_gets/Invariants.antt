use Rattle.std.proofs.Common.{◌≡◌, ◌+◌, ◌++◌, drop}
use Rattle.ax_emit.specs.Atomics.{gets_all}
use Rattle.ax_expand.specs.Standing.{silently}
use Rattle.ax_emit_rv.specs.Code.{homes_from}
use Rattle.ax_emit_rv.specs.Emitters.{slot_of}
use Rattle.ax_emit_rv.specs.Slots.{rv_table}
use Rattle.ax_emit_rv.proofs.slots.push_gets.Given as goal

abbrev pub invariant-loop-register : goal.invariant-loop-register
invariant-loop-register l = record {
  number : l.rd ≡ l.fn.first + l.register-index;
  left : l.out.items ++ silently (gets_all rv_table (homes_from slot_of l.rd (drop l.register-index l.from))) ≡ l.fn.out.items ++ silently (gets_all rv_table (homes_from slot_of l.fn.first l.from));
}
