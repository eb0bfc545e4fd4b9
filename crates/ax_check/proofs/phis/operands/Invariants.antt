use Rattle.std.proofs.Common.{ℕ, ◌<◌, ◌≡◌, slice_index_or, length, None, Some, Contains}
use Rattle.ax_module.specs.declared.operand.Operand.{Operand}
use Rattle.ax_check.proofs.phis.operands.Given as goal

abbrev pub invariant-loop-operand : goal.invariant-loop-operand
invariant-loop-operand l =
    record {
      long : length l.table.items ≡ l.blocks;
      held : (k : ℕ) (d : Operand × ℕ) → k < l.operand-index → slice_index_or l.table.items (slice_index_or l.entries k d).1 None ≡ Some (slice_index_or l.entries k d).0;
      named : (p : ℕ) (x : Operand) → slice_index_or l.table.items p None ≡ Some x → Contains l.entries (x, p);
    }
