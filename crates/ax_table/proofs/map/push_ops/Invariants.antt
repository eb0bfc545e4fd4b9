use Rattle.std.proofs.Common.{◌≡◌, ◌++◌, drop, flat_map, string_bytes}
use Rattle.ax_table.specs.MapText.{lines_of_op}
use Rattle.ax_table.proofs.map.push_ops.Given as goal

abbrev pub invariant-loop-op : goal.invariant-loop-op
invariant-loop-op l =
    string_bytes l.text ++ flat_map (lines_of_op l.t) (drop l.op-index l.ops) ≡ string_bytes l.initial.text ++ flat_map (lines_of_op l.t) l.ops
