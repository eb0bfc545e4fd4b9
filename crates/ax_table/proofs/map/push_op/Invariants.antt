use Rattle.std.proofs.Common.{◌≡◌, ◌++◌, drop, flat_map, string_bytes}
use Rattle.ax_table.specs.MapText.{lines_of_width}
use Rattle.ax_table.proofs.map.push_op.Given as goal

abbrev pub invariant-loop-width : goal.invariant-loop-width
invariant-loop-width l =
    string_bytes l.text ++ flat_map (lines_of_width l.t l.op) (drop l.width-index l.width-items) ≡ string_bytes l.initial.text ++ flat_map (lines_of_width l.t l.op) l.width-items
