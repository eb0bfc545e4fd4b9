use Rattle.std.proofs.Common.{◌≡◌, ◌++◌, drop, flat_map, string_bytes}
use Rattle.ax_table.specs.MapText.{line_if_legal}
use Rattle.ax_table.proofs.map.push_width.Given as goal

abbrev pub invariant-loop-order : goal.invariant-loop-order
invariant-loop-order l =
    string_bytes l.text ++ flat_map (line_if_legal l.t l.op l.width l.way) (drop l.order-index l.order-items) ≡ string_bytes l.initial.text ++ flat_map (line_if_legal l.t l.op l.width l.way) l.order-items
