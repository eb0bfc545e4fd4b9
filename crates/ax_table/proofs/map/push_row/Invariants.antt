use Rattle.std.proofs.Common.{◌≡◌, ◌++◌, drop, codes, flat_map, string_bytes}
use Rattle.ax_table.specs.MarkText.{mark_text}
use Rattle.ax_table.proofs.map.push_row.Given as goal

abbrev pub invariant-loop-mark : goal.invariant-loop-mark
invariant-loop-mark l =
    string_bytes l.text ++ flat_map (λ m. codes "; " ++ mark_text m) (drop l.mark-index l.rest) ≡ string_bytes l.initial.text ++ flat_map (λ m. codes "; " ++ mark_text m) l.rest
