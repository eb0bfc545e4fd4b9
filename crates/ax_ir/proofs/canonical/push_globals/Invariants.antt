use Rattle.std.proofs.Common.{◌≡◌, ◌++◌, drop, map, flat_map, string_bytes}
use Rattle.ax_ir.specs.Canonical.{line_text, global_line}
use Rattle.ax_ir.proofs.canonical.push_globals.Given as goal

abbrev pub invariant-loop-global : goal.invariant-loop-global
invariant-loop-global l =
    string_bytes l.text ++ flat_map line_text (map global_line (drop l.global-index l.globals)) ≡ string_bytes l.initial.text ++ flat_map line_text (map global_line l.globals)
