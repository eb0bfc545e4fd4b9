use Rattle.std.proofs.Common.{◌≡◌, ◌++◌, drop, flat_map, string_bytes}
use Rattle.ax_ir.specs.Canonical.{line_text, function_lines}
use Rattle.ax_ir.proofs.canonical.push_functions.Given as goal

abbrev pub invariant-loop-function : goal.invariant-loop-function
invariant-loop-function l =
    string_bytes l.text ++ flat_map line_text (flat_map (function_lines l.names) (drop l.function-index l.functions)) ≡ string_bytes l.initial.text ++ flat_map line_text (flat_map (function_lines l.names) l.functions)
