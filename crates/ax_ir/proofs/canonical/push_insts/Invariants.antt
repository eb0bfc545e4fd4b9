use Rattle.std.proofs.Common.{◌≡◌, ◌+◌, ◌++◌, drop, flat_map, string_bytes}
use Rattle.ax_ir.specs.Canonical.{line_text, inst_lines}
use Rattle.ax_ir.proofs.canonical.push_insts.Given as goal

abbrev pub invariant-loop-i : goal.invariant-loop-i
invariant-loop-i l =
    string_bytes l.text ++ flat_map line_text (inst_lines l.names (l.n + l.i) (drop l.i l.insts)) ≡ string_bytes l.initial.text ++ flat_map line_text (inst_lines l.names l.n l.insts)
