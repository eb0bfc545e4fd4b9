use Rattle.std.proofs.Common.{◌≡◌, ◌++◌, drop, string_bytes}
use Rattle.ax_print.specs.Assembly.{entry_lines}
use Rattle.ax_print.proofs.assembly.push_entries.Given as goal

abbrev pub invariant-loop-f : goal.invariant-loop-f
invariant-loop-f l =
    string_bytes l.out ++ entry_lines l.mark l.entries l.frames l.f (drop l.f l.names) ≡ string_bytes l.initial.out ++ entry_lines l.mark l.entries l.frames 0 l.names
