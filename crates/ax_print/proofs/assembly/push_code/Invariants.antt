use Rattle.std.proofs.Common.{◌≡◌, ◌++◌, drop, string_bytes}
use Rattle.ax_print.specs.Assembly.{instr_lines}
use Rattle.ax_print.proofs.assembly.push_code.Given as goal

abbrev pub invariant-loop-k : goal.invariant-loop-k
invariant-loop-k g l =
    string_bytes l.out ++ instr_lines g.I.Spelled.instr_text l.target l.tags l.k (drop l.k l.code) ≡ string_bytes l.initial.out ++ instr_lines g.I.Spelled.instr_text l.target l.tags 0 l.code
