use Rattle.std.proofs.Common.{◌≡◌, ◌++◌, take, flat_map, string_bytes}
use Rattle.ax_print.specs.Report.{output_line}
use Rattle.ax_print.proofs.report.push_outputs.Given as goal

abbrev pub invariant-loop-p : goal.invariant-loop-p
invariant-loop-p l = string_bytes l.out ≡ string_bytes l.initial.out ++ flat_map output_line (take l.p-index l.outputs)
