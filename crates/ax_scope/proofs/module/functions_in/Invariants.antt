use Rattle.std.proofs.Common.{◌≡◌, ◌+◌, ◌^◌, ◌<◌, ◌++◌, [], None, length, All}
use Rattle.ax_lines.specs.Lines.{param_count}
use Rattle.ax_scope.specs.NameTable.{look}
use Rattle.ax_scope.specs.Answers.{first_fault}
use Rattle.ax_scope.specs.Faults.{faults_from}
use Rattle.ax_scope.specs.Module.{functions_in}
use Rattle.ax_scope.proofs.module.functions_in.Given as goal

abbrev pub invariant-loop-rest : goal.invariant-loop-rest
invariant-loop-rest l = record {
  built : l.functions.items ++ functions_in l.text (look l.globals) l.rest ≡ functions_in l.text (look l.globals) l.lines;
  found : first_fault l.number (faults_from l.text (look l.globals) l.names None l.rest) ≡ first_fault 1 (faults_from l.text (look l.globals) [] None l.lines);
  few : All (λ x. param_count x < 2 ^ 32) l.rest;
  counts : l.number + length l.rest ≡ length l.lines + 1;
}

abbrev pub decreases-loop-rest : goal.decreases-loop-rest
decreases-loop-rest l = length l.rest
