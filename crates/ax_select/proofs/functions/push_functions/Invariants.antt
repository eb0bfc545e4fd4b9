use Rattle.std.proofs.Common.{◌≡◌, drop}
use Rattle.ax_selected.specs.Selected.{functions_lines}
use Rattle.ax_select.proofs.Grown.{IsUpTo}
use Rattle.ax_select.proofs.functions.push_functions.Given as goal

abbrev pub invariant-loop-function : goal.invariant-loop-function
invariant-loop-function l = record {
  number : l.f ≡ l.function-index;
  code : IsUpTo l.fn.code l.code (functions_lines l.program l.f (drop l.function-index l.functions)) (functions_lines l.program 0 l.functions);
}
