use Rattle.std.proofs.Common.{◌≡◌, ◌++◌, drop}
use Rattle.ax_scope.specs.Module.{globals_in}
use Rattle.ax_scope.proofs.global.globals_in.Given as goal

abbrev pub invariant-loop-line : goal.invariant-loop-line
invariant-loop-line l = l.globals.items ++ globals_in l.text (drop l.line-index l.lines) ≡ globals_in l.text l.lines
