use Rattle.std.proofs.Common.{◌≡◌, ◌++◌, drop}
use Rattle.ax_selected.specs.Selected.{globals_from}
use Rattle.ax_select.proofs.globals.mid_globals.Given as goal

abbrev pub invariant-loop-global : goal.invariant-loop-global
invariant-loop-global l = record {
  number : l.g ≡ l.global-index;
  made : l.made.items ++ globals_from l.a l.global-index (drop l.global-index l.a.layout.spans) ≡ globals_from l.a 0 l.a.layout.spans;
}
