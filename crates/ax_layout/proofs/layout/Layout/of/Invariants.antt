use Rattle.std.proofs.Common.{◌≡◌, ◌++◌, drop}
use Rattle.std.specs.Prelude.{All}
use Rattle.ax_layout.specs.LayoutState.{IsInReach}
use Rattle.ax_map.specs.Map.{globals_start}
use Rattle.ax_layout.specs.Layout.{spans_after, end_after}
use Rattle.ax_layout.proofs.layout.Layout.of.Given as goal

abbrev pub invariant-loop-global : goal.invariant-loop-global
invariant-loop-global l = record {
  spans : l.spans.items ++ spans_after l.end (drop l.global-index l.fn.m.globals) ≡ spans_after globals_start l.fn.m.globals;
  end : end_after l.end (drop l.global-index l.fn.m.globals) ≡ end_after globals_start l.fn.m.globals;
  reach : All IsInReach l.spans.items;
}
