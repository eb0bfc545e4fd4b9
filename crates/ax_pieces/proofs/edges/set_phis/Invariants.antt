use Rattle.std.proofs.Common.{◌≡◌, ◌+◌, drop, map}
use Rattle.ax_mid.specs.Built.{pushed}
use Rattle.ax_selected.specs.Edges.{set_phis}
use Rattle.ax_selected.specs.Selected.{silent}
use Rattle.ax_pieces.proofs.edges.set_phis.Given as goal

abbrev pub invariant-loop-inst : goal.invariant-loop-inst
invariant-loop-inst l = record {
  number : l.k ≡ l.first + l.inst-index;
  left : pushed (map (silent l.site.function l.site.instruction) (set_phis l.k (drop l.inst-index l.insts))) l.code ≡ pushed (map (silent l.site.function l.site.instruction) (set_phis l.first l.insts)) l.fn.code;
}
