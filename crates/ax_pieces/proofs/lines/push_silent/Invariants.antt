use Rattle.std.proofs.Common.{◌≡◌, map}
use Rattle.std.specs.Array.Iter.{array_into_iter_items}
use Rattle.ax_mid.specs.Built.{pushed}
use Rattle.ax_selected.specs.Selected.{silent}
use Rattle.ax_pieces.proofs.lines.push_silent.Given as goal

abbrev pub invariant-loop-inst : goal.invariant-loop-inst
invariant-loop-inst g l =
    pushed (map (silent l.site.function l.site.instruction) (array_into_iter_items l.inst-iterator)) l.code
    ≡ pushed (map (silent l.site.function l.site.instruction) (array_into_iter_items l.initial.inst-iterator)) l.fn.code
