use Rattle.std.proofs.Common.{◌≡◌, ◌++◌, drop}
use Rattle.ax_emit.specs.Passes.{place_end, places_from}
use Rattle.ax_emit.proofs.emitting.places_of.Given as goal

abbrev pub invariant-loop-line : goal.invariant-loop-line
invariant-loop-line g l =
    let size = g.E.LineEmitter.size_of l.emitter in
    record {
      places : l.places.items ++ places_from size l.place (drop l.line-index l.lines) ≡ places_from size 1 l.lines;
      end : place_end size l.place (drop l.line-index l.lines) ≡ place_end size 1 l.lines;
    }
