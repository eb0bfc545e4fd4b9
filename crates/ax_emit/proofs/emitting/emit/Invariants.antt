use Rattle.std.proofs.Common.{◌≡◌, ◌++◌, drop}
use Rattle.ax_emit.specs.Passes.{place_end, placed, tags_of}
use Rattle.ax_emit.specs.Images.{code_in, draft}
use Rattle.ax_emit.proofs.emitting.emit.Given as goal

abbrev pub invariant-loop-line : goal.invariant-loop-line
invariant-loop-line g l =
    let size = g.E.LineEmitter.size_of l.emitter in
    let code_of = g.E.LineEmitter.code_of l.emitter in
    let places = placed l.places.items in
    record {
      code : l.code.items ++ code_in (draft size code_of places (drop l.line-index l.lines) l.start l.line-index) ≡ code_in (draft size code_of places l.lines 1 0);
      tags : l.tags.items ++ tags_of (draft size code_of places (drop l.line-index l.lines) l.start l.line-index) ≡ tags_of (draft size code_of places l.lines 1 0);
      end : place_end size l.start (drop l.line-index l.lines) ≡ place_end size 1 l.lines;
    }
