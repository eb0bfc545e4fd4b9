use Rattle.std.proofs.Common.{◌≡◌, ap, arith, refl}
use Rattle.std.specs.Prelude.{◌+◌, ◌<◌, ◌^◌}
use Rattle.ax_emit.proofs.Passes.{drop_is, end_goes_on, is_there, next_fits, places_go_on}
use Rattle.ax_emit.proofs.emitting.places_of.Goals as goal

pub size-requires : goal.size-requires
size-requires g c =
    let size = g.E.LineEmitter.size_of c.args.emitter.now in
    let line = c.line-item.result in
    let i = c.loop-line.line-index in
    let at = is_there c.args.lines.now i line c.loop-line-test.true c.line-item.is in
    let front = drop_is c.args.lines.now i line c.loop-line-test.true c.line-item.is in
    let fits : c.loop-line.place + size line < 2 ^ 31 = next_fits size c.loop-line.place i line c.args.lines.now front _ (size line) refl c.loop-line.invariant.end c.requires.few in
    record { taken = c.requires.taken i line at; sized = c.requires.sized i line at; small = omega (arith, fits) }

pub overflow_add-place : goal.overflow_add-place
overflow_add-place g c =
    let size = g.E.LineEmitter.size_of c.args.emitter.now in
    let line = c.line-item.result in
    let front = drop_is c.args.lines.now c.loop-line.line-index line c.loop-line-test.true c.line-item.is in
    let fits = next_fits size c.loop-line.place c.loop-line.line-index line c.args.lines.now front _ c.in_ok-count.count c.in_ok-count.ensures c.loop-line.invariant.end c.requires.few in
    omega (arith, fits)

pub loop-line-preserved : goal.loop-line-preserved
loop-line-preserved g c =
    let size = g.E.LineEmitter.size_of c.args.emitter.now in
    let line = c.line-item.result in
    let at = c.loop-line.place in
    let i = c.loop-line.line-index in
    let front = drop_is c.args.lines.now i line c.loop-line-test.true c.line-item.is in
    let next : at + c.in_ok-count.count ≡ at + size line = ap (λ q. at + q) c.in_ok-count.ensures in
    record {
      places = places_go_on size at i line c.args.lines.now front _ c.loop-line.places.items _ _ c.in_ok-push.ensures.items next c.loop-line.invariant.places;
      end = end_goes_on size at i line c.args.lines.now front _ _ next c.loop-line.invariant.end;
    }
