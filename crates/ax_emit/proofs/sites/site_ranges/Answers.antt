use Rattle.std.proofs.Common.{ap, arith}
use Rattle.ax_emit.proofs.Passes.{drop_end, drop_is}
use Rattle.ax_emit.proofs.Ranges.{covered_all, covered_first, covered_next, in_places, place_rises}
use Rattle.ax_emit.proofs.sites.site_ranges.Goals as goal

pub loop-j-init : goal.loop-j-init
loop-j-init g c = covered_first c.args.lines.now c.args.places.now _ c.new-ranges.ensures.items

pub bounds-places-j : goal.bounds-places-j
bounds-places-j g c = let h = in_places c.requires.0 c.args.places.now c.args.lines.now c.loop-j.j c.requires.1 c.loop-j-test.true in omega (arith, h)

pub bounds-places-j-in-loop-j : goal.bounds-places-j-in-loop-j
bounds-places-j-in-loop-j g c = let h = in_places c.requires.0 c.args.places.now c.args.lines.now c.loop-j.j c.requires.1 c.loop-j-test.true in omega (arith, h)

pub cover-requires : goal.cover-requires
cover-requires g c = place_rises c.requires.0 c.args.places.now c.args.lines.now c.loop-j.j c.index-lines-j.result c.requires.1 c.loop-j-test.true c.index-lines-j.is

pub loop-j-preserved : goal.loop-j-preserved
loop-j-preserved g c =
    let lines = c.args.lines.now in
    let line = c.index-lines-j.result in
    let front = drop_is lines c.loop-j.j line c.loop-j-test.true c.index-lines-j.is in
    covered_next lines c.args.places.now c.loop-j.j line c.loop-j-test.true c.index-lines-j.is front c.loop-j.ranges.items c.cover.new.ranges.items c.loop-j.current c.in_ok-current.current (λ rest. c.in_ok-current.ensures rest) c.loop-j.invariant

pub returns : goal.returns
returns g c =
    let lines = c.args.lines.now in
    covered_all lines c.args.places.now c.loop-j.j (drop_end lines c.loop-j.j c.loop-j-test.false) c.loop-j.ranges.items c.close.new.ranges.items c.loop-j.current c.in_ok-close.ensures c.loop-j.invariant
