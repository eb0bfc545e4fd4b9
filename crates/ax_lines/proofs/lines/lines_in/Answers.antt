use Rattle.std.proofs.Common.{◌≡◌, length, [], sym, subst, rules}
use Rattle.std.specs.List.{slice_split}
use Rattle.std.proofs.lemmas.Option.{MatchOption-at_none, MatchOption-at_some}
use Rattle.ax_lines.specs.declared.statement.Section.TheVariants as section
use Rattle.ax_symbols.specs.Symbols.{is_feed}
use Rattle.ax_lines.specs.Lines.{IsSyntax, InPlace}
use Rattle.ax_lines.proofs.Places.{Walked, has_first, walk_stops, walk_goes_on, walk_open, walk_ends}
use Rattle.ax_lines.proofs.lines.lines_in.Goals as goal

pub returns-in-Err-clause-fault : goal.returns-in-Err-clause-fault
returns-in-Err-clause-fault c =
    let f = has_first c.loop-line.rest.now c.first_line.result.0.now c.first_line.result.1 c.first_line.ensures in
    let e : c.len.result ≡ length c.loop-line.lines.items = search rules in
    walk_stops (slice_split is_feed c.args.symbols.now) c.loop-line.lines.items c.loop-line.place (slice_split is_feed c.loop-line.rest.now) c.first_line.result.0.now f.0 c.in-Err.fault c.loop-line.invariant f.1 (rw (← e) c.in-Err.ensures)

pub returns-in_default-clause-fault : goal.returns-in_default-clause-fault
returns-in_default-clause-fault c =
    let ls = slice_split is_feed c.args.symbols.now in
    let f = MatchOption-at_none _ _ c.in_default.is c.first_line.ensures in
    let w = walk_goes_on ls c.loop-line.lines.items c.loop-line.place (slice_split is_feed c.loop-line.rest.now) c.first_line.result.0.now [] c.in-Ok.line c.loop-line.invariant f c.in-Ok.ensures in
    let w2 : Walked ls c.push.new.self.items c.section_after-place.result [] = rw (c.in_ok-push.ensures.items, c.section_after-place.ensures) w in
    let e : c.len-in_default.result ≡ length c.push.new.self.items = search rules in
    subst (λ n. IsSyntax ls n) (sym e) (walk_open ls c.push.new.self.items c.section_after-place.result w2 (c.if-is_outside.ensures {u = tt}))

pub returns-then-is_outside-clause-all : goal.returns-then-is_outside-clause-all
returns-then-is_outside-clause-all c =
    let ls = slice_split is_feed c.args.symbols.now in
    let f = MatchOption-at_none _ _ c.in_default.is c.first_line.ensures in
    let w = walk_goes_on ls c.loop-line.lines.items c.loop-line.place (slice_split is_feed c.loop-line.rest.now) c.first_line.result.0.now [] c.in-Ok.line c.loop-line.invariant f c.in-Ok.ensures in
    let w2 : Walked ls c.push.new.self.items c.section_after-place.result [] = rw (c.in_ok-push.ensures.items, c.section_after-place.ensures) w in
    subst (λ p. InPlace section.Outside ls c.push.new.self.items p) (c.if-is_outside.ensures {u = tt}) (walk_ends ls c.push.new.self.items c.section_after-place.result w2)

pub loop-line-preserved : goal.loop-line-preserved
loop-line-preserved c =
    let ls = slice_split is_feed c.args.symbols.now in
    let f = MatchOption-at_some _ _ c.in-Some.next c.in-Some.is c.first_line.ensures in
    rw (c.in_ok-push.ensures.items, c.section_after-place.ensures) (walk_goes_on ls c.loop-line.lines.items c.loop-line.place (slice_split is_feed c.loop-line.rest.now) c.first_line.result.0.now (slice_split is_feed c.in-Some.next.now) c.in-Ok.line c.loop-line.invariant f.0 c.in-Ok.ensures)
