use Rattle.ax_lines.specs.Productions.{parameter}
use Rattle.ax_symbols.specs.Grammar.{reads, list}
use Rattle.ax_symbols.proofs.Commas.{list_ends, list_goes_on, list_smaller}
use Rattle.ax_lines.proofs.items.parameters.Goals as goal

pub returns-in_default-strip : goal.returns-in_default-strip
returns-in_default-strip c =
    rw c.in_ok-push.ensures.items (list_ends parameter c.loop-item.found.items c.loop-item.rest.now (reads (list parameter) c.args.line.now) c.in-Some.item c.in-Some.behind.now c.loop-item.invariant c.in-Some.ensures c.in_default-strip.ensures)

pub loop-item-preserved : goal.loop-item-preserved
loop-item-preserved c =
    rw c.in_ok-push.ensures.items (list_goes_on parameter c.loop-item.found.items c.loop-item.rest.now (reads (list parameter) c.args.line.now) c.in-Some.item c.in-Some.behind.now c.in-Some-strip.next.now c.loop-item.invariant c.in-Some.ensures c.in-Some-strip.ensures)

pub loop-item-smaller : goal.loop-item-smaller
loop-item-smaller c = list_smaller parameter c.loop-item.rest.now c.in-Some.item c.in-Some.behind.now c.in-Some-strip.next.now c.in-Some.ensures c.in-Some-strip.ensures
