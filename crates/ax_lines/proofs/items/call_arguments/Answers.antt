use Rattle.ax_lines.specs.Productions.{call_argument}
use Rattle.ax_symbols.specs.Grammar.{reads, list}
use Rattle.ax_symbols.proofs.Commas.{list_ends, list_goes_on, list_smaller}
use Rattle.ax_lines.proofs.items.call_arguments.Goals as goal

pub returns-in_default-strip : goal.returns-in_default-strip
returns-in_default-strip c =
    rw c.in_ok-push.ensures.items (list_ends call_argument c.loop-item.found.items c.loop-item.rest.now (reads (list call_argument) c.args.line.now) c.in-Some.item c.in-Some.behind.now c.loop-item.invariant c.in-Some.ensures c.in_default-strip.ensures)

pub loop-item-preserved : goal.loop-item-preserved
loop-item-preserved c =
    rw c.in_ok-push.ensures.items (list_goes_on call_argument c.loop-item.found.items c.loop-item.rest.now (reads (list call_argument) c.args.line.now) c.in-Some.item c.in-Some.behind.now c.in-Some-strip.next.now c.loop-item.invariant c.in-Some.ensures c.in-Some-strip.ensures)

pub loop-item-smaller : goal.loop-item-smaller
loop-item-smaller c = list_smaller call_argument c.loop-item.rest.now c.in-Some.item c.in-Some.behind.now c.in-Some-strip.next.now c.in-Some.ensures c.in-Some-strip.ensures
