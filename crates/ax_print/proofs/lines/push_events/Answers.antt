use Rattle.std.proofs.Common.{◌<◌, length, arith, sym, ◌∙◌, ap, string_bytes}
use Rattle.ax_print.proofs.Runs.{step_same, step_other}
use Rattle.ax_print.proofs.lines.push_events.Goals as goal
use Rattle.ax_print.proofs.lines.push_events.Goals.{then-is_same, else-is_same+in_ok-push_run}

pub loop-event-preserved : goal.loop-event-preserved
loop-event-preserved g c =
    let f = g.E.Traced.token_of in
    let xs = c.in-Some.rest.now in
    let i = c.loop-event.event-index in
    let inside : i < length xs = omega arith in
    let same = step_same f xs i c.event-item.result c.token-next.result inside c.event-item.is c.token-next.ensures c.args.word.now in
    let other = step_other f xs i c.event-item.result c.token-next.result inside c.event-item.is c.token-next.ensures c.args.word.now in
    elim c.if-is_same.branch [
      | then-is_same w ↦
          record {
            runs = omega arith;
            count = omega arith;
            text = same _ _ _ _ _ _ _ _ (sym c.is_same.ensures ∙ w.if-is_same.true) (ap string_bytes w.out-is) w.written-is w.count-is w.token-is ∙ c.loop-event.invariant.text;
          }
      | else-is_same+in_ok-push_run w ↦
          record {
            runs = omega arith;
            count = omega arith;
            text = other _ _ _ _ _ _ _ _ (sym c.is_same.ensures ∙ w.if-is_same.false) (ap string_bytes w.out-is ∙ w.in_ok-push_run.ensures) w.written-is w.count-is w.token-is ∙ c.loop-event.invariant.text;
          }
    ]
