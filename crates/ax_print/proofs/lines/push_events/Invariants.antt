use Rattle.std.proofs.Common.{◌≡◌, ◌+◌, ◌≤◌, ◌++◌, map, drop, string_bytes}
use Rattle.ax_print.specs.Lines.{joined, runs_of, lines_from}
use Rattle.ax_print.proofs.lines.push_events.Given as goal

abbrev pub invariant-loop-event : goal.invariant-loop-event
invariant-loop-event g l =
    record {
      runs : l.written ≤ l.event-index;
      count : l.count ≤ l.event-index + 1;
      text : string_bytes l.out ++ lines_from l.word l.written (joined l.token l.count (runs_of (map g.E.Traced.token_of (drop l.event-index l.rest)))) ≡ string_bytes l.initial.out ++ lines_from l.word 0 (joined l.initial.token 1 (runs_of (map g.E.Traced.token_of l.rest)));
    }
