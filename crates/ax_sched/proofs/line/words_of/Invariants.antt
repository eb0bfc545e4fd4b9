use Rattle.std.proofs.Common.{◌≡◌, ◌≤◌, ◌-◌, ◌++◌, take, drop, map}
use Rattle.ax_sched.specs.Reading.{words_from}
use Rattle.ax_sched.specs.Lines.{words_of}
use Rattle.ax_sched.proofs.line.words_of.Given as goal

abbrev pub invariant-loop-i : goal.invariant-loop-i
invariant-loop-i l = record {
  within : l.start ≤ l.i;
  read : map (λ x. x.now) l.words.items ++ words_from (take (l.i - l.start) (drop l.start l.line)) l.quoted (drop l.i l.line) ≡ words_of l.line;
}
