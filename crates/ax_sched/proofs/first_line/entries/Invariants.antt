use Rattle.std.proofs.Common.{◌≡◌, [], drop, length, map}
use Rattle.ax_sched.specs.Reading.{entries_from}
use Rattle.ax_sched.proofs.first_line.entries.Given as goal

abbrev pub invariant-loop-name : goal.invariant-loop-name
invariant-loop-name l = record {
  count : length l.entries.items ≡ l.name-index;
  read : entries_from (map (λ f. f.name) l.functions) l.entries.items (map (λ w. w.now) (drop l.name-index l.names)) ≡ entries_from (map (λ f. f.name) l.functions) [] (map (λ w. w.now) l.names);
}
