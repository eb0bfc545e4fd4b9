use Rattle.std.proofs.Common.{◌≡◌, ◌≤◌, drop}
use Rattle.ax_lex.specs.Numbers.{number_from}
use Rattle.ax_lex.proofs.number.number_from.Given as goal

abbrev pub invariant-loop-b : goal.invariant-loop-b
invariant-loop-b l =
    record {
      number : number_from l.most l.value (drop l.b-index l.digits) ≡ number_from l.most 0 l.digits;
      within : l.value ≤ l.most;
    }
