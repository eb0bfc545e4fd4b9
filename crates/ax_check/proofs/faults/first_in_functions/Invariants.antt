use Rattle.std.proofs.Common.{◌≤◌, Option, drop}
use Rattle.ax_check.specs.declared.refusal.Refusal.{Refusal}
use Rattle.ax_check.specs.Faults.{FirstInFunctions}
use Rattle.ax_check.proofs.faults.first_in_functions.Given as goal

abbrev pub invariant-loop-k : goal.invariant-loop-k
invariant-loop-k l =
    record {
      few : l.k ≤ 64;
      first : (r : Option Refusal) → FirstInFunctions l.m l.t l.k (drop l.k l.m.functions) r → FirstInFunctions l.m l.t 0 l.m.functions r;
    }
