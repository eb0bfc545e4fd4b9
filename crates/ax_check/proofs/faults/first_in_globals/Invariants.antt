use Rattle.std.proofs.Common.{◌≡◌, ◌≤◌, Option, drop}
use Rattle.ax_target.specs.declared.target.Target.{Target}
use Rattle.ax_access_rules.specs.RulesAtPoints.{has_fault_from}
use Rattle.ax_check.specs.declared.refusal.Refusal.{Refusal}
use Rattle.ax_check.specs.Faults.{FirstInGlobals}
use Rattle.ax_check.proofs.faults.first_in_globals.Given as goal

abbrev pub invariant-loop-g : goal.invariant-loop-g
invariant-loop-g l =
    record {
      few : l.g ≤ 256;
      fine : has_fault_from l.m l.g (drop l.g l.m.globals) ≡ has_fault_from l.m 0 l.m.globals;
      first : (t : Target) (r : Option Refusal) → FirstInGlobals l.m t l.g (drop l.g l.m.globals) r → FirstInGlobals l.m t 0 l.m.globals r;
    }
