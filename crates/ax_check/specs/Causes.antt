-- Why a module is not accepted.
use Rattle.std.specs.Prelude.{Some}
use Rattle.ax_module.specs.declared.module.Module.{Module}
use Rattle.ax_target.specs.declared.target.Target.{Target}
use Rattle.ax_check.specs.declared.refusal.CheckFault.{CheckFault}
use Rattle.ax_check.specs.declared.refusal.CheckFault.TheVariants.{Refused, Memory}
use Rattle.ax_check.specs.Faults.{IsFirstOfFaults, FirstFault}

-- a refusal is the first of the list of faults; want of memory says nothing
abbrev pub IsCause : Module → Target → CheckFault → Type 0
IsCause m t (Refused r) = IsFirstOfFaults m t (Some r)
IsCause m t Memory = Unit {0}

-- the same of the first fault by itself
abbrev pub IsFirstCause : Module → Target → CheckFault → Type 0
IsFirstCause m t (Refused r) = FirstFault m t (Some r)
IsFirstCause m t Memory = Unit {0}
