-- What the first fault of a module says of its list of faults.
use Rattle.std.proofs.Common.{◌≡◌, Some, None}
use Rattle.ax_module.specs.declared.module.Module.{Module}
use Rattle.ax_module.specs.WellFormed.{IsModule}
use Rattle.ax_target.specs.declared.target.Target.{Target}
use Rattle.ax_layout.specs.Layout.{LayoutState, layout_of}
use Rattle.ax_check.specs.declared.refusal.CheckFault.{CheckFault}
use Rattle.ax_check.specs.declared.refusal.CheckFault.TheVariants.{Refused, Memory}
use Rattle.ax_check.specs.Accepted.{IsAccepted}
use Rattle.ax_check.specs.Causes.{IsCause, IsFirstCause}
use Rattle.ax_check.specs.Faults.{FirstFault}
use Rattle.ax_check.proofs.Total.{empty_list, first_of_list}

pub cause : (m : Module) (t : Target) (fault : CheckFault) → IsModule m → IsFirstCause m t fault → IsCause m t fault
cause m t (Refused r) w h = first_of_list m t (Some r) w h
cause m t Memory w h = tt

pub accepted : (m : Module) (t : Target) (layout : LayoutState) → IsModule m → FirstFault m t None → layout ≡ layout_of m → IsAccepted (record { source = m; layout = layout; target = t })
accepted m t layout w h e = record { formed = w; faults = empty_list m t h; layout = e }
