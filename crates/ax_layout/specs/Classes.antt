-- Which objects are native on a target.
use Rattle.std.specs.Prelude.{ℕ, ◌%◌, ◌&&◌, nat_le, nat_eq, if◌then◌else◌}
use Rattle.ax_target.specs.declared.target.Target.{Target}
use Rattle.ax_target.specs.Targets.{greatest_native}
use Rattle.ax_layout.specs.declared.classes.Class.{Class}
use Rattle.ax_layout.specs.declared.classes.Class.TheVariants.{Native, Locked}

-- the class of an object of so many bytes at an address
abbrev pub class_of : ℕ → ℕ → Target → Class
class_of address bytes target =
    if nat_le bytes (greatest_native target) && nat_eq (address % bytes) 0 then Native else Locked
