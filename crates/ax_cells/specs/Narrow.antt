-- Types whose numbers have at most 128 bits.
use Rattle.std.specs.Prelude.{Bool, ◌&&◌, ◌||◌, length, nat_eq, nat_le}
use Rattle.ax_module.specs.declared.module.Global.{Global}
use Rattle.ax_module.specs.declared.types.Ty.{Ty}
use Rattle.ax_source_run.specs.SourceValues.{type_bits}

-- at most 128 bits
abbrev pub is_narrow : Ty → Bool
is_narrow ty = nat_le (type_bits ty) 128

-- a global's type, and a constant for each element or none
abbrev pub is_narrow_global : Global → Bool
is_narrow_global global = is_narrow global.elem && (nat_eq (length global.init) 0 || nat_eq (length global.init) global.count)
