-- Operands that name one of the 2,048 instructions that a function has at most.
use Rattle.std.specs.Prelude.{◌<◌}
use Rattle.ax_module.specs.declared.operand.Operand.{Operand}
use Rattle.ax_module.specs.declared.operand.Operand.TheVariants as operand

abbrev pub IsNear : Operand → Type 0
IsNear (operand.Value k) = k < 2048
IsNear (operand.Const n) = Unit {0}
IsNear (operand.Wide n) = Unit {0}
IsNear (operand.Param k) = Unit {0}
