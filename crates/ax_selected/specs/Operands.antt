-- Lines that bring operands into registers.
use Rattle.std.specs.Prelude.{ℕ, ◌/◌, ◌%◌, ◌^◌, Bool, nat_le}
use Rattle.ax_module.specs.declared.operand.Operand.{Operand}
use Rattle.ax_module.specs.declared.operand.Operand.TheVariants as operand
use Rattle.ax_module.specs.declared.types.Ty.{Ty}
use Rattle.ax_source_run.specs.SourceState.{Number}
use Rattle.ax_source_run.specs.SourceValues.{operand_of, type_bits}
use Rattle.ax_mid.specs.declared.instruction.MidInst.{MidInst}
use Rattle.ax_mid.specs.declared.instruction.MidInst.TheVariants as mid
use Rattle.ax_mid.specs.declared.registers.Virtual.{Virtual}
use Rattle.ax_selected.specs.Registers.{high_of, low_of, virtual}

-- the number of an operand that is no result
abbrev pub constant_of : Ty → Operand → ℕ
constant_of ty v = operand_of ty v (λ k. Number 0)

-- the low half of an operand, into register r
abbrev pub low_into : ℕ → Ty → Operand → MidInst Virtual
low_into r ty (operand.Value k) = mid.Copy (virtual r) (virtual (low_of k))
low_into r ty (operand.Const n) = mid.Const (virtual r) (constant_of ty (operand.Const n) % 2 ^ 64)
low_into r ty (operand.Wide n) = mid.Const (virtual r) (constant_of ty (operand.Wide n) % 2 ^ 64)
low_into r ty (operand.Param k) = mid.Const (virtual r) 0

abbrev pub high_into : ℕ → Ty → Operand → MidInst Virtual
high_into r ty (operand.Value k) = mid.Copy (virtual r) (virtual (high_of k))
high_into r ty (operand.Const n) = mid.Const (virtual r) (constant_of ty (operand.Const n) / 2 ^ 64)
high_into r ty (operand.Wide n) = mid.Const (virtual r) (constant_of ty (operand.Wide n) / 2 ^ 64)
high_into r ty (operand.Param k) = mid.Const (virtual r) 0

-- whether a number of a type fits one register
abbrev pub is_narrow : Ty → Bool
is_narrow ty = nat_le (type_bits ty) 64
