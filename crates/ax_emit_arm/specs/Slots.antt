-- Slots of a frame on AArch64. Register 31 is the stack pointer. A load or store has no distance below its base, so register 29 gets the address of a slot right before each access to it.
use Rattle.std.specs.Prelude.{ℕ, ◌+◌, ◌*◌, Bool, nat_lt, List, [], ◌∷◌, ◌++◌}
use Rattle.ax_arm.specs.declared.instructions.Alu.TheVariants.{Sub}
use Rattle.ax_arm.specs.declared.instructions.ArmInstr.{ArmInstr}
use Rattle.ax_arm.specs.declared.instructions.ArmInstr.TheVariants.{Alu, Constant, Ldr, Str}
use Rattle.ax_arm.specs.declared.instructions.Size.TheVariants.{Double}
use Rattle.ax_emit.specs.Table.{Table}

-- registers for numbers: not that of slots, the link register, and the stack pointer
abbrev pub is_usable : ℕ → Bool
is_usable t = nat_lt t 29

-- slot r lies 8 * (r + 1) bytes below the stack pointer
abbrev pub slot_address : ℕ → List ArmInstr
slot_address r = Constant 29 (8 * (r + 1)) ∷ Alu Sub 29 31 29 ∷ []

-- register t gets the number of slot r
abbrev pub get : ℕ → ℕ → List ArmInstr
get t r = slot_address r ++ Ldr Double t 29 0 ∷ []

-- slot r gets that of register t
abbrev pub put_first : ℕ → ℕ → List ArmInstr
put_first r t = slot_address r

abbrev pub put_last : ℕ → ℕ → ArmInstr
put_last r t = Str Double t 29 0

abbrev pub arm_table : Table ArmInstr
arm_table = record { stack = 31; via = 29; usable = is_usable; get = get; put_first = put_first; put_last = put_last }
