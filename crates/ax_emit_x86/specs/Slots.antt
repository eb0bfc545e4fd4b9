-- Slots of a frame on x86-64, below the stack pointer rsp, which is register 4.
use Rattle.std.specs.Prelude.{ℕ, ◌+◌, ◌-◌, ◌*◌, ◌^◌, Bool, not, ◌&&◌, nat_eq, nat_lt, ℤ, negsuc, List, [], ◌∷◌}
use Rattle.ax_x86.specs.declared.instructions.MemoryOperand.{MemoryOperand}
use Rattle.ax_x86.specs.declared.instructions.Size.TheVariants.{Quad}
use Rattle.ax_x86.specs.declared.instructions.X86Instr.{X86Instr}
use Rattle.ax_x86.specs.declared.instructions.X86Instr.TheVariants.{Load, Store}
use Rattle.ax_emit.specs.Table.{Table}

-- registers for numbers: all of the 16 but the stack pointer, and r15, which no code of a line touches
abbrev pub is_usable : ℕ → Bool
is_usable t = nat_lt t 15 && not (nat_eq t 4)

-- so many slots are reached by a displacement of 32 bits
abbrev pub reached_slots : ℕ
reached_slots = 2 ^ 28

-- slot r lies 8 * (r + 1) bytes below the stack pointer
abbrev pub below : ℕ → ℤ
below r = negsuc (8 * r + 7)

abbrev pub slot_operand : ℕ → MemoryOperand
slot_operand r = record { displacement = below r; base = 4 }

-- a number down from another
abbrev pub down : ℕ → ℕ
down n = 2 ^ 64 - n

-- register t gets the number of slot r
abbrev pub get : ℕ → ℕ → List X86Instr
get t r = Load Quad (slot_operand r) t ∷ []

-- slot r gets that of register t
abbrev pub put_last : ℕ → ℕ → X86Instr
put_last r t = Store Quad t (slot_operand r)

-- each slot is reached, so that nothing stands before a store
abbrev pub x86_table : Table X86Instr
x86_table = record { stack = 4; via = 15; usable = is_usable; get = get; put_first = λ r t. []; put_last = put_last }
