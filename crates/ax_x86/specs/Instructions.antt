-- *x86-64 instructions*: the one effect of each instruction, as a function of the registers (Intel SDM volume 2, in AT&T's order of operands). All sums are mod 2 ^ 64.
use Rattle.std.specs.Prelude.{ℕ, ◌+◌, ◌-◌, ◌*◌, ◌%◌, ◌^◌, ◌<◌, ◌≤◌, true, false, nat_eq, if◌then◌else◌, [], ◌∷◌, slice_index_or, ℤ, FitsSigned}
use Rattle.std.specs.Int.{w32}
use Rattle.ax_words.specs.declared.operation.RmwOp.TheVariants.{Add as Sum, Xchg as Swap}
use Rattle.ax_isa.specs.declared.effects.Back.TheVariants.{Stack as Pops}
use Rattle.ax_isa.specs.declared.effects.Change.TheVariants.{Update, Exchange}
use Rattle.ax_isa.specs.declared.effects.Effect.{Effect}
use Rattle.ax_isa.specs.declared.effects.Effect.TheVariants.{Set, Compare, Load, Store, Locked, Fence, Jump, CallTo, Return, Output, Trap, Nop}
use Rattle.ax_isa.specs.declared.effects.Rest.{Rest}
use Rattle.ax_isa.specs.declared.effects.Rest.TheVariants.{Zeros, Stays}
use Rattle.ax_isa.specs.declared.effects.Saved.TheVariants.{Stack}
use Rattle.ax_isa.specs.Numbers.{displaced}
use Rattle.ax_isa.specs.Processor.{Processor}
use Rattle.ax_isa.specs.Steps.{Kind}
use Rattle.ax_x86.specs.Arithmetic.{alu_result, complement, extension_result, low_byte_set, negative, shift_result}
use Rattle.ax_x86.specs.Conditions.{holds}
use Rattle.ax_x86.specs.Skeleton.{mark_of}
use Rattle.ax_x86.specs.Sizes.{size_bytes}
use Rattle.ax_x86.specs.declared.instructions.Condition.{Condition}
use Rattle.ax_x86.specs.declared.instructions.MemoryOperand.{MemoryOperand}
use Rattle.ax_x86.specs.declared.instructions.Size.{Size}
use Rattle.ax_x86.specs.declared.instructions.Size.TheVariants.{Byte, Word, Long, Quad}
use Rattle.ax_x86.specs.declared.instructions.X86Instr.{X86Instr}
use Rattle.ax_x86.specs.declared.instructions.X86Instr.TheVariants as x86

abbrev pub address_of : MemoryOperand → Processor → ℕ
address_of memory c = displaced (c.regs memory.base) memory.displacement

-- a register that gets 4 bytes has zeros in the upper half; one that gets 1 or 2 keeps the rest
abbrev pub rest_of : Size → Rest
rest_of Byte = Stays
rest_of Word = Stays
rest_of Long = Zeros
rest_of Quad = Zeros

abbrev pub branch_place : Condition → ℤ → Processor → ℕ
branch_place condition distance c = if holds condition c.compared.0 c.compared.1 then displaced c.place distance else c.place + 1

abbrev pub cmov_result : Condition → ℕ → ℕ → Processor → ℕ
cmov_result condition from to c = if holds condition c.compared.0 c.compared.1 then c.regs from else c.regs to

-- registers 0 to 7 are rax, rcx, rdx, rbx, rsp, rbp, rsi, rdi
unfoldable pub effect_of : X86Instr → Processor → Effect
effect_of (x86.Movabs n to) c = Set to n
effect_of (x86.Mov from to) c = Set to (c.regs from)
effect_of (x86.Alu op from to) c = Set to (alu_result op (c.regs to) (c.regs from))
effect_of (x86.Neg to) c = Set to (negative (c.regs to))
effect_of (x86.Not to) c = Set to (complement (c.regs to))
effect_of (x86.Shift op count to) c = Set to (shift_result op (c.regs to) count)
effect_of (x86.Extend extension from to) c = Set to (extension_result extension (c.regs from))
effect_of (x86.Cmp right left) c = Compare (c.regs left) (c.regs right)
effect_of (x86.Setcc condition to) c = Set to (low_byte_set (c.regs to) (holds condition c.compared.0 c.compared.1))
effect_of (x86.Cmovcc condition from to) c = Set to (cmov_result condition from to c)
effect_of (x86.Load size memory to) c = Load to (address_of memory c) (size_bytes size) Zeros false
effect_of (x86.Store size from memory) c = Store (address_of memory c) (size_bytes size) (c.regs from)
effect_of (x86.Xchg size r memory) c = Locked r 0 (address_of memory c) (size_bytes size) (rest_of size) (Update Swap (c.regs r))
effect_of (x86.LockXadd size r memory) c = Locked r 0 (address_of memory c) (size_bytes size) (rest_of size) (Update Sum (c.regs r))
effect_of (x86.LockCmpxchg size from memory) c = Locked 0 0 (address_of memory c) (size_bytes size) (rest_of size) (Exchange (c.regs 0) (c.regs from) true)
effect_of (x86.LockCmpxchg16b memory) c = Locked 0 2 (address_of memory c) 16 Zeros (Exchange (c.regs 0 + 2 ^ 64 * c.regs 2) (c.regs 3 + 2 ^ 64 * c.regs 1) true)
effect_of x86.Mfence c = Fence
effect_of (x86.Jmp distance) c = Jump (displaced c.place distance)
effect_of (x86.Jcc condition distance) c = Jump (branch_place condition distance c)
effect_of (x86.Call routine place) c = CallTo place (Stack 4 ((c.regs 4 + (2 ^ 64 - 8)) % 2 ^ 64))
effect_of x86.Ret c = Return (Pops 4 (c.regs 4))
effect_of x86.Syscall c = Output (c.regs 7)
effect_of x86.Ud2 c = Trap
effect_of x86.Nop c = Nop

-- x86-64: stores wait in buffers; register 4 is the stack pointer, the only base of accesses to the frame; arguments are in rdi, rsi, rdx, rcx, r8, r9 (System V ABI, "Parameter Passing")
abbrev pub x86_kind : Kind X86Instr
x86_kind =
    record {
      effect_of = effect_of;
      buffered = true;
      pairs = false;
      stack = 4;
      frame = λ r. nat_eq r 4;
      argument = λ k. slice_index_or (7 ∷ 6 ∷ 2 ∷ 1 ∷ 8 ∷ 9 ∷ []) k 0;
      marks_of = mark_of;
    }

-- there are 16 general-purpose registers
abbrev pub IsGeneralRegister : ℕ → Type 0
IsGeneralRegister r = r < 16

-- a displacement is a number of 32 bits, from -2 ^ 31 to 2 ^ 31 - 1
abbrev pub IsOperand : MemoryOperand → Type 0
IsOperand memory = FitsSigned w32 memory.displacement × IsGeneralRegister memory.base

-- an instruction whose registers and numbers are in their ranges
unfoldable pub IsInstr : X86Instr → Type 0
IsInstr (x86.Movabs n to) = (n < 2 ^ 64) × IsGeneralRegister to
IsInstr (x86.Mov from to) = IsGeneralRegister from × IsGeneralRegister to
IsInstr (x86.Alu op from to) = IsGeneralRegister from × IsGeneralRegister to
IsInstr (x86.Neg to) = IsGeneralRegister to
IsInstr (x86.Not to) = IsGeneralRegister to
IsInstr (x86.Shift op count to) = (count ≤ 63) × IsGeneralRegister to
IsInstr (x86.Extend extension from to) = IsGeneralRegister from × IsGeneralRegister to
IsInstr (x86.Cmp right left) = IsGeneralRegister right × IsGeneralRegister left
IsInstr (x86.Setcc condition to) = IsGeneralRegister to
IsInstr (x86.Cmovcc condition from to) = IsGeneralRegister from × IsGeneralRegister to
IsInstr (x86.Load size memory to) = IsOperand memory × IsGeneralRegister to
IsInstr (x86.Store size from memory) = IsGeneralRegister from × IsOperand memory
IsInstr (x86.Xchg size r memory) = IsGeneralRegister r × IsOperand memory
IsInstr (x86.LockXadd size r memory) = IsGeneralRegister r × IsOperand memory
IsInstr (x86.LockCmpxchg size from memory) = IsGeneralRegister from × IsOperand memory
IsInstr (x86.LockCmpxchg16b memory) = IsOperand memory
IsInstr x86.Mfence = Unit {0}
IsInstr (x86.Jmp distance) = FitsSigned w32 distance
IsInstr (x86.Jcc condition distance) = FitsSigned w32 distance
IsInstr (x86.Call routine place) = place < 2 ^ 32
IsInstr x86.Ret = Unit {0}
IsInstr x86.Syscall = Unit {0}
IsInstr x86.Ud2 = Unit {0}
IsInstr x86.Nop = Unit {0}
