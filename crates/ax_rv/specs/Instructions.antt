-- *RV64 instructions*: the one effect of each instruction, as a function of the registers (RISC-V Unprivileged ISA: RV64I, M and A).
pub use Rattle.ax_isa.specs.Numbers.{displaced}
use Rattle.std.specs.Prelude.{ℕ, zero, suc, ◌+◌, ◌%◌, ◌<◌, ◌≤◌, ◌^◌, Bool, true, false, ◌||◌, if◌then◌else◌, nat_eq, ℤ, pos, negsuc}
use Rattle.ax_words.specs.declared.operation.RmwOp.{RmwOp}
use Rattle.ax_words.specs.declared.operation.RmwOp.TheVariants as rmw
use Rattle.ax_isa.specs.declared.effects.Back.TheVariants.{Place}
use Rattle.ax_isa.specs.declared.effects.Change.TheVariants.{Update}
use Rattle.ax_isa.specs.declared.effects.Effect.{Effect}
use Rattle.ax_isa.specs.declared.effects.Effect.TheVariants as effect
use Rattle.ax_isa.specs.declared.effects.Rest.{Rest}
use Rattle.ax_isa.specs.declared.effects.Rest.TheVariants.{Zeros, Signs}
use Rattle.ax_isa.specs.declared.effects.Saved.TheVariants.{Register}
use Rattle.ax_isa.specs.Processor.{Processor}
use Rattle.ax_isa.specs.Steps.{Kind}
use Rattle.ax_rv.specs.declared.instructions.Amo.{Amo as AmoOp}
use Rattle.ax_rv.specs.declared.instructions.Amo.TheVariants as amo
use Rattle.ax_rv.specs.declared.instructions.Ending.{Ending}
use Rattle.ax_rv.specs.declared.instructions.Ending.TheVariants.{Plain, Acquire, Release, AcquireRelease}
use Rattle.ax_rv.specs.declared.instructions.LoadForm.{LoadForm}
use Rattle.ax_rv.specs.declared.instructions.LoadForm.TheVariants as load
use Rattle.ax_rv.specs.declared.instructions.RvInstr.{RvInstr}
use Rattle.ax_rv.specs.declared.instructions.RvInstr.TheVariants.{Li, Unary, Binary, Shift, Immediate, Load, Store, LoadReserved, StoreConditional, Amo, Fence, Jump, Call, Ret, Branch, Ecall, Ebreak, Nop}
use Rattle.ax_rv.specs.declared.instructions.Size.{Size}
use Rattle.ax_rv.specs.declared.instructions.Size.TheVariants.{Word, Double}
use Rattle.ax_rv.specs.declared.instructions.StoreForm.{StoreForm}
use Rattle.ax_rv.specs.declared.instructions.StoreForm.TheVariants as store
use Rattle.ax_rv.specs.Arithmetic.{binary_of, holds, immediate_of, shifted, unary_of}
use Rattle.ax_rv.specs.Skeleton.{load_bytes, mark_of, size_bytes, store_bytes}

-- register 0 is 0
abbrev pub read : ℕ → Processor → ℕ
read zero c = 0
read (suc r) c = c.regs (suc r)

-- a word is extended by its sign
abbrev pub load_rest : LoadForm → Rest
load_rest load.Byte = Zeros
load_rest load.Half = Zeros
load_rest load.Word = Signs
load_rest load.Double = Zeros

abbrev pub size_rest : Size → Rest
size_rest Word = Signs
size_rest Double = Zeros

abbrev pub operation_of : AmoOp → RmwOp
operation_of amo.Swap = rmw.Xchg
operation_of amo.Add = rmw.Add
operation_of amo.And = rmw.And
operation_of amo.Or = rmw.Or
operation_of amo.Xor = rmw.Xor
operation_of amo.Max = rmw.Max
operation_of amo.Min = rmw.Min
operation_of amo.MaxUnsigned = rmw.UMax
operation_of amo.MinUnsigned = rmw.UMin

abbrev pub effect_of : RvInstr → Processor → Effect
effect_of (Li rd n) c = effect.Set rd n
effect_of (Unary op rd rs) c = effect.Set rd (unary_of op (read rs c))
effect_of (Binary op rd rs1 rs2) c = effect.Set rd (binary_of op (read rs1 c) (read rs2 c))
effect_of (Shift op rd rs k) c = effect.Set rd (shifted op (read rs c) (k % 64))
effect_of (Immediate op rd rs n) c = effect.Set rd (immediate_of op (read rs c) n)
effect_of (Load form rd d rs1) c = effect.Load rd (displaced (read rs1 c) d) (load_bytes form) (load_rest form) false
effect_of (Store form rs2 d rs1) c = effect.Store (displaced (read rs1 c) d) (store_bytes form) (read rs2 c)
effect_of (LoadReserved size ending rd rs1) c = effect.Link rd (read rs1 c) (size_bytes size) (size_rest size)
effect_of (StoreConditional size ending rd rs2 rs1) c = effect.PairStore rd (read rs1 c) (size_bytes size) (read rs2 c)
effect_of (Amo op size ending rd rs2 rs1) c = effect.Locked rd 0 (read rs1 c) (size_bytes size) (size_rest size) (Update (operation_of op) (read rs2 c))
effect_of (Fence sets) c = effect.Nop
effect_of (Jump distance) c = effect.Jump (displaced c.place distance)
effect_of (Call routine place) c = effect.CallTo place (Register 1)
effect_of Ret c = effect.Return (Place (read 1 c))
effect_of (Branch condition rs1 rs2 distance) c = if holds condition (read rs1 c) (read rs2 c) then effect.Jump (displaced c.place distance) else effect.Nop
effect_of Ecall c = effect.Output (read 10 c)
effect_of Ebreak c = effect.Trap
effect_of Nop c = effect.Nop

-- the registers that are bases of accesses to the frame: the stack pointer, and the one for what lies far from it
abbrev pub is_frame_register : ℕ → Bool
is_frame_register r = nat_eq r 2 || nat_eq r 8

-- RV64: one flat memory, linked loads and pair stores, register 2 is the stack pointer, and arguments are in registers 10 up
abbrev pub rv_kind : Kind RvInstr
rv_kind = record { effect_of = effect_of; buffered = false; pairs = true; stack = 2; frame = is_frame_register; argument = λ k. 10 + k; marks_of = mark_of }

-- a displacement is a number of 12 bits, from -2,048 to 2,047
abbrev pub IsDisplacement : ℤ → Type 0
IsDisplacement (pos d) = d ≤ 2047
IsDisplacement (negsuc d) = d ≤ 2047

abbrev pub IsDistance : ℤ → Type 0
IsDistance (pos d) = d < 2 ^ 31
IsDistance (negsuc d) = d < 2 ^ 31

-- a linked load has no ending `.rl`, and a pair store none with `.aq`
abbrev pub IsLoadEnding : Ending → Type 0
IsLoadEnding Release = ⊥
IsLoadEnding _ = Unit {0}

abbrev pub IsStoreEnding : Ending → Type 0
IsStoreEnding Plain = Unit {0}
IsStoreEnding Release = Unit {0}
IsStoreEnding _ = ⊥

-- an instruction whose registers and numbers are in their ranges
abbrev pub IsInstr : RvInstr → Type 0
IsInstr (Li rd n) = (rd < 32) × (n < 2 ^ 64)
IsInstr (Unary op rd rs) = (rd < 32) × (rs < 32)
IsInstr (Binary op rd rs1 rs2) = (rd < 32) × (rs1 < 32) × (rs2 < 32)
IsInstr (Shift op rd rs k) = (rd < 32) × (rs < 32) × (k < 64)
IsInstr (Immediate op rd rs n) = (rd < 32) × (rs < 32) × IsDisplacement n
IsInstr (Load form rd d rs1) = (rd < 32) × (rs1 < 32) × IsDisplacement d
IsInstr (Store form rs2 d rs1) = (rs2 < 32) × (rs1 < 32) × IsDisplacement d
IsInstr (LoadReserved size ending rd rs1) = (rd < 32) × (rs1 < 32) × IsLoadEnding ending
IsInstr (StoreConditional size ending rd rs2 rs1) = (rd < 32) × (rs2 < 32) × (rs1 < 32) × IsStoreEnding ending
IsInstr (Amo op size ending rd rs2 rs1) = (rd < 32) × (rs2 < 32) × (rs1 < 32)
IsInstr (Fence sets) = Unit {0}
IsInstr (Jump distance) = IsDistance distance
IsInstr (Call routine place) = place < 2 ^ 32
IsInstr Ret = Unit {0}
IsInstr (Branch condition rs1 rs2 distance) = (rs1 < 32) × (rs2 < 32) × IsDistance distance
IsInstr Ecall = Unit {0}
IsInstr Ebreak = Unit {0}
IsInstr Nop = Unit {0}
