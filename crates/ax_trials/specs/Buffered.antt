-- A plain store, a locked addition and a full fence on x86-64, one instruction each (Intel SDM volume 2: MOV, XADD, MFENCE; Sewell and others, x86-TSO, 2010).
use Rattle.std.specs.Prelude.{◌≡◌, ℕ, Bool, true, [], ◌∷◌, pos}
use Rattle.ax_words.specs.declared.operation.RmwOp.TheVariants as rmw
use Rattle.ax_tags.specs.declared.tags.Tag.TheVariants.{Act}
use Rattle.ax_x86.specs.declared.instructions.MemoryOperand.{MemoryOperand}
use Rattle.ax_x86.specs.declared.instructions.Size.TheVariants.{Quad}
use Rattle.ax_x86.specs.declared.instructions.X86Instr.{X86Instr}
use Rattle.ax_x86.specs.declared.instructions.X86Instr.TheVariants as x86
use Rattle.ax_x86.specs.Instructions.{x86_kind}
use Rattle.ax_expand.specs.Bytes.{bytes_world}
use Rattle.ax_expand.specs.Expands.{Expands}
use Rattle.ax_expand.specs.Operation.{Operation}
use Rattle.ax_expand.specs.Shared.{Shared}
use Rattle.ax_loops.specs.Storing.{fencing, storing_on}
use Rattle.ax_loops.specs.Updating.{updating_on}

-- the bytes at a register's number
abbrev pub at_register : ℕ → MemoryOperand
at_register r = record { displacement = pos 0; base = r }

-- one instruction, which has the event and is never idle
abbrev pub IsExpansion : (ℕ → Bool) → X86Instr → Operation Shared → Type 0
IsExpansion keeps i o = Expands x86_kind bytes_world 0 keeps 1 (λ start. (i, Act) ∷ []) o

-- movq value, (address): the store waits in the buffer of its processor
abbrev pub BufferedStoreExpands : Type 0
BufferedStoreExpands = (keeps : ℕ → Bool) (address value : ℕ) → keeps address ≡ true → keeps value ≡ true → IsExpansion keeps (x86.Store Quad value (at_register address)) (storing_on true 8 address value)

-- lock xaddq operand, (address): the register with the operand gets the number that stood there
abbrev pub LockedAdditionExpands : Type 0
LockedAdditionExpands =
    (keeps : ℕ → Bool) (address operand : ℕ) → keeps address ≡ true → keeps operand ≡ true
    → IsExpansion keeps (x86.LockXadd Quad operand (at_register address)) (updating_on rmw.Add 8 (record { address = address; operand = operand; result = operand }))

-- mfence
abbrev pub FullFenceExpands : Type 0
FullFenceExpands = (keeps : ℕ → Bool) → IsExpansion keeps x86.Mfence fencing
