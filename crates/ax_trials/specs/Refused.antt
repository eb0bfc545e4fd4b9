-- Pieces of RV64 code that are no fetch-and-add, and one of x86-64 that is no fence: each breaks the contract, whatever registers it keeps and however long it may idle.
use Rattle.std.specs.Prelude.{ℕ, Bool, List, [], ◌∷◌, length, pos}
use Rattle.ax_words.specs.declared.operation.RmwOp.TheVariants as rmw
use Rattle.ax_tags.specs.declared.tags.Tag.{Tag}
use Rattle.ax_tags.specs.declared.tags.Tag.TheVariants.{Act, Silent, Stored}
use Rattle.ax_rv.specs.declared.instructions.Amo.TheVariants as amo
use Rattle.ax_rv.specs.declared.instructions.Binary.TheVariants as binary_op
use Rattle.ax_rv.specs.declared.instructions.Condition.TheVariants as condition
use Rattle.ax_rv.specs.declared.instructions.Ending.TheVariants.{Plain}
use Rattle.ax_rv.specs.declared.instructions.LoadForm.TheVariants as load_form
use Rattle.ax_rv.specs.declared.instructions.RvInstr.{RvInstr}
use Rattle.ax_rv.specs.declared.instructions.RvInstr.TheVariants.{Amo, Binary, Branch, Load, LoadReserved, Store, StoreConditional}
use Rattle.ax_rv.specs.declared.instructions.Size.TheVariants.{Double}
use Rattle.ax_rv.specs.declared.instructions.StoreForm.TheVariants as store_form
use Rattle.ax_rv.specs.Instructions.{rv_kind}
use Rattle.ax_x86.specs.declared.instructions.X86Instr.TheVariants as x86
use Rattle.ax_x86.specs.Instructions.{x86_kind}
use Rattle.ax_expand.specs.Bytes.{bytes_world}
use Rattle.ax_expand.specs.Expands.{Expands}
use Rattle.ax_loops.specs.Storing.{fencing}
use Rattle.ax_loops.specs.Updating.{UpdateRegisters, updating_on}

abbrev pub registers : UpdateRegisters
registers = record { address = 10; operand = 11; result = 12 }

abbrev pub IsRefused : List (RvInstr × Tag) → Type 0
IsRefused piece = (keeps : ℕ → Bool) (most : ℕ) → Expands rv_kind bytes_world most keeps (length piece) (λ start. piece) (updating_on rmw.Add 8 registers) → ⊥

-- ld, add and sd in place of the locked addition: another processor may write between them
abbrev pub plain_code : List (RvInstr × Tag)
plain_code = (Load load_form.Double 12 (pos 0) 10, Silent) ∷ (Binary binary_op.Add 5 12 11, Silent) ∷ (Store store_form.Double 5 (pos 0) 10, Act) ∷ []

-- a branch that leaves the loop where the pair store failed: the event is left out
abbrev pub leaving_code : List (RvInstr × Tag)
leaving_code =
    (LoadReserved Double Plain 12 10, Silent)
    ∷ (Binary binary_op.Add 5 12 11, Silent)
    ∷ (StoreConditional Double Plain 6 5 10, Stored)
    ∷ (Branch condition.NotEqual 6 0 (pos 1), Silent)
    ∷ []

-- the addition made twice
abbrev pub twice_code : List (RvInstr × Tag)
twice_code = (Amo amo.Add Double Plain 12 11 10, Act) ∷ (Amo amo.Add Double Plain 12 11 10, Act) ∷ []

-- on x86-64, a `nop` in place of `mfence`: own stores may still wait
abbrev pub NopIsNoFence : Type 0
NopIsNoFence = (keeps : ℕ → Bool) (most : ℕ) → Expands x86_kind bytes_world most keeps 1 (λ start. (x86.Nop, Act) ∷ []) fencing → ⊥
