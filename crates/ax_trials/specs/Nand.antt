-- A fetch-and-nand of 8 bytes on x86-64, which has no instruction for it: a loop of `lock cmpxchg` (Intel SDM volume 2, CMPXCHG).
use Rattle.std.specs.Prelude.{◌≡◌, ◌≢◌, ℕ, Bool, true, false, List, [], ◌∷◌, negsuc}
use Rattle.ax_words.specs.declared.operation.RmwOp.TheVariants as rmw
use Rattle.ax_tags.specs.declared.tags.Tag.{Tag}
use Rattle.ax_tags.specs.declared.tags.Tag.TheVariants.{Silent, Stored}
use Rattle.ax_x86.specs.declared.instructions.Alu.TheVariants as alu
use Rattle.ax_x86.specs.declared.instructions.Condition.TheVariants as condition
use Rattle.ax_x86.specs.declared.instructions.Size.TheVariants.{Quad}
use Rattle.ax_x86.specs.declared.instructions.X86Instr.{X86Instr}
use Rattle.ax_x86.specs.declared.instructions.X86Instr.TheVariants as x86
use Rattle.ax_x86.specs.Instructions.{x86_kind}
use Rattle.ax_expand.specs.Bytes.{bytes_world}
use Rattle.ax_expand.specs.Expands.{Expands}
use Rattle.ax_loops.specs.Updating.{UpdateRegisters, updating_on}
use Rattle.ax_trials.specs.Buffered.{at_register}

-- the address, the operand and a scratch register; the result is in rax, register 0
pub record NandRegisters : Type 0 where
  pub address : ℕ
  pub operand : ℕ
  pub new : ℕ

abbrev pub nand_update : NandRegisters → UpdateRegisters
nand_update r = record { address = r.address; operand = r.operand; result = 0 }

pub record AreNandRegisters (keeps : ℕ → Bool) (r : NandRegisters) : Type 0 where
  pub address : keeps r.address ≡ true
  pub operand : keeps r.operand ≡ true
  pub new : keeps r.new ≡ false
  pub address_stays : r.address ≢ 0
  pub operand_stays : r.operand ≢ 0
  pub new_apart : r.new ≢ 0

-- movq (address), %rax; movq %rax, new; andq operand, new; notq new; lock cmpxchgq new, (address); jne -4
abbrev pub nand_code : NandRegisters → List (X86Instr × Tag)
nand_code r =
    (x86.Load Quad (at_register r.address) 0, Silent)
    ∷ (x86.Mov 0 r.new, Silent)
    ∷ (x86.Alu alu.And r.operand r.new, Silent)
    ∷ (x86.Not r.new, Silent)
    ∷ (x86.LockCmpxchg Quad r.new (at_register r.address), Stored)
    ∷ (x86.Jcc condition.NotEqual (negsuc 3), Silent)
    ∷ []

abbrev pub NandByCompareExpands : Type 0
NandByCompareExpands = (keeps : ℕ → Bool) (r : NandRegisters) → AreNandRegisters keeps r → Expands x86_kind bytes_world 4 keeps 6 (λ start. nand_code r) (updating_on rmw.Nand 8 (nand_update r))
