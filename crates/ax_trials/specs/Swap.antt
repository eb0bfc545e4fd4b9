-- A fetch-and-nand of 8 bytes on AArch64 with LSE, which has no instruction for it: a loop of `cas` (Arm ARM, CAS, FEAT_LSE).
use Rattle.std.specs.Prelude.{◌≡◌, ◌≢◌, ℕ, Bool, true, false, List, [], ◌∷◌, negsuc}
use Rattle.ax_words.specs.declared.operation.RmwOp.TheVariants as rmw
use Rattle.ax_tags.specs.declared.tags.Tag.{Tag}
use Rattle.ax_tags.specs.declared.tags.Tag.TheVariants.{Silent, Stored}
use Rattle.ax_arm.specs.declared.instructions.Alu.TheVariants as alu
use Rattle.ax_arm.specs.declared.instructions.ArmInstr.{ArmInstr}
use Rattle.ax_arm.specs.declared.instructions.ArmInstr.TheVariants as arm
use Rattle.ax_arm.specs.declared.instructions.Condition.TheVariants as conditions
use Rattle.ax_arm.specs.declared.instructions.Ending.{Ending}
use Rattle.ax_arm.specs.declared.instructions.Size.TheVariants as sizes
use Rattle.ax_arm.specs.Instructions.{arm_kind}
use Rattle.ax_expand.specs.Bytes.{bytes_world}
use Rattle.ax_expand.specs.Expands.{Expands}
use Rattle.ax_loops.specs.Updating.{UpdateRegisters, updating_on}

-- beside the operation's registers: a copy of what was found, and what is to be stored
pub record SwapRegisters : Type 0 where
  pub update : UpdateRegisters
  pub copy : ℕ
  pub new : ℕ

pub record AreSwapRegisters (keeps : ℕ → Bool) (r : SwapRegisters) : Type 0 where
  pub address : keeps r.update.address ≡ true
  pub operand : keeps r.update.operand ≡ true
  pub copy : keeps r.copy ≡ false
  pub new : keeps r.new ≡ false
  pub address_stays : r.update.address ≢ r.update.result
  pub operand_stays : r.update.operand ≢ r.update.result
  pub copy_apart : r.copy ≢ r.update.result
  pub new_apart : r.new ≢ r.update.result
  pub scratch_apart : r.copy ≢ r.new

-- ldr result, [address]; mov copy, result; and new, result, operand; mvn new, new; cas result, new, [address]; cmp result, copy; b.ne -5
abbrev pub swap_code : Ending → SwapRegisters → List (ArmInstr × Tag)
swap_code ending r =
    (arm.Ldr sizes.Double r.update.result r.update.address 0, Silent)
    ∷ (arm.Mov r.copy r.update.result, Silent)
    ∷ (arm.Alu alu.And r.new r.update.result r.update.operand, Silent)
    ∷ (arm.Mvn r.new r.new, Silent)
    ∷ (arm.Cas ending sizes.Double r.update.result r.new r.update.address, Stored)
    ∷ (arm.Cmp r.update.result r.copy, Silent)
    ∷ (arm.BCond conditions.Ne (negsuc 4), Silent)
    ∷ []

abbrev pub NandBySwapExpands : Type 0
NandBySwapExpands = (keeps : ℕ → Bool) (ending : Ending) (r : SwapRegisters) → AreSwapRegisters keeps r → Expands arm_kind bytes_world 5 keeps 7 (λ start. swap_code ending r) (updating_on rmw.Nand 8 r.update)
