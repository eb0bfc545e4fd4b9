-- An exchange of 16 bytes by a linked load of two steps and a pair store, on AArch64 (Arm ARM, LDXP, STXP and CBNZ; LLVM Language Reference, "atomicrmw").
use Rattle.std.specs.Prelude.{◌≡◌, ◌≢◌, ℕ, Bool, true, false, List, [], ◌∷◌, negsuc}
use Rattle.ax_words.specs.declared.mark.Op.TheVariants as op
use Rattle.ax_words.specs.declared.operation.RmwOp.TheVariants as rmw
use Rattle.ax_words.specs.declared.order.Order.{Order}
use Rattle.ax_words.specs.declared.width.Width.TheVariants.{W128}
use Rattle.ax_target.specs.declared.target.Target.{Target}
use Rattle.ax_tags.specs.declared.tags.Tag.{Tag}
use Rattle.ax_tags.specs.declared.tags.Tag.TheVariants.{Silent, Stored}
use Rattle.ax_arm.specs.declared.instructions.ArmInstr.{ArmInstr}
use Rattle.ax_arm.specs.declared.instructions.ArmInstr.TheVariants as arm
use Rattle.ax_arm.specs.Instructions.{arm_kind}
use Rattle.ax_expand.specs.Bytes.{bytes_world}
use Rattle.ax_expand.specs.Doing.{on_registers}
use Rattle.ax_expand.specs.Operation.{Operation}
use Rattle.ax_expand.specs.Shared.{Shared}
use Rattle.ax_fine.specs.OnBytes.{atomic_doing}
use Rattle.ax_loops.specs.WideRetry.{ExpandsWhole}

-- the address, both halves of the new number and of the number found, and whether the pair store failed
pub record WideRegisters : Type 0 where
  pub address : ℕ
  pub low : ℕ
  pub high : ℕ
  pub old_low : ℕ
  pub old_high : ℕ
  pub failed : ℕ

pub record WideExchange : Type 0 where
  pub target : Target
  pub order : Order
  pub registers : WideRegisters

abbrev pub wide_on : WideExchange → Operation Shared
wide_on z = on_registers (atomic_doing z.target (op.Rmw rmw.Xchg) W128 z.order false) z.registers.address (z.registers.low ∷ z.registers.high ∷ []) (z.registers.old_low ∷ z.registers.old_high ∷ [])

pub record AreWideRegisters (keeps : ℕ → Bool) (r : WideRegisters) : Type 0 where
  pub address : keeps r.address ≡ true
  pub low : keeps r.low ≡ true
  pub high : keeps r.high ≡ true
  pub failed : keeps r.failed ≡ false
  pub address_stays : (r.address ≢ r.old_low) × (r.address ≢ r.old_high)
  pub low_stays : (r.low ≢ r.old_low) × (r.low ≢ r.old_high)
  pub high_stays : (r.high ≢ r.old_low) × (r.high ≢ r.old_high)
  pub apart : r.old_low ≢ r.old_high

-- ldxp old_low, old_high, [address]; stxp failed, low, high, [address]; cbnz failed, -2
abbrev pub exchange_wide_code : WideRegisters → List (ArmInstr × Tag)
exchange_wide_code r = (arm.Ldxp r.old_low r.old_high r.address, Silent) ∷ (arm.Stxp r.failed r.low r.high r.address, Stored) ∷ (arm.Cbnz r.failed (negsuc 1), Silent) ∷ []

abbrev pub ExchangeWideByPairExpands : Type 0
ExchangeWideByPairExpands = (keeps : ℕ → Bool) (z : WideExchange) → AreWideRegisters keeps z.registers → ExpandsWhole arm_kind bytes_world 3 keeps 3 (λ start. exchange_wide_code z.registers) (wide_on z)
