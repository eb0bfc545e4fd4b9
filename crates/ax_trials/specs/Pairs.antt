-- A fetch-and-add of 8 bytes by a linked load and a pair store, on RV64 (RISC-V Unprivileged ISA: RV64I and A).
use Rattle.std.specs.Prelude.{◌≡◌, ◌≢◌, ℕ, Bool, true, false, List, [], ◌∷◌, negsuc}
use Rattle.ax_words.specs.declared.operation.RmwOp.TheVariants as rmw
use Rattle.ax_tags.specs.declared.tags.Tag.{Tag}
use Rattle.ax_tags.specs.declared.tags.Tag.TheVariants.{Silent, Stored}
use Rattle.ax_rv.specs.declared.instructions.Binary.TheVariants as binary_op
use Rattle.ax_rv.specs.declared.instructions.Condition.TheVariants as condition
use Rattle.ax_rv.specs.declared.instructions.Ending.{Ending}
use Rattle.ax_rv.specs.declared.instructions.RvInstr.{RvInstr}
use Rattle.ax_rv.specs.declared.instructions.RvInstr.TheVariants.{Binary, Branch, LoadReserved, StoreConditional}
use Rattle.ax_rv.specs.declared.instructions.Size.TheVariants.{Double}
use Rattle.ax_rv.specs.Instructions.{rv_kind}
use Rattle.ax_expand.specs.Bytes.{bytes_world}
use Rattle.ax_expand.specs.Expands.{Expands}
use Rattle.ax_loops.specs.Updating.{UpdateRegisters, updating_on}

-- beside the operation's registers: the sum, and whether the pair store failed
pub record PairRegisters : Type 0 where
  pub update : UpdateRegisters
  pub sum : ℕ
  pub failed : ℕ

-- register 0 holds no number
pub record ArePairRegisters (keeps : ℕ → Bool) (r : PairRegisters) : Type 0 where
  pub address : keeps r.update.address ≡ true
  pub operand : keeps r.update.operand ≡ true
  pub sum : keeps r.sum ≡ false
  pub failed : keeps r.failed ≡ false
  pub address_stays : r.update.address ≢ r.update.result
  pub operand_stays : r.update.operand ≢ r.update.result
  pub some_address : r.update.address ≢ 0
  pub some_operand : r.update.operand ≢ 0
  pub some_result : r.update.result ≢ 0
  pub some_sum : r.sum ≢ 0
  pub some_failed : r.failed ≢ 0

-- lr.d result, (address); add sum, result, operand; sc.d failed, sum, (address); bnez failed, -3
abbrev pub fetch_and_add_code : Ending → Ending → PairRegisters → List (RvInstr × Tag)
fetch_and_add_code acquire release r =
    (LoadReserved Double acquire r.update.result r.update.address, Silent)
    ∷ (Binary binary_op.Add r.sum r.update.result r.update.operand, Silent)
    ∷ (StoreConditional Double release r.failed r.sum r.update.address, Stored)
    ∷ (Branch condition.NotEqual r.failed 0 (negsuc 2), Silent)
    ∷ []

abbrev pub FetchAndAddByPairExpands : Type 0
FetchAndAddByPairExpands =
    (keeps : ℕ → Bool) (acquire release : Ending) (r : PairRegisters) → ArePairRegisters keeps r
    → Expands rv_kind bytes_world 3 keeps 4 (λ start. fetch_and_add_code acquire release r) (updating_on rmw.Add 8 r.update)
