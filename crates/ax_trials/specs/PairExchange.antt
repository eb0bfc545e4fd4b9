-- A compare-exchange of 8 bytes by a linked load and a pair store, on RV64, strong and weak (RISC-V Unprivileged ISA: RV64I and A; LLVM Language Reference, "cmpxchg").
use Rattle.std.specs.Prelude.{◌≡◌, ◌≢◌, ℕ, Bool, true, false, List, [], ◌∷◌, None, pos, negsuc}
use Rattle.ax_words.specs.declared.mark.Op.TheVariants as op
use Rattle.ax_words.specs.declared.order.Order.{Order}
use Rattle.ax_words.specs.declared.width.Width.TheVariants.{W64}
use Rattle.ax_target.specs.declared.target.Target.{Target}
use Rattle.ax_tags.specs.declared.tags.Tag.{Tag}
use Rattle.ax_tags.specs.declared.tags.Tag.TheVariants.{Linked, Silent, Stored, StoredOrMiss}
use Rattle.ax_rv.specs.declared.instructions.Binary.TheVariants as binary_op
use Rattle.ax_rv.specs.declared.instructions.Condition.TheVariants as condition
use Rattle.ax_rv.specs.declared.instructions.Ending.{Ending}
use Rattle.ax_rv.specs.declared.instructions.RvInstr.{RvInstr}
use Rattle.ax_rv.specs.declared.instructions.RvInstr.TheVariants.{Binary, Branch, Jump, Li, LoadReserved, StoreConditional, Unary}
use Rattle.ax_rv.specs.declared.instructions.Size.TheVariants.{Double}
use Rattle.ax_rv.specs.declared.instructions.Unary.TheVariants as unary_op
use Rattle.ax_rv.specs.Instructions.{rv_kind}
use Rattle.ax_expand.specs.Bytes.{bytes_world}
use Rattle.ax_expand.specs.Doing.{Doing, on_registers}
use Rattle.ax_expand.specs.Expands.{Expands}
use Rattle.ax_expand.specs.Operation.{Operation}
use Rattle.ax_expand.specs.Shared.{Shared}
use Rattle.ax_fine.specs.OnBytes.{atomic_doing}
use Rattle.ax_loops.specs.Updating.{AreNumbers}

-- the address, the numbers expected and desired, the number found, and whether it was the expected one and replaced
pub record ExchangeRegisters : Type 0 where
  pub address : ℕ
  pub expected : ℕ
  pub desired : ℕ
  pub old : ℕ
  pub flag : ℕ

-- a `cmpxchg` of 8 bytes, for a target and with an order
pub record CompareExchange : Type 0 where
  pub target : Target
  pub order : Order
  pub weak : Bool
  pub registers : ExchangeRegisters

-- what it takes are numbers in registers
abbrev pub exchanging : Target → Order → Bool → Doing Shared
exchanging target order weak = record {
  happens = (atomic_doing target op.Cmpxchg W64 order weak).happens;
  fits = λ a args w. (atomic_doing target op.Cmpxchg W64 order weak).fits a args w × AreNumbers args;
}

abbrev pub exchanging_on : CompareExchange → Operation Shared
exchanging_on z = on_registers (exchanging z.target z.order z.weak) z.registers.address (z.registers.expected ∷ z.registers.desired ∷ []) (z.registers.old ∷ z.registers.flag ∷ [])

-- register 0 holds no number
pub record AreExchangeRegisters (keeps : ℕ → Bool) (r : ExchangeRegisters) : Type 0 where
  pub address : keeps r.address ≡ true
  pub expected : keeps r.expected ≡ true
  pub desired : keeps r.desired ≡ true
  pub address_stays : (r.address ≢ r.old) × (r.address ≢ r.flag)
  pub expected_stays : (r.expected ≢ r.old) × (r.expected ≢ r.flag)
  pub desired_stays : (r.desired ≢ r.old) × (r.desired ≢ r.flag)
  pub apart : r.old ≢ r.flag
  pub some_address : r.address ≢ 0
  pub some_expected : r.expected ≢ 0
  pub some_desired : r.desired ≢ 0
  pub some_old : r.old ≢ 0
  pub some_flag : r.flag ≢ 0

-- lr.d old, (address); bne old, expected, +3; sc.d flag, desired, (address); bnez flag, -3; sub flag, old, expected; seqz flag, flag
abbrev pub strong_code : Ending → Ending → ExchangeRegisters → List (RvInstr × Tag)
strong_code acquire release r =
    (LoadReserved Double acquire r.old r.address, Linked false r.expected None)
    ∷ (Branch condition.NotEqual r.old r.expected (pos 3), Silent)
    ∷ (StoreConditional Double release r.flag r.desired r.address, Stored)
    ∷ (Branch condition.NotEqual r.flag 0 (negsuc 2), Silent)
    ∷ (Binary binary_op.Subtract r.flag r.old r.expected, Silent)
    ∷ (Unary unary_op.IsZero r.flag r.flag, Silent)
    ∷ []

-- lr.d old, (address); bne old, expected, +4; sc.d flag, desired, (address); seqz flag, flag; j +2; li flag, 0
abbrev pub weak_code : Ending → Ending → ExchangeRegisters → List (RvInstr × Tag)
weak_code acquire release r =
    (LoadReserved Double acquire r.old r.address, Linked true r.expected None)
    ∷ (Branch condition.NotEqual r.old r.expected (pos 4), Silent)
    ∷ (StoreConditional Double release r.flag r.desired r.address, StoredOrMiss)
    ∷ (Unary unary_op.IsZero r.flag r.flag, Silent)
    ∷ (Jump (pos 2), Silent)
    ∷ (Li r.flag 0, Silent)
    ∷ []

abbrev pub exchange_code : Ending → Ending → Bool → ExchangeRegisters → List (RvInstr × Tag)
exchange_code acquire release true r = weak_code acquire release r
exchange_code acquire release false r = strong_code acquire release r

abbrev pub CompareExchangeByPairExpands : Type 0
CompareExchangeByPairExpands =
    (keeps : ℕ → Bool) (acquire release : Ending) (z : CompareExchange) → AreExchangeRegisters keeps z.registers
    → Expands rv_kind bytes_world 3 keeps 6 (λ start. exchange_code acquire release z.weak z.registers) (exchanging_on z)
