-- Pieces of RV64 code that are no compare-exchange: each breaks the contract, whatever registers it keeps and however long it may idle.
use Rattle.std.specs.Prelude.{ℕ, Bool, true, false, List, [], ◌∷◌, length, None, pos}
use Rattle.ax_words.specs.declared.order.Order.{Order}
use Rattle.ax_target.specs.declared.target.Target.{Target}
use Rattle.ax_tags.specs.declared.tags.Tag.{Tag}
use Rattle.ax_tags.specs.declared.tags.Tag.TheVariants.{Linked, Silent, Stored}
use Rattle.ax_rv.specs.declared.instructions.Condition.TheVariants as condition
use Rattle.ax_rv.specs.declared.instructions.Ending.TheVariants.{Plain}
use Rattle.ax_rv.specs.declared.instructions.RvInstr.{RvInstr}
use Rattle.ax_rv.specs.declared.instructions.RvInstr.TheVariants.{Branch, Jump, Li, LoadReserved, StoreConditional, Unary}
use Rattle.ax_rv.specs.declared.instructions.Size.TheVariants.{Double}
use Rattle.ax_rv.specs.declared.instructions.Unary.TheVariants as unary_op
use Rattle.ax_rv.specs.Instructions.{rv_kind}
use Rattle.ax_expand.specs.Bytes.{bytes_world}
use Rattle.ax_expand.specs.Expands.{Expands}
use Rattle.ax_trials.specs.PairExchange.{CompareExchange, ExchangeRegisters, exchanging_on}

abbrev pub exchange_registers : ExchangeRegisters
exchange_registers = record { address = 10; expected = 12; desired = 11; old = 13; flag = 14 }

abbrev pub exchange_at : Target → Order → Bool → CompareExchange
exchange_at target order weak = record { target = target; order = order; weak = weak; registers = exchange_registers }

abbrev pub IsNoExchange : Bool → List (RvInstr × Tag) → Type 0
IsNoExchange weak piece = (target : Target) (order : Order) (keeps : ℕ → Bool) (most : ℕ) → Expands rv_kind bytes_world most keeps (length piece) (λ start. piece) (exchanging_on (exchange_at target order weak)) → ⊥

-- a weak exchange that answers false without its pair store: lr.d and li
abbrev pub early_code : List (RvInstr × Tag)
early_code = (LoadReserved Double Plain 13 10, Linked true 12 None) ∷ (Li 14 0, Silent) ∷ []

-- a strong exchange that answers false where its pair store failed: it doesn't go back
abbrev pub once_code : List (RvInstr × Tag)
once_code =
    (LoadReserved Double Plain 13 10, Linked false 12 None)
    ∷ (Branch condition.NotEqual 13 12 (pos 4), Silent)
    ∷ (StoreConditional Double Plain 14 11 10, Stored)
    ∷ (Unary unary_op.IsZero 14 14, Silent)
    ∷ (Jump (pos 2), Silent)
    ∷ (Li 14 0, Silent)
    ∷ []
