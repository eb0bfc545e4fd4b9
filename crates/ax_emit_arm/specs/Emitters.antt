-- WHAT MAKES AARCH64 CODE of lines: what it takes, and sizes of code.
use Rattle.std.specs.Prelude.{◌≡◌, ℕ, ◌<◌, ◌≤◌, Bool, length}
use Rattle.ax_words.specs.declared.mark.Op.{Op}
use Rattle.ax_words.specs.declared.order.Order.{Order}
use Rattle.ax_words.specs.declared.width.Width.{Width}
use Rattle.ax_mid.specs.declared.instruction.MidInst.{MidInst}
use Rattle.ax_mid.specs.declared.instruction.MidInst.TheVariants as mid
use Rattle.ax_mid.specs.declared.registers.Virtual.{Virtual}
use Rattle.ax_emit_arm.specs.Code.{Expansion, piece_of}

-- the slot of a register
abbrev pub slot_of : Virtual → ℕ
slot_of r = r.0

-- a byte of the frame, and no more registers than an operation has on the machine
abbrev pub IsTaken : {R : Type 0} → ℕ → MidInst R → Type 0
IsTaken depth (mid.FrameAddress to offset) = offset < depth
IsTaken depth (mid.Atomic o width order weak address args results) = (length args ≤ 4) × (length results ≤ 3)
IsTaken depth _ = Unit {0}

-- the code of each operation has one length, wherever it stands
abbrev pub AreSteady : (Op → Width → Order → Bool → Expansion) → Type 0
AreSteady expansions = (o : Op) (width : Width) (order : Order) (weak : Bool) (start : ℕ) → length ((expansions o width order weak).piece start) ≡ length ((expansions o width order weak).piece 0)

-- SO THE CODE OF A LINE HAS ITS SIZE, wherever it and the others stand
abbrev pub LineCodeIsSteady : Type 0 → Type 0
LineCodeIsSteady R =
    (key : R → ℕ) (depth : ℕ) (behind : ℕ → ℕ) (expansions : Op → Width → Order → Bool → Expansion) → AreSteady expansions → (inst : MidInst R) (places : ℕ → ℕ) (start : ℕ)
    → length (piece_of key depth behind expansions inst places start) ≡ length (piece_of key depth behind expansions inst (λ j. 0) 0)
