-- WHAT MAKES X86-64 CODE of lines: what it takes, and sizes of code.
use Rattle.std.specs.Prelude.{◌≡◌, ℕ, ◌<◌, ◌≤◌, Bool, List, [], ◌∷◌, length}
use Rattle.ax_words.specs.declared.mark.Op.{Op}
use Rattle.ax_words.specs.declared.order.Order.{Order}
use Rattle.ax_words.specs.declared.width.Width.{Width}
use Rattle.ax_mid.specs.declared.instruction.MidInst.{MidInst}
use Rattle.ax_mid.specs.declared.instruction.MidInst.TheVariants as mid
use Rattle.ax_mid.specs.declared.registers.Virtual.{Virtual}
use Rattle.ax_emit_x86.specs.Code.{Expansion, piece_of}
use Rattle.ax_emit_x86.specs.Slots.{reached_slots}

-- the slot of a register
abbrev pub slot_of : Virtual → ℕ
slot_of r = r.0

-- a register whose slot is reached
abbrev pub IsReached : Virtual → Type 0
IsReached r = slot_of r < reached_slots

abbrev pub AreReached : List Virtual → Type 0
AreReached [] = Unit {0}
AreReached (r ∷ rs) = IsReached r × AreReached rs

-- slots that are reached, a byte of the frame, and no more registers than an operation has on the machine
abbrev pub IsTaken : ℕ → MidInst Virtual → Type 0
IsTaken depth (mid.Const to n) = IsReached to
IsTaken depth (mid.Copy to from) = IsReached to × IsReached from
IsTaken depth (mid.Apply o to left right) = IsReached to × IsReached left × IsReached right
IsTaken depth (mid.Shift o to from by) = IsReached to × IsReached from
IsTaken depth (mid.Extend to from bits signed) = IsReached to × IsReached from
IsTaken depth (mid.Select to test x y) = IsReached to × IsReached test × IsReached x × IsReached y
IsTaken depth (mid.Branch test a b) = IsReached test
IsTaken depth (mid.FrameAddress to offset) = IsReached to × (offset < depth)
IsTaken depth (mid.Load to address n) = IsReached to × IsReached address
IsTaken depth (mid.Store address from n) = IsReached address × IsReached from
IsTaken depth (mid.Atomic o width order weak address args results) = IsReached address × AreReached args × AreReached results × (length args ≤ 4) × (length results ≤ 3)
IsTaken depth (mid.Out from) = IsReached from
IsTaken depth _ = Unit {0}

-- the code of each operation has one length, wherever it stands
abbrev pub AreSteady : (Op → Width → Order → Bool → Expansion) → Type 0
AreSteady expansions = (o : Op) (width : Width) (order : Order) (weak : Bool) (start : ℕ) → length ((expansions o width order weak).piece start) ≡ length ((expansions o width order weak).piece 0)

-- SO THE CODE OF A LINE HAS ITS SIZE, wherever it and the others stand
abbrev pub LineCodeIsSteady : Type 0 → Type 0
LineCodeIsSteady R =
    (key : R → ℕ) (depth : ℕ) (behind : ℕ → ℕ) (expansions : Op → Width → Order → Bool → Expansion) → AreSteady expansions → (inst : MidInst R) (places : ℕ → ℕ) (start : ℕ)
    → length (piece_of key depth behind expansions inst places start) ≡ length (piece_of key depth behind expansions inst (λ j. 0) 0)
