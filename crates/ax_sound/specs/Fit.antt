-- WHAT THE CODE OF A MIDDLE INSTRUCTION RESTS ON: its numbers, its registers, and where it stands.
use Rattle.std.specs.Prelude.{◌≡◌, ℕ, ◌+◌, ◌<◌, ◌≤◌, ◌^◌, true, false, Contains, List, length}
use Rattle.ax_words.specs.declared.mark.Op.{Op}
use Rattle.ax_words.specs.declared.order.Order.{Order}
use Rattle.ax_words.specs.declared.width.Width.{Width}
use Rattle.ax_target.specs.declared.target.Target.{Target}
use Rattle.ax_mid.specs.declared.instruction.MidInst.{MidInst}
use Rattle.ax_mid.specs.declared.instruction.MidInst.TheVariants as mid
use Rattle.ax_mid.specs.declared.registers.Virtual.{Virtual}
use Rattle.ax_mid.specs.WellFormed.{HasWay, is_access_size, is_last, labels_named, registers_of, words_given, words_taken}
use Rattle.ax_selected.specs.Registers.{key}

-- an operation has as many registers as it takes and gives words, and a way that calls no routine
pub record IsOperation (target : Target) (o : Op) (width : Width) (order : Order) (args results : List Virtual) : Type 0 where
  pub taken : length args ≡ words_taken o width
  pub given : length results ≡ words_given o width
  pub way : HasWay target o width order

-- numbers are in their ranges: a constant fits a register, and an address of the frame is of its 32 kilobytes for allocas or of their end
abbrev pub HasNumbers : Target → MidInst Virtual → Type 0
HasNumbers target (mid.Const to n) = n < 2 ^ 64
HasNumbers target (mid.Shift o to from by) = by < 64
HasNumbers target (mid.Extend to from bits signed) = (1 ≤ bits) × (bits ≤ 64)
HasNumbers target (mid.FrameAddress to offset) = offset ≤ 32768
HasNumbers target (mid.Load to address n) = is_access_size n ≡ true
HasNumbers target (mid.Store address from n) = is_access_size n ≡ true
HasNumbers target (mid.Atomic o width order weak address args results) = IsOperation target o width order args results
-- calls of routines have no code yet
HasNumbers target (mid.Call routine role args results) = ⊥
HasNumbers target _ = Unit {0}

-- AN INSTRUCTION THAT IS FIT: there are four registers for each of a function's 2,048 instructions, and 16 more
pub record IsFit (target : Target) (i : MidInst Virtual) : Type 0 where
  pub numbers : HasNumbers target i
  pub registers : (r : Virtual) → Contains (registers_of i) r → key r < 8208

-- each label that it names has code behind it, where the line behind label n is `behind n` and line j begins at `places j`
abbrev pub HasLabels : (ℕ → ℕ) → (ℕ → ℕ) → ℕ → MidInst Virtual → Type 0
HasLabels behind places size i = (n : ℕ) → Contains (labels_named i) n → (1 ≤ places (behind n)) × (places (behind n) ≤ size)

-- its code, so many instructions, stands from a place on in a code of so many, which goes on behind it where no function can end with it
pub record StandsInside (behind places : ℕ → ℕ) (size place own : ℕ) (i : MidInst Virtual) : Type 0 where
  pub short : size < 2 ^ 31
  pub first : 1 ≤ place
  pub last : place + own ≤ size + 1
  pub more : is_last i ≡ false → place + own ≤ size
  pub labels : HasLabels behind places size i
