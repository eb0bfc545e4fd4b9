-- What stands in registers before a masked loop, by the object's address and the numbers that its operation takes.
use Rattle.std.specs.Prelude.{◌≡◌, ℕ, ◌-◌, ◌%◌, ◌^◌, Bool, bit_and, if◌then◌else◌, negsuc, pos}
use Rattle.ax_words.specs.declared.width.Width.{Width}
use Rattle.ax_isa.specs.Numbers.{displaced}
use Rattle.ax_rv.specs.Arithmetic.{shifted_left, shifted_right}
use Rattle.ax_mask.specs.Codes.{above, ones}

abbrev pub word_of : ℕ → ℕ
word_of a = bit_and a (displaced 0 (negsuc 3))

abbrev pub up_of : Width → ℕ → ℕ
up_of width a = displaced ((2 ^ 64 - shifted_left (bit_and a (displaced 0 (pos 3))) 3) % 2 ^ 64) (pos (above width))

abbrev pub mask_of : Width → ℕ → ℕ
mask_of width a = shifted_right (ones width) (up_of width a % 64)

abbrev pub at_top : Width → ℕ → ℕ
at_top width x = shifted_left x (above width % 64)

abbrev pub placed_of : Width → ℕ → ℕ → ℕ
placed_of width a x = shifted_right (at_top width x) (up_of width a % 64)

abbrev pub taken_of : Width → ℕ → ℕ → ℕ
taken_of width a r = shifted_right (shifted_left r (up_of width a % 64)) (above width % 64)

-- the word of the object at the address in register 10
pub record HasWord (width : Width) (regs : ℕ → ℕ) : Type 0 where
  pub word : regs 5 ≡ word_of (regs 10)
  pub up : regs 6 ≡ up_of width (regs 10)
  pub mask : regs 7 ≡ mask_of width (regs 10)

-- the operand of a read-modify-write, at the highest bits or in its place
pub record HasOperand (top : Bool) (width : Width) (regs : ℕ → ℕ) : Type 0 where
  pub word : HasWord width regs
  pub operand : regs 28 ≡ (if top then at_top width (regs 11) else placed_of width (regs 10) (regs 11))

-- the two numbers of a compare-exchange
pub record HasNumbers (width : Width) (regs : ℕ → ℕ) : Type 0 where
  pub word : HasWord width regs
  pub expected : regs 28 ≡ placed_of width (regs 10) (regs 11)
  pub desired : regs 30 ≡ placed_of width (regs 10) (regs 12)
