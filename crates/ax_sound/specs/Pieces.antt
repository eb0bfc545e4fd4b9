-- WHAT AN INSTRUCTION SET'S CODE OF MIDDLE INSTRUCTIONS BRINGS, so that images of it are short and sound.
use Rattle.std.specs.Prelude.{◌≡◌, ℕ, ◌*◌, ◌≤◌, true, length}
use Rattle.ax_target.specs.declared.target.Target.{Target}
use Rattle.ax_map.specs.Map.{IsFrameSize}
use Rattle.ax_isa.specs.Steps.{Kind}
use Rattle.ax_mid.specs.declared.instruction.MidInst.{MidInst}
use Rattle.ax_mid.specs.declared.registers.Virtual.{Virtual}
use Rattle.ax_mid.specs.WellFormed.{is_last, weight}
use Rattle.ax_image.specs.Image.{Coding}
use Rattle.ax_sound.specs.Fit.{IsFit, StandsInside}
use Rattle.ax_sound.specs.Good.{AreGood}

-- for a target; the line behind label n is `behind n`
pub record HasSoundPieces {I : Type 0} (kind : Kind I) (valid : I → Type 0) (target : Target) (behind : ℕ → ℕ) (c : Coding I) : Type 0 where
  -- an instruction's code has one length, wherever it stands
  pub steady : (i : MidInst Virtual) (places : ℕ → ℕ) (start : ℕ) → length (c.piece i places start) ≡ length (c.piece i (λ j. 0) 0)
  -- at most 31 instructions for each unit of its weight, and at least one where a function can end with it
  pub most : (i : MidInst Virtual) → IsFit target i → length (c.piece i (λ j. 0) 0) ≤ 31 * weight i
  pub least : (i : MidInst Virtual) → is_last i ≡ true → 1 ≤ length (c.piece i (λ j. 0) 0)
  -- each of them is good where it stands
  pub good : (i : MidInst Virtual) (places : ℕ → ℕ) (size start : ℕ) → IsFit target i → StandsInside behind places size start (length (c.piece i places start)) i → AreGood kind valid size start (c.piece i places start)
  pub frame : IsFrameSize c.frame_size
