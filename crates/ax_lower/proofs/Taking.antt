-- The emitter takes each line of selected code.
use Rattle.std.proofs.Common.{◌≡◌, ℕ, ◌≤◌, refl, arith}
use Rattle.std.specs.Prelude.{IsTrue}
use Rattle.ax_tags.specs.declared.tags.Tag.{Tag}
use Rattle.ax_mid.specs.declared.code.Line.{Line}
use Rattle.ax_mid.specs.declared.instruction.MidInst.{MidInst}
use Rattle.ax_mid.specs.declared.instruction.MidInst.TheVariants as mid
use Rattle.ax_mid.specs.declared.registers.Virtual.{Virtual}
use Rattle.ax_mid.specs.WellFormed.{is_shaped}
use Rattle.ax_emit_rv.specs.Emitters.{IsTaken}
use Rattle.ax_image_rv.specs.Image.{frame_depth}
use Rattle.ax_selected.specs.Formed.{IsSmallLine}
use Rattle.ax_direct_rv.proofs.Words.{few_registers, has_words}

taken_by : (t : Tag) (i : MidInst Virtual) → IsTrue (is_shaped t i) → ((to : Virtual) (offset : ℕ) → i ≡ mid.FrameAddress to offset → offset ≤ 32768) → IsTaken frame_depth i
taken_by t (mid.Atomic o width order weak address args results) h framed = few_registers o width args results (has_words t (mid.Atomic o width order weak address args results) h)
taken_by t (mid.FrameAddress to offset) h framed = let low = framed to offset refl in omega (arith, low)
taken_by t _ h framed = tt

pub line_taken : (line : Line Virtual) → IsSmallLine line → IsTaken frame_depth line.inst
line_taken line small = taken_by line.tag line.inst small.shaped small.frame
