-- Selected code is what the fine machine asks for.
use Rattle.std.proofs.Common.{◌≡◌, ℕ, ◌+◌, ◌^◌, ◌<◌, ◌≤◌, Bool, true, false, ◌&&◌, ◌||◌, List, [], ◌∷◌, Option, Some, None, refl, sym, ap, ◌∙◌, subst, arith, slice_get}
use Rattle.std.specs.Prelude.{IsTrue, nat_eq, nat_le, nat_lt}
use Rattle.std.proofs.lemmas.Bool.{and_parts, false≢true}
use Rattle.std.proofs.lemmas.Bool.Decides.{nat_tests}
use Rattle.ax_words.specs.declared.source.SourceEvent.{SourceEvent}
use Rattle.ax_words.specs.declared.source.SourceStatus.TheVariants.{Running}
use Rattle.ax_tags.specs.declared.tags.Tag.{Tag}
use Rattle.ax_tags.specs.declared.tags.Tag.TheVariants as tag
use Rattle.ax_mid.specs.declared.code.Line.{Line}
use Rattle.ax_mid.specs.declared.instruction.MidInst.{MidInst}
use Rattle.ax_mid.specs.declared.instruction.MidInst.TheVariants as mid
use Rattle.ax_mid.specs.declared.registers.Virtual.{Virtual}
use Rattle.ax_mid.specs.Machine.{label_at}
use Rattle.ax_mid.specs.WellFormed.{is_access_size, is_act, is_shaped, is_silent}
use Rattle.ax_fine.specs.Fine.{is_some}
use Rattle.ax_fine.specs.Near.{IsSmallInst}
use Rattle.ax_selected.specs.Formed.{IsSmallLine}
use Rattle.ax_selected.specs.InStep.{IsFramePlace}

silent_of : (t : Tag) → is_silent t ≡ true → t ≡ tag.Silent
silent_of tag.Silent h = refl
silent_of _ h = absurd (false≢true h)

size_within : (n : ℕ) → is_access_size n ≡ true → (1 ≤ n) × (n ≤ 8)
size_within n h = (grind (arith, nat_tests, h), grind (arith, nat_tests, h))

label_silent : (t : Tag) (i : MidInst Virtual) → IsTrue (is_shaped t i) → is_some (label_at (λ r. 0) i) ≡ true → t ≡ tag.Silent
unfolding is_shaped
label_silent t (mid.Label n) h is = silent_of t h
label_silent t _ h is = absurd (false≢true is)

-- a label is silent
pub labels_silent : (line : Line Virtual) → IsSmallLine line → is_some (label_at (λ r. 0) line.inst) ≡ true → line.tag ≡ tag.Silent
labels_silent line small is = label_silent line.tag line.inst small.shaped is

small_by : (base : ℕ) → IsFramePlace base → (t : Tag) (i : MidInst Virtual) → IsTrue (is_shaped t i) → ((to : Virtual) (n : ℕ) → i ≡ mid.Const to n → n < 2 ^ 64) → ((to : Virtual) (offset : ℕ) → i ≡ mid.FrameAddress to offset → offset ≤ 32768) → IsSmallInst base i
unfolding is_shaped
small_by base frame t (mid.Const to n) h constant offset = constant to n refl
small_by base frame t (mid.FrameAddress to k) h constant offset = let less = offset to k refl in let high = frame.high in omega (arith, less, high)
small_by base frame t (mid.Load to address n) h constant offset = size_within n (and_parts (is_silent t || is_act t) (is_access_size n) h).1
small_by base frame t (mid.Store address from n) h constant offset = size_within n (and_parts (is_silent t || is_act t) (is_access_size n) h).1
small_by base frame t _ h constant offset = tt

-- its numbers fit
pub lines_small : (base : ℕ) → IsFramePlace base → (line : Line Virtual) → IsSmallLine line → IsSmallInst base line.inst
lines_small base frame line small = small_by base frame line.tag line.inst small.shaped small.constant small.frame
