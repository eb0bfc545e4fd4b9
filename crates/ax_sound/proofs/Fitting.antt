-- Each line of selected code is fit.
use Rattle.std.proofs.Common.{◌≡◌, ℕ, ◌^◌, ◌<◌, ◌≤◌, true, ◌&&◌, ◌||◌, length, refl, arith}
use Rattle.std.specs.Prelude.{IsTrue, nat_eq, nat_le, nat_lt}
use Rattle.std.proofs.lemmas.Bool.{and_parts, eqb-true, false≢true}
use Rattle.std.proofs.lemmas.Bool.Decides.{nat_tests}
use Rattle.ax_tags.specs.declared.tags.Tag.{Tag}
use Rattle.ax_target.specs.declared.target.Target.{Target}
use Rattle.ax_mid.specs.declared.code.Line.{Line}
use Rattle.ax_mid.specs.declared.instruction.MidInst.{MidInst}
use Rattle.ax_mid.specs.declared.instruction.MidInst.TheVariants as mid
use Rattle.ax_mid.specs.declared.registers.Virtual.{Virtual}
use Rattle.ax_mid.specs.WellFormed.{HasWayIn, is_access_size, is_act, is_shaped, is_silent, words_given, words_taken}
use Rattle.ax_selected.specs.Formed.{IsSmallLine}
use Rattle.ax_sound.specs.Fit.{HasNumbers, IsFit}

lt_of : (a b : ℕ) → nat_lt a b ≡ true → a < b
lt_of a b h = grind (arith, nat_tests, h)

le_of : (a b : ℕ) → nat_le a b ≡ true → a ≤ b
le_of a b h = grind (arith, nat_tests, h)

module _ (target : Target) where
  numbers : (t : Tag) (i : MidInst Virtual) → IsTrue (is_shaped t i) → ((to : Virtual) (n : ℕ) → i ≡ mid.Const to n → n < 2 ^ 64) → ((to : Virtual) (offset : ℕ) → i ≡ mid.FrameAddress to offset → offset ≤ 32768) → HasWayIn target i → HasNumbers target i
  unfolding is_shaped HasWayIn
  numbers t (mid.Const to n) h constant frame way = constant to n refl
  numbers t (mid.Shift o to from n) h constant frame way = lt_of n 64 (and_parts (is_silent t || is_act t) (nat_lt n 64) h).1
  numbers t (mid.Extend to from bits signed) h constant frame way =
      let parts = and_parts ((is_silent t || is_act t) && nat_lt 0 bits) (nat_le bits 64) h in
      let some = lt_of 0 bits (and_parts (is_silent t || is_act t) (nat_lt 0 bits) parts.0).1 in
      (omega (arith, some), le_of bits 64 parts.1)
  numbers t (mid.FrameAddress to offset) h constant frame way = frame to offset refl
  numbers t (mid.Load to address n) h constant frame way = (and_parts (is_silent t || is_act t) (is_access_size n) h).1
  numbers t (mid.Store address from n) h constant frame way = (and_parts (is_silent t || is_act t) (is_access_size n) h).1
  numbers t (mid.Atomic o width order weak address args results) h constant frame way =
      let all = and_parts (is_act t && nat_eq (length args) (words_taken o width)) (nat_eq (length results) (words_given o width)) h in
      let first = and_parts (is_act t) (nat_eq (length args) (words_taken o width)) all.0 in
      record { taken = eqb-true (length args) (words_taken o width) first.1; given = eqb-true (length results) (words_given o width) all.1; way = way }
  numbers t (mid.Call routine role args results) h constant frame way = absurd (false≢true h)
  numbers t _ h constant frame way = tt

  pub line_fits : (line : Line Virtual) → IsSmallLine line → HasWayIn target line.inst → IsFit target line.inst
  line_fits line small way = record { numbers = numbers line.tag line.inst small.shaped small.constant small.frame way; registers = small.registers }
