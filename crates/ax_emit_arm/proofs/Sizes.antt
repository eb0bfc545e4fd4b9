-- Sizes of code.
use Rattle.std.proofs.Common.{◌≡◌, ℕ, zero, suc, ◌+◌, ◌^◌, ◌<◌, ◌≤◌, All, Bool, List, [], ◌∷◌, ◌++◌, length, refl, sym, ap, ◌∙◌, subst, arith, length-append, lit<}
use Rattle.ax_words.specs.declared.mark.Op.{Op}
use Rattle.ax_words.specs.declared.order.Order.{Order}
use Rattle.ax_words.specs.declared.width.Width.{Width}
use Rattle.ax_tags.specs.declared.tags.Tag.{Tag}
use Rattle.ax_mid.specs.declared.code.Line.{Line}
use Rattle.ax_mid.specs.declared.instruction.MidInst.{MidInst}
use Rattle.ax_mid.specs.declared.instruction.MidInst.TheVariants as mid
use Rattle.ax_mid.specs.declared.registers.Virtual.{Virtual}
use Rattle.ax_arm.specs.declared.instructions.ArmInstr.{ArmInstr}
use Rattle.ax_emit.specs.Atomics.{gets_all, puts_all}
use Rattle.ax_emit.specs.Passes.{placed}
use Rattle.ax_expand.specs.Standing.{silently, wrap}
use Rattle.ax_expand.proofs.Straight.{silent_length}
use Rattle.ax_emit_arm.specs.Code.{Expansion, address_register, first_argument, first_result, homes_from, line_size, piece_of}
use Rattle.ax_emit_arm.specs.Emitters.{AreSteady, slot_of}
use Rattle.ax_emit_arm.specs.Slots.{arm_table}

module _ {A : Type 0} where
  same_behind : (xs ys zs : List A) → length ys ≡ length zs → length (xs ++ ys) ≡ length (xs ++ zs)
  same_behind xs ys zs same = length-append xs ys ∙ ap (λ n. length xs + n) same ∙ sym (length-append xs zs)

  same_before : (xs ys zs : List A) → length xs ≡ length ys → length (xs ++ zs) ≡ length (ys ++ zs)
  same_before xs ys zs same = length-append xs zs ∙ ap (λ n. n + length zs) same ∙ sym (length-append ys zs)

-- so many instructions were appended
pub appended : (is : List ArmInstr) (a b : List (ArmInstr × Tag)) → b ≡ a ++ silently is → length b ≡ length a + length is
appended is a b e = ap length e ∙ length-append a (silently is) ∙ ap (λ n. length a + n) (silent_length is)

-- code round an expansion is no shorter than what stands before it
pub before_is_short : (is js : List ArmInstr) (piece : ℕ → List (ArmInstr × Tag)) (start : ℕ) → length is ≤ length (wrap is piece js start)
before_is_short is js piece start =
    let n = silent_length is in
    let all = length-append (silently is) (piece (start + length is) ++ silently js) in
    omega (arith, n, all)

module _ {R : Type 0} (key : R → ℕ) (depth : ℕ) (behind : ℕ → ℕ) (expansions : Op → Width → Order → Bool → Expansion) (same : AreSteady expansions) where
  -- a line's code has its size wherever it stands
  pub steady : (inst : MidInst R) (places : ℕ → ℕ) (start : ℕ) → length (piece_of key depth behind expansions inst places start) ≡ length (piece_of key depth behind expansions inst (λ j. 0) 0)
  unfolding piece_of
  steady (mid.Const to n) places start = refl
  steady (mid.Copy to from) places start = refl
  steady (mid.Apply o to left right) places start = refl
  steady (mid.Shift o to from by) places start = refl
  steady (mid.Extend to from bits signed) places start = refl
  steady (mid.Select to test x y) places start = refl
  steady (mid.FrameAddress to offset) places start = refl
  steady (mid.Load to address n) places start = refl
  steady (mid.Store address from n) places start = refl
  steady (mid.Label n) places start = refl
  steady (mid.Jump n) places start = refl
  steady (mid.Branch test a b) places start = refl
  steady (mid.Atomic o width order weak address args results) places start =
      let before : List ArmInstr = gets_all arm_table ((address_register, key address) ∷ homes_from key first_argument args) in
      let after : List ArmInstr = puts_all arm_table (homes_from key first_result results) in
      let e = expansions o width order weak in
      let there : length (e.piece (start + length before)) ≡ length (e.piece (0 + length before)) = same o width order weak (start + length before) ∙ sym (same o width order weak (0 + length before)) in
      same_behind (silently before) (e.piece (start + length before) ++ silently after) (e.piece (0 + length before) ++ silently after) (same_before (e.piece (start + length before)) (e.piece (0 + length before)) (silently after) there)
  steady (mid.Out from) places start = refl
  steady mid.Trap places start = refl
  steady mid.Ret places start = refl
  steady mid.Nop places start = refl
  steady (mid.Call routine role args results) places start = refl

-- ---- code of lines, and their parts
module _ (depth : ℕ) (behind : ℕ → ℕ) (expansions : Op → Width → Order → Bool → Expansion) (line : Line Virtual) where
  -- a branch is three instructions behind the three that get its test
  pub branch_size : (test : Virtual) (a b : ℕ) → line.inst ≡ mid.Branch test a b → line_size slot_of depth behind expansions line ≡ 6
  unfolding piece_of
  branch_size test a b is = ap (λ (i : MidInst Virtual). length (piece_of slot_of depth behind expansions i (λ j. 0) 0)) is

  -- the code of an atomic operation is no shorter than what brings what it takes
  pub atomic_size : (o : Op) (width : Width) (order : Order) (weak : Bool) (address : Virtual) (args results : List Virtual) → line.inst ≡ mid.Atomic o width order weak address args results
      → length (gets_all arm_table ((address_register, slot_of address) ∷ homes_from slot_of first_argument args)) ≤ line_size slot_of depth behind expansions line
  unfolding piece_of
  atomic_size o width order weak address args results is =
      let before : List ArmInstr = gets_all arm_table ((address_register, slot_of address) ∷ homes_from slot_of first_argument args) in
      let short = before_is_short before (puts_all arm_table (homes_from slot_of first_result results)) (expansions o width order weak).piece 0 in
      subst (λ (i : MidInst Virtual). length before ≤ length (piece_of slot_of depth behind expansions i (λ j. 0) 0)) (sym is) short

-- ---- places are low
pub placed_low : (places : List ℕ) (j : ℕ) → All (λ p. p < 2 ^ 31) places → placed places j < 2 ^ 31
placed_low [] zero h = lit< tt
placed_low [] (suc j) h = lit< tt
placed_low (p ∷ ps) zero h = h 0 0 (omega arith)
placed_low (p ∷ ps) (suc j) h = placed_low ps j (λ k d lt. h (suc k) d (omega (arith, lt)))
