-- How long the code of an instruction is: at most 31 instructions for each unit of its weight, and at least one where a function can end with it.
use Rattle.std.proofs.Common.{◌≡◌, ℕ, suc, ◌+◌, ◌-◌, ◌*◌, ◌≤◌, pos, Bool, true, false, List, [], ◌∷◌, ◌++◌, length, refl, ap, arith, length-append}
use Rattle.std.specs.Prelude.{if◌then◌else◌, nat_eq, nat_lt}
use Rattle.std.proofs.lemmas.Bool.{false≢true}
use Rattle.ax_words.specs.declared.mark.Op.{Op}
use Rattle.ax_words.specs.declared.order.Order.{Order}
use Rattle.ax_words.specs.declared.width.Width.{Width}
use Rattle.ax_target.specs.declared.target.Target.{Target}
use Rattle.ax_rv.specs.declared.instructions.Binary.TheVariants as binary
use Rattle.ax_rv.specs.declared.instructions.Condition.TheVariants as condition
use Rattle.ax_rv.specs.declared.instructions.RvInstr.{RvInstr}
use Rattle.ax_rv.specs.declared.instructions.RvInstr.TheVariants.{Binary, Branch, Ecall, Li, Shift}
use Rattle.ax_mid.specs.declared.instruction.MidInst.{MidInst}
use Rattle.ax_mid.specs.declared.instruction.MidInst.TheVariants as mid
use Rattle.ax_mid.specs.declared.instruction.MidOp.{MidOp}
use Rattle.ax_mid.specs.declared.instruction.MidOp.TheVariants as op
use Rattle.ax_mid.specs.declared.registers.Virtual.{Virtual}
use Rattle.ax_mid.specs.WellFormed.{is_last, weight}
use Rattle.ax_expand.proofs.Straight.{silent_length}
use Rattle.ax_emit.specs.Atomics.{gets_all, puts_all}
use Rattle.ax_emit.specs.Lines.{access_code}
use Rattle.ax_emit_rv.specs.Code.{cleared, computed, extend_code, first_argument, first_result, get_one, get_two, homes_from, jump_to, load_in, op_code, piece_of, select_code, shift_of, store_in}
use Rattle.ax_emit_rv.specs.Slots.{down, near_slots, put_first, put_first_by, put_last, rv_table}
use Rattle.ax_emit_rv.proofs.Atomics.{puts_short}
use Rattle.ax_emit_rv.proofs.Computing.{gets_short}
use Rattle.ax_image.specs.Image.{Coding}
use Rattle.ax_image_rv.specs.Image.{frame_depth, frame_size}
use Rattle.ax_direct_rv.specs.Direct.{direct_expansions}
use Rattle.ax_selected.specs.Registers.{key}
use Rattle.ax_sound.specs.Fit.{IsFit, IsOperation}
use Rattle.ax_sound.proofs.Shapes.{branch_size, performed_size, wrapped_size}
use Rattle.ax_sound.proofs.Registers.{few_registers}
use Rattle.ax_sound_rv.proofs.Loops.{direct_most}

-- ---- parts
first_by : (near : Bool) (r t : ℕ) → length (put_first_by near r t) ≤ 2
first_by true r t = omega arith
first_by false r t = omega arith

first_two : (r t : ℕ) → length (put_first r t) ≤ 2
first_two r t = first_by (nat_lt r near_slots) r t

op_two : (o : MidOp) → length (op_code o) ≤ 2
op_two op.Add = omega arith
op_two op.Sub = omega arith
op_two op.Mul = omega arith
op_two op.And = omega arith
op_two op.Or = omega arith
op_two op.Xor = omega arith
op_two op.Eq = omega arith
op_two op.Ne = omega arith
op_two op.Ult = omega arith
op_two op.Ule = omega arith
op_two op.Slt = omega arith
op_two op.Sle = omega arith

cleared_two : (n : ℕ) → length (cleared n) ≤ 2
cleared_two n = by (nat_eq n 4)
  where
    by : (b : Bool) → length (if b then extend_code 32 false else []) ≤ 2
    by true = omega arith
    by false = omega arith

homes_length : (t : ℕ) (rs : List Virtual) → length (homes_from key t rs) ≡ length rs
homes_length t [] = refl
homes_length t (r ∷ rs) = ap suc (homes_length (t + 1) rs)

computed_size : (to : Virtual) (zs : List (ℕ × ℕ)) (is : List RvInstr) → length (computed key to (gets_all rv_table zs ++ is)) ≤ 3 * length zs + length is + 3
computed_size to zs is =
    let code = gets_all rv_table zs ++ is in
    let a = performed_size (code ++ put_first (key to) 7) (put_last (key to) 7) [] in
    let b = length-append code (put_first (key to) 7) in
    let c = length-append (gets_all rv_table zs) is in
    let d = gets_short zs in
    let e = first_two (key to) 7 in
    omega (arith, a, b, c, d, e)

-- ---- instructions
module _ (target : Target) (behind : ℕ → ℕ) where
  abbrev pub direct_coding : Coding RvInstr
  direct_coding = record { piece = piece_of key frame_depth behind (direct_expansions target); frame_size = frame_size }

  abbrev size : MidInst Virtual → ℕ
  size i = length (direct_coding.piece i (λ j. 0) 0)

  atomic_size : (o : Op) (width : Width) (order : Order) (weak : Bool) (address : Virtual) (args results : List Virtual) → IsOperation target o width order args results → size (mid.Atomic o width order weak address args results) ≤ 31 * 8
  unfolding piece_of
  atomic_size o width order weak address args results words =
      let before : List (ℕ × ℕ) = (10, key address) ∷ homes_from key first_argument args in
      let after = homes_from key first_result results in
      let a = wrapped_size (gets_all rv_table before) (direct_expansions target o width order weak).piece (puts_all rv_table after) 0 in
      let b = gets_short before in
      let c = puts_short after in
      let d = direct_most target width order weak (0 + length (gets_all rv_table before)) o in
      let e = homes_length first_argument args in
      let f = homes_length first_result results in
      let registers = few_registers target o width order args results words in
      let taken = registers.0 in
      let given = registers.1 in
      omega (arith, a, b, c, d, e, f, taken, given)

  pub size_most : (i : MidInst Virtual) → IsFit target i → size i ≤ 31 * weight i
  unfolding piece_of weight
  size_most (mid.Const to n) fit = let a = computed_size to [] (Li 7 n ∷ []) in omega (arith, a)
  size_most (mid.Copy to from) fit = let a = computed_size to ((7, key from) ∷ []) [] in omega (arith, a)
  size_most (mid.Apply o to left right) fit = let a = computed_size to ((5, key left) ∷ (6, key right) ∷ []) (op_code o) in let b = op_two o in omega (arith, a, b)
  size_most (mid.Shift o to from by) fit = let a = computed_size to ((7, key from) ∷ []) (Shift (shift_of o) 7 7 by ∷ []) in omega (arith, a)
  size_most (mid.Extend to from bits signed) fit = let a = computed_size to ((7, key from) ∷ []) (extend_code bits signed) in omega (arith, a)
  size_most (mid.Select to test x y) fit = let a = computed_size to ((5, key test) ∷ (6, key x) ∷ (7, key y) ∷ []) select_code in omega (arith, a)
  size_most (mid.FrameAddress to offset) fit = let a = computed_size to [] (Li 7 (down (frame_depth - offset)) ∷ Binary binary.Add 7 2 7 ∷ []) in omega (arith, a)
  size_most (mid.Load to address n) fit =
      let a = wrapped_size (get_one key 5 address) (access_code (load_in n) (cleared n)) (puts_all rv_table ((7, key to) ∷ [])) 0 in
      let b = gets_short ((5, key address) ∷ []) in
      let c = puts_short ((7, key to) ∷ []) in
      let d = silent_length (cleared n) in
      let e = cleared_two n in
      omega (arith, a, b, c, d, e)
  size_most (mid.Store address from n) fit =
      let a = wrapped_size (get_two key address from) (access_code (store_in n) []) [] 0 in
      let b = gets_short ((5, key address) ∷ (6, key from) ∷ []) in
      omega (arith, a, b)
  size_most (mid.Label n) fit = omega arith
  size_most (mid.Jump n) fit = omega arith
  size_most (mid.Branch test a b) fit =
      let c = branch_size (get_one key 5 test) (Branch condition.NotEqual 5 0 (pos 2)) jump_to 0 0 0 in
      let d = gets_short ((5, key test) ∷ []) in
      omega (arith, c, d)
  size_most (mid.Atomic o width order weak address args results) fit = atomic_size o width order weak address args results fit.numbers
  size_most (mid.Out from) fit =
      let a = performed_size (get_one key 10 from) Ecall [] in
      let b = gets_short ((10, key from) ∷ []) in
      omega (arith, a, b)
  size_most mid.Trap fit = omega arith
  size_most mid.Ret fit = omega arith
  size_most mid.Nop fit = omega arith
  size_most (mid.Call routine role args results) fit = omega arith

  pub size_least : (i : MidInst Virtual) → is_last i ≡ true → 1 ≤ size i
  unfolding piece_of is_last
  size_least (mid.Jump n) h = omega arith
  size_least (mid.Branch test a b) h = let c = branch_size (get_one key 5 test) (Branch condition.NotEqual 5 0 (pos 2)) jump_to 0 0 0 in omega (arith, c)
  size_least mid.Trap h = omega arith
  size_least mid.Ret h = omega arith
  size_least _ h = absurd (false≢true h)
