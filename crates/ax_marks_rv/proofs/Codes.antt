-- The machine code of each middle instruction: how long it is, which of its instructions may lead elsewhere, and which marks it has.
use Rattle.std.proofs.Common.{◌≡◌, ℕ, ◌+◌, ◌<◌, ◌≤◌, Bool, true, false, List, [], ◌∷◌, ◌++◌, length, refl, sym, ap, ◌∙◌, subst, arith, flat_map}
use Rattle.std.specs.Prelude.{◌-◌, if◌then◌else◌, nat_eq, nat_lt, pos}
use Rattle.std.proofs.lemmas.Bool.{true≢false}
use Rattle.std.proofs.lemmas.Grind.{flat_map-append}
use Rattle.std.proofs.lemmas.List.{append-nil, length-append, length-map}
use Rattle.ax_words.specs.declared.mark.Mark.{Mark}
use Rattle.ax_words.specs.declared.mark.Op.{Op}
use Rattle.ax_words.specs.declared.order.Order.{Order}
use Rattle.ax_words.specs.declared.width.Width.{Width}
use Rattle.ax_tags.specs.declared.tags.Tag.{Tag}
use Rattle.ax_tags.specs.declared.tags.Tag.TheVariants.{Act, Silent}
use Rattle.ax_target.specs.declared.target.Target.{Target}
use Rattle.ax_rv.specs.declared.instructions.Binary.TheVariants as binary
use Rattle.ax_rv.specs.declared.instructions.Condition.TheVariants as condition
use Rattle.ax_rv.specs.declared.instructions.RvInstr.{RvInstr}
use Rattle.ax_rv.specs.declared.instructions.RvInstr.TheVariants as rv
use Rattle.ax_rv.specs.Instructions.{is_frame_register}
use Rattle.ax_rv.specs.Skeleton.{mark_of}
use Rattle.ax_mid.specs.declared.instruction.MidInst.{MidInst}
use Rattle.ax_mid.specs.declared.instruction.MidInst.TheVariants as mid
use Rattle.ax_mid.specs.declared.instruction.MidOp.{MidOp}
use Rattle.ax_mid.specs.declared.instruction.MidOp.TheVariants as mid_op
use Rattle.ax_expand.specs.Standing.{silently}
use Rattle.ax_emit.specs.Atomics.{gets_all, puts_all}
use Rattle.ax_emit.specs.Lines.{performed_code}
use Rattle.ax_emit_rv.specs.Code.{cleared, extend_code, first_argument, first_result, get_one, homes_from, jump_to, load_in, op_code, piece_of, select_code, shift_of, store_in}
use Rattle.ax_emit_rv.specs.Slots.{down, get, get_by, near_slots, put_first, put_first_by, put_last, put_last_by, rv_table}
use Rattle.ax_llsc.specs.Codes.{Atomic, expansion_of}
use Rattle.ax_selected.specs.Registers.{block_label}
use Rattle.ax_direct_rv.specs.Direct.{direct_expansions}
use Rattle.ax_marks_rv.proofs.Expanded.{bare, bare_all, bare_silently, bare_wrapped, expanded, expanded_some, steady}
use Rattle.ax_marks_rv.proofs.Inside.{IsStill}
use Rattle.ax_marks_rv.proofs.Items.{Each, Placed, each_both, placed_both, placed_each}

-- ---- marks of instructions
abbrev pub marks : RvInstr → List Mark
marks i = mark_of is_frame_register i

-- one that leads nowhere and, but in the code of plain accesses, has no mark
abbrev pub IsCalm : Bool → RvInstr → Type 0
IsCalm plain i = IsStill i × (plain ≡ false → marks i ≡ [])

abbrev pub marks_in : List RvInstr → List Mark
marks_in is = flat_map marks is

pub marks_both : (is js : List RvInstr) → marks_in (is ++ js) ≡ marks_in is ++ marks_in js
marks_both is js = flat_map-append marks is js

abbrev pub IsUnmarked : ℕ → RvInstr → Type 0
IsUnmarked place i = marks i ≡ []

pub unmarked : (at : ℕ) (is : List RvInstr) → Placed IsUnmarked at is → marks_in is ≡ []
unmarked at [] h = refl
unmarked at (i ∷ is) h = ap (λ (ms : List Mark). ms ++ marks_in is) h.0 ∙ unmarked (at + 1) is h.1

still_each : (plain : Bool) (is : List RvInstr) → Each (IsCalm plain) is → Each IsStill is
still_each plain [] h = tt
still_each plain (i ∷ is) h = (h.0.0, still_each plain is h.1)

calm_unmarked : (is : List RvInstr) → Each (IsCalm false) is → marks_in is ≡ []
calm_unmarked [] h = refl
calm_unmarked (i ∷ is) h = ap (λ (ms : List Mark). ms ++ marks_in is) (h.0.1 refl) ∙ calm_unmarked is h.1

-- ---- sizes
some_of : (is : List RvInstr) (z : RvInstr × Tag) (zs : List (RvInstr × Tag)) → 0 < length (silently is ++ (z ∷ zs))
some_of is z zs = let e = length-append (silently is) (z ∷ zs) in omega (arith, e)

computed_some : (r : ℕ) (is : List RvInstr) → 0 < length (performed_code (is ++ put_first r 7) (put_last r 7) [])
computed_some r is = some_of (is ++ put_first r 7) (put_last r 7, Act) []

one : 0 < 1
one = omega arith

-- ---- slots
module _ (plain : Bool) where
  get_calm : (t r : ℕ) → Each (IsCalm plain) (get t r)
  get_calm t r = by (nat_lt r near_slots)
    where
      by : (near : Bool) → Each (IsCalm plain) (get_by near t r)
      by true = ((refl, λ e. refl), tt)
      by false = ((refl, λ e. refl), ((refl, λ e. refl), ((refl, λ e. refl), tt)))

  gets_calm : (zs : List (ℕ × ℕ)) → Each (IsCalm plain) (gets_all rv_table zs)
  gets_calm [] = tt
  gets_calm (z ∷ zs) = each_both (IsCalm plain) (get z.0 z.1) (gets_all rv_table zs) (get_calm z.0 z.1) (gets_calm zs)

  first_calm : (r t : ℕ) → Each (IsCalm plain) (put_first r t)
  first_calm r t = by (nat_lt r near_slots)
    where
      by : (near : Bool) → Each (IsCalm plain) (put_first_by near r t)
      by true = tt
      by false = ((refl, λ e. refl), ((refl, λ e. refl), tt))

  last_calm : (r t : ℕ) → IsCalm plain (put_last r t)
  last_calm r t = by (nat_lt r near_slots)
    where
      by : (near : Bool) → IsCalm plain (put_last_by near r t)
      by true = (refl, λ e. refl)
      by false = (refl, λ e. refl)

  puts_calm : (zs : List (ℕ × ℕ)) → Each (IsCalm plain) (puts_all rv_table zs)
  puts_calm [] = tt
  puts_calm (z ∷ zs) =
      each_both (IsCalm plain) (put_first z.1 z.0 ++ put_last z.1 z.0 ∷ []) (puts_all rv_table zs)
      (each_both (IsCalm plain) (put_first z.1 z.0) (put_last z.1 z.0 ∷ []) (first_calm z.1 z.0) (last_calm z.1 z.0, tt)) (puts_calm zs)

  op_calm : (o : MidOp) → Each (IsCalm plain) (op_code o)
  op_calm mid_op.Add = ((refl, λ e. refl), tt)
  op_calm mid_op.Sub = ((refl, λ e. refl), tt)
  op_calm mid_op.Mul = ((refl, λ e. refl), tt)
  op_calm mid_op.And = ((refl, λ e. refl), tt)
  op_calm mid_op.Or = ((refl, λ e. refl), tt)
  op_calm mid_op.Xor = ((refl, λ e. refl), tt)
  op_calm mid_op.Eq = ((refl, λ e. refl), ((refl, λ e. refl), tt))
  op_calm mid_op.Ne = ((refl, λ e. refl), ((refl, λ e. refl), tt))
  op_calm mid_op.Ult = ((refl, λ e. refl), tt)
  op_calm mid_op.Ule = ((refl, λ e. refl), ((refl, λ e. refl), tt))
  op_calm mid_op.Slt = ((refl, λ e. refl), tt)
  op_calm mid_op.Sle = ((refl, λ e. refl), ((refl, λ e. refl), tt))

  computed_calm : (r : ℕ) (is : List RvInstr) → Each (IsCalm plain) is → Each (IsCalm plain) (bare (performed_code (is ++ put_first r 7) (put_last r 7) []))
  computed_calm r is h =
      subst (Each (IsCalm plain)) (sym (bare_silently (is ++ put_first r 7) ((put_last r 7, Act) ∷ [])))
      (each_both (IsCalm plain) (is ++ put_first r 7) (put_last r 7 ∷ []) (each_both (IsCalm plain) is (put_first r 7) h (first_calm r 7)) (last_calm r 7, tt))

  accessed_calm : (before : List RvInstr) (access : RvInstr) (clears after : List RvInstr) → Each (IsCalm plain) before → IsCalm plain access → Each (IsCalm plain) clears → Each (IsCalm plain) after
      → Each (IsCalm plain) (bare (silently before ++ (((access, Act) ∷ silently clears) ++ silently after)))
  accessed_calm before access clears after b h c a =
      subst (Each (IsCalm plain)) (sym (bare_wrapped before ((access, Act) ∷ silently clears) after))
      (each_both (IsCalm plain) before (access ∷ (bare (silently clears) ++ after)) b (h, each_both (IsCalm plain) (bare (silently clears)) after (subst (Each (IsCalm plain)) (sym (bare_all clears)) c) a))

  cleared_calm : (n : ℕ) → Each (IsCalm plain) (cleared n)
  cleared_calm n = by (nat_eq n 4)
    where
      by : (q : Bool) → Each (IsCalm plain) (if q then extend_code 32 false else [])
      by true = ((refl, λ e. refl), ((refl, λ e. refl), tt))
      by false = tt

  -- an access in the code of a plain one
  access_calm : (i : RvInstr) → IsStill i → plain ≡ true → IsCalm plain i
  access_calm i h is = (h, λ e. absurd (true≢false (sym is ∙ e)))

-- ---- middle instructions
-- one that computes or, in the code of plain accesses, has an access
abbrev pub IsLevel : {R : Type 0} → Bool → MidInst R → Type 0
IsLevel plain (mid.Const to n) = Unit {0}
IsLevel plain (mid.Copy to from) = Unit {0}
IsLevel plain (mid.Apply o to left right) = Unit {0}
IsLevel plain (mid.Shift o to from by) = Unit {0}
IsLevel plain (mid.Extend to from bits signed) = Unit {0}
IsLevel plain (mid.Select to test x y) = Unit {0}
IsLevel plain (mid.FrameAddress to offset) = Unit {0}
IsLevel plain (mid.Load to address n) = plain ≡ true
IsLevel plain (mid.Store address from n) = plain ≡ true
IsLevel plain _ = ⊥

-- the last one of an instruction of function f; a jump leads to a block's label, and stands, as a return, only where the source instruction goes elsewhere
abbrev pub IsLast : {R : Type 0} → Bool → Bool → ℕ → MidInst R → Type 0
IsLast plain goes f (mid.Const to n) = Unit {0}
IsLast plain goes f (mid.Copy to from) = Unit {0}
IsLast plain goes f (mid.Apply o to left right) = Unit {0}
IsLast plain goes f (mid.Shift o to from by) = Unit {0}
IsLast plain goes f (mid.Extend to from bits signed) = Unit {0}
IsLast plain goes f (mid.Select to test x y) = Unit {0}
IsLast plain goes f (mid.FrameAddress to offset) = Unit {0}
IsLast plain goes f (mid.Load to address n) = plain ≡ true
IsLast plain goes f (mid.Store address from n) = plain ≡ true
IsLast plain goes f (mid.Atomic o width order weak address args results) = Unit {0}
IsLast plain goes f (mid.Jump n) = (goes ≡ true) × ((m : ℕ) × (n ≡ block_label f m))
IsLast plain goes f (mid.Out from) = Unit {0}
IsLast plain goes f mid.Trap = Unit {0}
IsLast plain goes f mid.Ret = goes ≡ true
IsLast plain goes f mid.Nop = Unit {0}
IsLast plain goes f _ = ⊥

-- the marks of its code, where it is the last one of no plain access
abbrev pub row_in : {R : Type 0} → Target → MidInst R → List Mark
row_in target (mid.Atomic o width order weak address args results) = marks_in (expanded target o width order weak)
row_in target _ = []

module _ {R : Type 0} (key : R → ℕ) (depth : ℕ) (behind : ℕ → ℕ) (target : Target) where
  abbrev pub tagged : MidInst R → (ℕ → ℕ) → ℕ → List (RvInstr × Tag)
  tagged i places start = piece_of key depth behind (direct_expansions target) i places start

  abbrev pub machine : MidInst R → (ℕ → ℕ) → ℕ → List RvInstr
  machine i places start = bare (tagged i places start)

  abbrev pub machine_size : MidInst R → ℕ
  machine_size i = length (tagged i (λ j. 0) 0)

  -- the code of a branch but its jumps
  abbrev pub branch_before : R → ℕ
  branch_before test = length (get_one key 5 test)

  same_size : (i : MidInst R) (places : ℕ → ℕ) (start : ℕ) → length (tagged i places start) ≡ machine_size i
  unfolding piece_of
  same_size (mid.Branch test a b) places start = any (silently (get_one key 5 test)) _ _ _ _ _ _
    where
      any : {A : Type 0} (xs : List A) (a b c d e g : A) → length (xs ++ (a ∷ b ∷ c ∷ [])) ≡ length (xs ++ (d ∷ e ∷ g ∷ []))
      any xs a b c d e g = length-append xs (a ∷ b ∷ c ∷ []) ∙ sym (length-append xs (d ∷ e ∷ g ∷ []))
  same_size (mid.Atomic o width order weak address args results) places start =
      let gets = gets_all rv_table ((10, key address) ∷ homes_from key first_argument args) in
      let puts = puts_all rv_table (homes_from key first_result results) in
      ap (λ (is : List (RvInstr × Tag)). length (silently gets ++ (is ++ silently puts))) (steady target o width order weak (start + length gets) ∙ sym (steady target o width order weak (0 + length gets)))
  same_size _ places start = refl

  pub machine_sizes : (i : MidInst R) (places : ℕ → ℕ) (start : ℕ) → length (machine i places start) ≡ machine_size i
  machine_sizes i places start = length-map (tagged i places start) (λ (z : RvInstr × Tag). z.0) ∙ same_size i places start

  pub branch_size : (test : R) (a b : ℕ) → machine_size (mid.Branch test a b) ≡ branch_before test + 3
  unfolding piece_of
  branch_size test a b = length-append (silently (get_one key 5 test)) _ ∙ ap (λ (n : ℕ). n + 3) (length-map (get_one key 5 test) (λ (i : RvInstr). (i, Silent)))

  -- ---- what leads nowhere
  pub level_calm : (plain : Bool) (i : MidInst R) → IsLevel plain i → (places : ℕ → ℕ) (start : ℕ) → Each (IsCalm plain) (machine i places start)
  unfolding piece_of
  level_calm plain (mid.Const to n) h places start = computed_calm plain (key to) (rv.Li 7 n ∷ []) ((refl, λ e. refl), tt)
  level_calm plain (mid.Copy to from) h places start = computed_calm plain (key to) (get_one key 7 from ++ []) (each_both (IsCalm plain) (get_one key 7 from) [] (gets_calm plain ((7, key from) ∷ [])) tt)
  level_calm plain (mid.Apply o to left right) h places start =
      let gets = gets_all rv_table ((5, key left) ∷ (6, key right) ∷ []) in
      computed_calm plain (key to) (gets ++ op_code o) (each_both (IsCalm plain) gets (op_code o) (gets_calm plain ((5, key left) ∷ (6, key right) ∷ [])) (op_calm plain o))
  level_calm plain (mid.Shift o to from by) h places start =
      let code = rv.Shift (shift_of o) 7 7 by ∷ [] in
      computed_calm plain (key to) (get_one key 7 from ++ code) (each_both (IsCalm plain) (get_one key 7 from) code (gets_calm plain ((7, key from) ∷ [])) ((refl, λ e. refl), tt))
  level_calm plain (mid.Extend to from bits signed) h places start =
      computed_calm plain (key to) (get_one key 7 from ++ extend_code bits signed) (each_both (IsCalm plain) (get_one key 7 from) (extend_code bits signed) (gets_calm plain ((7, key from) ∷ [])) ((refl, λ e. refl), ((refl, λ e. refl), tt)))
  level_calm plain (mid.Select to test x y) h places start =
      let gets = gets_all rv_table ((5, key test) ∷ (6, key x) ∷ (7, key y) ∷ []) in
      computed_calm plain (key to) (gets ++ select_code)
      (each_both (IsCalm plain) gets select_code (gets_calm plain ((5, key test) ∷ (6, key x) ∷ (7, key y) ∷ [])) ((refl, λ e. refl), ((refl, λ e. refl), ((refl, λ e. refl), ((refl, λ e. refl), ((refl, λ e. refl), tt))))))
  level_calm plain (mid.FrameAddress to offset) h places start = computed_calm plain (key to) (rv.Li 7 (down (depth - offset)) ∷ rv.Binary binary.Add 7 2 7 ∷ []) ((refl, λ e. refl), ((refl, λ e. refl), tt))
  level_calm plain (mid.Load to address n) h places start =
      accessed_calm plain (get_one key 5 address) (load_in n) (cleared n) (puts_all rv_table ((7, key to) ∷ [])) (gets_calm plain ((5, key address) ∷ [])) (access_calm plain (load_in n) refl h) (cleared_calm plain n) (puts_calm plain ((7, key to) ∷ []))
  level_calm plain (mid.Store address from n) h places start =
      accessed_calm plain (gets_all rv_table ((5, key address) ∷ (6, key from) ∷ [])) (store_in n) [] [] (gets_calm plain ((5, key address) ∷ (6, key from) ∷ [])) (access_calm plain (store_in n) refl h) tt tt
  level_calm plain _ h places start = absurd h

  pub trap_calm : (plain : Bool) (places : ℕ → ℕ) (start : ℕ) → Each (IsCalm plain) (machine mid.Trap places start)
  unfolding piece_of
  trap_calm plain places start = ((refl, λ e. refl), tt)

  pub nop_calm : (plain : Bool) (places : ℕ → ℕ) (start : ℕ) → Each (IsCalm plain) (machine mid.Nop places start)
  unfolding piece_of
  nop_calm plain places start = ((refl, λ e. refl), tt)

  pub out_calm : (plain : Bool) (from : R) (places : ℕ → ℕ) (start : ℕ) → Each (IsCalm plain) (machine (mid.Out from) places start)
  unfolding piece_of
  out_calm plain from places start =
      subst (Each (IsCalm plain)) (sym (bare_silently (get_one key 10 from) ((rv.Ecall, Act) ∷ [])))
      (each_both (IsCalm plain) (get_one key 10 from) (rv.Ecall ∷ []) (gets_calm plain ((10, key from) ∷ [])) ((refl, λ e. refl), tt))

  pub label_none : (n : ℕ) (places : ℕ → ℕ) (start : ℕ) → machine (mid.Label n) places start ≡ []
  unfolding piece_of
  label_none n places start = refl

  pub trap_size : machine_size mid.Trap ≡ 1
  unfolding piece_of
  trap_size = refl

  pub label_size : (n : ℕ) → machine_size (mid.Label n) ≡ 0
  unfolding piece_of
  label_size n = refl

  pub jump_is : (n : ℕ) (places : ℕ → ℕ) (start : ℕ) → machine (mid.Jump n) places start ≡ jump_to start (places (behind n)) ∷ []
  unfolding piece_of
  jump_is n places start = refl

  pub ret_is : (places : ℕ → ℕ) (start : ℕ) → machine mid.Ret places start ≡ rv.Ret ∷ []
  unfolding piece_of
  ret_is places start = refl

  -- ---- operations
  module _ (o : Op) (width : Width) (order : Order) (weak : Bool) (address : R) (args results : List R) where
    abbrev gets : List RvInstr
    gets = gets_all rv_table ((10, key address) ∷ homes_from key first_argument args)

    abbrev puts : List RvInstr
    puts = puts_all rv_table (homes_from key first_result results)

    abbrev mine : List RvInstr
    mine = expanded target o width order weak

    abbrev own : MidInst R
    own = mid.Atomic o width order weak address args results

    gets_still : Each IsStill gets
    gets_still = still_each false gets (gets_calm false ((10, key address) ∷ homes_from key first_argument args))

    puts_still : Each IsStill puts
    puts_still = still_each false puts (puts_calm false (homes_from key first_result results))

    atomic_is : (places : ℕ → ℕ) (start : ℕ) → machine own places start ≡ gets ++ (mine ++ puts)
    unfolding piece_of
    atomic_is places start =
        ap (λ (is : List (RvInstr × Tag)). bare (silently gets ++ (is ++ silently puts))) (steady target o width order weak (start + length gets))
        ∙ bare_wrapped gets ((expansion_of target (Atomic o width order weak)).piece 0) puts

    atomic_size : machine_size own ≡ length gets + (length mine + length puts)
    atomic_size =
        sym (machine_sizes own (λ j. 0) 0)
        ∙ (ap (λ (l : List RvInstr). length l) (atomic_is (λ j. 0) 0)
        ∙ (length-append gets (mine ++ puts)
        ∙ ap (λ (n : ℕ). length gets + n) (length-append mine puts)))

    -- what holds of each place: its own instructions lead nowhere, and those of the operation stand among them
    pub atomic_placed : (P : ℕ → RvInstr → Type 0) → ((place : ℕ) (i : RvInstr) → IsStill i → P place i) → (places : ℕ → ℕ) (start : ℕ)
        → ((at : ℕ) → start ≤ at → at + length mine ≤ start + machine_size own → Placed P at mine) → Placed P start (machine own places start)
    atomic_placed P still places start operates =
        let size = atomic_size in
        subst (Placed P start) (sym (atomic_is places start))
        (placed_both P start gets (mine ++ puts) (placed_each P IsStill still start gets gets_still)
        (placed_both P (start + length gets) mine puts (operates (start + length gets) (omega arith) (omega (arith, size)))
        (placed_each P IsStill still (start + length gets + length mine) puts puts_still)))

    pub atomic_marks : (places : ℕ → ℕ) (start : ℕ) → marks_in (machine own places start) ≡ marks_in mine
    atomic_marks places start =
        ap marks_in (atomic_is places start)
        ∙ (marks_both gets (mine ++ puts)
        ∙ (ap (λ (ms : List Mark). ms ++ marks_in (mine ++ puts)) (calm_unmarked gets (gets_calm false ((10, key address) ∷ homes_from key first_argument args)))
        ∙ (marks_both mine puts
        ∙ (ap (λ (ms : List Mark). marks_in mine ++ ms) (calm_unmarked puts (puts_calm false (homes_from key first_result results)))
        ∙ append-nil (marks_in mine)))))

    atomic_some : 0 < machine_size own
    atomic_some =
        let here = expanded_some target o width order weak in
        let size = atomic_size in
        omega (arith, here, size)

  -- ---- last instructions
  pub last_some : (plain goes : Bool) (f : ℕ) (i : MidInst R) → IsLast plain goes f i → 0 < machine_size i
  unfolding piece_of
  last_some plain goes f (mid.Const to n) h = computed_some (key to) (rv.Li 7 n ∷ [])
  last_some plain goes f (mid.Copy to from) h = computed_some (key to) (get_one key 7 from ++ [])
  last_some plain goes f (mid.Apply o to left right) h = computed_some (key to) (gets_all rv_table ((5, key left) ∷ (6, key right) ∷ []) ++ op_code o)
  last_some plain goes f (mid.Shift o to from by) h = computed_some (key to) (get_one key 7 from ++ rv.Shift (shift_of o) 7 7 by ∷ [])
  last_some plain goes f (mid.Extend to from bits signed) h = computed_some (key to) (get_one key 7 from ++ extend_code bits signed)
  last_some plain goes f (mid.Select to test x y) h = computed_some (key to) (gets_all rv_table ((5, key test) ∷ (6, key x) ∷ (7, key y) ∷ []) ++ select_code)
  last_some plain goes f (mid.FrameAddress to offset) h = computed_some (key to) (rv.Li 7 (down (depth - offset)) ∷ rv.Binary binary.Add 7 2 7 ∷ [])
  last_some plain goes f (mid.Load to address n) h = some_of (get_one key 5 address) _ _
  last_some plain goes f (mid.Store address from n) h = some_of (gets_all rv_table ((5, key address) ∷ (6, key from) ∷ [])) _ _
  last_some plain goes f (mid.Atomic o width order weak address args results) h = atomic_some o width order weak address args results
  last_some plain goes f (mid.Jump n) h = one
  last_some plain goes f (mid.Out from) h = some_of (get_one key 10 from) _ []
  last_some plain goes f mid.Trap h = one
  last_some plain goes f mid.Ret h = one
  last_some plain goes f mid.Nop h = one
  last_some plain goes f _ h = absurd h

  pub last_marks : (goes : Bool) (f : ℕ) (i : MidInst R) → IsLast false goes f i → (places : ℕ → ℕ) (start : ℕ) → marks_in (machine i places start) ≡ row_in target i
  last_marks goes f (mid.Const to n) h places start = calm_unmarked _ (level_calm false (mid.Const to n) tt places start)
  last_marks goes f (mid.Copy to from) h places start = calm_unmarked _ (level_calm false (mid.Copy to from) tt places start)
  last_marks goes f (mid.Apply o to left right) h places start = calm_unmarked _ (level_calm false (mid.Apply o to left right) tt places start)
  last_marks goes f (mid.Shift o to from by) h places start = calm_unmarked _ (level_calm false (mid.Shift o to from by) tt places start)
  last_marks goes f (mid.Extend to from bits signed) h places start = calm_unmarked _ (level_calm false (mid.Extend to from bits signed) tt places start)
  last_marks goes f (mid.Select to test x y) h places start = calm_unmarked _ (level_calm false (mid.Select to test x y) tt places start)
  last_marks goes f (mid.FrameAddress to offset) h places start = calm_unmarked _ (level_calm false (mid.FrameAddress to offset) tt places start)
  last_marks goes f (mid.Load to address n) h places start = absurd (true≢false (sym h))
  last_marks goes f (mid.Store address from n) h places start = absurd (true≢false (sym h))
  last_marks goes f (mid.Atomic o width order weak address args results) h places start = atomic_marks o width order weak address args results places start
  last_marks goes f (mid.Jump n) h places start = ap marks_in (jump_is n places start)
  last_marks goes f (mid.Out from) h places start = calm_unmarked _ (out_calm false from places start)
  last_marks goes f mid.Trap h places start = calm_unmarked _ (trap_calm false places start)
  last_marks goes f mid.Ret h places start = ap marks_in (ret_is places start)
  last_marks goes f mid.Nop h places start = calm_unmarked _ (nop_calm false places start)
  last_marks goes f _ h places start = absurd h

  -- ---- what holds of each place of a branch, and of a last instruction
  module _ (P : ℕ → RvInstr → Type 0) where
    pub branch_placed : (plain : Bool) → ((place : ℕ) (i : RvInstr) → IsCalm plain i → P place i) → (test : R) (a b : ℕ) (places : ℕ → ℕ) (start : ℕ)
        → P (start + branch_before test) (rv.Branch condition.NotEqual 5 0 (pos 2)) → P (start + branch_before test + 1) (jump_to (start + branch_before test + 1) (places (behind b))) → P (start + branch_before test + 2) (jump_to (start + branch_before test + 2) (places (behind a)))
        → Placed P start (machine (mid.Branch test a b) places start)
    unfolding piece_of
    branch_placed plain calm test a b places start turn low high =
        let n = branch_before test in
        let next : start + n + 2 ≡ start + n + 1 + 1 = omega arith in
        subst (Placed P start) (sym (bare_silently (get_one key 5 test) _))
        (placed_both P start (get_one key 5 test) (rv.Branch condition.NotEqual 5 0 (pos 2) ∷ jump_to (start + n + 1) (places (behind b)) ∷ jump_to (start + n + 2) (places (behind a)) ∷ [])
        (placed_each P (IsCalm plain) calm start (get_one key 5 test) (gets_calm plain ((5, key test) ∷ [])))
        (turn, (low, (subst (λ (q : ℕ). P q (jump_to (start + n + 2) (places (behind a)))) next high, tt))))

    -- what is asked of each place of a last instruction
    pub record LastHolds (goes : Bool) (f : ℕ) (places : ℕ → ℕ) (start : ℕ) (i : MidInst R) : Type 0 where
      pub still : (place : ℕ) (x : RvInstr) → IsStill x → P place x
      pub jumps : (m : ℕ) → goes ≡ true → P start (jump_to start (places (behind (block_label f m))))
      pub returns : goes ≡ true → P start rv.Ret
      pub operates :
          (o : Op) (width : Width) (order : Order) (weak : Bool) (address : R) (args results : List R) → i ≡ mid.Atomic o width order weak address args results
          → (at : ℕ) → start ≤ at → at + length (expanded target o width order weak) ≤ start + machine_size i → Placed P at (expanded target o width order weak)

    pub last_placed : (plain goes : Bool) (f : ℕ) (places : ℕ → ℕ) (start : ℕ) (i : MidInst R) → IsLast plain goes f i → LastHolds goes f places start i → Placed P start (machine i places start)
    last_placed plain goes f places start i h holds = by i refl h
      where
        stills : (is : List RvInstr) → Each IsStill is → Placed P start is
        stills is each = placed_each P IsStill holds.still start is each

        level : (j : MidInst R) → IsLevel plain j → Placed P start (machine j places start)
        level j g = stills (machine j places start) (still_each plain (machine j places start) (level_calm plain j g places start))

        by : (j : MidInst R) → i ≡ j → IsLast plain goes f j → Placed P start (machine j places start)
        by (mid.Const to n) e g = level (mid.Const to n) tt
        by (mid.Copy to from) e g = level (mid.Copy to from) tt
        by (mid.Apply o to left right) e g = level (mid.Apply o to left right) tt
        by (mid.Shift o to from s) e g = level (mid.Shift o to from s) tt
        by (mid.Extend to from bits signed) e g = level (mid.Extend to from bits signed) tt
        by (mid.Select to test x y) e g = level (mid.Select to test x y) tt
        by (mid.FrameAddress to offset) e g = level (mid.FrameAddress to offset) tt
        by (mid.Load to address n) e g = level (mid.Load to address n) g
        by (mid.Store address from n) e g = level (mid.Store address from n) g
        by (mid.Atomic o width order weak address args results) e g =
            let same : machine_size i ≡ machine_size (mid.Atomic o width order weak address args results) = ap machine_size e in
            atomic_placed o width order weak address args results P holds.still places start (λ at from to. holds.operates o width order weak address args results e at from (omega (arith, to, same)))
        by (mid.Jump n) e g =
            subst (Placed P start) (sym (jump_is n places start))
            (subst (λ (l : ℕ). P start (jump_to start (places (behind l)))) (sym g.1.1) (holds.jumps g.1.0 g.0), tt)
        by (mid.Out from) e g = stills _ (still_each plain _ (out_calm plain from places start))
        by mid.Trap e g = stills _ (still_each plain _ (trap_calm plain places start))
        by mid.Ret e g = subst (Placed P start) (sym (ret_is places start)) (holds.returns g, tt)
        by mid.Nop e g = stills _ (still_each plain _ (nop_calm plain places start))
        by _ e g = absurd g
