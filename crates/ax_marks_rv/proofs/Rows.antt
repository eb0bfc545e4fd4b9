-- The marks of each piece are the row of its instruction.
use Rattle.std.proofs.Common.{◌≡◌, ℕ, ◌+◌, Bool, true, false, List, [], ◌∷◌, ◌++◌, map, Option, Some, None, refl, sym, ap, ◌∙◌, subst, arith, slice_get}
use Rattle.std.specs.Prelude.{◌&&◌, if◌then◌else◌, codes, nat_eq, nat_le}
use Rattle.std.specs.Cmp.Lexicographic.{pointwise}
use Rattle.std.specs.List.{list_all}
use Rattle.std.proofs.lemmas.Bool.{and_parts, false≢true}
use Rattle.std.proofs.lemmas.Bool.Decides.{nat_tests}
use Rattle.std.proofs.lemmas.List.{append-nil}
use Rattle.std.proofs.lemmas.Option.{none-some, same_Some}
use Rattle.ax_words.specs.declared.mark.Mark.{Mark}
use Rattle.ax_words.specs.declared.mark.Op.{Op}
use Rattle.ax_words.specs.declared.mark.Op.TheVariants as op
use Rattle.ax_words.specs.declared.operation.RmwOp.{RmwOp}
use Rattle.ax_words.specs.declared.operation.RmwOp.TheVariants as rmw
use Rattle.ax_words.specs.declared.order.Order.{Order}
use Rattle.ax_words.specs.declared.order.Order.TheVariants.{Unordered, Monotonic, Acquire, Release, AcqRel, SeqCst}
use Rattle.ax_words.specs.declared.width.Width.{Width}
use Rattle.ax_words.specs.declared.width.Width.TheVariants.{W8, W16, W64, W128}
use Rattle.ax_words.specs.Orders.{is_legal, merged_order}
use Rattle.ax_words.specs.Routine.{name_of, routine_named}
use Rattle.ax_words.specs.Width.{bytes_of}
use Rattle.ax_target.specs.declared.decision.Way.{Way}
use Rattle.ax_target.specs.declared.decision.Way.TheVariants.{Inline, Masked, PairLoop, Sized, Generic}
use Rattle.ax_target.specs.declared.target.Target.{Target}
use Rattle.ax_target.specs.declared.target.Target.TheVariants.{X86, Arm, Rv}
use Rattle.ax_target.specs.Decisions.{access_way, decided, is_rv64, native_way}
use Rattle.ax_target.specs.Rows.{access_of, row_of}
use Rattle.ax_target.specs.RvRows.{rv_pair}
use Rattle.ax_target.specs.Targets.{greatest_native}
use Rattle.ax_module.specs.declared.inst.Inst.{Inst}
use Rattle.ax_module.specs.declared.inst.Inst.TheVariants as inst
use Rattle.ax_module.specs.declared.module.Block.{Block}
use Rattle.ax_module.specs.declared.module.Function.{Function}
use Rattle.ax_module.specs.declared.types.Ty.TheVariants.{I64}
use Rattle.ax_source_run.specs.SourceInstructions.{is_out, width_of}
use Rattle.ax_source_run.specs.SourcePointers.{blocks_in, insts_of}
use Rattle.ax_source_run.specs.SourceState.{SourceProgram}
use Rattle.ax_agree.specs.Rows.{call_row, counted, is_inline, is_inline_way, row_at}
use Rattle.ax_rv.specs.declared.instructions.RvInstr.{RvInstr}
use Rattle.ax_mid.specs.declared.code.Line.{Line}
use Rattle.ax_mid.specs.declared.instruction.MidInst.{MidInst}
use Rattle.ax_mid.specs.declared.instruction.MidInst.TheVariants as mid
use Rattle.ax_mid.specs.declared.registers.Virtual.{Virtual}
use Rattle.ax_mid.specs.WellFormed.{HasWay, HasWayIn}
use Rattle.ax_typed.proofs.Places.{all_at, all_insts, block_at, place_of}
use Rattle.ax_selected.specs.Direct.{is_direct}
use Rattle.ax_selected.specs.Operations.{Operation, operation_in, operation_of}
use Rattle.ax_selected.specs.Registers.{block_label, first_label, key, second_label}
use Rattle.ax_selected.specs.Selected.{acting, silent}
use Rattle.ax_mask.specs.Codes.{is_narrow}
use Rattle.ax_llsc.specs.Codes.{is_coded_way}
use Rattle.ax_llsc.specs.Laws.{DirectCodeHasRow}
use Rattle.ax_direct_rv.specs.Direct.{is_coded}
use Rattle.ax_marks_rv.proofs.Codes.{IsCalm, IsLast, IsUnmarked, jump_is, last_marks, level_calm, machine, marks_both, marks_in, row_in, unmarked}
use Rattle.ax_marks_rv.proofs.Expanded.{expanded, expanded_still, is_looping, loops_on}
use Rattle.ax_marks_rv.proofs.Inside.{IsStill}
use Rattle.ax_marks_rv.proofs.Items.{Each, Placed, laid, laid_both, placed_each, total}
use Rattle.ax_marks_rv.proofs.Laying.{BranchHolds, behind, code, each_mid, placed_branch, placed_guard, placed_label, placed_line, placed_lines, placed_silent, placed_whole, places, size}
use Rattle.ax_marks_rv.proofs.Shapes.{Forked, Guarded, Levels, Shape, Whole, guard, is_plain, whole}

-- the marks of an operation's code
abbrev pub row_of_op : Target → Option Operation → List Mark
row_of_op target None = []
row_of_op target (Some o) = marks_in (expanded target o.op o.width o.order o.weak)

last_row : (target : Target) (i : MidInst Virtual) → row_in target i ≡ row_of_op target (operation_in i)
unfolding operation_in
last_row target (mid.Atomic o width order weak address args results) = refl
last_row target _ = refl

calm_unmarked : (place : ℕ) (x : RvInstr) → IsCalm false x → IsUnmarked place x
calm_unmarked place x h = h.1 refl

module _ (program : SourceProgram) (depth : ℕ) (target : Target) (f k : ℕ) where
  abbrev sized : Line Virtual → ℕ
  sized line = size program depth target line

  abbrev codes_at : ℕ → List (Line Virtual) → List RvInstr
  codes_at at lines = laid (code program depth target) sized at lines

  abbrev Bare : ℕ → List RvInstr → Type 0
  Bare at is = Placed IsUnmarked at is

  bare_silent : (at : ℕ) (is : List (MidInst Virtual)) → Levels false is → Bare at (codes_at at (map (silent f k) is))
  bare_silent at is h = placed_silent program depth target IsUnmarked false calm_unmarked f k at is h

  bare_branch : (at : ℕ) (test : Virtual) (a b : ℕ) → BranchHolds program depth target IsUnmarked false calm_unmarked f k at test a b
  bare_branch at test a b = record { turn = refl; low = refl; high = refl }

  -- a branch over a trap has no mark
  pub bare_guard : (at : ℕ) (test : Virtual) → Bare at (codes_at at (guard f k test))
  bare_guard at test = placed_guard program depth target IsUnmarked false calm_unmarked f k at test [] (bare_branch at test (second_label f k) (first_label f k)) (λ there same. tt)

  bare_jump : (at : ℕ) (is : List (MidInst Virtual)) (m : ℕ) → Levels false is → Bare at (codes_at at (whole f k is (mid.Jump (block_label f m))))
  bare_jump at is m h =
      let there = at + total sized (map (silent f k) is) in
      placed_whole program depth target IsUnmarked false calm_unmarked f k at is (mid.Jump (block_label f m)) h
      (subst (Bare there) (sym (jump_is key depth (behind program depth target) target (block_label f m) (places program depth target) there)) (refl, tt))

  whole_marks : (leading : Bool) (at : ℕ) (is : List (MidInst Virtual)) (last : MidInst Virtual) → Levels false is → IsLast false leading f last → marks_in (codes_at at (whole f k is last)) ≡ row_of_op target (operation_in last)
  whole_marks leading at is last h g =
      let own = map (silent f k) is in
      let there = at + total sized own in
      let mine = machine key depth (behind program depth target) target last (places program depth target) there in
      ap marks_in (laid_both (code program depth target) sized at own (acting f k last ∷ []))
      ∙ (marks_both (codes_at at own) (mine ++ [])
      ∙ (ap (λ (ms : List Mark). ms ++ marks_in (mine ++ [])) (unmarked at (codes_at at own) (bare_silent at is h))
      ∙ (ap marks_in (append-nil mine)
      ∙ (last_marks key depth (behind program depth target) target leading f last g (places program depth target) there ∙ last_row target last))))

  pub shape_marks : (leading : Bool) (o : Option Operation) (lines : List (Line Virtual)) → Shape f k false leading o lines → (at : ℕ) → marks_in (codes_at at lines) ≡ row_of_op target o
  shape_marks leading o lines (Whole is last a b c e) at = ap (λ (l : List (Line Virtual)). marks_in (codes_at at l)) e ∙ (whole_marks leading at is last a b ∙ ap (row_of_op target) c)
  shape_marks leading o lines (Guarded js test is last a b c d e) at =
      let own = map (silent f k) js in
      let rest = whole f k is last in
      let there = at + total sized own in
      let far = there + total sized (guard f k test) in
      ap (λ (l : List (Line Virtual)). marks_in (codes_at at l)) e
      ∙ (ap marks_in (laid_both (code program depth target) sized at own (guard f k test ++ rest))
      ∙ (marks_both (codes_at at own) (codes_at there (guard f k test ++ rest))
      ∙ (ap (λ (ms : List Mark). ms ++ marks_in (codes_at there (guard f k test ++ rest))) (unmarked at (codes_at at own) (bare_silent at js a))
      ∙ (ap marks_in (laid_both (code program depth target) sized there (guard f k test) rest)
      ∙ (marks_both (codes_at there (guard f k test)) (codes_at far rest)
      ∙ (ap (λ (ms : List Mark). ms ++ marks_in (codes_at far rest)) (unmarked there (codes_at there (guard f k test)) (bare_guard there test))
      ∙ (whole_marks leading far is last b c ∙ ap (row_of_op target) d)))))))
  shape_marks leading o lines (Forked head test is m js n a b c d none e) at =
      let turn = silent f k (mid.Branch test (first_label f k) (second_label f k)) in
      let first = silent f k (mid.Label (first_label f k)) in
      let second = silent f k (mid.Label (second_label f k)) in
      let one = whole f k is (mid.Jump (block_label f m)) in
      let two = whole f k js (mid.Jump (block_label f n)) in
      let p = at + sized (silent f k head) in
      let q = p + sized turn in
      let r = q + sized first in
      let s = r + total sized one in
      ap (λ (l : List (Line Virtual)). marks_in (codes_at at l)) e
      ∙ (unmarked at (codes_at at (silent f k head ∷ turn ∷ first ∷ (one ++ (second ∷ two))))
      (placed_line program depth target IsUnmarked at (silent f k head) (turn ∷ first ∷ (one ++ (second ∷ two)))
      (placed_each IsUnmarked (IsCalm false) calm_unmarked at (machine key depth (behind program depth target) target head (places program depth target) at) (level_calm key depth (behind program depth target) target false head a (places program depth target) at))
      (placed_line program depth target IsUnmarked p turn (first ∷ (one ++ (second ∷ two))) (placed_branch program depth target IsUnmarked false calm_unmarked f k p test (first_label f k) (second_label f k) (bare_branch p test (first_label f k) (second_label f k)))
      (placed_line program depth target IsUnmarked q first (one ++ (second ∷ two)) (placed_label program depth target IsUnmarked false calm_unmarked f k (first_label f k) q)
      (placed_lines program depth target IsUnmarked r one (second ∷ two) (bare_jump r is m b)
      (placed_line program depth target IsUnmarked s second two (placed_label program depth target IsUnmarked false calm_unmarked f k (second_label f k) s) (bare_jump (s + sized second) js n c))))))
      ∙ ap (row_of_op target) (sym none))

  -- ---- the line of an operation
  each_right : {A : Type 0} (P : A → Type 0) (xs ys : List A) → Each P (xs ++ ys) → Each P ys
  each_right P [] ys h = h
  each_right P (x ∷ xs) ys h = each_right P xs ys h.1

  pub shape_last : (P : Line Virtual → Type 0) (plain leading : Bool) (o : Option Operation) (lines : List (Line Virtual)) → Shape f k plain leading o lines → Each P lines → (own : Operation) → o ≡ Some own → (last : MidInst Virtual) × (operation_in last ≡ Some own) × P (acting f k last)
  shape_last P plain leading o lines (Whole is last a b c e) h own has = (last, c ∙ has, each_mid P (map (silent f k) is) (acting f k last) [] (subst (Each P) e h))
  shape_last P plain leading o lines (Guarded js test is last a b c d e) h own has =
      let behind_it = each_right P (map (silent f k) js) (guard f k test ++ whole f k is last) (subst (Each P) e h) in
      (last, d ∙ has, each_mid P (map (silent f k) is) (acting f k last) [] behind_it.1.1.1.1)
  shape_last P plain leading o lines (Forked head test is m js n a b c d none e) h own has = absurd (none-some own (sym none ∙ has))

-- ---- what a line's operation has
has_way : (target : Target) (i : MidInst Virtual) (o : Operation) → operation_in i ≡ Some o → HasWayIn target i → HasWay target o.op o.width o.order
unfolding operation_in HasWayIn
has_way target (mid.Atomic o width order weak address args results) own e h = subst (λ (x : Operation). HasWay target x.op x.width x.order) (same_Some (record { op = o; width = width; order = order; weak = weak }) own e) h
has_way target _ own e h = absurd (none-some own e)

pub way_of : (target : Target) (last : MidInst Virtual) (o : Operation) → operation_in last ≡ Some o → HasWayIn target last → is_legal (access_of o.op) o.order ≡ true
way_of target last o e h = (has_way target last o e h).legal

-- ---- rows of operations whose way has code
pub record HasRowsOf (target : Target) : Type 0 where
  pub row :
      (o : Op) (width : Width) (order : Order) (weak : Bool) → is_coded_way (decided target o width (bytes_of width)) ≡ true → is_legal (access_of o) order ≡ true
      → marks_in (expanded target o width order weak) ≡ row_of target o order width (decided target o width (bytes_of width))
  pub counts : (o : Op) (order : Order) (width : Width) (way : Way) → is_coded_way way ≡ true → row_of target o order width way ≡ row_of target o (counted order) width way
  -- the code of the way Inline leads nowhere
  pub straight : (o : Op) (width : Width) (order : Order) (weak : Bool) (align : ℕ) → is_inline_way (decided target o width align) ≡ true → Each IsStill (expanded target o width order weak)

inline_counts : (zabha zacas : Bool) (o : Op) (order : Order) (width : Width) → row_of (Rv zabha zacas) o order width Inline ≡ row_of (Rv zabha zacas) o (counted order) width Inline
inline_counts zabha zacas op.Load Unordered width = refl
inline_counts zabha zacas op.Store Unordered width = refl
inline_counts zabha zacas op.Cmpxchg Unordered width = refl
inline_counts zabha zacas (op.Rmw o) Unordered width = refl
inline_counts zabha zacas op.Fence Unordered width = refl
inline_counts zabha zacas o Monotonic width = refl
inline_counts zabha zacas o Acquire width = refl
inline_counts zabha zacas o Release width = refl
inline_counts zabha zacas o AcqRel width = refl
inline_counts zabha zacas o SeqCst width = refl

pair_counts : (order : Order) (bytes : ℕ) → rv_pair order bytes ≡ rv_pair (counted order) bytes
pair_counts Unordered bytes = refl
pair_counts _ bytes = refl

rv_counts : (zabha zacas : Bool) (o : Op) (order : Order) (width : Width) (way : Way) → is_coded_way way ≡ true → row_of (Rv zabha zacas) o order width way ≡ row_of (Rv zabha zacas) o (counted order) width way
rv_counts zabha zacas o order width Inline h = inline_counts zabha zacas o order width
rv_counts zabha zacas o order width PairLoop h = pair_counts order (bytes_of width)
rv_counts zabha zacas o order width Masked h = pair_counts order 4
rv_counts zabha zacas o order width _ h = absurd (false≢true h)

-- a native access of another way is not of the way Inline, at any alignment
other_way : (a b : Bool) (w : Way) → (a ≡ true → is_inline_way w ≡ false) → is_inline_way (if a && b then w else if b then Sized else Generic) ≡ false
other_way true true w h = h refl
other_way true false w h = refl
other_way false true w h = refl
other_way false false w h = refl

loop_way : (zabha zacas : Bool) (o : Op) (width : Width) (align : ℕ) → (nat_le (bytes_of width) 8 ≡ true → is_inline_way (native_way (Rv zabha zacas) o (bytes_of width)) ≡ false) → is_inline_way (access_way (Rv zabha zacas) o (bytes_of width) align) ≡ false
loop_way zabha zacas o width align h = other_way (nat_le (bytes_of width) 8) (nat_le (bytes_of width) align) (native_way (Rv zabha zacas) o (bytes_of width)) h

exchange_way : (zabha zacas : Bool) (width : Width) (align : ℕ) → is_inline_way (decided (Rv zabha zacas) op.Cmpxchg width align) ≡ false
exchange_way zabha zacas W128 align = loop_way zabha zacas op.Cmpxchg W128 align (λ e. absurd (false≢true e))
exchange_way zabha zacas width align = loop_way zabha zacas op.Cmpxchg width align (λ e. refl)

nand_way : (zabha zacas : Bool) (width : Width) (align : ℕ) → is_inline_way (decided (Rv zabha zacas) (op.Rmw rmw.Nand) width align) ≡ false
nand_way zabha zacas W128 align = loop_way zabha zacas (op.Rmw rmw.Nand) W128 align (λ e. absurd (false≢true e))
nand_way zabha zacas width align = loop_way zabha zacas (op.Rmw rmw.Nand) width align (λ e. refl)

byte_way : (zabha zacas : Bool) (o : RmwOp) → is_inline_way (native_way (Rv zabha zacas) (op.Rmw o) 1) ≡ false
byte_way zabha zacas rmw.Xchg = refl
byte_way zabha zacas _ = refl

half_way : (zabha zacas : Bool) (o : RmwOp) → is_inline_way (native_way (Rv zabha zacas) (op.Rmw o) 2) ≡ false
half_way zabha zacas rmw.Xchg = refl
half_way zabha zacas _ = refl

-- of updates of that way none has a loop
update_loops : (zabha zacas : Bool) (o : RmwOp) (width : Width) (align : ℕ) → is_inline_way (decided (Rv zabha zacas) (op.Rmw o) width align) ≡ true → loops_on (is_narrow width) o ≡ false
update_loops zabha zacas o W8 align h = absurd (false≢true (sym (loop_way zabha zacas (op.Rmw o) W8 align (λ e. byte_way zabha zacas o)) ∙ h))
update_loops zabha zacas o W16 align h = absurd (false≢true (sym (loop_way zabha zacas (op.Rmw o) W16 align (λ e. half_way zabha zacas o)) ∙ h))
update_loops zabha zacas rmw.Nand width align h = absurd (false≢true (sym (nand_way zabha zacas width align) ∙ h))
update_loops zabha zacas _ _ align h = refl

rv_loops : (zabha zacas : Bool) (o : Op) (width : Width) (align : ℕ) → is_inline_way (decided (Rv zabha zacas) o width align) ≡ true → is_looping width o ≡ false
rv_loops zabha zacas op.Cmpxchg width align h = absurd (false≢true (sym (exchange_way zabha zacas width align) ∙ h))
rv_loops zabha zacas (op.Rmw o) width align h = update_loops zabha zacas o width align h
rv_loops zabha zacas _ width align h = refl

rv_straight : (zabha zacas : Bool) (o : Op) (width : Width) (order : Order) (weak : Bool) (align : ℕ) → is_inline_way (decided (Rv zabha zacas) o width align) ≡ true → Each IsStill (expanded (Rv zabha zacas) o width order weak)
rv_straight zabha zacas o width order weak align h = expanded_still (Rv zabha zacas) width order weak o (rv_loops zabha zacas o width align h)

pub rv_has_rows : DirectCodeHasRow → (target : Target) → is_rv64 target ≡ true → HasRowsOf target
rv_has_rows law (Rv zabha zacas) h = record { row = λ o width order weak way legal. law zabha zacas o width order weak 0 way legal; counts = rv_counts zabha zacas; straight = rv_straight zabha zacas }
rv_has_rows law (X86 cx16) h = absurd (false≢true h)
rv_has_rows law (Arm lse) h = absurd (false≢true h)

-- ---- a way with code at some alignment is the way at the size
le_self : (n : ℕ) → nat_le n n ≡ true
le_self n = grind (arith, nat_tests)

way_if : (a b c : Bool) (w : Way) → is_coded_way (if a && b then w else if b then Sized else Generic) ≡ true → c ≡ true → (if a && c then w else if c then Sized else Generic) ≡ (if a && b then w else if b then Sized else Generic)
way_if a b false w h e = absurd (false≢true e)
way_if true true true w h e = refl
way_if true false true w h e = absurd (false≢true h)
way_if false true true w h e = absurd (false≢true h)
way_if false false true w h e = absurd (false≢true h)

access_at_size : (target : Target) (o : Op) (n align : ℕ) → is_coded_way (access_way target o n align) ≡ true → access_way target o n n ≡ access_way target o n align
access_at_size target o n align h = way_if (nat_le n (greatest_native target)) (nat_le n align) (nat_le n n) (native_way target o n) h (le_self n)

way_at_size : (target : Target) (o : Op) (width : Width) (align : ℕ) → is_coded_way (decided target o width align) ≡ true → decided target o width (bytes_of width) ≡ decided target o width align
way_at_size target op.Fence width align h = refl
way_at_size target op.Load width align h = access_at_size target op.Load (bytes_of width) align h
way_at_size target op.Store width align h = access_at_size target op.Store (bytes_of width) align h
way_at_size target op.Cmpxchg width align h = access_at_size target op.Cmpxchg (bytes_of width) align h
way_at_size target (op.Rmw o) width align h = access_at_size target (op.Rmw o) (bytes_of width) align h

-- ---- orders that count as others merge alike
merged_counts : (success failure : Order) → counted (merged_order success failure) ≡ counted (merged_order (counted success) (counted failure))
merged_counts Unordered Unordered = refl
merged_counts Unordered Monotonic = refl
merged_counts Unordered Acquire = refl
merged_counts Unordered Release = refl
merged_counts Unordered AcqRel = refl
merged_counts Unordered SeqCst = refl
merged_counts _ Unordered = refl
merged_counts _ _ = refl

-- ---- calls
same_name : (xs ys : List ℕ) → pointwise nat_eq xs ys ≡ true → xs ≡ ys
same_name [] [] h = refl
same_name [] (y ∷ ys) h = absurd cc
same_name (x ∷ xs) [] h = absurd cc
same_name (x ∷ xs) (y ∷ ys) h =
    let p = and_parts (nat_eq x y) (pointwise nat_eq xs ys) h in
    let e : x ≡ y = (let t = p.0 in grind (arith, nat_tests)) in
    ap (λ z. z ∷ xs) e ∙ ap (λ zs. y ∷ zs) (same_name xs ys p.1)

no_routine : call_row (routine_named (codes "out")) ≡ []
unfolding name_of
no_routine = refl

out_row : (name : List ℕ) → is_out name ≡ true → call_row (routine_named name) ≡ []
out_row name h = ap (λ (n : List ℕ). call_row (routine_named n)) (same_name name (codes "out") h) ∙ no_routine

-- ---- THE ROW OF EACH INSTRUCTION
-- its operation has a way with code and a legal order
pub record IsReady (target : Target) (i : Inst) : Type 0 where
  pub coded : is_coded target i ≡ true
  pub direct : is_direct target i ≡ true
  pub legal : (o : Operation) → operation_of i ≡ Some o → is_legal (access_of o.op) o.order ≡ true

module _ (target : Target) (rows : HasRowsOf target) where
  counted_row : (o : Op) (width : Width) (order : Order) (weak : Bool) (align : ℕ) → is_legal (access_of o) order ≡ true → is_coded_way (decided target o width align) ≡ true
      → marks_in (expanded target o width order weak) ≡ row_of target o (counted order) width (decided target o width align)
  counted_row o width order weak align legal coded =
      let same = way_at_size target o width align coded in
      rows.row o width order weak (ap is_coded_way same ∙ coded) legal ∙ (ap (row_of target o order width) same ∙ rows.counts o order width (decided target o width align) coded)

  exchange_row : (width : Width) (success failure : Order) (weak : Bool) (align : ℕ) → is_legal (access_of op.Cmpxchg) (merged_order success failure) ≡ true → is_coded_way (decided target op.Cmpxchg width align) ≡ true
      → marks_in (expanded target op.Cmpxchg width (merged_order success failure) weak) ≡ row_of target op.Cmpxchg (merged_order (counted success) (counted failure)) width (decided target op.Cmpxchg width align)
  exchange_row width success failure weak align legal coded =
      let way = decided target op.Cmpxchg width align in
      counted_row op.Cmpxchg width (merged_order success failure) weak align legal coded
      ∙ (ap (λ (order : Order). row_of target op.Cmpxchg order width way) (merged_counts success failure)
      ∙ sym (rows.counts op.Cmpxchg (merged_order (counted success) (counted failure)) width way coded))

  pub inst_row : (i : Inst) → IsReady target i → (marks : List Mark) → row_at target i ≡ Some marks → row_of_op target (operation_of i) ≡ marks
  unfolding row_at operation_of is_coded is_direct
  inst_row (inst.LoadAtomic t a order align) h marks e =
      let o : Operation = record { op = op.Load; width = width_of t; order = order; weak = false } in
      counted_row op.Load (width_of t) order false align (h.legal o refl) h.coded ∙ same_Some _ marks e
  inst_row (inst.StoreAtomic t v a order align) h marks e =
      let o : Operation = record { op = op.Store; width = width_of t; order = order; weak = false } in
      counted_row op.Store (width_of t) order false align (h.legal o refl) h.coded ∙ same_Some _ marks e
  inst_row (inst.Cmpxchg weak a t v u w success failure align) h marks e =
      let o : Operation = record { op = op.Cmpxchg; width = width_of t; order = merged_order success failure; weak = weak } in
      exchange_row (width_of t) success failure weak align (h.legal o refl) h.coded ∙ same_Some _ marks e
  inst_row (inst.Rmw r a t v order align) h marks e =
      let o : Operation = record { op = op.Rmw r; width = width_of t; order = order; weak = false } in
      counted_row (op.Rmw r) (width_of t) order false align (h.legal o refl) h.coded ∙ same_Some _ marks e
  inst_row (inst.Fence false order) h marks e =
      let o : Operation = record { op = op.Fence; width = width_of I64; order = order; weak = false } in
      rows.row op.Fence W64 order false refl (h.legal o refl) ∙ same_Some _ marks e
  inst_row (inst.Fence true order) h marks e = same_Some _ marks e
  inst_row (inst.Call result name args) h marks e = sym (out_row name h.direct) ∙ same_Some _ marks e
  inst_row (inst.Load t a align) h marks e = absurd (none-some marks e)
  inst_row (inst.Store t v a align) h marks e = absurd (none-some marks e)
  inst_row _ h marks e = same_Some _ marks e

  -- the code of the operation of an instruction of the way Inline, or of a fence, leads nowhere
  abbrev Straight : Operation → Type 0
  Straight o = Each IsStill (expanded target o.op o.width o.order o.weak)

  pub inline_straight : (i : Inst) → is_inline target i ≡ true → (o : Operation) → operation_of i ≡ Some o → Straight o
  unfolding is_inline operation_of
  inline_straight (inst.LoadAtomic t a order align) h o e = subst Straight (same_Some (record { op = op.Load; width = width_of t; order = order; weak = false }) o e) (rows.straight op.Load (width_of t) order false align h)
  inline_straight (inst.StoreAtomic t v a order align) h o e = subst Straight (same_Some (record { op = op.Store; width = width_of t; order = order; weak = false }) o e) (rows.straight op.Store (width_of t) order false align h)
  inline_straight (inst.Cmpxchg weak a t v u w success failure align) h o e =
      let order = merged_order success failure in
      subst Straight (same_Some (record { op = op.Cmpxchg; width = width_of t; order = order; weak = weak }) o e) (rows.straight op.Cmpxchg (width_of t) order weak align h)
  inline_straight (inst.Rmw r a t v order align) h o e = subst Straight (same_Some (record { op = op.Rmw r; width = width_of t; order = order; weak = false }) o e) (rows.straight (op.Rmw r) (width_of t) order false align h)
  inline_straight (inst.Fence false order) h o e = subst Straight (same_Some (record { op = op.Fence; width = width_of I64; order = order; weak = false }) o e) (rows.straight op.Fence (width_of I64) order false 0 refl)
  inline_straight (inst.Fence true order) h o e = absurd (none-some o e)
  inline_straight _ h o e = absurd (false≢true h)

pub plain_row : (target : Target) (i : Inst) → is_plain i ≡ true → row_at target i ≡ None
unfolding row_at
plain_row target (inst.Load t a align) h = refl
plain_row target (inst.Store t v a align) h = refl
plain_row target _ h = absurd (false≢true h)

-- ---- a test that all instructions of a program pass
pub each_passes : (p : Inst → Bool) (program : SourceProgram) → list_all (λ (g : Function). list_all (λ (y : Block). list_all p y.insts) g.blocks) program.source.functions ≡ true → (f k : ℕ) (i : Inst) → slice_get (insts_of program.source f) k ≡ Some i → p i ≡ true
each_passes p program all f k i e = by (slice_get program.source.functions f) refl e
  where
    by : (o : Option Function) → slice_get program.source.functions f ≡ o → slice_get (all_insts (blocks_in o)) k ≡ Some i → p i ≡ true
    by None at h = absurd (none-some i h)
    by (Some g) at h =
        let q = place_of g.blocks k i h in
        let b = block_at g.blocks q.block q.index i q.inst in
        let blocks = all_at (λ (x : Function). list_all (λ (y : Block). list_all p y.insts) x.blocks) program.source.functions f g all at in
        let insts = all_at (λ (y : Block). list_all p y.insts) g.blocks q.block b.0 blocks b.1 in
        all_at p b.0.insts q.index i insts (sym (ap (λ (is : List Inst). slice_get is q.index) b.2) ∙ q.inst)
