-- Each label of the code stands once: labels rise from line to line.
use Rattle.std.proofs.Common.{◌≡◌, ℕ, zero, suc, ◌+◌, ◌*◌, ◌<◌, ◌≤◌, Bool, true, false, List, [], ◌∷◌, ◌++◌, map, Option, Some, None, length, refl, sym, ap, ◌∙◌, subst, arith, slice_get}
use Rattle.std.specs.Prelude.{if◌then◌else◌, nat_eq, nat_lt}
use Rattle.std.proofs.lemmas.Bool.Decides.{nat_tests}
use Rattle.std.proofs.lemmas.Option.{none-some, same_Some}
use Rattle.ax_module.specs.declared.inst.Inst.{Inst}
use Rattle.ax_module.specs.declared.inst.Inst.TheVariants as inst
use Rattle.ax_module.specs.declared.module.Block.{Block}
use Rattle.ax_module.specs.declared.operand.Operand.{Operand}
use Rattle.ax_module.specs.declared.operand.Operand.TheVariants as operand
use Rattle.ax_module.specs.declared.types.Ty.{Ty}
use Rattle.ax_source_run.specs.SourceState.{Object, Shared, Private, SourceProgram}
use Rattle.ax_mid.specs.declared.code.Line.{Line}
use Rattle.ax_mid.specs.declared.instruction.MidInst.{MidInst}
use Rattle.ax_mid.specs.declared.instruction.MidInst.TheVariants as mid
use Rattle.ax_mid.specs.declared.registers.Virtual.{Virtual}
use Rattle.ax_mid.specs.Machine.{behind_label, is_label, label_at}
use Rattle.ax_selected.specs.Addresses.{Brought, Fixed, IndexAt, address_of, bytes_of, count_of}
use Rattle.ax_selected.specs.Edges.{coming_in, edge_lines, operand_from, set_phis}
use Rattle.ax_selected.specs.Laid.{AreFew, ArePlenty, total}
use Rattle.ax_selected.specs.Operands.{high_into, low_into}
use Rattle.ax_selected.specs.Pieces.{Straight}
use Rattle.ax_selected.specs.Registers.{first_label, key, second_label, virtual}
use Rattle.ax_selected.specs.Selected.{acting, chosen_by, compared, found, guarded, silent, straight, through}

abbrev pub RisingAt : Option ℕ → ℕ → (ℕ → Type 0) → Type 0
RisingAt None from Then = Then from
RisingAt (Some n) from Then = (from ≤ n) × Then (n + 1)

-- labels rise, from one number on and up to another
abbrev pub Rising : List (Line Virtual) → ℕ → ℕ → Type 0
Rising [] from to = from ≤ to
Rising (line ∷ lines) from to = RisingAt (label_at key line.inst) from (λ n. Rising lines n to)

mutual_weak : (o : Option ℕ) (lines : List (Line Virtual)) (low from to : ℕ) → ((a b : ℕ) → a ≤ b → Rising lines b to → Rising lines a to) → low ≤ from → RisingAt o from (λ n. Rising lines n to) → RisingAt o low (λ n. Rising lines n to)
mutual_weak None lines low from to weak le h = weak low from le h
mutual_weak (Some n) lines low from to weak le h = (let b = h.0 in omega (arith, le, b), h.1)

pub rising_from : (lines : List (Line Virtual)) (low from to : ℕ) → low ≤ from → Rising lines from to → Rising lines low to
rising_from [] low from to le h = omega (arith, le, h)
rising_from (line ∷ lines) low from to le h = mutual_weak (label_at key line.inst) lines low from to (λ a b. rising_from lines a b to) le h

both_at : (o : Option ℕ) (xs ys : List (Line Virtual)) (from middle to : ℕ) → ((a : ℕ) → Rising xs a middle → Rising (xs ++ ys) a to) → RisingAt o from (λ n. Rising xs n middle) → RisingAt o from (λ n. Rising (xs ++ ys) n to)
both_at None xs ys from middle to more h = more from h
both_at (Some n) xs ys from middle to more h = (h.0, more (n + 1) h.1)

pub rising_both : (xs ys : List (Line Virtual)) (from middle to : ℕ) → Rising xs from middle → Rising ys middle to → Rising (xs ++ ys) from to
rising_both [] ys from middle to h g = rising_from ys from middle to h g
rising_both (x ∷ xs) ys from middle to h g = both_at (label_at key x.inst) xs ys from middle to (λ a p. rising_both xs ys a middle to p g) h

-- ---- where labels rise each stands once
pub record IsOnce (lines : List (Line Virtual)) (from label place n : ℕ) : Type 0 where
  pub least : from ≤ label
  pub once : behind_label key lines label place ≡ place + n + 1

head_is : (lines : List (Line Virtual)) (o : Option ℕ) (from to label place : ℕ) → o ≡ Some label → RisingAt o from (λ n. Rising lines n to) → (from ≤ label) × ((if is_label key label o then place + 1 else behind_label key lines label (place + 1)) ≡ place + 0 + 1)
head_is lines None from to label place e h = absurd (none-some label e)
head_is lines (Some n) from to label place e h =
    let same : n ≡ label = same_Some n label e in
    let le = h.0 in
    (omega (arith, le, same), ap (λ (b : Bool). if b then place + 1 else behind_label key lines label (place + 1)) (equal n label same) ∙ omega arith)
  where
    equal : (x y : ℕ) → x ≡ y → nat_eq x y ≡ true
    equal x y q = grind (arith, nat_tests)

tail_is : (lines : List (Line Virtual)) (o : Option ℕ) (from to label place n : ℕ) → RisingAt o from (λ a. Rising lines a to) → ((a : ℕ) → Rising lines a to → IsOnce lines a label (place + 1) n)
    → (from ≤ label) × ((if is_label key label o then place + 1 else behind_label key lines label (place + 1)) ≡ place + suc n + 1)
tail_is lines None from to label place n h more = let m = more from h in let l = m.least in let o = m.once in (l, o ∙ omega arith)
tail_is lines (Some x) from to label place n h more =
    let m = more (x + 1) h.1 in
    let least = m.least in
    let le = h.0 in
    (omega (arith, least, le), ap (λ (b : Bool). if b then place + 1 else behind_label key lines label (place + 1)) (other x label least) ∙ (m.once ∙ omega arith))
  where
    other : (a b : ℕ) → a + 1 ≤ b → nat_eq a b ≡ false
    other a b q = grind (arith, nat_tests)

pub once_in : (lines : List (Line Virtual)) (from to label place n : ℕ) (line : Line Virtual) → Rising lines from to → slice_get lines n ≡ Some line → label_at key line.inst ≡ Some label → IsOnce lines from label place n
once_in [] from to label place n line h e is = absurd (none-some line e)
once_in (x ∷ lines) from to label place zero line h e is =
    let r = head_is lines (label_at key x.inst) from to label place (ap (λ (y : Line Virtual). label_at key y.inst) (same_Some x line e) ∙ is) h in
    record { least = r.0; once = r.1 }
once_in (x ∷ lines) from to label place (suc n) line h e is =
    let r = tail_is lines (label_at key x.inst) from to label place n h (λ a p. once_in lines a to label (place + 1) n line p e is) in
    record { least = r.0; once = r.1 }

-- ---- lines without labels
abbrev pub HasNone : List (MidInst Virtual) → Type 0
HasNone [] = Unit {0}
HasNone (i ∷ is) = (label_at key i ≡ None) × HasNone is

pub none_both : (is js : List (MidInst Virtual)) → HasNone is → HasNone js → HasNone (is ++ js)
none_both [] js h g = g
none_both (i ∷ is) js h g = (h.0, none_both is js h.1 g)

none_at : (o : Option ℕ) (from : ℕ) (Then : ℕ → Type 0) → o ≡ None → Then from → RisingAt o from Then
none_at None from Then e h = h
none_at (Some n) from Then e h = absurd (none-some n (sym e))

pub rising_silent : (f k : ℕ) (is : List (MidInst Virtual)) (ys : List (Line Virtual)) (from to : ℕ) → HasNone is → Rising ys from to → Rising (map (silent f k) is ++ ys) from to
rising_silent f k [] ys from to h g = g
rising_silent f k (i ∷ is) ys from to h g = none_at (label_at key i) from (λ n. Rising (map (silent f k) is ++ ys) n to) h.0 (rising_silent f k is ys from to h.1 g)

pub record IsUnlabelled (s : Straight) : Type 0 where
  pub silent_lines : HasNone s.silent
  pub last_line : label_at key s.last ≡ None

pub rising_straight : (f k : ℕ) (s : Straight) (from to : ℕ) → IsUnlabelled s → from ≤ to → Rising (straight f k s) from to
rising_straight f k s from to h le = rising_silent f k s.silent (acting f k s.last ∷ []) from to h.silent_lines (none_at (label_at key s.last) from (λ n. n ≤ to) h.last_line le)

pub low_none : (r : ℕ) (t : Ty) (v : Operand) → label_at key (low_into r t v) ≡ None
low_none r t (operand.Value q) = refl
low_none r t (operand.Const n) = refl
low_none r t (operand.Wide n) = refl
low_none r t (operand.Param q) = refl

pub high_none : (r : ℕ) (t : Ty) (v : Operand) → label_at key (high_into r t v) ≡ None
high_none r t (operand.Value q) = refl
high_none r t (operand.Const n) = refl
high_none r t (operand.Wide n) = refl
high_none r t (operand.Param q) = refl

-- ---- edges, and ways to elements
coming_none : (b k : ℕ) (insts : List Inst) → HasNone (coming_in b k insts)
unfolding coming_in
coming_none b k [] = tt
coming_none b k (inst.Phi t entries ∷ insts) = (low_none (Rattle.ax_selected.specs.Registers.low_in k) t (operand_from b entries), (high_none (Rattle.ax_selected.specs.Registers.high_in k) t (operand_from b entries), coming_none b (k + 1) insts))
coming_none b k (_ ∷ insts) = tt

sets_none : (k : ℕ) (insts : List Inst) → HasNone (set_phis k insts)
unfolding set_phis
sets_none k [] = tt
sets_none k (inst.Phi t entries ∷ insts) = (refl, (refl, sets_none (k + 1) insts))
sets_none k (_ ∷ insts) = tt

pub edge_none : (f : ℕ) (blocks : List Block) (b d : ℕ) → IsUnlabelled (edge_lines f blocks b d)
edge_none f blocks b d =
    let first = Rattle.ax_source_run.specs.SourceInstructions.first_number blocks d in
    let insts = Rattle.ax_source_run.specs.SourceInstructions.insts_of_block blocks d in
    record { silent_lines = none_both (coming_in b first insts) (set_phis first insts) (coming_none b first insts) (sets_none first insts); last_line = refl }

address_none : (program : SourceProgram) (f : ℕ) (o : Object) (j : ℕ) → label_at key (address_of program f o j) ≡ None
address_none program f (Shared g) j = refl
address_none program f (Private r) j = refl

unfoldable pub IndexNone : IndexAt → Type 0
IndexNone (Fixed j) = Unit {0}
IndexNone (Brought lines) = HasNone lines

-- from the first label of an instruction to behind its second
guarded_rises : (f k : ℕ) (program : SourceProgram) (o : Object) (lines : List (MidInst Virtual)) (rest : Straight) (from to : ℕ) → from ≤ first_label f k → second_label f k + 1 ≤ to → HasNone lines → IsUnlabelled rest → Rising (guarded f k program o lines rest) from to
guarded_rises f k program o lines rest from to low high is h =
    let end : Straight = record { silent = found f k (address_of program f o 0) (bytes_of program f o) ++ rest.silent; last = rest.last } in
    let behind = rising_straight f k end (second_label f k + 1) to (record { silent_lines = (refl, (refl, (address_none program f o 0, (refl, h.silent_lines)))); last_line = h.last_line }) high in
    rising_silent f k (lines ++ compared f k (count_of program f o)) (silent f k (mid.Branch (virtual 2) (second_label f k) (first_label f k)) ∷ silent f k (mid.Label (first_label f k)) ∷ acting f k mid.Trap ∷ silent f k (mid.Label (second_label f k)) ∷ straight f k end) from to
    (none_both lines (compared f k (count_of program f o)) is (refl, (refl, tt))) (low, (omega arith, behind))

pub through_rises : (f k : ℕ) (program : SourceProgram) (o : Object) (index : IndexAt) (rest : Straight) (from to : ℕ) → from ≤ first_label f k → second_label f k + 1 ≤ to → IndexNone index → IsUnlabelled rest → Rising (through f k program o index rest) from to
unfolding IndexNone
through_rises f k program o (Fixed j) rest from to low high is h = by (nat_lt j (count_of program f o))
  where
    by : (b : Bool) → Rising (chosen_by f k b program o j rest) from to
    by true = rising_straight f k (record { silent = address_of program f o j ∷ rest.silent; last = rest.last }) from to (record { silent_lines = (address_none program f o j, h.silent_lines); last_line = h.last_line }) (omega (arith, low, high))
    by false = guarded_rises f k program o (mid.Const (virtual 1) j ∷ []) rest from to low high (refl, tt) h
through_rises f k program o (Brought lines) rest from to low high is h = guarded_rises f k program o lines rest from to low high is h

pub branch_rises : (f k : ℕ) (v : Operand) (a b : Straight) (from to : ℕ) → from ≤ first_label f k → second_label f k + 1 ≤ to → IsUnlabelled a → IsUnlabelled b → Rising (Rattle.ax_selected.specs.Selected.branch_lines f k v a b) from to
branch_rises f k v a b from to low high ha hb =
    let second : Rising (silent f k (mid.Label (second_label f k)) ∷ straight f k b) (second_label f k) to = (omega arith, rising_straight f k b (second_label f k + 1) to hb high) in
    let first = rising_straight f k a (first_label f k + 1) (second_label f k) ha (omega arith) in
    let rest = rising_both (straight f k a) (silent f k (mid.Label (second_label f k)) ∷ straight f k b) (first_label f k + 1) (second_label f k) to first second in
    none_at (label_at key (low_into 0 Rattle.ax_module.specs.declared.types.Ty.TheVariants.I1 v)) from (λ n. Rising (silent f k (mid.Branch (virtual 0) (first_label f k) (second_label f k)) ∷ silent f k (mid.Label (first_label f k)) ∷ straight f k a ++ (silent f k (mid.Label (second_label f k)) ∷ straight f k b)) n to) (low_none 0 Rattle.ax_module.specs.declared.types.Ty.TheVariants.I1 v) (low, rest)

-- ---- the whole code, where each instruction's labels rise and each block has an instruction
module _ (program : SourceProgram) where
  unfoldable pub EachRises : Type 0
  EachRises = (f k b : ℕ) (blocks : List Block) (i : Inst) → Rising (Rattle.ax_selected.specs.Selected.piece f k program blocks b i) (8192 * f + 4 * k + 1) (8192 * f + 4 * k + 4)

  module _ (each : EachRises) where
    insts_rise : (f : ℕ) (blocks : List Block) (b k : ℕ) (insts : List Inst) → 0 < length insts → Rising (Rattle.ax_selected.specs.Selected.insts_lines program f blocks b k insts) (8192 * f + 4 * k + 1) (8192 * f + 4 * (k + length insts))
    unfolding EachRises
    insts_rise f blocks b k [] some = absurd (omega (arith, some))
    insts_rise f blocks b k (x ∷ []) some = rising_both (Rattle.ax_selected.specs.Selected.piece f k program blocks b x) [] (8192 * f + 4 * k + 1) (8192 * f + 4 * k + 4) (8192 * f + 4 * (k + 1)) (each f k b blocks x) (omega arith)
    insts_rise f blocks b k (x ∷ y ∷ insts) some =
        let more = insts_rise f blocks b (k + 1) (y ∷ insts) (omega arith) in
        let there = subst (λ (n : ℕ). Rising (Rattle.ax_selected.specs.Selected.insts_lines program f blocks b (k + 1) (y ∷ insts)) (8192 * f + 4 * (k + 1) + 1) n) (far f k (length insts)) more in
        rising_both (Rattle.ax_selected.specs.Selected.piece f k program blocks b x) (Rattle.ax_selected.specs.Selected.insts_lines program f blocks b (k + 1) (y ∷ insts)) (8192 * f + 4 * k + 1) (8192 * f + 4 * k + 4) (8192 * f + 4 * (k + suc (suc (length insts)))) (each f k b blocks x)
        (rising_from (Rattle.ax_selected.specs.Selected.insts_lines program f blocks b (k + 1) (y ∷ insts)) (8192 * f + 4 * k + 4) (8192 * f + 4 * (k + 1) + 1) (8192 * f + 4 * (k + suc (suc (length insts)))) (omega arith) there)
      where
        far : (f k n : ℕ) → 8192 * f + 4 * (k + 1 + suc n) ≡ 8192 * f + 4 * (k + suc (suc n))
        far f k n = omega arith

    blocks_rise : (f : ℕ) (all : List Block) (b k : ℕ) (blocks : List Block) → ArePlenty blocks → Rising (Rattle.ax_selected.specs.Selected.blocks_lines program f all b k blocks) (8192 * f + 4 * k) (8192 * f + 4 * (k + total blocks))
    blocks_rise f all b k [] plenty = omega arith
    blocks_rise f all b k (block ∷ blocks) plenty =
        let start = k + length block.insts in
        let more = subst (λ (n : ℕ). Rising (Rattle.ax_selected.specs.Selected.blocks_lines program f all (b + 1) start blocks) (8192 * f + 4 * start) n) (far f k (length block.insts) (total blocks)) (blocks_rise f all (b + 1) start blocks plenty.1) in
        (omega arith, rising_both (Rattle.ax_selected.specs.Selected.insts_lines program f all b k block.insts) (Rattle.ax_selected.specs.Selected.blocks_lines program f all (b + 1) start blocks) (8192 * f + 4 * k + 1) (8192 * f + 4 * start) (8192 * f + 4 * (k + (length block.insts + total blocks))) (insts_rise f all b k block.insts plenty.0) more)
      where
        far : (f k n t : ℕ) → 8192 * f + 4 * (k + n + t) ≡ 8192 * f + 4 * (k + (n + t))
        far f k n t = omega arith

    functions_rise : (f : ℕ) (functions : List Rattle.ax_module.specs.declared.module.Function.Function) → AreFew functions → Rising (Rattle.ax_selected.specs.Selected.functions_lines program f functions) (8192 * f) (8192 * (f + length functions))
    functions_rise f [] few = omega arith
    functions_rise f (function ∷ functions) few =
        let own = Rattle.ax_selected.specs.Selected.function_lines program f function in
        let rest = Rattle.ax_selected.specs.Selected.functions_lines program (f + 1) functions in
        let most = few.1 in
        let here = rising_from own (8192 * f) (8192 * f + 4 * 0) (8192 * f + 4 * (0 + total function.blocks)) (omega arith) (blocks_rise f function.blocks 0 0 function.blocks few.0) in
        let more = subst (λ (n : ℕ). Rising rest (8192 * (f + 1)) n) (far f (length functions)) (functions_rise (f + 1) functions few.2) in
        rising_both own rest (8192 * f) (8192 * f + 4 * (0 + total function.blocks)) (8192 * (f + suc (length functions))) here (rising_from rest (8192 * f + 4 * (0 + total function.blocks)) (8192 * (f + 1)) (8192 * (f + suc (length functions))) (omega (arith, most)) more)
      where
        far : (f n : ℕ) → 8192 * (f + 1 + n) ≡ 8192 * (f + suc n)
        far f n = omega arith

    pub labels_once : AreFew program.source.functions → Rattle.ax_selected.proofs.Placing.LabelsOnce program
    unfolding Rattle.ax_selected.proofs.Placing.LabelsOnce
    labels_once few place label line e is =
        let lines = (Rattle.ax_selected.specs.Selected.selected program).lines in
        let r = once_in lines (8192 * 0) (8192 * (0 + length program.source.functions)) label 0 place line (functions_rise 0 program.source.functions few) e (ap (λ (i : MidInst Virtual). label_at key i) is) in
        r.once ∙ omega arith
