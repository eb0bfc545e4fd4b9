-- How the code of each instruction of the source is made: lines that compute and a last one, which may stand behind a trap, or a branch to two jumps.
use Rattle.std.proofs.Common.{◌≡◌, ℕ, ◌+◌, Bool, true, false, List, [], ◌∷◌, ◌++◌, map, Option, Some, None, refl, sym}
use Rattle.std.specs.Prelude.{if◌then◌else◌, nat_eq, nat_lt}
use Rattle.std.proofs.lemmas.Bool.{true≢false}
use Rattle.ax_module.specs.declared.inst.BinOp.{BinOp}
use Rattle.ax_module.specs.declared.inst.BinOp.TheVariants as bin
use Rattle.ax_module.specs.declared.inst.Cast.{Cast}
use Rattle.ax_module.specs.declared.inst.Cast.TheVariants.{Zext, Sext, Trunc}
use Rattle.ax_module.specs.declared.inst.Inst.{Inst}
use Rattle.ax_module.specs.declared.inst.Inst.TheVariants as inst
use Rattle.ax_module.specs.declared.module.Block.{Block}
use Rattle.ax_module.specs.declared.operand.Addr.{Addr}
use Rattle.ax_module.specs.declared.operand.Arg.{Arg}
use Rattle.ax_module.specs.declared.operand.Arg.TheVariants as arg
use Rattle.ax_module.specs.declared.operand.Base.{Base}
use Rattle.ax_module.specs.declared.operand.Base.TheVariants as base
use Rattle.ax_module.specs.declared.operand.Operand.{Operand}
use Rattle.ax_module.specs.declared.operand.Operand.TheVariants as operand
use Rattle.ax_module.specs.declared.types.Ty.{Ty}
use Rattle.ax_module.specs.declared.types.Ty.TheVariants.{I1, I8, I128}
use Rattle.ax_module.specs.Kinds.{is_phi}
use Rattle.ax_source_run.specs.SourceInstructions.{first_number, insts_of_block, is_out}
use Rattle.ax_source_run.specs.SourceState.{Object, Private, Shared, SourceProgram}
use Rattle.ax_mid.specs.declared.code.Line.{Line}
use Rattle.ax_mid.specs.declared.instruction.MidInst.{MidInst}
use Rattle.ax_mid.specs.declared.instruction.MidInst.TheVariants as mid
use Rattle.ax_mid.specs.declared.registers.Virtual.{Virtual}
use Rattle.ax_words.specs.Orders.{merged_order}
use Rattle.ax_words.specs.declared.mark.Op.TheVariants as operation
use Rattle.ax_rules.specs.declared.facts.Outcome.{Outcome}
use Rattle.ax_rules.specs.declared.facts.Outcome.TheVariants as outcome
use Rattle.ax_typed.specs.Typed.{outcome_in}
use Rattle.ax_selected.specs.Addresses.{Brought, Fixed, IndexAt, address_of, bytes_of, count_of, index_at, index_of_base, index_of_step, index_of_value, object_of}
use Rattle.ax_selected.specs.Edges.{coming_in, edge_lines, operand_from, set_phis}
use Rattle.ax_selected.specs.Operands.{high_into, is_narrow, low_into}
use Rattle.ax_selected.specs.Operations.{Operation, operation_in, operation_of}
use Rattle.ax_selected.specs.Pieces.{Comparison, Straight, apply, bin_lines, comparison, convert_lines, extract_lines, icmp_lines, narrow_bin, narrow_icmp, select_lines, wide_bin, wide_icmp}
use Rattle.ax_selected.specs.Registers.{block_label, first_label, high_in, high_of, low_in, low_of, second_label, virtual}
use Rattle.ax_selected.specs.Selected.{acting, atomic_load_lines, atomic_store_lines, branch_lines, bytes_at, chosen_by, compared, exchange_lines, fence_lines, found, gep_lines, guarded, halves_into, load_lines, lone, out_operand, piece, reach, silent, store_lines, straight, through, update_lines}
use Rattle.ax_marks_rv.proofs.Codes.{IsLast, IsLevel}
use Rattle.ax_marks_rv.proofs.Items.{Each, each_both}

-- a load or a store that is not atomic
abbrev pub is_plain : Inst → Bool
is_plain (inst.Load ty a align) = true
is_plain (inst.Store ty x a align) = true
is_plain _ = false

-- one that goes to another block or ends
abbrev pub is_leading : Inst → Bool
is_leading (inst.Jump d) = true
is_leading (inst.Branch test d e) = true
is_leading inst.RetVoid = true
is_leading _ = false

abbrev pub Levels : Bool → List (MidInst Virtual) → Type 0
Levels plain is = Each (IsLevel plain) is

-- silent lines, and the one that has the event
abbrev pub whole : ℕ → ℕ → List (MidInst Virtual) → MidInst Virtual → List (Line Virtual)
whole f k is last = straight f k (record { silent = is; last = last })

-- a trap, which a branch passes over
abbrev pub guard : ℕ → ℕ → Virtual → List (Line Virtual)
guard f k test = silent f k (mid.Branch test (second_label f k) (first_label f k)) ∷ silent f k (mid.Label (first_label f k)) ∷ acting f k mid.Trap ∷ silent f k (mid.Label (second_label f k)) ∷ []

-- a branch to two jumps
abbrev pub fork : ℕ → ℕ → MidInst Virtual → Virtual → List (MidInst Virtual) → ℕ → List (MidInst Virtual) → ℕ → List (Line Virtual)
fork f k first test is m js n =
    silent f k first ∷ silent f k (mid.Branch test (first_label f k) (second_label f k)) ∷ silent f k (mid.Label (first_label f k)) ∷ whole f k is (mid.Jump (block_label f m)) ++ (silent f k (mid.Label (second_label f k)) ∷ whole f k js (mid.Jump (block_label f n)))

pub data Shape (f k : ℕ) (plain leading : Bool) (o : Option Operation) (lines : List (Line Virtual)) : Type 0 where
  Whole : (is : List (MidInst Virtual)) (last : MidInst Virtual) → Levels plain is → IsLast plain leading f last → operation_in last ≡ o → lines ≡ whole f k is last → Shape f k plain leading o lines
  Guarded : (js : List (MidInst Virtual)) (test : Virtual) (is : List (MidInst Virtual)) (last : MidInst Virtual) → Levels plain js → Levels plain is → IsLast plain leading f last → operation_in last ≡ o → lines ≡ map (silent f k) js ++ (guard f k test ++ whole f k is last) → Shape f k plain leading o lines
  Forked : (first : MidInst Virtual) (test : Virtual) (is : List (MidInst Virtual)) (m : ℕ) (js : List (MidInst Virtual)) (n : ℕ) → IsLevel plain first → Levels plain is → Levels plain js → leading ≡ true → o ≡ None → lines ≡ fork f k first test is m js n → Shape f k plain leading o lines

-- ---- operands
module _ (plain : Bool) where
  low : (r : ℕ) (t : Ty) (v : Operand) → IsLevel plain (low_into r t v)
  low r t (operand.Value q) = tt
  low r t (operand.Const n) = tt
  low r t (operand.Wide n) = tt
  low r t (operand.Param q) = tt

  high : (r : ℕ) (t : Ty) (v : Operand) → IsLevel plain (high_into r t v)
  high r t (operand.Value q) = tt
  high r t (operand.Const n) = tt
  high r t (operand.Wide n) = tt
  high r t (operand.Param q) = tt

  halves_level : (r s : ℕ) (t : Ty) (v : Operand) → Levels plain (halves_into r s t v)
  halves_level r s t v = by (is_narrow t)
    where
      by : (q : Bool) → Levels plain (if q then low_into r t v ∷ [] else low_into r t v ∷ high_into s t v ∷ [])
      by true = (low r t v, tt)
      by false = (low r t v, (high s t v, tt))

  -- ---- edges
  coming_level : (b k : ℕ) (insts : List Inst) → Levels plain (coming_in b k insts)
  unfolding coming_in
  coming_level b k [] = tt
  coming_level b k (inst.Phi t entries ∷ insts) = (low (low_in k) t (operand_from b entries), (high (high_in k) t (operand_from b entries), coming_level b (k + 1) insts))
  coming_level b k (_ ∷ insts) = tt

  sets_level : (k : ℕ) (insts : List Inst) → Levels plain (set_phis k insts)
  unfolding set_phis
  sets_level k [] = tt
  sets_level k (inst.Phi t entries ∷ insts) = (tt, (tt, sets_level (k + 1) insts))
  sets_level k (_ ∷ insts) = tt

  edge_level : (f : ℕ) (blocks : List Block) (b d : ℕ) → Levels plain (edge_lines f blocks b d).silent
  edge_level f blocks b d =
      let first = first_number blocks d in
      let insts = insts_of_block blocks d in
      each_both (IsLevel plain) (coming_in b first insts) (set_phis first insts) (coming_level b first insts) (sets_level first insts)

  -- ---- ways to elements
  unfoldable IndexLevel : IndexAt → Type 0
  IndexLevel (Fixed j) = Unit {0}
  IndexLevel (Brought lines) = Levels plain lines

  step_level : (program : SourceProgram) (f : ℕ) (o : Object) (t u : Ty) (v : Operand) → IndexLevel (index_of_step program f o t u v)
  unfolding IndexLevel
  step_level program f o t u (operand.Value q) = (low 1 u (operand.Value q), (tt, tt))
  step_level program f o t u (operand.Const n) = tt
  step_level program f o t u (operand.Wide n) = tt
  step_level program f o t u (operand.Param q) = tt

  value_level : (o : Outcome) (r : ℕ) → IndexLevel (index_of_value o r)
  unfolding IndexLevel
  value_level (outcome.Gep b elem t v) r = (tt, tt)
  value_level (outcome.Number t) r = tt
  value_level (outcome.Pair t) r = tt
  value_level (outcome.Alloca e) r = tt
  value_level outcome.Nothing r = tt

  base_level : (program : SourceProgram) (f : ℕ) (b : Base) → IndexLevel (index_of_base program f b)
  unfolding IndexLevel
  base_level program f (base.Global g) = tt
  base_level program f (base.Value r) = value_level (outcome_in program.source f r) r
  base_level program f (base.Param q) = tt

  index_level : (program : SourceProgram) (f : ℕ) (b : Base) (o : Option (Ty × ℕ × Ty × Operand)) → IndexLevel (index_at program f b o)
  index_level program f b None = base_level program f b
  index_level program f b (Some step) = step_level program f (object_of program f b) step.0 step.2 step.3

  address_level : (program : SourceProgram) (f : ℕ) (o : Object) (j : ℕ) → IsLevel plain (address_of program f o j)
  address_level program f (Shared g) j = tt
  address_level program f (Private r) j = tt

  module _ (f k : ℕ) (leading : Bool) (o : Option Operation) where
    abbrev Shaped : List (Line Virtual) → Type 0
    Shaped lines = Shape f k plain leading o lines

    -- its lines compute, and the last one has the event
    record IsMade (s : Straight) : Type 0 where
      silent_lines : Levels plain s.silent
      last_line : IsLast plain leading f s.last
      same : operation_in s.last ≡ o

    straight_shape : (s : Straight) → IsMade s → Shaped (straight f k s)
    straight_shape s h = Whole s.silent s.last h.silent_lines h.last_line h.same refl

    guarded_shape : (program : SourceProgram) (object : Object) (lines : List (MidInst Virtual)) (rest : Straight) → Levels plain lines → IsMade rest → Shaped (guarded f k program object lines rest)
    guarded_shape program object lines rest is h =
        Guarded (lines ++ compared f k (count_of program f object)) (virtual 2) (found f k (address_of program f object 0) (bytes_of program f object) ++ rest.silent) rest.last
        (each_both (IsLevel plain) lines (compared f k (count_of program f object)) is (tt, (tt, tt)))
        (tt, (tt, (address_level program f object 0, (tt, h.silent_lines))))
        h.last_line h.same refl

    through_shape : (program : SourceProgram) (object : Object) (index : IndexAt) (rest : Straight) → IndexLevel index → IsMade rest → Shaped (through f k program object index rest)
    unfolding IndexLevel
    through_shape program object (Fixed j) rest is h = by (nat_lt j (count_of program f object))
      where
        by : (q : Bool) → Shaped (chosen_by f k q program object j rest)
        by true = straight_shape (record { silent = address_of program f object j ∷ rest.silent; last = rest.last }) (record { silent_lines = (address_level program f object j, h.silent_lines); last_line = h.last_line; same = h.same })
        by false = guarded_shape program object (mid.Const (virtual 1) j ∷ []) rest (tt, tt) h
    through_shape program object (Brought lines) rest is h = guarded_shape program object lines rest is h

    reach_shape : (program : SourceProgram) (blocks : List Block) (b : ℕ) (a : Addr) (rest : Straight) → IsMade rest → Shaped (reach f k program blocks b a rest)
    reach_shape program blocks b a rest h = through_shape program (object_of program f a.base) (index_at program f a.base a.step) rest (index_level program f a.base a.step) h

-- ---- instructions that compute
module _ (f k : ℕ) (t : Ty) (v w : Operand) where
  abbrev Computed : Straight → Type 0
  Computed s = IsMade false f k false None s

  narrow_made : (o : BinOp) → Computed (narrow_bin o k t v w)
  unfolding operation_in
  narrow_made bin.Add = record { silent_lines = (low false 0 t v, (low false 1 t w, (tt, tt))); last_line = tt; same = refl }
  narrow_made bin.Sub = record { silent_lines = (low false 0 t v, (low false 1 t w, (tt, tt))); last_line = tt; same = refl }
  narrow_made bin.Mul = record { silent_lines = (low false 0 t v, (low false 1 t w, (tt, tt))); last_line = tt; same = refl }
  narrow_made bin.And = record { silent_lines = (low false 0 t v, (low false 1 t w, (tt, tt))); last_line = tt; same = refl }
  narrow_made bin.Or = record { silent_lines = (low false 0 t v, (low false 1 t w, (tt, tt))); last_line = tt; same = refl }
  narrow_made bin.Xor = record { silent_lines = (low false 0 t v, (low false 1 t w, (tt, tt))); last_line = tt; same = refl }
  narrow_made bin.Shl = record { silent_lines = (low false 0 t v, (tt, tt)); last_line = tt; same = refl }
  narrow_made bin.Lshr = record { silent_lines = (low false 0 t v, tt); last_line = tt; same = refl }
  narrow_made bin.Ashr = record { silent_lines = (low false 0 t v, (tt, (tt, tt))); last_line = tt; same = refl }

  wide_made : (o : BinOp) → Computed (wide_bin o k t v w)
  unfolding operation_in
  wide_made bin.Add = record { silent_lines = (low false 0 t v, (high false 1 t v, (low false 2 t w, (high false 3 t w, (tt, (tt, (tt, (tt, tt)))))))); last_line = tt; same = refl }
  wide_made bin.Sub = record { silent_lines = (low false 0 t v, (high false 1 t v, (low false 2 t w, (high false 3 t w, (tt, (tt, (tt, (tt, tt)))))))); last_line = tt; same = refl }
  wide_made bin.Mul = record { silent_lines = (low false 0 t v, (low false 1 t w, (tt, tt))); last_line = tt; same = refl }
  wide_made bin.And = record { silent_lines = (low false 0 t v, (high false 1 t v, (low false 2 t w, (high false 3 t w, (tt, tt))))); last_line = tt; same = refl }
  wide_made bin.Or = record { silent_lines = (low false 0 t v, (high false 1 t v, (low false 2 t w, (high false 3 t w, (tt, tt))))); last_line = tt; same = refl }
  wide_made bin.Xor = record { silent_lines = (low false 0 t v, (high false 1 t v, (low false 2 t w, (high false 3 t w, (tt, tt))))); last_line = tt; same = refl }
  wide_made bin.Shl = record { silent_lines = (low false 0 t v, (tt, tt)); last_line = tt; same = refl }
  wide_made bin.Lshr = record { silent_lines = (high false 0 t v, (tt, tt)); last_line = tt; same = refl }
  wide_made bin.Ashr = record { silent_lines = (high false 0 t v, (tt, tt)); last_line = tt; same = refl }

  bin_made : (o : BinOp) → Computed (bin_lines o k t v w)
  bin_made o = by (is_narrow t)
    where
      by : (q : Bool) → Computed (if q then narrow_bin o k t v w else wide_bin o k t v w)
      by true = narrow_made o
      by false = wide_made o

  icmp_made : (c : Comparison) → Computed (if is_narrow t then narrow_icmp c k t v w else wide_icmp c k t v w)
  unfolding operation_in
  icmp_made c = by (is_narrow t)
    where
      last : (q : Bool) → IsLast false false f (if q then apply c.operation (low_of k) 1 0 else apply c.operation (low_of k) 0 1)
      last true = tt
      last false = tt

      same : (q : Bool) → operation_in (if q then apply c.operation (low_of k) 1 0 else apply c.operation (low_of k) 0 1) ≡ None
      same true = refl
      same false = refl

      by : (q : Bool) → Computed (if q then narrow_icmp c k t v w else wide_icmp c k t v w)
      by true = record { silent_lines = (low false 0 t v, (low false 1 t w, (tt, (tt, tt)))); last_line = last c.swapped; same = same c.swapped }
      by false = record { silent_lines = (low false 0 t v, (high false 1 t v, (low false 2 t w, (high false 3 t w, (tt, (tt, (tt, (tt, tt)))))))); last_line = tt; same = same false }

module _ (f k : ℕ) where
  abbrev Computes : Straight → Type 0
  Computes s = IsMade false f k false None s

  select_made : (c : Operand) (t u : Ty) (v w : Operand) → Computes (select_lines k c t v u w)
  unfolding operation_in
  select_made c t u v w = by (is_narrow t)
    where
      by : (q : Bool) → Computes (if q then record { silent = low_into 0 I1 c ∷ low_into 1 t v ∷ low_into 2 u w ∷ []; last = mid.Select (virtual (low_of k)) (virtual 0) (virtual 1) (virtual 2) } else record {
        silent = low_into 0 I1 c ∷ low_into 1 t v ∷ low_into 2 u w ∷ high_into 3 t v ∷ high_into 4 u w ∷ mid.Select (virtual (high_of k)) (virtual 0) (virtual 3) (virtual 4) ∷ [];
        last = mid.Select (virtual (low_of k)) (virtual 0) (virtual 1) (virtual 2);
      })
      by true = record { silent_lines = (low false 0 I1 c, (low false 1 t v, (low false 2 u w, tt))); last_line = tt; same = refl }
      by false = record { silent_lines = (low false 0 I1 c, (low false 1 t v, (low false 2 u w, (high false 3 t v, (high false 4 u w, (tt, tt)))))); last_line = tt; same = refl }

  convert_made : (o : Cast) (t u : Ty) (v : Operand) → Computes (convert_lines o k t v u)
  unfolding operation_in
  convert_made Zext t u v = record { silent_lines = (low false 0 t v, (tt, tt)); last_line = tt; same = refl }
  convert_made Sext t u v = record { silent_lines = (low false 0 t v, (tt, tt)); last_line = tt; same = refl }
  convert_made Trunc t u v = record { silent_lines = (low false 0 t v, tt); last_line = tt; same = refl }

  extract_made : (r part : ℕ) → Computes (extract_lines k r part)
  unfolding operation_in
  extract_made r part = by (nat_eq part 0)
    where
      by : (q : Bool) → Computes (if q then extract_lines k r 0 else extract_lines k r 1)
      by true = record { silent_lines = (tt, (tt, (tt, tt))); last_line = tt; same = refl }
      by false = record { silent_lines = tt; last_line = tt; same = refl }

  gep_made : (index : IndexAt) → IndexLevel false index → Computes (gep_lines f k index)
  unfolding IndexLevel operation_in
  gep_made (Fixed j) h = record { silent_lines = tt; last_line = tt; same = refl }
  gep_made (Brought lines) h = record { silent_lines = h; last_line = tt; same = refl }

  out_made : (args : List Arg) → Computes (out_operand f k args)
  unfolding operation_in
  out_made [] = record { silent_lines = tt; last_line = tt; same = refl }
  out_made (arg.Value t v ∷ args) = record { silent_lines = (low false 0 t v, tt); last_line = tt; same = refl }
  out_made (arg.Pointer a ∷ args) = record { silent_lines = tt; last_line = tt; same = refl }

  nop_made : Computes (lone mid.Nop)
  unfolding operation_in
  nop_made = record { silent_lines = tt; last_line = tt; same = refl }

  trap_made : Computes (lone mid.Trap)
  unfolding operation_in
  trap_made = record { silent_lines = tt; last_line = tt; same = refl }

  -- ---- plain accesses
  load_made : (t : Ty) (bytes : ℕ) → IsMade true f k false None (load_lines k t bytes)
  unfolding operation_in
  load_made t bytes = by (is_narrow t)
    where
      by : (q : Bool) → IsMade true f k false None (if q then load_lines k I8 bytes else load_lines k I128 bytes)
      by true = record { silent_lines = tt; last_line = refl; same = refl }
      by false = record { silent_lines = (refl, (tt, (tt, tt))); last_line = refl; same = refl }

  store_made : (t : Ty) (v : Operand) (bytes : ℕ) → IsMade true f k false None (store_lines t v bytes)
  unfolding operation_in
  store_made t v bytes = by (is_narrow t)
    where
      by : (q : Bool) → IsMade true f k false None (if q then record { silent = low_into 3 t v ∷ []; last = mid.Store (virtual 0) (virtual 3) bytes } else record { silent = low_into 3 t v ∷ high_into 4 t v ∷ mid.Store (virtual 0) (virtual 3) 8 ∷ Rattle.ax_selected.specs.Selected.next_half; last = mid.Store (virtual 1) (virtual 4) 8 })
      by true = record { silent_lines = (low true 3 t v, tt); last_line = refl; same = refl }
      by false = record { silent_lines = (low true 3 t v, (high true 4 t v, (refl, (tt, (tt, tt))))); last_line = refl; same = refl }

-- ---- EACH INSTRUCTION
module _ (program : SourceProgram) (f k b : ℕ) (blocks : List Block) where
  abbrev IsShaped : Inst → Type 0
  IsShaped i = Shape f k (is_plain i) (is_leading i) (operation_of i) (piece f k program blocks b i)

  pub piece_shape : (i : Inst) → is_phi i ≡ false → IsShaped i
  unfolding piece operation_of operation_in is_phi
  piece_shape (inst.Bin o t v w) n = straight_shape false f k false None (bin_lines o k t v w) (bin_made f k t v w o)
  piece_shape (inst.Icmp c t v w) n = straight_shape false f k false None (icmp_lines c k t v w) (icmp_made f k t v w (comparison c))
  piece_shape (inst.Select c t v u w) n = straight_shape false f k false None (select_lines k c t v u w) (select_made f k c t u v w)
  piece_shape (inst.Convert o t v u) n = straight_shape false f k false None (convert_lines o k t v u) (convert_made f k o t u v)
  piece_shape (inst.Phi t entries) n = absurd (true≢false n)
  piece_shape (inst.Jump d) n =
      Whole (edge_lines f blocks b d).silent (edge_lines f blocks b d).last (edge_level false f blocks b d) (refl, (first_number blocks d, refl)) refl refl
  piece_shape (inst.Branch v d e) n = by (nat_eq d e)
    where
      by : (q : Bool) → Shape f k false true None (if q then straight f k (edge_lines f blocks b d) else branch_lines f k v (edge_lines f blocks b d) (edge_lines f blocks b e))
      by true = Whole (edge_lines f blocks b d).silent (edge_lines f blocks b d).last (edge_level false f blocks b d) (refl, (first_number blocks d, refl)) refl refl
      by false =
          Forked (low_into 0 I1 v) (virtual 0) (edge_lines f blocks b d).silent (first_number blocks d) (edge_lines f blocks b e).silent (first_number blocks e)
          (low false 0 I1 v) (edge_level false f blocks b d) (edge_level false f blocks b e) refl refl refl
  piece_shape inst.RetVoid n = Whole [] mid.Ret tt refl refl refl
  piece_shape (inst.Ret t v) n = straight_shape false f k false None (lone mid.Trap) (trap_made f k)
  piece_shape inst.Unreachable n = straight_shape false f k false None (lone mid.Trap) (trap_made f k)
  piece_shape (inst.Alloca t count align) n = straight_shape false f k false None (lone mid.Nop) (nop_made f k)
  piece_shape (inst.Gep t count a u v) n =
      straight_shape false f k false None (gep_lines f k (index_of_step program f (object_of program f a) t u v)) (gep_made f k (index_of_step program f (object_of program f a) t u v) (step_level false program f (object_of program f a) t u v))
  piece_shape (inst.Load t a align) n = reach_shape true f k false None program blocks b a (load_lines k t (bytes_at f k program blocks b a)) (load_made f k t (bytes_at f k program blocks b a))
  piece_shape (inst.LoadAtomic t a order align) n =
      reach_shape false f k false (operation_of (inst.LoadAtomic t a order align)) program blocks b a (atomic_load_lines k t order) (record { silent_lines = tt; last_line = tt; same = refl })
  piece_shape (inst.Store t v a align) n = reach_shape true f k false None program blocks b a (store_lines t v (bytes_at f k program blocks b a)) (store_made f k t v (bytes_at f k program blocks b a))
  piece_shape (inst.StoreAtomic t v a order align) n =
      reach_shape false f k false (operation_of (inst.StoreAtomic t v a order align)) program blocks b a (atomic_store_lines t v order) (record { silent_lines = halves_level false 3 4 t v; last_line = tt; same = refl })
  piece_shape (inst.Cmpxchg weak a t v u w success failure align) n =
      reach_shape false f k false (operation_of (inst.Cmpxchg weak a t v u w success failure align)) program blocks b a (exchange_lines k weak t v u w (merged_order success failure))
      (record { silent_lines = each_both (IsLevel false) (halves_into 3 4 t v) (halves_into 5 6 u w) (halves_level false 3 4 t v) (halves_level false 5 6 u w); last_line = tt; same = refl })
  piece_shape (inst.Rmw o a t v order align) n =
      reach_shape false f k false (operation_of (inst.Rmw o a t v order align)) program blocks b a (update_lines k (operation.Rmw o) t v order) (record { silent_lines = halves_level false 3 4 t v; last_line = tt; same = refl })
  piece_shape (inst.Fence true order) n = straight_shape false f k false None (lone mid.Nop) (nop_made f k)
  piece_shape (inst.Fence false order) n = straight_shape false f k false (operation_of (inst.Fence false order)) (fence_lines f k false order) (record { silent_lines = tt; last_line = tt; same = refl })
  piece_shape (inst.Extract t (operand.Value r) part) n = straight_shape false f k false None (extract_lines k r part) (extract_made f k r part)
  piece_shape (inst.Extract t (operand.Const m) part) n = straight_shape false f k false None (lone mid.Nop) (nop_made f k)
  piece_shape (inst.Extract t (operand.Wide m) part) n = straight_shape false f k false None (lone mid.Nop) (nop_made f k)
  piece_shape (inst.Extract t (operand.Param m) part) n = straight_shape false f k false None (lone mid.Nop) (nop_made f k)
  piece_shape (inst.Call result name args) n = by (is_out name)
    where
      by : (q : Bool) → Shape f k false false None (if q then straight f k (out_operand f k args) else straight f k (lone mid.Nop))
      by true = straight_shape false f k false None (out_operand f k args) (out_made f k args)
      by false = straight_shape false f k false None (lone mid.Nop) (nop_made f k)

  -- a phi has no code
  pub phi_none : (i : Inst) → is_phi i ≡ true → piece f k program blocks b i ≡ []
  unfolding piece is_phi
  phi_none (inst.Phi t entries) h = refl
  phi_none _ h = absurd (true≢false (sym h))
