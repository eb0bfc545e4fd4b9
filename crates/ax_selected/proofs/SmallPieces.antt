-- The numbers and registers of an instruction's whole code are small: choices, conversions, edges, ways to elements and accesses.
use Rattle.std.proofs.Common.{◌≡◌, ℕ, suc, ◌+◌, ◌/◌, ◌^◌, ◌<◌, Bool, true, false, List, [], ◌∷◌, ◌++◌, map, Some, All, length, refl, sym, subst, arith, slice_get}
use Rattle.std.specs.Prelude.{if◌then◌else◌, nat_eq, nat_lt}
use Rattle.std.proofs.Math.Nat.{div-le_self}
use Rattle.std.proofs.lemmas.Bool.{or_parts, true≢false}
use Rattle.std.proofs.lemmas.List.Elements.{All-head, All-tail}
use Rattle.ax_module.specs.declared.inst.Cast.{Cast}
use Rattle.ax_module.specs.declared.inst.Cast.TheVariants.{Zext, Sext, Trunc}
use Rattle.ax_module.specs.declared.inst.Inst.{Inst}
use Rattle.ax_module.specs.declared.inst.Inst.TheVariants as inst
use Rattle.ax_module.specs.declared.module.Block.{Block}
use Rattle.ax_module.specs.declared.operand.Operand.{Operand}
use Rattle.ax_module.specs.declared.operand.Operand.TheVariants as operand
use Rattle.ax_module.specs.declared.types.Ty.{Ty}
use Rattle.ax_module.specs.declared.types.Ty.TheVariants.{I1, I8, I16, I32, I64, I128, Int, Float, Double, Ptr, Vector}
use Rattle.ax_source_run.specs.SourceInstructions.{first_number, insts_of_block, width_of}
use Rattle.ax_source_run.specs.SourcePointers.{is_i8, scaled}
use Rattle.ax_source_run.specs.SourceState.{Object, SourceProgram}
use Rattle.ax_source_run.specs.SourceValues.{index_of, type_bits}
use Rattle.ax_ops.specs.Operation.{signed}
use Rattle.ax_tags.specs.declared.tags.Tag.TheVariants as tag
use Rattle.ax_words.specs.declared.mark.Op.TheVariants as operation
use Rattle.ax_words.specs.declared.operation.RmwOp.{RmwOp}
use Rattle.ax_words.specs.declared.order.Order.{Order}
use Rattle.ax_mid.specs.declared.instruction.MidInst.{MidInst}
use Rattle.ax_mid.specs.declared.instruction.MidInst.TheVariants as mid
use Rattle.ax_mid.specs.declared.registers.Virtual.{Virtual}
use Rattle.ax_mid.specs.WellFormed.{is_access_size, words}
use Rattle.ax_rules.specs.Width.{is_i128, is_left_out, is_odd}
use Rattle.ax_access_rules.specs.Mixed.{converts}
use Rattle.ax_selected.specs.Addresses.{Brought, Fixed, IndexAt, address_of, bytes_of, count_of, index_of_step}
use Rattle.ax_selected.specs.Edges.{coming_in, edge_lines, operand_from, set_phis}
use Rattle.ax_selected.specs.Operands.{constant_of, high_into, is_narrow, low_into}
use Rattle.ax_selected.specs.Pieces.{Straight, convert_lines, extract_lines, select_lines}
use Rattle.ax_selected.specs.Ranges.{IsNear}
use Rattle.ax_selected.specs.Registers.{block_label, first_label, flag_of, high_in, high_of, low_in, low_of, second_label, virtual}
use Rattle.ax_selected.specs.Selected.{acting, atomic_load_lines, atomic_store_lines, branch_lines, chosen_by, compared, exchange_lines, found, gep_lines, guarded, halves, halves_into, load_lines, next_half, silent, store_lines, straight, through, update_lines}
use Rattle.ax_selected.proofs.Aligned.{narrow_128, some_bits}
use Rattle.ax_selected.proofs.Keeping.{fewer}
use Rattle.ax_selected.proofs.Lying.{lt_of}
use Rattle.ax_selected.proofs.Small.{AreLow, AreQuiet, AreSmall, IsSmall, IsSmallStraight, atomics, branches, const, copies, does, extends, high, jumps, labels, loads, low, low_both, quiet_both, selects, silent_small, small_both, stores, straight_small, trap, wrapped_below}
use Rattle.ax_selected.proofs.Sums.{narrow_le}

-- ---- select, conversions and parts of pairs
module _ (k : ℕ) (lt : k < 2048) where
  pub select_small : (c : Operand) (t u : Ty) (v w : Operand) → IsNear c → IsNear v → IsNear w → is_odd t ≡ false → is_odd u ≡ false → IsSmallStraight (select_lines k c t v u w)
  select_small c t u v w nc nv nw ot ou = by (is_narrow t)
    where
      chosen : IsSmall tag.Act (mid.Select (virtual (low_of k)) (virtual 0) (virtual 1) (virtual 2))
      chosen = selects tag.Act refl (low_of k) 0 1 2 (omega (arith, lt)) (omega arith) (omega arith) (omega arith)

      by : (q : Bool) → IsSmallStraight (if q then record { silent = low_into 0 I1 c ∷ low_into 1 t v ∷ low_into 2 u w ∷ []; last = mid.Select (virtual (low_of k)) (virtual 0) (virtual 1) (virtual 2) } else record {
        silent = low_into 0 I1 c ∷ low_into 1 t v ∷ low_into 2 u w ∷ high_into 3 t v ∷ high_into 4 u w ∷ mid.Select (virtual (high_of k)) (virtual 0) (virtual 3) (virtual 4) ∷ [];
        last = mid.Select (virtual (low_of k)) (virtual 0) (virtual 1) (virtual 2);
      })
      by true = record { quiet = (low 0 I1 c (omega arith) nc, (low 1 t v (omega arith) nv, (low 2 u w (omega arith) nw, tt))); last = chosen }
      by false = record {
        quiet = (low 0 I1 c (omega arith) nc, (low 1 t v (omega arith) nv, (low 2 u w (omega arith) nw, (high 3 t v (omega arith) nv ot, (high 4 u w (omega arith) nw ou, (selects tag.Silent refl (high_of k) 0 3 4 (omega (arith, lt)) (omega arith) (omega arith) (omega arith), tt))))));
        last = chosen;
      }

  cut_small : (u : Ty) → is_odd u ≡ false → is_narrow u ≡ true → IsSmall tag.Act (mid.Extend (virtual (low_of k)) (virtual 0) (type_bits u) false)
  cut_small u ou narrow = extends tag.Act refl (low_of k) 0 (type_bits u) false (omega (arith, lt)) (omega arith) (some_bits u ou) (narrow_le u narrow)

  pub convert_small : (cast : Cast) (t u : Ty) (v : Operand) → IsNear v → is_odd t ≡ false → is_odd u ≡ false → converts cast t u ≡ true → is_left_out (inst.Convert cast t v u) ≡ false → IsSmallStraight (convert_lines cast k t v u)
  unfolding is_left_out
  convert_small Zext t u v nv ot ou less h = record { quiet = (low 0 t v (omega arith) nv, (const tag.Silent refl (high_of k) 0 (omega (arith, lt)) (omega arith), tt)); last = copies tag.Act refl (low_of k) 0 (omega (arith, lt)) (omega arith) }
  convert_small Sext t u v nv ot ou less h =
      let parts = or_parts (is_i128 t) (is_i128 u) h in
      record {
        quiet = (low 0 t v (omega arith) nv, (extends tag.Silent refl 0 0 (type_bits t) true (omega arith) (omega arith) (some_bits t ot) (narrow_le t (narrow_128 t ot parts.0)), tt));
        last = cut_small u ou (narrow_128 u ou parts.1);
      }
  convert_small Trunc t u v nv ot ou less h = record { quiet = (low 0 t v (omega arith) nv, tt); last = cut_small u ou (fewer u t ou ot less) }

  pub extract_small : (r part : ℕ) → r < 2048 → IsSmallStraight (extract_lines k r part)
  extract_small r part near = by (nat_eq part 0)
    where
      by : (q : Bool) → IsSmallStraight (if q then extract_lines k r 0 else extract_lines k r 1)
      by true = record {
        quiet = (copies tag.Silent refl 0 (low_of r) (omega arith) (omega (arith, near)), (copies tag.Silent refl 1 (high_of r) (omega arith) (omega (arith, near)), (copies tag.Silent refl (high_of k) 1 (omega (arith, lt)) (omega arith), tt)));
        last = copies tag.Act refl (low_of k) 0 (omega (arith, lt)) (omega arith);
      }
      by false = record { quiet = tt; last = copies tag.Act refl (low_of k) (flag_of r) (omega (arith, lt)) (omega (arith, near)) }

-- ---- edges
-- a phi by its number
unfoldable pub IsNearPhi : ℕ → Inst → Type 0
IsNearPhi k (inst.Phi t entries) = (k < 2048) × (is_odd t ≡ false) × All (λ (e : Operand × ℕ). IsNear e.0) entries
IsNearPhi k _ = Unit {0}

from_near : (b : ℕ) (entries : List (Operand × ℕ)) → All (λ (e : Operand × ℕ). IsNear e.0) entries → IsNear (operand_from b entries)
from_near b [] all = tt
from_near b (e ∷ entries) all = by (nat_eq e.1 b) (from_near b entries (All-tail (λ (e : Operand × ℕ). IsNear e.0) e entries all))
  where
    by : (q : Bool) → IsNear (operand_from b entries) → IsNear (if q then e.0 else operand_from b entries)
    by true rest = All-head (λ (e : Operand × ℕ). IsNear e.0) e entries all
    by false rest = rest

abbrev pub AreNearPhis : ℕ → List Inst → Type 0
AreNearPhis k insts = (j : ℕ) (x : Inst) → slice_get insts j ≡ Some x → IsNearPhi (k + j) x

near_rest : (k : ℕ) (i : Inst) (insts : List Inst) → AreNearPhis k (i ∷ insts) → AreNearPhis (k + 1) insts
near_rest k i insts h j x e = let same : k + suc j ≡ k + 1 + j = omega arith in subst (λ (n : ℕ). IsNearPhi n x) same (h (suc j) x e)

coming_small : (b k : ℕ) (insts : List Inst) → AreNearPhis k insts → AreQuiet (coming_in b k insts)
unfolding coming_in IsNearPhi
coming_small b k [] h = tt
coming_small b k (inst.Phi t entries ∷ insts) h =
    let p = h 0 (inst.Phi t entries) refl in
    let few = p.0 in
    let near = from_near b entries p.2 in
    (low (low_in k) t (operand_from b entries) (omega (arith, few)) near, (high (high_in k) t (operand_from b entries) (omega (arith, few)) near p.1, coming_small b (k + 1) insts (near_rest k (inst.Phi t entries) insts h)))
coming_small b k (_ ∷ insts) h = tt

sets_small : (k : ℕ) (insts : List Inst) → AreNearPhis k insts → AreQuiet (set_phis k insts)
unfolding set_phis IsNearPhi
sets_small k [] h = tt
sets_small k (inst.Phi t entries ∷ insts) h =
    let few = (h 0 (inst.Phi t entries) refl).0 in
    (copies tag.Silent refl (low_of k) (low_in k) (omega (arith, few)) (omega (arith, few)), (copies tag.Silent refl (high_of k) (high_in k) (omega (arith, few)) (omega (arith, few)), sets_small (k + 1) insts (near_rest k (inst.Phi t entries) insts h)))
sets_small k (_ ∷ insts) h = tt

pub edge_small : (f : ℕ) (blocks : List Block) (b d : ℕ) → AreNearPhis (first_number blocks d) (insts_of_block blocks d) → IsSmallStraight (edge_lines f blocks b d)
edge_small f blocks b d h =
    let first = first_number blocks d in
    let insts = insts_of_block blocks d in
    record { quiet = quiet_both (coming_in b first insts) (set_phis first insts) (coming_small b first insts h) (sets_small first insts h); last = jumps tag.Act refl (block_label f first) }

-- ---- indexes
unfoldable pub IsSmallIndex : IndexAt → Type 0
IsSmallIndex (Fixed j) = j < 2 ^ 64
IsSmallIndex (Brought lines) = AreQuiet lines

scaled_small : (t : Ty) (bytes n : ℕ) → n < 2 ^ 64 → scaled t bytes n < 2 ^ 64
scaled_small t bytes n h = by (is_i8 t)
  where
    by : (q : Bool) → (if q then n / bytes else n) < 2 ^ 64
    by true = let e = div-le_self n bytes in omega (arith, e, h)
    by false = h

index_small : (t : Ty) (n : ℕ) → index_of t n < 2 ^ 64
index_small t n = wrapped_below 64 (signed (type_bits t) n)

pub step_small : (program : SourceProgram) (f : ℕ) (o : Object) (t u : Ty) (v : Operand) → IsNear v → is_odd u ≡ false → is_narrow u ≡ true → IsSmallIndex (index_of_step program f o t u v)
unfolding IsSmallIndex
step_small program f o t u (operand.Value q) near ou narrow = (low 1 u (operand.Value q) (omega arith) near, (extends tag.Silent refl 1 1 (type_bits u) true (omega arith) (omega arith) (some_bits u ou) (narrow_le u narrow), tt))
step_small program f o t u (operand.Const n) near ou narrow = scaled_small t _ (index_of u (constant_of u (operand.Const n))) (index_small u (constant_of u (operand.Const n)))
step_small program f o t u (operand.Wide n) near ou narrow = scaled_small t _ (index_of u (constant_of u (operand.Wide n))) (index_small u (constant_of u (operand.Wide n)))
step_small program f o t u (operand.Param q) near ou narrow = scaled_small t _ (index_of u (constant_of u (operand.Param q))) (index_small u (constant_of u (operand.Param q)))

-- ---- ways to elements
-- an object's count and sizes, and the addresses of its elements
pub record IsSmallObject (program : SourceProgram) (f : ℕ) (o : Object) : Type 0 where
  pub count : count_of program f o < 2 ^ 64
  pub bytes : bytes_of program f o < 2 ^ 64
  pub first : IsSmall tag.Silent (address_of program f o 0)
  pub inside : (j : ℕ) → j < count_of program f o → IsSmall tag.Silent (address_of program f o j)

module _ (f k : ℕ) where
  pub gep_small : k < 2048 → (index : IndexAt) → IsSmallIndex index → IsSmallStraight (gep_lines f k index)
  unfolding IsSmallIndex
  gep_small lt (Fixed j) h = record { quiet = tt; last = const tag.Act refl (low_of k) j (omega (arith, lt)) h }
  gep_small lt (Brought lines) h = record { quiet = h; last = copies tag.Act refl (low_of k) 1 (omega (arith, lt)) (omega arith) }

  pub branch_small : (v : Operand) (a b : Straight) → IsNear v → IsSmallStraight a → IsSmallStraight b → AreSmall (branch_lines f k v a b)
  branch_small v a b near ha hb =
      let head = low_into 0 I1 v ∷ mid.Branch (virtual 0) (first_label f k) (second_label f k) ∷ mid.Label (first_label f k) ∷ [] in
      small_both (map (silent f k) head ++ straight f k a) (silent f k (mid.Label (second_label f k)) ∷ straight f k b)
      (small_both (map (silent f k) head) (straight f k a) (silent_small f k head (low 0 I1 v (omega arith) near, (branches 0 (first_label f k) (second_label f k) (omega arith), (labels (first_label f k), tt)))) (straight_small f k a ha))
      (labels (second_label f k), straight_small f k b hb)

  module _ (program : SourceProgram) (o : Object) (small : IsSmallObject program f o) (rest : Straight) (h : IsSmallStraight rest) where
    guarded_small : (lines : List (MidInst Virtual)) → AreQuiet lines → AreSmall (guarded f k program o lines rest)
    guarded_small lines is =
        let end : Straight = record { silent = found f k (address_of program f o 0) (bytes_of program f o) ++ rest.silent; last = rest.last } in
        let behind = straight_small f k end (record { quiet = (const tag.Silent refl 2 (bytes_of program f o) (omega arith) small.bytes, (does tag.Silent refl _ 1 1 2 (omega arith) (omega arith) (omega arith), (small.first, (does tag.Silent refl _ 0 0 1 (omega arith) (omega arith) (omega arith), h.quiet)))); last = h.last }) in
        small_both (map (silent f k) (lines ++ compared f k (count_of program f o))) (silent f k (mid.Branch (virtual 2) (second_label f k) (first_label f k)) ∷ silent f k (mid.Label (first_label f k)) ∷ acting f k mid.Trap ∷ silent f k (mid.Label (second_label f k)) ∷ straight f k end)
        (silent_small f k (lines ++ compared f k (count_of program f o)) (quiet_both lines (compared f k (count_of program f o)) is (const tag.Silent refl 2 (count_of program f o) (omega arith) small.count, (does tag.Silent refl _ 2 1 2 (omega arith) (omega arith) (omega arith), tt))))
        (branches 2 (second_label f k) (first_label f k) (omega arith), (labels (first_label f k), (trap, (labels (second_label f k), behind))))

    pub through_small : (index : IndexAt) → IsSmallIndex index → AreSmall (through f k program o index rest)
    unfolding IsSmallIndex
    through_small (Fixed j) is = by (nat_lt j (count_of program f o)) refl
      where
        by : (q : Bool) → nat_lt j (count_of program f o) ≡ q → AreSmall (chosen_by f k q program o j rest)
        by true e = straight_small f k (record { silent = address_of program f o j ∷ rest.silent; last = rest.last }) (record { quiet = (small.inside j (lt_of j (count_of program f o) e), h.quiet); last = h.last })
        by false e = guarded_small (mid.Const (virtual 1) j ∷ []) (const tag.Silent refl 1 j (omega arith) is, tt)
    through_small (Brought lines) is = guarded_small lines is

-- ---- accesses
next_small : AreQuiet next_half
next_small = (const tag.Silent refl 1 8 (omega arith) (omega arith), (does tag.Silent refl _ 1 0 1 (omega arith) (omega arith) (omega arith), tt))

pub load_small : (k : ℕ) → k < 2048 → (t : Ty) (bytes : ℕ) → (is_narrow t ≡ true → is_access_size bytes ≡ true) → IsSmallStraight (load_lines k t bytes)
load_small k lt t bytes size = by (is_narrow t) size
  where
    by : (q : Bool) → (q ≡ true → is_access_size bytes ≡ true) → IsSmallStraight (if q then load_lines k I8 bytes else load_lines k I128 bytes)
    by true fits = record { quiet = tt; last = loads tag.Act refl (low_of k) 0 bytes (omega (arith, lt)) (omega arith) (fits refl) }
    by false fits = record { quiet = (loads tag.Silent refl (low_of k) 0 8 (omega (arith, lt)) (omega arith) refl, next_small); last = loads tag.Act refl (high_of k) 1 8 (omega (arith, lt)) (omega arith) refl }

pub store_small : (t : Ty) (v : Operand) (bytes : ℕ) → IsNear v → is_odd t ≡ false → (is_narrow t ≡ true → is_access_size bytes ≡ true) → IsSmallStraight (store_lines t v bytes)
store_small t v bytes near odd size = by (is_narrow t) size
  where
    by : (q : Bool) → (q ≡ true → is_access_size bytes ≡ true) → IsSmallStraight (if q then record { silent = low_into 3 t v ∷ []; last = mid.Store (virtual 0) (virtual 3) bytes } else record { silent = low_into 3 t v ∷ high_into 4 t v ∷ mid.Store (virtual 0) (virtual 3) 8 ∷ next_half; last = mid.Store (virtual 1) (virtual 4) 8 })
    by true fits = record { quiet = (low 3 t v (omega arith) near, tt); last = stores tag.Act refl 0 3 bytes (omega arith) (omega arith) (fits refl) }
    by false fits = record { quiet = (low 3 t v (omega arith) near, (high 4 t v (omega arith) near odd, (stores tag.Silent refl 0 3 8 (omega arith) (omega arith) refl, next_small))); last = stores tag.Act refl 1 4 8 (omega arith) (omega arith) refl }

halves_small : (r s : ℕ) (t : Ty) (v : Operand) → r < 8208 → s < 8208 → IsNear v → is_odd t ≡ false → AreQuiet (halves_into r s t v)
halves_small r s t v lr ls near odd = by (is_narrow t)
  where
    by : (q : Bool) → AreQuiet (if q then low_into r t v ∷ [] else low_into r t v ∷ high_into s t v ∷ [])
    by true = (low r t v lr near, tt)
    by false = (low r t v lr near, (high s t v ls near odd, tt))

halves_low : (t : Ty) (r s : ℕ) → r < 8208 → s < 8208 → AreLow (halves t r s)
halves_low t r s lr ls = by (is_narrow t)
  where
    by : (q : Bool) → AreLow (if q then virtual r ∷ [] else virtual r ∷ virtual s ∷ [])
    by true = (lr, tt)
    by false = (lr, (ls, tt))

-- as many registers as an operation of the width takes and gives
module _ (a b c d : ℕ) where
  one_number : (t : Ty) → is_odd t ≡ false → length (halves t a b) ≡ words (width_of t) 1
  one_number (Int bits) o = absurd (true≢false o)
  one_number I1 o = refl
  one_number I8 o = refl
  one_number I16 o = refl
  one_number I32 o = refl
  one_number I64 o = refl
  one_number I128 o = refl
  one_number Float o = refl
  one_number Double o = refl
  one_number Ptr o = refl
  one_number Vector o = refl

  two_numbers : (t : Ty) → is_odd t ≡ false → length (halves t a b ++ halves t c d) ≡ words (width_of t) 2
  two_numbers (Int bits) o = absurd (true≢false o)
  two_numbers I1 o = refl
  two_numbers I8 o = refl
  two_numbers I16 o = refl
  two_numbers I32 o = refl
  two_numbers I64 o = refl
  two_numbers I128 o = refl
  two_numbers Float o = refl
  two_numbers Double o = refl
  two_numbers Ptr o = refl
  two_numbers Vector o = refl

  and_flag : (t : Ty) → is_odd t ≡ false → length (halves t a b ++ virtual c ∷ []) ≡ words (width_of t) 1 + 1
  and_flag (Int bits) o = absurd (true≢false o)
  and_flag I1 o = refl
  and_flag I8 o = refl
  and_flag I16 o = refl
  and_flag I32 o = refl
  and_flag I64 o = refl
  and_flag I128 o = refl
  and_flag Float o = refl
  and_flag Double o = refl
  and_flag Ptr o = refl
  and_flag Vector o = refl

module _ (k : ℕ) (lt : k < 2048) (t : Ty) (odd : is_odd t ≡ false) where
  results_low : AreLow (halves t (low_of k) (high_of k))
  results_low = halves_low t (low_of k) (high_of k) (omega (arith, lt)) (omega (arith, lt))

  pub atomic_load_small : (order : Order) → IsSmallStraight (atomic_load_lines k t order)
  atomic_load_small order = record { quiet = tt; last = atomics operation.Load (width_of t) order false [] (halves t (low_of k) (high_of k)) refl (one_number (low_of k) (high_of k) 0 0 t odd) tt results_low }

  pub atomic_store_small : (v : Operand) → IsNear v → (order : Order) → IsSmallStraight (atomic_store_lines t v order)
  atomic_store_small v near order = record {
    quiet = halves_small 3 4 t v (omega arith) (omega arith) near odd;
    last = atomics operation.Store (width_of t) order false (halves t 3 4) [] (one_number 3 4 0 0 t odd) refl (halves_low t 3 4 (omega arith) (omega arith)) tt;
  }

  pub update_small : (o : RmwOp) (v : Operand) → IsNear v → (order : Order) → IsSmallStraight (update_lines k (operation.Rmw o) t v order)
  update_small o v near order = record {
    quiet = halves_small 3 4 t v (omega arith) (omega arith) near odd;
    last = atomics (operation.Rmw o) (width_of t) order false (halves t 3 4) (halves t (low_of k) (high_of k)) (one_number 3 4 0 0 t odd) (one_number (low_of k) (high_of k) 0 0 t odd) (halves_low t 3 4 (omega arith) (omega arith)) results_low;
  }

  pub exchange_small : (weak : Bool) (v : Operand) (u : Ty) (w : Operand) (order : Order) → u ≡ t → IsNear v → IsNear w → IsSmallStraight (exchange_lines k weak t v u w order)
  exchange_small weak v u w order same nv nw = subst (λ (x : Ty). IsSmallStraight (exchange_lines k weak t v x w order)) (sym same) own
    where
      own : IsSmallStraight (exchange_lines k weak t v t w order)
      own = record {
        quiet = quiet_both (halves_into 3 4 t v) (halves_into 5 6 t w) (halves_small 3 4 t v (omega arith) (omega arith) nv odd) (halves_small 5 6 t w (omega arith) (omega arith) nw odd);
        last = atomics operation.Cmpxchg (width_of t) order weak (halves t 3 4 ++ halves t 5 6) (halves t (low_of k) (high_of k) ++ virtual (flag_of k) ∷ []) (two_numbers 3 4 5 6 t odd) (and_flag (low_of k) (high_of k) (flag_of k) 0 t odd)
            (low_both (halves t 3 4) (halves t 5 6) (halves_low t 3 4 (omega arith) (omega arith)) (halves_low t 5 6 (omega arith) (omega arith)))
            (low_both (halves t (low_of k) (high_of k)) (virtual (flag_of k) ∷ []) results_low (omega (arith, lt), tt));
      }
