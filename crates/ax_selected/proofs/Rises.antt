-- The labels of each instruction's code rise.
use Rattle.std.proofs.Common.{◌≡◌, ℕ, ◌+◌, ◌*◌, Bool, true, false, List, [], ◌∷◌, Option, Some, None, refl, arith}
use Rattle.std.specs.Prelude.{if◌then◌else◌, nat_eq}
use Rattle.ax_module.specs.declared.inst.BinOp.{BinOp}
use Rattle.ax_module.specs.declared.inst.BinOp.TheVariants as bin
use Rattle.ax_module.specs.declared.inst.Cast.{Cast}
use Rattle.ax_module.specs.declared.inst.Cast.TheVariants.{Zext, Sext, Trunc}
use Rattle.ax_module.specs.declared.inst.Inst.{Inst}
use Rattle.ax_module.specs.declared.inst.Inst.TheVariants as inst
use Rattle.ax_module.specs.declared.module.Block.{Block}
use Rattle.ax_module.specs.declared.operand.Addr.{Addr}
use Rattle.ax_module.specs.declared.operand.Arg.{Arg}
use Rattle.ax_module.specs.declared.operand.Arg.TheVariants as arg
use Rattle.ax_module.specs.declared.operand.Base.{Base}
use Rattle.ax_module.specs.declared.operand.Base.TheVariants as base
use Rattle.ax_module.specs.declared.operand.Operand.{Operand}
use Rattle.ax_module.specs.declared.operand.Operand.TheVariants as operand
use Rattle.ax_module.specs.declared.types.Ty.{Ty}
use Rattle.ax_module.specs.declared.types.Ty.TheVariants.{I1}
use Rattle.ax_source_run.specs.SourceInstructions.{is_out}
use Rattle.ax_source_run.specs.SourceState.{Object, SourceProgram}
use Rattle.ax_mid.specs.declared.instruction.MidInst.{MidInst}
use Rattle.ax_mid.specs.declared.instruction.MidInst.TheVariants as mid
use Rattle.ax_mid.specs.declared.registers.Virtual.{Virtual}
use Rattle.ax_rules.specs.declared.facts.Outcome.{Outcome}
use Rattle.ax_rules.specs.declared.facts.Outcome.TheVariants as outcome
use Rattle.ax_typed.specs.Typed.{outcome_in}
use Rattle.ax_selected.specs.Addresses.{Brought, Fixed, IndexAt, index_at, index_of_base, index_of_step, index_of_value, object_of}
use Rattle.ax_selected.specs.Edges.{edge_lines}
use Rattle.ax_selected.specs.Laid.{CodeIsLaid}
use Rattle.ax_selected.specs.Operands.{is_narrow, low_into}
use Rattle.ax_selected.specs.Pieces.{Comparison, Straight, apply, bin_lines, convert_lines, extract_lines, icmp_lines, narrow_bin, narrow_icmp, select_lines, wide_bin, wide_icmp}
use Rattle.ax_selected.specs.Selected.{branch_lines, fence_lines, gep_lines, halves_into, load_lines, lone, out_operand, piece, reach, store_lines, straight, through}
use Rattle.ax_selected.proofs.Placing.{is_laid}
use Rattle.ax_selected.proofs.Labels.{EachRises, labels_once, HasNone, IndexNone, IsUnlabelled, Rising, branch_rises, edge_none, high_none, low_none, none_both, rising_straight, through_rises}

module _ (k : ℕ) (t : Ty) (v w : Operand) where
  narrow_bin_none : (o : BinOp) → IsUnlabelled (narrow_bin o k t v w)
  narrow_bin_none bin.Add = record { silent_lines = (low_none 0 t v, (low_none 1 t w, (refl, tt))); last_line = refl }
  narrow_bin_none bin.Sub = record { silent_lines = (low_none 0 t v, (low_none 1 t w, (refl, tt))); last_line = refl }
  narrow_bin_none bin.Mul = record { silent_lines = (low_none 0 t v, (low_none 1 t w, (refl, tt))); last_line = refl }
  narrow_bin_none bin.And = record { silent_lines = (low_none 0 t v, (low_none 1 t w, (refl, tt))); last_line = refl }
  narrow_bin_none bin.Or = record { silent_lines = (low_none 0 t v, (low_none 1 t w, (refl, tt))); last_line = refl }
  narrow_bin_none bin.Xor = record { silent_lines = (low_none 0 t v, (low_none 1 t w, (refl, tt))); last_line = refl }
  narrow_bin_none bin.Shl = record { silent_lines = (low_none 0 t v, (refl, tt)); last_line = refl }
  narrow_bin_none bin.Lshr = record { silent_lines = (low_none 0 t v, tt); last_line = refl }
  narrow_bin_none bin.Ashr = record { silent_lines = (low_none 0 t v, (refl, (refl, tt))); last_line = refl }

  wide_bin_none : (o : BinOp) → IsUnlabelled (wide_bin o k t v w)
  wide_bin_none bin.Add = record { silent_lines = (low_none 0 t v, (high_none 1 t v, (low_none 2 t w, (high_none 3 t w, (refl, (refl, (refl, (refl, tt)))))))); last_line = refl }
  wide_bin_none bin.Sub = record { silent_lines = (low_none 0 t v, (high_none 1 t v, (low_none 2 t w, (high_none 3 t w, (refl, (refl, (refl, (refl, tt)))))))); last_line = refl }
  wide_bin_none bin.Mul = record { silent_lines = (low_none 0 t v, (low_none 1 t w, (refl, tt))); last_line = refl }
  wide_bin_none bin.And = record { silent_lines = (low_none 0 t v, (high_none 1 t v, (low_none 2 t w, (high_none 3 t w, (refl, tt))))); last_line = refl }
  wide_bin_none bin.Or = record { silent_lines = (low_none 0 t v, (high_none 1 t v, (low_none 2 t w, (high_none 3 t w, (refl, tt))))); last_line = refl }
  wide_bin_none bin.Xor = record { silent_lines = (low_none 0 t v, (high_none 1 t v, (low_none 2 t w, (high_none 3 t w, (refl, tt))))); last_line = refl }
  wide_bin_none bin.Shl = record { silent_lines = (low_none 0 t v, (refl, tt)); last_line = refl }
  wide_bin_none bin.Lshr = record { silent_lines = (high_none 0 t v, (refl, tt)); last_line = refl }
  wide_bin_none bin.Ashr = record { silent_lines = (high_none 0 t v, (refl, tt)); last_line = refl }

  bin_none : (o : BinOp) → IsUnlabelled (bin_lines o k t v w)
  bin_none o = by (is_narrow t)
    where
      by : (q : Bool) → IsUnlabelled (if q then narrow_bin o k t v w else wide_bin o k t v w)
      by true = narrow_bin_none o
      by false = wide_bin_none o

  icmp_none : (c : Comparison) → IsUnlabelled (if is_narrow t then narrow_icmp c k t v w else wide_icmp c k t v w)
  icmp_none c = by (is_narrow t)
    where
      last_none : (q : Bool) → Rattle.ax_mid.specs.Machine.label_at Rattle.ax_selected.specs.Registers.key (if q then apply c.operation (Rattle.ax_selected.specs.Registers.low_of k) 1 0 else apply c.operation (Rattle.ax_selected.specs.Registers.low_of k) 0 1) ≡ None
      last_none true = refl
      last_none false = refl

      by : (q : Bool) → IsUnlabelled (if q then narrow_icmp c k t v w else wide_icmp c k t v w)
      by true = record { silent_lines = (low_none 0 t v, (low_none 1 t w, (refl, (refl, tt)))); last_line = last_none c.swapped }
      by false = record { silent_lines = (low_none 0 t v, (high_none 1 t v, (low_none 2 t w, (high_none 3 t w, (refl, (refl, (refl, (refl, tt)))))))); last_line = refl }

select_none : (k : ℕ) (c : Operand) (t u : Ty) (v w : Operand) → IsUnlabelled (select_lines k c t v u w)
select_none k c t u v w = by (is_narrow t)
  where
    by : (q : Bool) → IsUnlabelled (if q then record { silent = low_into 0 I1 c ∷ low_into 1 t v ∷ low_into 2 u w ∷ []; last = mid.Select (Rattle.ax_selected.specs.Registers.virtual (Rattle.ax_selected.specs.Registers.low_of k)) (Rattle.ax_selected.specs.Registers.virtual 0) (Rattle.ax_selected.specs.Registers.virtual 1) (Rattle.ax_selected.specs.Registers.virtual 2) } else record {
      silent = low_into 0 I1 c ∷ low_into 1 t v ∷ low_into 2 u w ∷ Rattle.ax_selected.specs.Operands.high_into 3 t v ∷ Rattle.ax_selected.specs.Operands.high_into 4 u w ∷ mid.Select (Rattle.ax_selected.specs.Registers.virtual (Rattle.ax_selected.specs.Registers.high_of k)) (Rattle.ax_selected.specs.Registers.virtual 0) (Rattle.ax_selected.specs.Registers.virtual 3) (Rattle.ax_selected.specs.Registers.virtual 4) ∷ [];
      last = mid.Select (Rattle.ax_selected.specs.Registers.virtual (Rattle.ax_selected.specs.Registers.low_of k)) (Rattle.ax_selected.specs.Registers.virtual 0) (Rattle.ax_selected.specs.Registers.virtual 1) (Rattle.ax_selected.specs.Registers.virtual 2);
    })
    by true = record { silent_lines = (low_none 0 I1 c, (low_none 1 t v, (low_none 2 u w, tt))); last_line = refl }
    by false = record { silent_lines = (low_none 0 I1 c, (low_none 1 t v, (low_none 2 u w, (high_none 3 t v, (high_none 4 u w, (refl, tt)))))); last_line = refl }

convert_none : (o : Cast) (k : ℕ) (t u : Ty) (v : Operand) → IsUnlabelled (convert_lines o k t v u)
convert_none Zext k t u v = record { silent_lines = (low_none 0 t v, (refl, tt)); last_line = refl }
convert_none Sext k t u v = record { silent_lines = (low_none 0 t v, (refl, tt)); last_line = refl }
convert_none Trunc k t u v = record { silent_lines = (low_none 0 t v, tt); last_line = refl }

extract_none : (k r part : ℕ) → IsUnlabelled (extract_lines k r part)
extract_none k r part = by (nat_eq part 0)
  where
    open_lines : Straight
    open_lines = extract_lines k r 0

    by : (q : Bool) → IsUnlabelled (if q then extract_lines k r 0 else extract_lines k r 1)
    by true = record { silent_lines = (refl, (refl, (refl, tt))); last_line = refl }
    by false = record { silent_lines = tt; last_line = refl }

halves_none : (low high : ℕ) (t : Ty) (v : Operand) → HasNone (halves_into low high t v)
halves_none low high t v = by (is_narrow t)
  where
    by : (q : Bool) → HasNone (if q then low_into low t v ∷ [] else low_into low t v ∷ Rattle.ax_selected.specs.Operands.high_into high t v ∷ [])
    by true = (low_none low t v, tt)
    by false = (low_none low t v, (high_none high t v, tt))

step_none : (program : SourceProgram) (f : ℕ) (o : Object) (t u : Ty) (v : Operand) → IndexNone (index_of_step program f o t u v)
unfolding IndexNone
step_none program f o t u (operand.Value q) = (refl, (refl, tt))
step_none program f o t u (operand.Const n) = tt
step_none program f o t u (operand.Wide n) = tt
step_none program f o t u (operand.Param q) = tt

value_none : (o : Outcome) (r : ℕ) → IndexNone (index_of_value o r)
unfolding IndexNone
value_none (outcome.Gep b elem t v) r = (refl, tt)
value_none (outcome.Number t) r = tt
value_none (outcome.Pair t) r = tt
value_none (outcome.Alloca e) r = tt
value_none outcome.Nothing r = tt

base_none : (program : SourceProgram) (f : ℕ) (b : Base) → IndexNone (index_of_base program f b)
unfolding IndexNone
base_none program f (base.Global g) = tt
base_none program f (base.Value r) = value_none (outcome_in program.source f r) r
base_none program f (base.Param q) = tt

index_none : (program : SourceProgram) (f : ℕ) (b : Base) (o : Option (Ty × ℕ × Ty × Operand)) → IndexNone (index_at program f b o)
index_none program f b None = base_none program f b
index_none program f b (Some step) = step_none program f (object_of program f b) step.0 step.2 step.3

gep_none : (f k : ℕ) (index : IndexAt) → IndexNone index → IsUnlabelled (gep_lines f k index)
unfolding IndexNone
gep_none f k (Fixed j) h = record { silent_lines = tt; last_line = refl }
gep_none f k (Brought lines) h = record { silent_lines = h; last_line = refl }

out_none : (f k : ℕ) (args : List Arg) → IsUnlabelled (out_operand f k args)
out_none f k [] = record { silent_lines = tt; last_line = refl }
out_none f k (arg.Value t v ∷ args) = record { silent_lines = (low_none 0 t v, tt); last_line = refl }
out_none f k (arg.Pointer a ∷ args) = record { silent_lines = tt; last_line = refl }

load_none : (k : ℕ) (t : Ty) (bytes : ℕ) → IsUnlabelled (load_lines k t bytes)
load_none k t bytes = by (is_narrow t)
  where
    by : (q : Bool) → IsUnlabelled (if q then load_lines k Rattle.ax_module.specs.declared.types.Ty.TheVariants.I8 bytes else load_lines k Rattle.ax_module.specs.declared.types.Ty.TheVariants.I128 bytes)
    by true = record { silent_lines = tt; last_line = refl }
    by false = record { silent_lines = (refl, (refl, (refl, tt))); last_line = refl }

store_none : (t : Ty) (v : Operand) (bytes : ℕ) → IsUnlabelled (store_lines t v bytes)
store_none t v bytes = by (is_narrow t)
  where
    by : (q : Bool) → IsUnlabelled (if q then record { silent = low_into 3 t v ∷ []; last = mid.Store (Rattle.ax_selected.specs.Registers.virtual 0) (Rattle.ax_selected.specs.Registers.virtual 3) bytes } else record { silent = low_into 3 t v ∷ Rattle.ax_selected.specs.Operands.high_into 4 t v ∷ mid.Store (Rattle.ax_selected.specs.Registers.virtual 0) (Rattle.ax_selected.specs.Registers.virtual 3) 8 ∷ Rattle.ax_selected.specs.Selected.next_half; last = mid.Store (Rattle.ax_selected.specs.Registers.virtual 1) (Rattle.ax_selected.specs.Registers.virtual 4) 8 })
    by true = record { silent_lines = (low_none 3 t v, tt); last_line = refl }
    by false = record { silent_lines = (low_none 3 t v, (high_none 4 t v, (refl, (refl, (refl, tt))))); last_line = refl }

lone_none : (i : MidInst Virtual) → Rattle.ax_mid.specs.Machine.label_at Rattle.ax_selected.specs.Registers.key i ≡ None → IsUnlabelled (lone i)
lone_none i e = record { silent_lines = tt; last_line = e }

module _ (program : SourceProgram) (f k b : ℕ) (blocks : List Block) where
  rises : (st : Straight) → IsUnlabelled st → Rising (straight f k st) (8192 * f + 4 * k + 1) (8192 * f + 4 * k + 4)
  rises st h = rising_straight f k st (8192 * f + 4 * k + 1) (8192 * f + 4 * k + 4) h (omega arith)

  reaches_rise : (a : Addr) (rest : Straight) → IsUnlabelled rest → Rising (reach f k program blocks b a rest) (8192 * f + 4 * k + 1) (8192 * f + 4 * k + 4)
  reaches_rise a rest h = through_rises f k program (object_of program f a.base) (index_at program f a.base a.step) rest (8192 * f + 4 * k + 1) (8192 * f + 4 * k + 4) (omega arith) (omega arith) (index_none program f a.base a.step) h

  piece_rises : (i : Inst) → Rising (piece f k program blocks b i) (8192 * f + 4 * k + 1) (8192 * f + 4 * k + 4)
  unfolding piece
  piece_rises (inst.Bin o t v w) = rises (bin_lines o k t v w) (bin_none k t v w o)
  piece_rises (inst.Icmp c t v w) = rises (icmp_lines c k t v w) (icmp_none k t v w (Rattle.ax_selected.specs.Pieces.comparison c))
  piece_rises (inst.Select c t v u w) = rises (select_lines k c t v u w) (select_none k c t u v w)
  piece_rises (inst.Convert o t v u) = rises (convert_lines o k t v u) (convert_none o k t u v)
  piece_rises (inst.Phi t entries) = omega arith
  piece_rises (inst.Jump d) = rises (edge_lines f blocks b d) (edge_none f blocks b d)
  piece_rises (inst.Branch v d e) = by (nat_eq d e)
    where
      by : (q : Bool) → Rising (if q then straight f k (edge_lines f blocks b d) else branch_lines f k v (edge_lines f blocks b d) (edge_lines f blocks b e)) (8192 * f + 4 * k + 1) (8192 * f + 4 * k + 4)
      by true = rises (edge_lines f blocks b d) (edge_none f blocks b d)
      by false = branch_rises f k v (edge_lines f blocks b d) (edge_lines f blocks b e) (8192 * f + 4 * k + 1) (8192 * f + 4 * k + 4) (omega arith) (omega arith) (edge_none f blocks b d) (edge_none f blocks b e)
  piece_rises inst.RetVoid = rises (lone mid.Ret) (lone_none mid.Ret refl)
  piece_rises (inst.Ret t v) = rises (lone mid.Trap) (lone_none mid.Trap refl)
  piece_rises inst.Unreachable = rises (lone mid.Trap) (lone_none mid.Trap refl)
  piece_rises (inst.Alloca t count align) = rises (lone mid.Nop) (lone_none mid.Nop refl)
  piece_rises (inst.Gep t count a u v) = rises (gep_lines f k (index_of_step program f (object_of program f a) t u v)) (gep_none f k (index_of_step program f (object_of program f a) t u v) (step_none program f (object_of program f a) t u v))
  piece_rises (inst.Load t a align) = reaches_rise a (load_lines k t (Rattle.ax_selected.specs.Selected.bytes_at f k program blocks b a)) (load_none k t (Rattle.ax_selected.specs.Selected.bytes_at f k program blocks b a))
  piece_rises (inst.LoadAtomic t a order align) = reaches_rise a (Rattle.ax_selected.specs.Selected.atomic_load_lines k t order) (record { silent_lines = tt; last_line = refl })
  piece_rises (inst.Store t v a align) = reaches_rise a (store_lines t v (Rattle.ax_selected.specs.Selected.bytes_at f k program blocks b a)) (store_none t v (Rattle.ax_selected.specs.Selected.bytes_at f k program blocks b a))
  piece_rises (inst.StoreAtomic t v a order align) = reaches_rise a (Rattle.ax_selected.specs.Selected.atomic_store_lines t v order) (record { silent_lines = halves_none 3 4 t v; last_line = refl })
  piece_rises (inst.Cmpxchg weak a t v u w success failure align) = reaches_rise a (Rattle.ax_selected.specs.Selected.exchange_lines k weak t v u w (Rattle.ax_words.specs.Orders.merged_order success failure)) (record { silent_lines = none_both (halves_into 3 4 t v) (halves_into 5 6 u w) (halves_none 3 4 t v) (halves_none 5 6 u w); last_line = refl })
  piece_rises (inst.Rmw o a t v order align) = reaches_rise a (Rattle.ax_selected.specs.Selected.update_lines k (Rattle.ax_words.specs.declared.mark.Op.TheVariants.Rmw o) t v order) (record { silent_lines = halves_none 3 4 t v; last_line = refl })
  piece_rises (inst.Fence true order) = rises (lone mid.Nop) (lone_none mid.Nop refl)
  piece_rises (inst.Fence false order) = rises (fence_lines f k false order) (record { silent_lines = tt; last_line = refl })
  piece_rises (inst.Extract t (operand.Value r) part) = rises (extract_lines k r part) (extract_none k r part)
  piece_rises (inst.Extract t (operand.Const n) part) = rises (lone mid.Nop) (lone_none mid.Nop refl)
  piece_rises (inst.Extract t (operand.Wide n) part) = rises (lone mid.Nop) (lone_none mid.Nop refl)
  piece_rises (inst.Extract t (operand.Param n) part) = rises (lone mid.Nop) (lone_none mid.Nop refl)
  piece_rises (inst.Call result name args) = by (is_out name)
    where
      by : (q : Bool) → Rising (if q then straight f k (out_operand f k args) else straight f k (lone mid.Nop)) (8192 * f + 4 * k + 1) (8192 * f + 4 * k + 4)
      by true = rises (out_operand f k args) (out_none f k args)
      by false = rises (lone mid.Nop) (lone_none mid.Nop refl)

pub each_rises : (program : SourceProgram) → EachRises program
unfolding EachRises
each_rises program f k b blocks i = piece_rises program f k b blocks i

pub code_is_laid : CodeIsLaid
code_is_laid program few = is_laid program (labels_once program (each_rises program) few)
