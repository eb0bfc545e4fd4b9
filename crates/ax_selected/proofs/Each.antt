-- What holds of each line of each instruction's code.
use Rattle.std.proofs.Common.{◌≡◌, ℕ, ◌+◌, Bool, true, false, List, [], ◌∷◌, ◌++◌, map, Option, Some, None, refl}
use Rattle.std.specs.Prelude.{if◌then◌else◌, nat_eq, nat_lt}
use Rattle.ax_module.specs.declared.inst.BinOp.{BinOp}
use Rattle.ax_module.specs.declared.inst.BinOp.TheVariants as bin
use Rattle.ax_module.specs.declared.inst.Cast.{Cast}
use Rattle.ax_module.specs.declared.inst.Cast.TheVariants.{Zext, Sext, Trunc}
use Rattle.ax_module.specs.declared.inst.Inst.{Inst}
use Rattle.ax_module.specs.declared.inst.Inst.TheVariants as inst
use Rattle.ax_module.specs.declared.module.Block.{Block}
use Rattle.ax_module.specs.declared.operand.Addr.{Addr}
use Rattle.ax_module.specs.declared.operand.Arg.{Arg}
use Rattle.ax_module.specs.declared.operand.Arg.TheVariants as arg
use Rattle.ax_module.specs.declared.operand.Base.{Base}
use Rattle.ax_module.specs.declared.operand.Base.TheVariants as base
use Rattle.ax_module.specs.declared.operand.Operand.{Operand}
use Rattle.ax_module.specs.declared.operand.Operand.TheVariants as operand
use Rattle.ax_module.specs.declared.types.Ty.{Ty}
use Rattle.ax_module.specs.declared.types.Ty.TheVariants.{I1, I8, I128}
use Rattle.ax_source_run.specs.SourceInstructions.{first_number, insts_of_block, is_out}
use Rattle.ax_source_run.specs.SourceState.{Object, Private, Shared, SourceProgram}
use Rattle.ax_mid.specs.declared.code.Line.{Line}
use Rattle.ax_mid.specs.declared.instruction.MidInst.{MidInst}
use Rattle.ax_mid.specs.declared.instruction.MidInst.TheVariants as mid
use Rattle.ax_mid.specs.declared.instruction.MidOp.{MidOp}
use Rattle.ax_mid.specs.declared.instruction.MidShift.{MidShift}
use Rattle.ax_mid.specs.declared.registers.Virtual.{Virtual}
use Rattle.ax_words.specs.Orders.{merged_order}
use Rattle.ax_rules.specs.declared.facts.Outcome.{Outcome}
use Rattle.ax_rules.specs.declared.facts.Outcome.TheVariants as outcome
use Rattle.ax_typed.specs.Typed.{outcome_in}
use Rattle.ax_words.specs.declared.mark.Op.TheVariants as operation
use Rattle.ax_selected.specs.Addresses.{Brought, Fixed, IndexAt, address_of, bytes_of, count_of, index_at, index_of_base, index_of_step, index_of_value, object_of}
use Rattle.ax_selected.specs.Edges.{coming_in, edge_lines, operand_from, set_phis}
use Rattle.ax_selected.specs.Operands.{high_into, is_narrow, low_into}
use Rattle.ax_selected.specs.Pieces.{Comparison, Straight, apply, bin_lines, comparison, convert_lines, extract_lines, icmp_lines, narrow_bin, narrow_icmp, select_lines, wide_bin, wide_icmp}
use Rattle.ax_selected.specs.Registers.{first_label, high_in, high_of, low_in, low_of, second_label, virtual}
use Rattle.ax_selected.specs.Selected.{acting, atomic_load_lines, atomic_store_lines, branch_lines, bytes_at, chosen_by, compared, exchange_lines, fence_lines, found, gep_lines, guarded, halves_into, load_lines, lone, next_half, out_operand, piece, reach, silent, store_lines, straight, through, update_lines}

module _ (Q : MidInst Virtual → Type 0) where
  abbrev pub Each : List (MidInst Virtual) → Type 0
  Each [] = Unit {0}
  Each (i ∷ is) = Q i × Each is

  pub each_both : (is js : List (MidInst Virtual)) → Each is → Each js → Each (is ++ js)
  each_both [] js h g = g
  each_both (i ∷ is) js h g = (h.0, each_both is js h.1 g)

  pub record IsEach (s : Straight) : Type 0 where
    pub silent_lines : Each s.silent
    pub last_line : Q s.last

  -- it holds of each instruction that is no access of an object and no operation on one
  pub record IsPlain : Type 0 where
    pub const : (r : Virtual) (n : ℕ) → Q (mid.Const r n)
    pub copy : (r s : Virtual) → Q (mid.Copy r s)
    pub applies : (o : MidOp) (r s t : Virtual) → Q (mid.Apply o r s t)
    pub shift : (o : MidShift) (r s : Virtual) (by : ℕ) → Q (mid.Shift o r s by)
    pub extend : (r s : Virtual) (bits : ℕ) (signed : Bool) → Q (mid.Extend r s bits signed)
    pub select : (r s t u : Virtual) → Q (mid.Select r s t u)
    pub label : (n : ℕ) → Q (mid.Label n)
    pub jump : (n : ℕ) → Q (mid.Jump n)
    pub branch : (r : Virtual) (n m : ℕ) → Q (mid.Branch r n m)
    pub frame : (r : Virtual) (n : ℕ) → Q (mid.FrameAddress r n)
    pub out : (r : Virtual) → Q (mid.Out r)
    pub trap : Q mid.Trap
    pub ret : Q mid.Ret
    pub nop : Q mid.Nop

  -- ---- lines at a site
  module _ (f k : ℕ) where
    abbrev pub EachLine : List (Line Virtual) → Type 0
    EachLine [] = Unit {0}
    EachLine (line ∷ lines) = ((line.site ≡ record { function = f; instruction = k }) × Q line.inst) × EachLine lines

    pub lines_both : (xs ys : List (Line Virtual)) → EachLine xs → EachLine ys → EachLine (xs ++ ys)
    lines_both [] ys h g = g
    lines_both (x ∷ xs) ys h g = (h.0, lines_both xs ys h.1 g)

    pub silent_each : (is : List (MidInst Virtual)) → Each is → EachLine (map (silent f k) is)
    silent_each [] h = tt
    silent_each (i ∷ is) h = ((refl, h.0), silent_each is h.1)

    pub straight_each : (s : Straight) → IsEach s → EachLine (straight f k s)
    straight_each s h = lines_both (map (silent f k) s.silent) (acting f k s.last ∷ []) (silent_each s.silent h.silent_lines) ((refl, h.last_line), tt)

  -- ---- pieces
  module _ (p : IsPlain) where
    low : (r : ℕ) (t : Ty) (v : Operand) → Q (low_into r t v)
    low r t (operand.Value q) = p.copy (virtual r) (virtual (low_of q))
    low r t (operand.Const n) = p.const (virtual r) _
    low r t (operand.Wide n) = p.const (virtual r) _
    low r t (operand.Param q) = p.const (virtual r) 0

    high : (r : ℕ) (t : Ty) (v : Operand) → Q (high_into r t v)
    high r t (operand.Value q) = p.copy (virtual r) (virtual (high_of q))
    high r t (operand.Const n) = p.const (virtual r) _
    high r t (operand.Wide n) = p.const (virtual r) _
    high r t (operand.Param q) = p.const (virtual r) 0

    does : (o : MidOp) (r s t : ℕ) → Q (apply o r s t)
    does o r s t = p.applies o (virtual r) (virtual s) (virtual t)

    moves : (r s : ℕ) → Q (mid.Copy (virtual r) (virtual s))
    moves r s = p.copy (virtual r) (virtual s)

    module _ (k : ℕ) (t : Ty) (v w : Operand) where
      narrow_each : (o : BinOp) → IsEach (narrow_bin o k t v w)
      narrow_each bin.Add = record { silent_lines = (low 0 t v, (low 1 t w, (does _ 0 0 1, tt))); last_line = p.extend _ _ _ _ }
      narrow_each bin.Sub = record { silent_lines = (low 0 t v, (low 1 t w, (does _ 0 0 1, tt))); last_line = p.extend _ _ _ _ }
      narrow_each bin.Mul = record { silent_lines = (low 0 t v, (low 1 t w, (does _ 0 0 1, tt))); last_line = p.extend _ _ _ _ }
      narrow_each bin.And = record { silent_lines = (low 0 t v, (low 1 t w, (does _ 0 0 1, tt))); last_line = p.extend _ _ _ _ }
      narrow_each bin.Or = record { silent_lines = (low 0 t v, (low 1 t w, (does _ 0 0 1, tt))); last_line = p.extend _ _ _ _ }
      narrow_each bin.Xor = record { silent_lines = (low 0 t v, (low 1 t w, (does _ 0 0 1, tt))); last_line = p.extend _ _ _ _ }
      narrow_each bin.Shl = record { silent_lines = (low 0 t v, (p.shift _ _ _ _, tt)); last_line = p.extend _ _ _ _ }
      narrow_each bin.Lshr = record { silent_lines = (low 0 t v, tt); last_line = p.shift _ _ _ _ }
      narrow_each bin.Ashr = record { silent_lines = (low 0 t v, (p.extend _ _ _ _, (p.shift _ _ _ _, tt))); last_line = p.extend _ _ _ _ }

      wide_each : (o : BinOp) → IsEach (wide_bin o k t v w)
      wide_each bin.Add = record { silent_lines = (low 0 t v, (high 1 t v, (low 2 t w, (high 3 t w, (does _ 4 0 2, (does _ 5 4 0, (does _ 6 1 3, (does _ (high_of k) 6 5, tt)))))))); last_line = moves (low_of k) 4 }
      wide_each bin.Sub = record { silent_lines = (low 0 t v, (high 1 t v, (low 2 t w, (high 3 t w, (does _ 4 0 2, (does _ 5 0 2, (does _ 6 1 3, (does _ (high_of k) 6 5, tt)))))))); last_line = moves (low_of k) 4 }
      wide_each bin.Mul = record { silent_lines = (low 0 t v, (low 1 t w, (does _ 0 0 1, tt))); last_line = p.extend _ _ _ _ }
      wide_each bin.And = record { silent_lines = (low 0 t v, (high 1 t v, (low 2 t w, (high 3 t w, (does _ (high_of k) 1 3, tt))))); last_line = does _ (low_of k) 0 2 }
      wide_each bin.Or = record { silent_lines = (low 0 t v, (high 1 t v, (low 2 t w, (high 3 t w, (does _ (high_of k) 1 3, tt))))); last_line = does _ (low_of k) 0 2 }
      wide_each bin.Xor = record { silent_lines = (low 0 t v, (high 1 t v, (low 2 t w, (high 3 t w, (does _ (high_of k) 1 3, tt))))); last_line = does _ (low_of k) 0 2 }
      wide_each bin.Shl = record { silent_lines = (low 0 t v, (moves (high_of k) 0, tt)); last_line = p.const _ 0 }
      wide_each bin.Lshr = record { silent_lines = (high 0 t v, (p.const _ 0, tt)); last_line = moves (low_of k) 0 }
      wide_each bin.Ashr = record { silent_lines = (high 0 t v, (p.shift _ _ _ _, tt)); last_line = moves (low_of k) 0 }

      bin_each : (o : BinOp) → IsEach (bin_lines o k t v w)
      bin_each o = by (is_narrow t)
        where
          by : (q : Bool) → IsEach (if q then narrow_bin o k t v w else wide_bin o k t v w)
          by true = narrow_each o
          by false = wide_each o

      icmp_each : (c : Comparison) → IsEach (if is_narrow t then narrow_icmp c k t v w else wide_icmp c k t v w)
      icmp_each c = by (is_narrow t)
        where
          last : (q : Bool) → Q (if q then apply c.operation (low_of k) 1 0 else apply c.operation (low_of k) 0 1)
          last true = does c.operation (low_of k) 1 0
          last false = does c.operation (low_of k) 0 1

          by : (q : Bool) → IsEach (if q then narrow_icmp c k t v w else wide_icmp c k t v w)
          by true = record { silent_lines = (low 0 t v, (low 1 t w, (p.extend _ _ _ _, (p.extend _ _ _ _, tt)))); last_line = last c.swapped }
          by false = record { silent_lines = (low 0 t v, (high 1 t v, (low 2 t w, (high 3 t w, (does _ 0 0 2, (does _ 1 1 3, (does _ 0 0 1, (p.const _ 0, tt)))))))); last_line = does c.operation (low_of k) 0 1 }

    select_each : (k : ℕ) (c : Operand) (t u : Ty) (v w : Operand) → IsEach (select_lines k c t v u w)
    select_each k c t u v w = by (is_narrow t)
      where
        by : (q : Bool) → IsEach (if q then record { silent = low_into 0 I1 c ∷ low_into 1 t v ∷ low_into 2 u w ∷ []; last = mid.Select (virtual (low_of k)) (virtual 0) (virtual 1) (virtual 2) } else record {
          silent = low_into 0 I1 c ∷ low_into 1 t v ∷ low_into 2 u w ∷ high_into 3 t v ∷ high_into 4 u w ∷ mid.Select (virtual (high_of k)) (virtual 0) (virtual 3) (virtual 4) ∷ [];
          last = mid.Select (virtual (low_of k)) (virtual 0) (virtual 1) (virtual 2);
        })
        by true = record { silent_lines = (low 0 I1 c, (low 1 t v, (low 2 u w, tt))); last_line = p.select _ _ _ _ }
        by false = record { silent_lines = (low 0 I1 c, (low 1 t v, (low 2 u w, (high 3 t v, (high 4 u w, (p.select _ _ _ _, tt)))))); last_line = p.select _ _ _ _ }

    convert_each : (o : Cast) (k : ℕ) (t u : Ty) (v : Operand) → IsEach (convert_lines o k t v u)
    convert_each Zext k t u v = record { silent_lines = (low 0 t v, (p.const _ 0, tt)); last_line = moves (low_of k) 0 }
    convert_each Sext k t u v = record { silent_lines = (low 0 t v, (p.extend _ _ _ _, tt)); last_line = p.extend _ _ _ _ }
    convert_each Trunc k t u v = record { silent_lines = (low 0 t v, tt); last_line = p.extend _ _ _ _ }

    extract_each : (k r part : ℕ) → IsEach (extract_lines k r part)
    extract_each k r part = by (nat_eq part 0)
      where
        by : (q : Bool) → IsEach (if q then extract_lines k r 0 else extract_lines k r 1)
        by true = record { silent_lines = (p.copy _ _, (p.copy _ _, (p.copy _ _, tt))); last_line = p.copy _ _ }
        by false = record { silent_lines = tt; last_line = p.copy _ _ }

    halves_each : (r s : ℕ) (t : Ty) (v : Operand) → Each (halves_into r s t v)
    halves_each r s t v = by (is_narrow t)
      where
        by : (q : Bool) → Each (if q then low_into r t v ∷ [] else low_into r t v ∷ high_into s t v ∷ [])
        by true = (low r t v, tt)
        by false = (low r t v, (high s t v, tt))

    -- ---- edges
    coming_each : (b k : ℕ) (insts : List Inst) → Each (coming_in b k insts)
    unfolding coming_in
    coming_each b k [] = tt
    coming_each b k (inst.Phi t entries ∷ insts) = (low (low_in k) t (operand_from b entries), (high (high_in k) t (operand_from b entries), coming_each b (k + 1) insts))
    coming_each b k (_ ∷ insts) = tt

    sets_each : (k : ℕ) (insts : List Inst) → Each (set_phis k insts)
    unfolding set_phis
    sets_each k [] = tt
    sets_each k (inst.Phi t entries ∷ insts) = (p.copy _ _, (p.copy _ _, sets_each (k + 1) insts))
    sets_each k (_ ∷ insts) = tt

    edge_each : (f : ℕ) (blocks : List Block) (b d : ℕ) → IsEach (edge_lines f blocks b d)
    edge_each f blocks b d =
        let first = first_number blocks d in
        let insts = insts_of_block blocks d in
        record { silent_lines = each_both (coming_in b first insts) (set_phis first insts) (coming_each b first insts) (sets_each first insts); last_line = p.jump _ }

    -- ---- ways to elements
    unfoldable IndexEach : IndexAt → Type 0
    IndexEach (Fixed j) = Unit {0}
    IndexEach (Brought lines) = Each lines

    step_each : (program : SourceProgram) (f : ℕ) (o : Object) (t u : Ty) (v : Operand) → IndexEach (index_of_step program f o t u v)
    unfolding IndexEach
    step_each program f o t u (operand.Value q) = (low 1 u (operand.Value q), (p.extend _ _ _ _, tt))
    step_each program f o t u (operand.Const n) = tt
    step_each program f o t u (operand.Wide n) = tt
    step_each program f o t u (operand.Param q) = tt

    value_each : (o : Outcome) (r : ℕ) → IndexEach (index_of_value o r)
    unfolding IndexEach
    value_each (outcome.Gep b elem t v) r = (p.copy _ _, tt)
    value_each (outcome.Number t) r = tt
    value_each (outcome.Pair t) r = tt
    value_each (outcome.Alloca e) r = tt
    value_each outcome.Nothing r = tt

    base_each : (program : SourceProgram) (f : ℕ) (b : Base) → IndexEach (index_of_base program f b)
    unfolding IndexEach
    base_each program f (base.Global g) = tt
    base_each program f (base.Value r) = value_each (outcome_in program.source f r) r
    base_each program f (base.Param q) = tt

    index_each : (program : SourceProgram) (f : ℕ) (b : Base) (o : Option (Ty × ℕ × Ty × Operand)) → IndexEach (index_at program f b o)
    index_each program f b None = base_each program f b
    index_each program f b (Some step) = step_each program f (object_of program f b) step.0 step.2 step.3

    address_each : (program : SourceProgram) (f : ℕ) (o : Object) (j : ℕ) → Q (address_of program f o j)
    address_each program f (Shared g) j = p.const _ _
    address_each program f (Private r) j = p.frame _ _

    guarded_each : (f k : ℕ) (program : SourceProgram) (o : Object) (lines : List (MidInst Virtual)) (rest : Straight) → Each lines → IsEach rest → EachLine f k (guarded f k program o lines rest)
    guarded_each f k program o lines rest is h =
        let end : Straight = record { silent = found f k (address_of program f o 0) (bytes_of program f o) ++ rest.silent; last = rest.last } in
        let behind = straight_each f k end (record { silent_lines = (p.const _ _, (does _ 1 1 2, (address_each program f o 0, (does _ 0 0 1, h.silent_lines)))); last_line = h.last_line }) in
        lines_both f k (map (silent f k) (lines ++ compared f k (count_of program f o))) (silent f k (mid.Branch (virtual 2) (second_label f k) (first_label f k)) ∷ silent f k (mid.Label (first_label f k)) ∷ acting f k mid.Trap ∷ silent f k (mid.Label (second_label f k)) ∷ straight f k end)
        (silent_each f k (lines ++ compared f k (count_of program f o)) (each_both lines (compared f k (count_of program f o)) is (p.const _ _, (does _ 2 1 2, tt))))
        ((refl, p.branch _ _ _), ((refl, p.label _), ((refl, p.trap), ((refl, p.label _), behind))))

    through_each : (f k : ℕ) (program : SourceProgram) (o : Object) (index : IndexAt) (rest : Straight) → IndexEach index → IsEach rest → EachLine f k (through f k program o index rest)
    unfolding IndexEach
    through_each f k program o (Fixed j) rest is h = by (nat_lt j (count_of program f o))
      where
        by : (q : Bool) → EachLine f k (chosen_by f k q program o j rest)
        by true = straight_each f k (record { silent = address_of program f o j ∷ rest.silent; last = rest.last }) (record { silent_lines = (address_each program f o j, h.silent_lines); last_line = h.last_line })
        by false = guarded_each f k program o (mid.Const (virtual 1) j ∷ []) rest (p.const _ _, tt) h
    through_each f k program o (Brought lines) rest is h = guarded_each f k program o lines rest is h

    branch_each : (f k : ℕ) (v : Operand) (a b : Straight) → IsEach a → IsEach b → EachLine f k (branch_lines f k v a b)
    branch_each f k v a b ha hb =
        let head = low_into 0 I1 v ∷ mid.Branch (virtual 0) (first_label f k) (second_label f k) ∷ mid.Label (first_label f k) ∷ [] in
        lines_both f k (map (silent f k) head ++ straight f k a) (silent f k (mid.Label (second_label f k)) ∷ straight f k b)
        (lines_both f k (map (silent f k) head) (straight f k a) (silent_each f k head (low 0 I1 v, (p.branch _ _ _, (p.label _, tt)))) (straight_each f k a ha))
        ((refl, p.label _), straight_each f k b hb)

    gep_each : (f k : ℕ) (index : IndexAt) → IndexEach index → IsEach (gep_lines f k index)
    unfolding IndexEach
    gep_each f k (Fixed j) h = record { silent_lines = tt; last_line = p.const _ _ }
    gep_each f k (Brought lines) h = record { silent_lines = h; last_line = p.copy _ _ }

    out_each : (f k : ℕ) (args : List Arg) → IsEach (out_operand f k args)
    out_each f k [] = record { silent_lines = tt; last_line = p.nop }
    out_each f k (arg.Value t v ∷ args) = record { silent_lines = (low 0 t v, tt); last_line = p.out _ }
    out_each f k (arg.Pointer a ∷ args) = record { silent_lines = tt; last_line = p.nop }

    -- a number of 16 bytes is loaded and stored by halves
    pub load_each : (k : ℕ) (t : Ty) (bytes : ℕ) → ((q : Bool) → is_narrow t ≡ q → (r s : Virtual) → Q (mid.Load r s (if q then bytes else 8))) → IsEach (load_lines k t bytes)
    load_each k t bytes loads = by (is_narrow t) refl
      where
        by : (q : Bool) → is_narrow t ≡ q → IsEach (if q then load_lines k I8 bytes else load_lines k I128 bytes)
        by true e = record { silent_lines = tt; last_line = loads true e _ _ }
        by false e = record { silent_lines = (loads false e _ _, (p.const _ _, (does _ 1 0 1, tt))); last_line = loads false e _ _ }

    pub store_each : (t : Ty) (v : Operand) (bytes : ℕ) → ((q : Bool) → is_narrow t ≡ q → (r s : Virtual) → Q (mid.Store r s (if q then bytes else 8))) → IsEach (store_lines t v bytes)
    store_each t v bytes stores = by (is_narrow t) refl
      where
        by : (q : Bool) → is_narrow t ≡ q → IsEach (if q then record { silent = low_into 3 t v ∷ []; last = mid.Store (virtual 0) (virtual 3) bytes } else record { silent = low_into 3 t v ∷ high_into 4 t v ∷ mid.Store (virtual 0) (virtual 3) 8 ∷ next_half; last = mid.Store (virtual 1) (virtual 4) 8 })
        by true e = record { silent_lines = (low 3 t v, tt); last_line = stores true e _ _ }
        by false e = record { silent_lines = (low 3 t v, (high 4 t v, (stores false e _ _, (p.const _ _, (does _ 1 0 1, tt))))); last_line = stores false e _ _ }

    lone_each : (i : MidInst Virtual) → Q i → IsEach (lone i)
    lone_each i h = record { silent_lines = tt; last_line = h }

    -- it holds of the accesses or the operation of an instruction of a function
    abbrev pub HoldsOf : SourceProgram → ℕ → Inst → Type 0
    HoldsOf program f (inst.Load t a align) = (k : ℕ) → IsEach (load_lines k t (bytes_of program f (object_of program f a.base)))
    HoldsOf program f (inst.Store t v a align) = IsEach (store_lines t v (bytes_of program f (object_of program f a.base)))
    HoldsOf program f (inst.LoadAtomic t a order align) = (k : ℕ) → Q (atomic_load_lines k t order).last
    HoldsOf program f (inst.StoreAtomic t v a order align) = Q (atomic_store_lines t v order).last
    HoldsOf program f (inst.Cmpxchg weak a t v u w success failure align) = (k : ℕ) → Q (exchange_lines k weak t v u w (merged_order success failure)).last
    HoldsOf program f (inst.Rmw o a t v order align) = (k : ℕ) → Q (update_lines k (operation.Rmw o) t v order).last
    HoldsOf program f (inst.Fence single order) = (g k : ℕ) → Q (fence_lines g k single order).last
    HoldsOf program f _ = Unit {0}

    module _ (program : SourceProgram) (f k b : ℕ) (blocks : List Block) where
      reaches : (a : Addr) (rest : Straight) → IsEach rest → EachLine f k (reach f k program blocks b a rest)
      reaches a rest h = through_each f k program (object_of program f a.base) (index_at program f a.base a.step) rest (index_each program f a.base a.step) h

      pub piece_each : (i : Inst) → HoldsOf program f i → EachLine f k (piece f k program blocks b i)
      unfolding piece
      piece_each (inst.Bin o t v w) h = straight_each f k (bin_lines o k t v w) (bin_each k t v w o)
      piece_each (inst.Icmp c t v w) h = straight_each f k (icmp_lines c k t v w) (icmp_each k t v w (comparison c))
      piece_each (inst.Select c t v u w) h = straight_each f k (select_lines k c t v u w) (select_each k c t u v w)
      piece_each (inst.Convert o t v u) h = straight_each f k (convert_lines o k t v u) (convert_each o k t u v)
      piece_each (inst.Phi t entries) h = tt
      piece_each (inst.Jump d) h = straight_each f k (edge_lines f blocks b d) (edge_each f blocks b d)
      piece_each (inst.Branch v d e) h = by (nat_eq d e)
        where
          by : (q : Bool) → EachLine f k (if q then straight f k (edge_lines f blocks b d) else branch_lines f k v (edge_lines f blocks b d) (edge_lines f blocks b e))
          by true = straight_each f k (edge_lines f blocks b d) (edge_each f blocks b d)
          by false = branch_each f k v (edge_lines f blocks b d) (edge_lines f blocks b e) (edge_each f blocks b d) (edge_each f blocks b e)
      piece_each inst.RetVoid h = straight_each f k (lone mid.Ret) (lone_each mid.Ret p.ret)
      piece_each (inst.Ret t v) h = straight_each f k (lone mid.Trap) (lone_each mid.Trap p.trap)
      piece_each inst.Unreachable h = straight_each f k (lone mid.Trap) (lone_each mid.Trap p.trap)
      piece_each (inst.Alloca t count align) h = straight_each f k (lone mid.Nop) (lone_each mid.Nop p.nop)
      piece_each (inst.Gep t count a u v) h = straight_each f k (gep_lines f k (index_of_step program f (object_of program f a) t u v)) (gep_each f k (index_of_step program f (object_of program f a) t u v) (step_each program f (object_of program f a) t u v))
      piece_each (inst.Load t a align) h = reaches a (load_lines k t (bytes_at f k program blocks b a)) (h k)
      piece_each (inst.LoadAtomic t a order align) h = reaches a (atomic_load_lines k t order) (record { silent_lines = tt; last_line = h k })
      piece_each (inst.Store t v a align) h = reaches a (store_lines t v (bytes_at f k program blocks b a)) h
      piece_each (inst.StoreAtomic t v a order align) h = reaches a (atomic_store_lines t v order) (record { silent_lines = halves_each 3 4 t v; last_line = h })
      piece_each (inst.Cmpxchg weak a t v u w success failure align) h = reaches a (exchange_lines k weak t v u w (merged_order success failure)) (record { silent_lines = each_both (halves_into 3 4 t v) (halves_into 5 6 u w) (halves_each 3 4 t v) (halves_each 5 6 u w); last_line = h k })
      piece_each (inst.Rmw o a t v order align) h = reaches a (update_lines k (operation.Rmw o) t v order) (record { silent_lines = halves_each 3 4 t v; last_line = h k })
      piece_each (inst.Fence true order) h = straight_each f k (lone mid.Nop) (lone_each mid.Nop p.nop)
      piece_each (inst.Fence false order) h = straight_each f k (fence_lines f k false order) (record { silent_lines = tt; last_line = h f k })
      piece_each (inst.Extract t (operand.Value r) part) h = straight_each f k (extract_lines k r part) (extract_each k r part)
      piece_each (inst.Extract t (operand.Const n) part) h = straight_each f k (lone mid.Nop) (lone_each mid.Nop p.nop)
      piece_each (inst.Extract t (operand.Wide n) part) h = straight_each f k (lone mid.Nop) (lone_each mid.Nop p.nop)
      piece_each (inst.Extract t (operand.Param n) part) h = straight_each f k (lone mid.Nop) (lone_each mid.Nop p.nop)
      piece_each (inst.Call result name args) h = by (is_out name)
        where
          by : (q : Bool) → EachLine f k (if q then straight f k (out_operand f k args) else straight f k (lone mid.Nop))
          by true = straight_each f k (out_operand f k args) (out_each f k args)
          by false = straight_each f k (lone mid.Nop) (lone_each mid.Nop p.nop)
