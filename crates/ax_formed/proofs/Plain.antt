-- Lines that name no label, of which a source instruction has few, and whose weight is small.
use Rattle.std.proofs.Common.{◌≡◌, ℕ, ◌+◌, ◌*◌, ◌≤◌, Bool, true, false, List, [], ◌∷◌, ◌++◌, length, Option, Some, None, refl, arith, length-append}
use Rattle.std.specs.Prelude.{if◌then◌else◌, nat_eq}
use Rattle.ax_module.specs.declared.inst.BinOp.{BinOp}
use Rattle.ax_module.specs.declared.inst.BinOp.TheVariants as bin
use Rattle.ax_module.specs.declared.inst.Cast.{Cast}
use Rattle.ax_module.specs.declared.inst.Cast.TheVariants.{Zext, Sext, Trunc}
use Rattle.ax_module.specs.declared.inst.Inst.{Inst}
use Rattle.ax_module.specs.declared.inst.Inst.TheVariants as inst
use Rattle.ax_module.specs.declared.operand.Arg.{Arg}
use Rattle.ax_module.specs.declared.operand.Arg.TheVariants as arg
use Rattle.ax_module.specs.declared.operand.Base.{Base}
use Rattle.ax_module.specs.declared.operand.Base.TheVariants as base
use Rattle.ax_module.specs.declared.operand.Operand.{Operand}
use Rattle.ax_module.specs.declared.operand.Operand.TheVariants as operand
use Rattle.ax_module.specs.declared.types.Ty.{Ty}
use Rattle.ax_module.specs.declared.types.Ty.TheVariants.{I1, I8, I128}
use Rattle.ax_source_run.specs.SourceInstructions.{is_phi, phi_count}
use Rattle.ax_source_run.specs.SourceState.{Object, Private, Shared, SourceProgram}
use Rattle.ax_words.specs.declared.mark.Op.{Op}
use Rattle.ax_words.specs.declared.order.Order.{Order}
use Rattle.ax_mid.specs.declared.instruction.MidInst.{MidInst}
use Rattle.ax_mid.specs.declared.instruction.MidInst.TheVariants as mid
use Rattle.ax_mid.specs.declared.registers.Virtual.{Virtual}
use Rattle.ax_mid.specs.WellFormed.{weight}
use Rattle.ax_rules.specs.declared.facts.Outcome.{Outcome}
use Rattle.ax_rules.specs.declared.facts.Outcome.TheVariants as outcome
use Rattle.ax_typed.specs.Typed.{outcome_in}
use Rattle.ax_selected.specs.Addresses.{Brought, Fixed, IndexAt, address_of, index_at, index_of_base, index_of_step, index_of_value, object_of}
use Rattle.ax_selected.specs.Edges.{coming_in, operand_from, set_phis}
use Rattle.ax_selected.specs.Operands.{high_into, is_narrow, low_into}
use Rattle.ax_selected.specs.Pieces.{Comparison, Straight, apply, bin_lines, convert_lines, extract_lines, narrow_bin, narrow_icmp, select_lines, wide_bin, wide_icmp}
use Rattle.ax_selected.specs.Registers.{high_in, high_of, low_in, low_of, virtual}
use Rattle.ax_selected.specs.Selected.{atomic_load_lines, atomic_store_lines, exchange_lines, fence_lines, gep_lines, halves_into, load_lines, lone, next_half, out_operand, store_lines, update_lines}

-- an instruction that names no label to go to, with little code
abbrev pub IsPlain : MidInst Virtual → Type 0
IsPlain (mid.Jump n) = ⊥
IsPlain (mid.Branch test a b) = ⊥
IsPlain (mid.Atomic o width order weak address args results) = ⊥
IsPlain (mid.Call routine role args results) = ⊥
IsPlain _ = Unit {0}

-- one that names no label and can have the event of a source instruction
abbrev pub IsLast : MidInst Virtual → Type 0
IsLast (mid.Jump n) = ⊥
IsLast (mid.Branch test a b) = ⊥
IsLast (mid.Label n) = ⊥
IsLast (mid.Call routine role args results) = ⊥
IsLast _ = Unit {0}

pub plain_weight : (i : MidInst Virtual) → IsPlain i → weight i ≡ 1
unfolding weight
plain_weight (mid.Jump n) h = absurd h
plain_weight (mid.Branch test a b) h = absurd h
plain_weight (mid.Atomic o width order weak address args results) h = absurd h
plain_weight (mid.Call routine role args results) h = absurd h
plain_weight _ h = refl

pub last_weight : (i : MidInst Virtual) → IsLast i → weight i ≤ 8
unfolding weight
last_weight (mid.Call routine role args results) h = absurd h
last_weight _ h = omega arith

abbrev pub ArePlain : List (MidInst Virtual) → Type 0
ArePlain [] = Unit {0}
ArePlain (i ∷ is) = IsPlain i × ArePlain is

pub plain_both : (is js : List (MidInst Virtual)) → ArePlain is → ArePlain js → ArePlain (is ++ js)
plain_both [] js h g = g
plain_both (i ∷ is) js h g = (h.0, plain_both is js h.1 g)

pub record IsPlainStraight (s : Straight) : Type 0 where
  pub few : length s.silent ≤ 12
  pub silent_lines : ArePlain s.silent
  pub last_line : IsLast s.last

-- ---- operands
low_plain : (r : ℕ) (t : Ty) (v : Operand) → IsPlain (low_into r t v)
low_plain r t (operand.Value q) = tt
low_plain r t (operand.Const n) = tt
low_plain r t (operand.Wide n) = tt
low_plain r t (operand.Param q) = tt

high_plain : (r : ℕ) (t : Ty) (v : Operand) → IsPlain (high_into r t v)
high_plain r t (operand.Value q) = tt
high_plain r t (operand.Const n) = tt
high_plain r t (operand.Wide n) = tt
high_plain r t (operand.Param q) = tt

pub first_plain : (t : Ty) (v : Operand) → IsPlain (low_into 0 t v)
first_plain t v = low_plain 0 t v

-- ---- what computes
module _ (k : ℕ) (t : Ty) (v w : Operand) where
  narrow_bin_plain : (o : BinOp) → IsPlainStraight (narrow_bin o k t v w)
  narrow_bin_plain bin.Add = record { few = omega arith; silent_lines = (low_plain 0 t v, (low_plain 1 t w, (tt, tt))); last_line = tt }
  narrow_bin_plain bin.Sub = record { few = omega arith; silent_lines = (low_plain 0 t v, (low_plain 1 t w, (tt, tt))); last_line = tt }
  narrow_bin_plain bin.Mul = record { few = omega arith; silent_lines = (low_plain 0 t v, (low_plain 1 t w, (tt, tt))); last_line = tt }
  narrow_bin_plain bin.And = record { few = omega arith; silent_lines = (low_plain 0 t v, (low_plain 1 t w, (tt, tt))); last_line = tt }
  narrow_bin_plain bin.Or = record { few = omega arith; silent_lines = (low_plain 0 t v, (low_plain 1 t w, (tt, tt))); last_line = tt }
  narrow_bin_plain bin.Xor = record { few = omega arith; silent_lines = (low_plain 0 t v, (low_plain 1 t w, (tt, tt))); last_line = tt }
  narrow_bin_plain bin.Shl = record { few = omega arith; silent_lines = (low_plain 0 t v, (tt, tt)); last_line = tt }
  narrow_bin_plain bin.Lshr = record { few = omega arith; silent_lines = (low_plain 0 t v, tt); last_line = tt }
  narrow_bin_plain bin.Ashr = record { few = omega arith; silent_lines = (low_plain 0 t v, (tt, (tt, tt))); last_line = tt }

  wide_bin_plain : (o : BinOp) → IsPlainStraight (wide_bin o k t v w)
  wide_bin_plain bin.Add = record { few = omega arith; silent_lines = (low_plain 0 t v, (high_plain 1 t v, (low_plain 2 t w, (high_plain 3 t w, (tt, (tt, (tt, (tt, tt)))))))); last_line = tt }
  wide_bin_plain bin.Sub = record { few = omega arith; silent_lines = (low_plain 0 t v, (high_plain 1 t v, (low_plain 2 t w, (high_plain 3 t w, (tt, (tt, (tt, (tt, tt)))))))); last_line = tt }
  wide_bin_plain bin.Mul = record { few = omega arith; silent_lines = (low_plain 0 t v, (low_plain 1 t w, (tt, tt))); last_line = tt }
  wide_bin_plain bin.And = record { few = omega arith; silent_lines = (low_plain 0 t v, (high_plain 1 t v, (low_plain 2 t w, (high_plain 3 t w, (tt, tt))))); last_line = tt }
  wide_bin_plain bin.Or = record { few = omega arith; silent_lines = (low_plain 0 t v, (high_plain 1 t v, (low_plain 2 t w, (high_plain 3 t w, (tt, tt))))); last_line = tt }
  wide_bin_plain bin.Xor = record { few = omega arith; silent_lines = (low_plain 0 t v, (high_plain 1 t v, (low_plain 2 t w, (high_plain 3 t w, (tt, tt))))); last_line = tt }
  wide_bin_plain bin.Shl = record { few = omega arith; silent_lines = (low_plain 0 t v, (tt, tt)); last_line = tt }
  wide_bin_plain bin.Lshr = record { few = omega arith; silent_lines = (high_plain 0 t v, (tt, tt)); last_line = tt }
  wide_bin_plain bin.Ashr = record { few = omega arith; silent_lines = (high_plain 0 t v, (tt, tt)); last_line = tt }

  pub bin_plain : (o : BinOp) → IsPlainStraight (bin_lines o k t v w)
  bin_plain o = by (is_narrow t)
    where
      by : (q : Bool) → IsPlainStraight (if q then narrow_bin o k t v w else wide_bin o k t v w)
      by true = narrow_bin_plain o
      by false = wide_bin_plain o

  pub icmp_plain : (c : Comparison) → IsPlainStraight (if is_narrow t then narrow_icmp c k t v w else wide_icmp c k t v w)
  icmp_plain c = by (is_narrow t)
    where
      last_plain : (q : Bool) → IsLast (if q then apply c.operation (low_of k) 1 0 else apply c.operation (low_of k) 0 1)
      last_plain true = tt
      last_plain false = tt

      by : (q : Bool) → IsPlainStraight (if q then narrow_icmp c k t v w else wide_icmp c k t v w)
      by true = record { few = omega arith; silent_lines = (low_plain 0 t v, (low_plain 1 t w, (tt, (tt, tt)))); last_line = last_plain c.swapped }
      by false = record { few = omega arith; silent_lines = (low_plain 0 t v, (high_plain 1 t v, (low_plain 2 t w, (high_plain 3 t w, (tt, (tt, (tt, (tt, tt)))))))); last_line = tt }

pub select_plain : (k : ℕ) (c : Operand) (t u : Ty) (v w : Operand) → IsPlainStraight (select_lines k c t v u w)
select_plain k c t u v w = by (is_narrow t)
  where
    by : (q : Bool) → IsPlainStraight (if q then record { silent = low_into 0 I1 c ∷ low_into 1 t v ∷ low_into 2 u w ∷ []; last = mid.Select (virtual (low_of k)) (virtual 0) (virtual 1) (virtual 2) } else record {
      silent = low_into 0 I1 c ∷ low_into 1 t v ∷ low_into 2 u w ∷ high_into 3 t v ∷ high_into 4 u w ∷ mid.Select (virtual (high_of k)) (virtual 0) (virtual 3) (virtual 4) ∷ [];
      last = mid.Select (virtual (low_of k)) (virtual 0) (virtual 1) (virtual 2);
    })
    by true = record { few = omega arith; silent_lines = (low_plain 0 I1 c, (low_plain 1 t v, (low_plain 2 u w, tt))); last_line = tt }
    by false = record { few = omega arith; silent_lines = (low_plain 0 I1 c, (low_plain 1 t v, (low_plain 2 u w, (high_plain 3 t v, (high_plain 4 u w, (tt, tt)))))); last_line = tt }

pub convert_plain : (o : Cast) (k : ℕ) (t u : Ty) (v : Operand) → IsPlainStraight (convert_lines o k t v u)
convert_plain Zext k t u v = record { few = omega arith; silent_lines = (low_plain 0 t v, (tt, tt)); last_line = tt }
convert_plain Sext k t u v = record { few = omega arith; silent_lines = (low_plain 0 t v, (tt, tt)); last_line = tt }
convert_plain Trunc k t u v = record { few = omega arith; silent_lines = (low_plain 0 t v, tt); last_line = tt }

pub extract_plain : (k r part : ℕ) → IsPlainStraight (extract_lines k r part)
extract_plain k r part = by (nat_eq part 0)
  where
    by : (q : Bool) → IsPlainStraight (if q then extract_lines k r 0 else extract_lines k r 1)
    by true = record { few = omega arith; silent_lines = (tt, (tt, (tt, tt))); last_line = tt }
    by false = record { few = omega arith; silent_lines = tt; last_line = tt }

pub lone_plain : (i : MidInst Virtual) → IsLast i → IsPlainStraight (lone i)
lone_plain i h = record { few = omega arith; silent_lines = tt; last_line = h }

pub out_plain : (f k : ℕ) (args : List Arg) → IsPlainStraight (out_operand f k args)
out_plain f k [] = lone_plain mid.Nop tt
out_plain f k (arg.Value t v ∷ args) = record { few = omega arith; silent_lines = (low_plain 0 t v, tt); last_line = tt }
out_plain f k (arg.Pointer a ∷ args) = lone_plain mid.Nop tt

-- ---- accesses
pub load_plain : (k : ℕ) (t : Ty) (bytes : ℕ) → IsPlainStraight (load_lines k t bytes)
load_plain k t bytes = by (is_narrow t)
  where
    by : (q : Bool) → IsPlainStraight (if q then load_lines k I8 bytes else load_lines k I128 bytes)
    by true = record { few = omega arith; silent_lines = tt; last_line = tt }
    by false = record { few = omega arith; silent_lines = (tt, (tt, (tt, tt))); last_line = tt }

pub store_plain : (t : Ty) (v : Operand) (bytes : ℕ) → IsPlainStraight (store_lines t v bytes)
store_plain t v bytes = by (is_narrow t)
  where
    by : (q : Bool) → IsPlainStraight (if q then record { silent = low_into 3 t v ∷ []; last = mid.Store (virtual 0) (virtual 3) bytes } else record { silent = low_into 3 t v ∷ high_into 4 t v ∷ mid.Store (virtual 0) (virtual 3) 8 ∷ next_half; last = mid.Store (virtual 1) (virtual 4) 8 })
    by true = record { few = omega arith; silent_lines = (low_plain 3 t v, tt); last_line = tt }
    by false = record { few = omega arith; silent_lines = (low_plain 3 t v, (high_plain 4 t v, (tt, (tt, (tt, tt))))); last_line = tt }

halves_plain : (low high : ℕ) (t : Ty) (v : Operand) → ArePlain (halves_into low high t v)
halves_plain low high t v = by (is_narrow t)
  where
    by : (q : Bool) → ArePlain (if q then low_into low t v ∷ [] else low_into low t v ∷ high_into high t v ∷ [])
    by true = (low_plain low t v, tt)
    by false = (low_plain low t v, (high_plain high t v, tt))

halves_two : (low high : ℕ) (t : Ty) (v : Operand) → length (halves_into low high t v) ≤ 2
halves_two low high t v = by (is_narrow t)
  where
    by : (q : Bool) → length (if q then low_into low t v ∷ [] else low_into low t v ∷ high_into high t v ∷ []) ≤ 2
    by true = omega arith
    by false = omega arith

pub atomic_load_plain : (k : ℕ) (t : Ty) (order : Order) → IsPlainStraight (atomic_load_lines k t order)
atomic_load_plain k t order = record { few = omega arith; silent_lines = tt; last_line = tt }

pub atomic_store_plain : (t : Ty) (v : Operand) (order : Order) → IsPlainStraight (atomic_store_lines t v order)
atomic_store_plain t v order = let a = halves_two 3 4 t v in record { few = omega (arith, a); silent_lines = halves_plain 3 4 t v; last_line = tt }

pub update_plain : (k : ℕ) (o : Op) (t : Ty) (v : Operand) (order : Order) → IsPlainStraight (update_lines k o t v order)
update_plain k o t v order = let a = halves_two 3 4 t v in record { few = omega (arith, a); silent_lines = halves_plain 3 4 t v; last_line = tt }

pub exchange_plain : (k : ℕ) (weak : Bool) (t : Ty) (v : Operand) (u : Ty) (w : Operand) (order : Order) → IsPlainStraight (exchange_lines k weak t v u w order)
exchange_plain k weak t v u w order =
    let a = halves_two 3 4 t v in
    let b = halves_two 5 6 u w in
    let c = length-append (halves_into 3 4 t v) (halves_into 5 6 u w) in
    record { few = omega (arith, a, b, c); silent_lines = plain_both (halves_into 3 4 t v) (halves_into 5 6 u w) (halves_plain 3 4 t v) (halves_plain 5 6 u w); last_line = tt }

pub fence_plain : (f k : ℕ) (order : Order) → IsPlainStraight (fence_lines f k false order)
fence_plain f k order = record { few = omega arith; silent_lines = tt; last_line = tt }

-- ---- ways to elements
pub address_plain : (program : SourceProgram) (f : ℕ) (o : Object) (j : ℕ) → IsPlain (address_of program f o j)
address_plain program f (Shared g) j = tt
address_plain program f (Private r) j = tt

-- an index that is brought takes two lines at most
pub record IsBringing (lines : List (MidInst Virtual)) : Type 0 where
  pub few : length lines ≤ 2
  pub plain : ArePlain lines

unfoldable pub IsPlainIndex : IndexAt → Type 0
IsPlainIndex (Fixed j) = Unit {0}
IsPlainIndex (Brought lines) = IsBringing lines

pub step_plain : (program : SourceProgram) (f : ℕ) (o : Object) (t u : Ty) (v : Operand) → IsPlainIndex (index_of_step program f o t u v)
unfolding IsPlainIndex
step_plain program f o t u (operand.Value q) = record { few = omega arith; plain = (tt, (tt, tt)) }
step_plain program f o t u (operand.Const n) = tt
step_plain program f o t u (operand.Wide n) = tt
step_plain program f o t u (operand.Param q) = tt

value_plain : (o : Outcome) (r : ℕ) → IsPlainIndex (index_of_value o r)
unfolding IsPlainIndex
value_plain (outcome.Gep b elem t v) r = record { few = omega arith; plain = (tt, tt) }
value_plain (outcome.Number t) r = tt
value_plain (outcome.Pair t) r = tt
value_plain (outcome.Alloca e) r = tt
value_plain outcome.Nothing r = tt

base_plain : (program : SourceProgram) (f : ℕ) (b : Base) → IsPlainIndex (index_of_base program f b)
unfolding IsPlainIndex
base_plain program f (base.Global g) = tt
base_plain program f (base.Value r) = value_plain (outcome_in program.source f r) r
base_plain program f (base.Param q) = tt

pub index_plain : (program : SourceProgram) (f : ℕ) (b : Base) (o : Option (Ty × ℕ × Ty × Operand)) → IsPlainIndex (index_at program f b o)
index_plain program f b None = base_plain program f b
index_plain program f b (Some step) = step_plain program f (object_of program f b) step.0 step.2 step.3

pub gep_plain : (f k : ℕ) (index : IndexAt) → IsPlainIndex index → IsPlainStraight (gep_lines f k index)
unfolding IsPlainIndex
gep_plain f k (Fixed j) h = record { few = omega arith; silent_lines = tt; last_line = tt }
gep_plain f k (Brought lines) h = let a = h.few in record { few = omega (arith, a); silent_lines = h.plain; last_line = tt }

-- ---- edges
pub coming_plain : (b k : ℕ) (insts : List Inst) → ArePlain (coming_in b k insts)
unfolding coming_in
coming_plain b k [] = tt
coming_plain b k (inst.Phi t entries ∷ insts) = (low_plain (low_in k) t (operand_from b entries), (high_plain (high_in k) t (operand_from b entries), coming_plain b (k + 1) insts))
coming_plain b k (_ ∷ insts) = tt

pub sets_plain : (k : ℕ) (insts : List Inst) → ArePlain (set_phis k insts)
unfolding set_phis
sets_plain k [] = tt
sets_plain k (inst.Phi t entries ∷ insts) = (tt, (tt, sets_plain (k + 1) insts))
sets_plain k (_ ∷ insts) = tt

pub coming_length : (b k : ℕ) (insts : List Inst) → length (coming_in b k insts) ≡ 2 * phi_count insts
unfolding coming_in is_phi
coming_length b k [] = refl
coming_length b k (inst.Phi t entries ∷ insts) = let e = coming_length b (k + 1) insts in omega (arith, e)
coming_length b k (_ ∷ insts) = refl

pub sets_length : (k : ℕ) (insts : List Inst) → length (set_phis k insts) ≡ 2 * phi_count insts
unfolding set_phis is_phi
sets_length k [] = refl
sets_length k (inst.Phi t entries ∷ insts) = let e = sets_length (k + 1) insts in omega (arith, e)
sets_length k (_ ∷ insts) = refl
