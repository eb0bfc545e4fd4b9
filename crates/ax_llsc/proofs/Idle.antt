-- How long such code is, and how many of its steps are idle at most.
use Rattle.std.proofs.Common.{◌≡◌, ℕ, ◌+◌, ◌≤◌, Bool, true, false, length, length-append, refl, arith}
use Rattle.ax_words.specs.declared.mark.Op.{Op}
use Rattle.ax_words.specs.declared.mark.Op.TheVariants as op
use Rattle.ax_words.specs.declared.operation.RmwOp.{RmwOp}
use Rattle.ax_words.specs.declared.operation.RmwOp.TheVariants as rmw
use Rattle.ax_words.specs.declared.order.Order.{Order}
use Rattle.ax_words.specs.declared.order.Order.TheVariants.{Unordered, Monotonic, Acquire, Release, AcqRel, SeqCst}
use Rattle.ax_words.specs.declared.width.Width.{Width}
use Rattle.ax_target.specs.declared.target.Target.{Target}
use Rattle.ax_llsc.specs.Loops.{clear}
use Rattle.ax_mask.specs.Codes.{is_narrow}
use Rattle.ax_llsc.specs.Codes.{Atomic, Coded, PlainLoad, PlainStore, before_load, before_store, behind_load, exchange_of, expansion_of, fences, prepare, update_of}
use Rattle.ax_llsc.proofs.Pairs.{clear_short}

before_load_short : (order : Order) → length (fences (before_load order)) ≤ 1
before_load_short Unordered = omega arith
before_load_short Monotonic = omega arith
before_load_short Acquire = omega arith
before_load_short Release = omega arith
before_load_short AcqRel = omega arith
before_load_short SeqCst = omega arith

behind_load_short : (order : Order) → length (fences (behind_load order)) ≤ 1
behind_load_short Unordered = omega arith
behind_load_short Monotonic = omega arith
behind_load_short Acquire = omega arith
behind_load_short Release = omega arith
behind_load_short AcqRel = omega arith
behind_load_short SeqCst = omega arith

before_store_short : (order : Order) → length (fences (before_store order)) ≤ 1
before_store_short Unordered = omega arith
before_store_short Monotonic = omega arith
before_store_short Acquire = omega arith
before_store_short Release = omega arith
before_store_short AcqRel = omega arith
before_store_short SeqCst = omega arith

prepare_short : (o : RmwOp) → length (prepare o) ≤ 2
prepare_short rmw.Xchg = omega arith
prepare_short rmw.Add = omega arith
prepare_short rmw.Sub = omega arith
prepare_short rmw.And = omega arith
prepare_short rmw.Nand = omega arith
prepare_short rmw.Or = omega arith
prepare_short rmw.Xor = omega arith
prepare_short rmw.Max = omega arith
prepare_short rmw.Min = omega arith
prepare_short rmw.UMax = omega arith
prepare_short rmw.UMin = omega arith

exchange_few : (b : Bool) (width : Width) (order : Order) (weak : Bool) → (exchange_of b width order weak).most ≤ 24
exchange_few true width order weak = omega arith
exchange_few false width order weak = omega arith

update_few : (target : Target) (b : Bool) (o : RmwOp) (width : Width) (order : Order) (weak : Bool) → (update_of b target o width order weak).most ≤ 24
update_few target true o width order weak = omega arith
update_few target false o width order weak = by o
  where
    one : (q : RmwOp) → length (prepare q) + length (clear 15 width) ≤ 24
    one q = (let a = prepare_short q in let b = clear_short 15 width in omega (arith, a, b))

    by : (q : RmwOp) → (update_of false target q width order weak).most ≤ 24
    by rmw.Nand = omega arith
    by rmw.Xchg = one rmw.Xchg
    by rmw.Add = one rmw.Add
    by rmw.Sub = one rmw.Sub
    by rmw.And = one rmw.And
    by rmw.Or = one rmw.Or
    by rmw.Xor = one rmw.Xor
    by rmw.Max = one rmw.Max
    by rmw.Min = one rmw.Min
    by rmw.UMax = one rmw.UMax
    by rmw.UMin = one rmw.UMin

pub idle_few : (target : Target) (x : Coded) → (expansion_of target x).most ≤ 24
idle_few target (Atomic op.Load width order weak) =
    let a = before_load_short order in
    let b = behind_load_short order in
    let c = clear_short 15 width in
    let d = length-append (fences (behind_load order)) (clear 15 width) in
    omega (arith, a, b, c, d)
idle_few target (Atomic op.Store width order weak) = (let a = before_store_short order in omega (arith, a))
idle_few target (Atomic op.Cmpxchg width order weak) = exchange_few (is_narrow width) width order weak
idle_few target (Atomic (op.Rmw o) width order weak) = update_few target (is_narrow width) o width order weak
idle_few target (Atomic op.Fence width order weak) = omega arith
idle_few target (PlainLoad width) = (let a = clear_short 7 width in omega (arith, a))
idle_few target (PlainStore width) = omega arith

-- wherever it stands
abbrev IsSteady : Target → Op → Width → Order → Bool → ℕ → Type 0
IsSteady target o width order weak start = (let e = expansion_of target (Atomic o width order weak) in length (e.piece start) ≡ length (e.piece 0))

pub steady : (target : Target) (o : Op) (width : Width) (order : Order) (weak : Bool) (start : ℕ) → IsSteady target o width order weak start
steady target op.Load width order weak start = refl
steady target op.Store width order weak start = refl
steady target op.Cmpxchg width order weak start = by (is_narrow width)
  where
    by : (b : Bool) → (let e = exchange_of b width order weak in length (e.piece start) ≡ length (e.piece 0))
    by true = refl
    by false = refl
steady target op.Fence width order weak start = refl
steady target (op.Rmw o) width order weak start = by (is_narrow width) o
  where
    by : (b : Bool) (q : RmwOp) → (let e = update_of b target q width order weak in length (e.piece start) ≡ length (e.piece 0))
    by true q = refl
    by false rmw.Xchg = refl
    by false rmw.Add = refl
    by false rmw.Sub = refl
    by false rmw.And = refl
    by false rmw.Nand = refl
    by false rmw.Or = refl
    by false rmw.Xor = refl
    by false rmw.Max = refl
    by false rmw.Min = refl
    by false rmw.UMax = refl
    by false rmw.UMin = refl
