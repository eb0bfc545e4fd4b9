-- The code of operations by one access is short, and its instructions go on with numbers in their ranges.
use Rattle.std.proofs.Common.{ℕ, ◌+◌, ◌<◌, ◌≤◌, Bool, List, [], ◌∷◌, length, arith, length-append}
use Rattle.ax_words.specs.declared.mark.Op.{Op}
use Rattle.ax_words.specs.declared.mark.Op.TheVariants as op
use Rattle.ax_words.specs.declared.operation.RmwOp.{RmwOp}
use Rattle.ax_words.specs.declared.operation.RmwOp.TheVariants as rmw
use Rattle.ax_words.specs.declared.order.Order.{Order}
use Rattle.ax_words.specs.declared.order.Order.TheVariants.{Unordered, Monotonic, Acquire, Release, AcqRel, SeqCst}
use Rattle.ax_words.specs.declared.width.Width.{Width}
use Rattle.ax_words.specs.declared.width.Width.TheVariants.{W32}
use Rattle.ax_tags.specs.declared.tags.Tag.{Tag}
use Rattle.ax_target.specs.declared.target.Target.{Target}
use Rattle.ax_rv.specs.declared.instructions.FenceSets.{FenceSets}
use Rattle.ax_rv.specs.declared.instructions.RvInstr.{RvInstr}
use Rattle.ax_expand.specs.Doing.{Doing}
use Rattle.ax_expand.specs.Shared.{Shared}
use Rattle.ax_fine.specs.OnBytes.{atomic_doing}
use Rattle.ax_llsc.specs.Codes.{Atomic, atomic_rounding, before_load, before_store, behind_load, fence_instr, fences, operand_of, prepare, rounded, rounding}
use Rattle.ax_llsc.specs.Loops.{clear}
use Rattle.ax_llsc.specs.Rounds.{Rounding}
use Rattle.ax_sound.proofs.Shapes.{performed_size, performed_straight}
use Rattle.ax_sound.proofs.Straight.{AllGo, AreStraight, go_both}
use Rattle.ax_sound_rv.proofs.Instructions.{GoesOn, rv}

-- ---- its parts
fences_go : (sets : List FenceSets) → AllGo rv (fences sets)
fences_go [] = tt
fences_go (s ∷ sets) = (tt, fences_go sets)

before_load_one : (order : Order) → length (fences (before_load order)) ≤ 1
before_load_one Unordered = omega arith
before_load_one Monotonic = omega arith
before_load_one Acquire = omega arith
before_load_one Release = omega arith
before_load_one AcqRel = omega arith
before_load_one SeqCst = omega arith

behind_load_one : (order : Order) → length (fences (behind_load order)) ≤ 1
behind_load_one Unordered = omega arith
behind_load_one Monotonic = omega arith
behind_load_one Acquire = omega arith
behind_load_one Release = omega arith
behind_load_one AcqRel = omega arith
behind_load_one SeqCst = omega arith

before_store_one : (order : Order) → length (fences (before_store order)) ≤ 1
before_store_one Unordered = omega arith
before_store_one Monotonic = omega arith
before_store_one Acquire = omega arith
before_store_one Release = omega arith
before_store_one AcqRel = omega arith
before_store_one SeqCst = omega arith

fence_goes : (order : Order) → GoesOn (fence_instr order)
fence_goes Unordered = tt
fence_goes Monotonic = tt
fence_goes Acquire = tt
fence_goes Release = tt
fence_goes AcqRel = tt
fence_goes SeqCst = tt

pub clear_goes : (width : Width) → AllGo rv (clear 15 width)
clear_goes W32 = ((omega arith, omega arith, omega arith), ((omega arith, omega arith, omega arith), tt))
clear_goes _ = tt

clear_two : (width : Width) → length (clear 15 width) ≤ 2
clear_two W32 = omega arith
clear_two _ = omega arith

operand_below : (o : RmwOp) → operand_of o < 32
operand_below rmw.Sub = omega arith
operand_below _ = omega arith

prepare_goes : (o : RmwOp) → AllGo rv (prepare o)
prepare_goes rmw.Sub = ((omega arith, omega arith, omega arith), ((omega arith, omega arith), tt))
prepare_goes _ = tt

prepare_two : (o : RmwOp) → length (prepare o) ≤ 2
prepare_two rmw.Sub = omega arith
prepare_two _ = omega arith

-- ---- the whole
record IsRound (before : List RvInstr) (access : RvInstr) (after : List RvInstr) : Type 0 where
  first : AllGo rv before
  here : GoesOn access
  last : AllGo rv after
  few : length before + length after ≤ 4

round_is : (doing : Doing Shared) (o : Op) (width : Width) (order : Order) → (let z = atomic_rounding doing o width order in IsRound z.before z.access z.after)
round_is doing op.Load width order =
    let a = before_load_one order in
    let b = behind_load_one order in
    let c = clear_two width in
    let d = length-append (fences (behind_load order)) (clear 15 width) in
    record {
      first = fences_go (before_load order);
      here = (omega arith, omega arith, omega arith);
      last = go_both rv (fences (behind_load order)) (clear 15 width) (fences_go (behind_load order)) (clear_goes width);
      few = omega (arith, a, b, c, d);
    }
round_is doing op.Store width order = let a = before_store_one order in record { first = fences_go (before_store order); here = (omega arith, omega arith, omega arith); last = tt; few = omega (arith, a) }
round_is doing op.Cmpxchg width order = record { first = tt; here = tt; last = tt; few = omega arith }
round_is doing (op.Rmw o) width order =
    let a = prepare_two o in
    let c = clear_two width in
    record { first = prepare_goes o; here = (omega arith, operand_below o, omega arith); last = clear_goes width; few = omega (arith, a, c) }
round_is doing op.Fence width order = record { first = tt; here = fence_goes order; last = tt; few = omega arith }

-- ---- the code of an operation by one access
module _ (target : Target) (o : Op) (width : Width) (order : Order) (weak : Bool) (start : ℕ) where
  abbrev pub one_access : List (RvInstr × Tag)
  one_access = (rounded (rounding target (Atomic o width order weak))).piece start

  abbrev round : Rounding RvInstr
  round = atomic_rounding (atomic_doing target o width order weak) o width order

  pub one_straight : AreStraight rv one_access
  one_straight = let is = round_is (atomic_doing target o width order weak) o width order in performed_straight rv round.before round.access round.after is.first is.here is.last

  pub one_few : length one_access ≤ 5
  one_few =
      let is = round_is (atomic_doing target o width order weak) o width order in
      let few = is.few in
      let long = performed_size round.before round.access round.after in
      omega (arith, few, long)
