-- How many registers an operation has at most; registers that are low, one by one.
use Rattle.std.proofs.Common.{ℕ, ◌*◌, ◌<◌, ◌≤◌, Contains, List, [], ◌∷◌, ◌++◌, length, arith}
use Rattle.ax_words.specs.declared.mark.Op.{Op}
use Rattle.ax_words.specs.declared.mark.Op.TheVariants as op
use Rattle.ax_words.specs.declared.order.Order.{Order}
use Rattle.ax_words.specs.declared.width.Width.{Width}
use Rattle.ax_words.specs.declared.width.Width.TheVariants.{W128}
use Rattle.ax_target.specs.declared.target.Target.{Target}
use Rattle.ax_mid.specs.declared.registers.Virtual.{Virtual}
use Rattle.ax_mid.specs.WellFormed.{words, words_given, words_taken}
use Rattle.ax_selected.specs.Registers.{key}
use Rattle.ax_selected.proofs.Small.{AreLow}
use Rattle.ax_typed.proofs.Places.{here, there}
use Rattle.ax_sound.specs.Fit.{IsOperation}

two_each : (width : Width) (n : ℕ) → words width n ≤ 2 * n
two_each W128 n = omega arith
two_each _ n = omega arith

four_taken : (o : Op) (width : Width) → words_taken o width ≤ 4
four_taken op.Load width = omega arith
four_taken op.Store width = let a = two_each width 1 in omega (arith, a)
four_taken op.Cmpxchg width = two_each width 2
four_taken (op.Rmw o) width = let a = two_each width 1 in omega (arith, a)
four_taken op.Fence width = omega arith

three_given : (o : Op) (width : Width) → words_given o width ≤ 3
three_given op.Load width = let a = two_each width 1 in omega (arith, a)
three_given op.Store width = omega arith
three_given op.Cmpxchg width = let a = two_each width 1 in omega (arith, a)
three_given (op.Rmw o) width = let a = two_each width 1 in omega (arith, a)
three_given op.Fence width = omega arith

pub few_registers : (target : Target) (o : Op) (width : Width) (order : Order) (args results : List Virtual) → IsOperation target o width order args results → (length args ≤ 4) × (length results ≤ 3)
few_registers target o width order args results h =
    let a = h.taken in
    let b = h.given in
    let c = four_taken o width in
    let d = three_given o width in
    (omega (arith, a, c), omega (arith, b, d))

-- ---- registers that are low
pub each_low : (rs : List Virtual) → ((r : Virtual) → Contains rs r → key r < 8208) → AreLow rs
each_low [] h = tt
each_low (r ∷ rs) h = (h r (here r rs), each_low rs (λ s in_rs. h s (there r s rs in_rs)))

pub low_parts : (rs ss : List Virtual) → AreLow (rs ++ ss) → AreLow rs × AreLow ss
low_parts [] ss h = (tt, h)
low_parts (r ∷ rs) ss h = let parts = low_parts rs ss h.1 in ((h.0, parts.0), parts.1)
