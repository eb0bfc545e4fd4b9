-- What the way of an access says of its target, size and alignment.
use Rattle.std.proofs.Common.{ℕ, true, false, ◌||◌, if◌then◌else◌, nat_le, nat_lt, IsTrue, arith, refl}
use Rattle.std.proofs.lemmas.Bool.Decides.{nat_tests}
use Rattle.ax_words.specs.declared.mark.Op.{Op}
use Rattle.ax_words.specs.declared.mark.Op.TheVariants.{Load, Store, Cmpxchg, Rmw, Fence}
use Rattle.ax_words.specs.declared.operation.RmwOp.TheVariants.{Xchg, Add, Sub, And, Nand, Or, Xor, Max, Min, UMax, UMin}
use Rattle.ax_words.specs.declared.width.Width.{Width}
use Rattle.ax_words.specs.declared.width.Width.TheVariants.{W8}
use Rattle.ax_words.specs.Width.{bytes_of}
use Rattle.ax_target.specs.declared.target.Target.{Target}
use Rattle.ax_target.specs.declared.target.Target.TheVariants.{X86, Arm, Rv}
use Rattle.ax_target.specs.declared.decision.Way.{Way}
use Rattle.ax_target.specs.declared.decision.Way.TheVariants.{Inline, CasLoop, PairLoop, Masked, Sized, Generic}
use Rattle.ax_target.specs.Targets.{greatest_native}
use Rattle.ax_target.specs.Decisions.{native_way, is_native, is_native_way, can_be, decided}

-- each line of the table, for each size that is native
native_way-is_native_way : (t : Target) (op : Op) (width : Width) → IsTrue (nat_lt (greatest_native t) (bytes_of width) || is_native_way t (bytes_of width) (native_way t op (bytes_of width)))
native_way-is_native_way (X86 false) Load W8 = refl
native_way-is_native_way (X86 false) Store W8 = refl
native_way-is_native_way (X86 false) Cmpxchg W8 = refl
native_way-is_native_way (X86 false) (Rmw Xchg) W8 = refl
native_way-is_native_way (X86 false) (Rmw Add) W8 = refl
native_way-is_native_way (X86 false) (Rmw Sub) W8 = refl
native_way-is_native_way (X86 false) (Rmw And) W8 = refl
native_way-is_native_way (X86 false) (Rmw Nand) W8 = refl
native_way-is_native_way (X86 false) (Rmw Or) W8 = refl
native_way-is_native_way (X86 false) (Rmw Xor) W8 = refl
native_way-is_native_way (X86 false) (Rmw Max) W8 = refl
native_way-is_native_way (X86 false) (Rmw Min) W8 = refl
native_way-is_native_way (X86 false) (Rmw UMax) W8 = refl
native_way-is_native_way (X86 false) (Rmw UMin) W8 = refl
native_way-is_native_way (X86 false) Fence W8 = refl
native_way-is_native_way (X86 true) Load W8 = refl
native_way-is_native_way (X86 true) Store W8 = refl
native_way-is_native_way (X86 true) Cmpxchg W8 = refl
native_way-is_native_way (X86 true) (Rmw Xchg) W8 = refl
native_way-is_native_way (X86 true) (Rmw Add) W8 = refl
native_way-is_native_way (X86 true) (Rmw Sub) W8 = refl
native_way-is_native_way (X86 true) (Rmw And) W8 = refl
native_way-is_native_way (X86 true) (Rmw Nand) W8 = refl
native_way-is_native_way (X86 true) (Rmw Or) W8 = refl
native_way-is_native_way (X86 true) (Rmw Xor) W8 = refl
native_way-is_native_way (X86 true) (Rmw Max) W8 = refl
native_way-is_native_way (X86 true) (Rmw Min) W8 = refl
native_way-is_native_way (X86 true) (Rmw UMax) W8 = refl
native_way-is_native_way (X86 true) (Rmw UMin) W8 = refl
native_way-is_native_way (X86 true) Fence W8 = refl
native_way-is_native_way (Arm false) Load W8 = refl
native_way-is_native_way (Arm false) Store W8 = refl
native_way-is_native_way (Arm false) Cmpxchg W8 = refl
native_way-is_native_way (Arm false) (Rmw Xchg) W8 = refl
native_way-is_native_way (Arm false) (Rmw Add) W8 = refl
native_way-is_native_way (Arm false) (Rmw Sub) W8 = refl
native_way-is_native_way (Arm false) (Rmw And) W8 = refl
native_way-is_native_way (Arm false) (Rmw Nand) W8 = refl
native_way-is_native_way (Arm false) (Rmw Or) W8 = refl
native_way-is_native_way (Arm false) (Rmw Xor) W8 = refl
native_way-is_native_way (Arm false) (Rmw Max) W8 = refl
native_way-is_native_way (Arm false) (Rmw Min) W8 = refl
native_way-is_native_way (Arm false) (Rmw UMax) W8 = refl
native_way-is_native_way (Arm false) (Rmw UMin) W8 = refl
native_way-is_native_way (Arm false) Fence W8 = refl
native_way-is_native_way (Arm true) Load W8 = refl
native_way-is_native_way (Arm true) Store W8 = refl
native_way-is_native_way (Arm true) Cmpxchg W8 = refl
native_way-is_native_way (Arm true) (Rmw Xchg) W8 = refl
native_way-is_native_way (Arm true) (Rmw Add) W8 = refl
native_way-is_native_way (Arm true) (Rmw Sub) W8 = refl
native_way-is_native_way (Arm true) (Rmw And) W8 = refl
native_way-is_native_way (Arm true) (Rmw Nand) W8 = refl
native_way-is_native_way (Arm true) (Rmw Or) W8 = refl
native_way-is_native_way (Arm true) (Rmw Xor) W8 = refl
native_way-is_native_way (Arm true) (Rmw Max) W8 = refl
native_way-is_native_way (Arm true) (Rmw Min) W8 = refl
native_way-is_native_way (Arm true) (Rmw UMax) W8 = refl
native_way-is_native_way (Arm true) (Rmw UMin) W8 = refl
native_way-is_native_way (Arm true) Fence W8 = refl
native_way-is_native_way (Rv zabha zacas) Load W8 = refl
native_way-is_native_way (Rv zabha zacas) Store W8 = refl
native_way-is_native_way (Rv zabha zacas) Cmpxchg W8 = refl
native_way-is_native_way (Rv zabha zacas) (Rmw Xchg) W8 = refl
native_way-is_native_way (Rv zabha zacas) (Rmw Add) W8 = refl
native_way-is_native_way (Rv zabha zacas) (Rmw Sub) W8 = refl
native_way-is_native_way (Rv zabha zacas) (Rmw And) W8 = refl
native_way-is_native_way (Rv zabha zacas) (Rmw Nand) W8 = refl
native_way-is_native_way (Rv zabha zacas) (Rmw Or) W8 = refl
native_way-is_native_way (Rv zabha zacas) (Rmw Xor) W8 = refl
native_way-is_native_way (Rv zabha zacas) (Rmw Max) W8 = refl
native_way-is_native_way (Rv zabha zacas) (Rmw Min) W8 = refl
native_way-is_native_way (Rv zabha zacas) (Rmw UMax) W8 = refl
native_way-is_native_way (Rv zabha zacas) (Rmw UMin) W8 = refl
native_way-is_native_way (Rv zabha zacas) Fence W8 = refl
native_way-is_native_way _ _ _ = refl

can_be-is_native_way : (t : Target) (bytes align : ℕ) (way : Way) → IsTrue (is_native_way t bytes way) → IsTrue (can_be t bytes align way)
can_be-is_native_way t bytes align Inline h = h
can_be-is_native_way t bytes align CasLoop h = h
can_be-is_native_way t bytes align PairLoop h = h
can_be-is_native_way t bytes align Masked h = h
can_be-is_native_way t bytes align Sized h = cc
can_be-is_native_way t bytes align Generic h = cc

-- the sizes decide between the table and the routines
chosen : (bytes align : ℕ) (t : Target) (way : Way) → IsTrue (nat_lt (greatest_native t) bytes || is_native_way t bytes way) → IsTrue (can_be t bytes align (if is_native t bytes align then way else if nat_le bytes align then Sized else Generic))
chosen bytes align t way h = let n = can_be-is_native_way t bytes align way in grind (arith, nat_tests)

pub decided_can_be : (t : Target) (op : Op) (width : Width) (align : ℕ) → IsTrue (can_be t (bytes_of width) align (decided t op width align))
decided_can_be t Load width align = chosen (bytes_of width) align t (native_way t Load (bytes_of width)) (native_way-is_native_way t Load width)
decided_can_be t Store width align = chosen (bytes_of width) align t (native_way t Store (bytes_of width)) (native_way-is_native_way t Store width)
decided_can_be t Cmpxchg width align = chosen (bytes_of width) align t (native_way t Cmpxchg (bytes_of width)) (native_way-is_native_way t Cmpxchg width)
decided_can_be t (Rmw op) width align = chosen (bytes_of width) align t (native_way t (Rmw op) (bytes_of width)) (native_way-is_native_way t (Rmw op) width)
decided_can_be t Fence width align = refl
