-- The words of instructions in LLVM's text.
use Rattle.std.specs.Prelude.{ℕ, List, codes}
use Rattle.ax_module.specs.declared.inst.BinOp.{BinOp}
use Rattle.ax_module.specs.declared.inst.BinOp.TheVariants.{Add, Sub, Mul, And, Or, Xor, Shl, Lshr, Ashr}
use Rattle.ax_module.specs.declared.inst.Pred.{Pred}
use Rattle.ax_module.specs.declared.inst.Pred.TheVariants.{Eq, Ne, Ugt, Uge, Ult, Ule, Sgt, Sge, Slt, Sle}
use Rattle.ax_module.specs.declared.inst.Cast.{Cast}
use Rattle.ax_module.specs.declared.inst.Cast.TheVariants.{Zext, Sext, Trunc}

abbrev pub binary_word : BinOp → List ℕ
binary_word Add = codes "add"
binary_word Sub = codes "sub"
binary_word Mul = codes "mul"
binary_word And = codes "and"
binary_word Or = codes "or"
binary_word Xor = codes "xor"
binary_word Shl = codes "shl"
binary_word Lshr = codes "lshr"
binary_word Ashr = codes "ashr"

abbrev pub condition_word : Pred → List ℕ
condition_word Eq = codes "eq"
condition_word Ne = codes "ne"
condition_word Ugt = codes "ugt"
condition_word Uge = codes "uge"
condition_word Ult = codes "ult"
condition_word Ule = codes "ule"
condition_word Sgt = codes "sgt"
condition_word Sge = codes "sge"
condition_word Slt = codes "slt"
condition_word Sle = codes "sle"

abbrev pub cast_word : Cast → List ℕ
cast_word Zext = codes "zext"
cast_word Sext = codes "sext"
cast_word Trunc = codes "trunc"
