-- The words of read-modify-write operations in LLVM's text (LLVM Language Reference, "atomicrmw").
use Rattle.std.specs.Prelude.{List, codes, ℕ}
use Rattle.ax_words.specs.declared.operation.RmwOp.{RmwOp}
use Rattle.ax_words.specs.declared.operation.RmwOp.TheVariants.{Xchg, Add, Sub, And, Nand, Or, Xor, Max, Min, UMax, UMin}

abbrev pub operation_word : RmwOp → List ℕ
operation_word Xchg = codes "xchg"
operation_word Add = codes "add"
operation_word Sub = codes "sub"
operation_word And = codes "and"
operation_word Nand = codes "nand"
operation_word Or = codes "or"
operation_word Xor = codes "xor"
operation_word Max = codes "max"
operation_word Min = codes "min"
operation_word UMax = codes "umax"
operation_word UMin = codes "umin"
