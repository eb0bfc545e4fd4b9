-- The words of RV64 instructions (RISC-V Unprivileged ISA).
use Rattle.std.specs.Prelude.{ℕ, List, [], codes}
use Rattle.ax_rv.specs.declared.instructions.Unary.{Unary}
use Rattle.ax_rv.specs.declared.instructions.Unary.TheVariants as unary
use Rattle.ax_rv.specs.declared.instructions.Binary.{Binary}
use Rattle.ax_rv.specs.declared.instructions.Binary.TheVariants as binary
use Rattle.ax_rv.specs.declared.instructions.Shift.{Shift}
use Rattle.ax_rv.specs.declared.instructions.Shift.TheVariants as shift
use Rattle.ax_rv.specs.declared.instructions.Immediate.{Immediate}
use Rattle.ax_rv.specs.declared.instructions.Immediate.TheVariants as immediate
use Rattle.ax_rv.specs.declared.instructions.LoadForm.{LoadForm}
use Rattle.ax_rv.specs.declared.instructions.LoadForm.TheVariants as load
use Rattle.ax_rv.specs.declared.instructions.StoreForm.{StoreForm}
use Rattle.ax_rv.specs.declared.instructions.StoreForm.TheVariants as store
use Rattle.ax_rv.specs.declared.instructions.Size.{Size}
use Rattle.ax_rv.specs.declared.instructions.Size.TheVariants as size
use Rattle.ax_rv.specs.declared.instructions.Ending.{Ending}
use Rattle.ax_rv.specs.declared.instructions.Ending.TheVariants as ending
use Rattle.ax_rv.specs.declared.instructions.Amo.{Amo}
use Rattle.ax_rv.specs.declared.instructions.Amo.TheVariants as amo
use Rattle.ax_rv.specs.declared.instructions.FenceSets.{FenceSets}
use Rattle.ax_rv.specs.declared.instructions.FenceSets.TheVariants as fence
use Rattle.ax_rv.specs.declared.instructions.Condition.{Condition}
use Rattle.ax_rv.specs.declared.instructions.Condition.TheVariants as condition

abbrev pub unary_word : Unary → List ℕ
unary_word unary.Move = codes "mv"
unary_word unary.Negate = codes "neg"
unary_word unary.Not = codes "not"
unary_word unary.SignExtendWord = codes "sext.w"
unary_word unary.IsZero = codes "seqz"
unary_word unary.IsNotZero = codes "snez"

abbrev pub binary_word : Binary → List ℕ
binary_word binary.Add = codes "add"
binary_word binary.Subtract = codes "sub"
binary_word binary.And = codes "and"
binary_word binary.Or = codes "or"
binary_word binary.Xor = codes "xor"
binary_word binary.Multiply = codes "mul"
binary_word binary.ShiftLeft = codes "sll"
binary_word binary.ShiftRight = codes "srl"
binary_word binary.ShiftRightSigned = codes "sra"
binary_word binary.IsLess = codes "slt"
binary_word binary.IsBelow = codes "sltu"

abbrev pub shift_word : Shift → List ℕ
shift_word shift.Left = codes "slli"
shift_word shift.Right = codes "srli"
shift_word shift.RightSigned = codes "srai"

abbrev pub immediate_word : Immediate → List ℕ
immediate_word immediate.And = codes "andi"
immediate_word immediate.Add = codes "addi"

abbrev pub load_word : LoadForm → List ℕ
load_word load.Byte = codes "lbu"
load_word load.Half = codes "lhu"
load_word load.Word = codes "lw"
load_word load.Double = codes "ld"

abbrev pub store_word : StoreForm → List ℕ
store_word store.Byte = codes "sb"
store_word store.Half = codes "sh"
store_word store.Word = codes "sw"
store_word store.Double = codes "sd"

abbrev pub size_word : Size → List ℕ
size_word size.Word = codes ".w"
size_word size.Double = codes ".d"

abbrev pub ending_word : Ending → List ℕ
ending_word ending.Plain = []
ending_word ending.Acquire = codes ".aq"
ending_word ending.Release = codes ".rl"
ending_word ending.AcquireRelease = codes ".aqrl"

abbrev pub amo_word : Amo → List ℕ
amo_word amo.Swap = codes "amoswap"
amo_word amo.Add = codes "amoadd"
amo_word amo.And = codes "amoand"
amo_word amo.Or = codes "amoor"
amo_word amo.Xor = codes "amoxor"
amo_word amo.Max = codes "amomax"
amo_word amo.Min = codes "amomin"
amo_word amo.MaxUnsigned = codes "amomaxu"
amo_word amo.MinUnsigned = codes "amominu"

abbrev pub fence_word : FenceSets → List ℕ
fence_word fence.ReadBeforeAll = codes "fence r, rw"
fence_word fence.AllBeforeWrite = codes "fence rw, w"
fence_word fence.AllBeforeAll = codes "fence rw, rw"
fence_word fence.TotalStoreOrder = codes "fence.tso"

abbrev pub condition_word : Condition → List ℕ
condition_word condition.Equal = codes "beq"
condition_word condition.NotEqual = codes "bne"
condition_word condition.Less = codes "blt"
condition_word condition.GreaterEqual = codes "bge"
condition_word condition.Below = codes "bltu"
condition_word condition.AboveEqual = codes "bgeu"
