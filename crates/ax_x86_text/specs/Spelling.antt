-- Each instruction in AT&T's syntax: one blank after the mnemonic and after each comma, a register by its name of the operand's size, a distance always printed; a jump names its place and a call its routine.
use Rattle.std.specs.Prelude.{ℕ, ℤ, List, [], ◌∷◌, ◌++◌, codes, decimal}
use Rattle.std.specs.Fmt.{signed_decimal}
use Rattle.ax_words.specs.Routine.{name_of}
use Rattle.ax_x86.specs.declared.instructions.Alu.{Alu}
use Rattle.ax_x86.specs.declared.instructions.Alu.TheVariants.{Add, Sub, And, Or, Xor, Imul}
use Rattle.ax_x86.specs.declared.instructions.Condition.{Condition}
use Rattle.ax_x86.specs.declared.instructions.Condition.TheVariants.{Equal, NotEqual, Below, AboveOrEqual, BelowOrEqual, Above, Less, GreaterOrEqual, LessOrEqual, Greater}
use Rattle.ax_x86.specs.declared.instructions.Extension.{Extension}
use Rattle.ax_x86.specs.declared.instructions.Extension.TheVariants.{ZeroByte, ZeroWord, ZeroLong, SignByte, SignWord, SignLong}
use Rattle.ax_x86.specs.declared.instructions.MemoryOperand.{MemoryOperand}
use Rattle.ax_x86.specs.declared.instructions.Shift.{Shift}
use Rattle.ax_x86.specs.declared.instructions.Shift.TheVariants.{Shl, Shr, Sar}
use Rattle.ax_x86.specs.declared.instructions.Size.{Size}
use Rattle.ax_x86.specs.declared.instructions.Size.TheVariants.{Byte, Word, Long, Quad}
use Rattle.ax_x86.specs.declared.instructions.X86Instr.{X86Instr}
use Rattle.ax_x86.specs.declared.instructions.X86Instr.TheVariants as x86
use Rattle.ax_isa.specs.Numbers.{displaced}
use Rattle.ax_x86_text.specs.Registers.{register_name}

abbrev pub alu_word : Alu → List ℕ
alu_word Add = codes "addq"
alu_word Sub = codes "subq"
alu_word And = codes "andq"
alu_word Or = codes "orq"
alu_word Xor = codes "xorq"
alu_word Imul = codes "imulq"

abbrev pub shift_word : Shift → List ℕ
shift_word Shl = codes "shlq"
shift_word Shr = codes "shrq"
shift_word Sar = codes "sarq"

abbrev pub extension_word : Extension → List ℕ
extension_word ZeroByte = codes "movzbq"
extension_word ZeroWord = codes "movzwq"
extension_word ZeroLong = codes "movl"
extension_word SignByte = codes "movsbq"
extension_word SignWord = codes "movswq"
extension_word SignLong = codes "movslq"

-- the sizes of what is extended, and of what it becomes: `movl` names 4 bytes and clears the others
abbrev pub narrow_size : Extension → Size
narrow_size ZeroByte = Byte
narrow_size ZeroWord = Word
narrow_size ZeroLong = Long
narrow_size SignByte = Byte
narrow_size SignWord = Word
narrow_size SignLong = Long

abbrev pub wide_size : Extension → Size
wide_size ZeroLong = Long
wide_size _ = Quad

abbrev pub condition_code : Condition → List ℕ
condition_code Equal = codes "e"
condition_code NotEqual = codes "ne"
condition_code Below = codes "b"
condition_code AboveOrEqual = codes "ae"
condition_code BelowOrEqual = codes "be"
condition_code Above = codes "a"
condition_code Less = codes "l"
condition_code GreaterOrEqual = codes "ge"
condition_code LessOrEqual = codes "le"
condition_code Greater = codes "g"

abbrev pub suffix : Size → List ℕ
suffix Byte = codes "b"
suffix Word = codes "w"
suffix Long = codes "l"
suffix Quad = codes "q"

-- a load of fewer than 8 bytes extends by zeros
abbrev pub load_word : Size → List ℕ
load_word Byte = codes "movzbq"
load_word Word = codes "movzwq"
load_word Long = codes "movl"
load_word Quad = codes "movq"

abbrev pub load_size : Size → Size
load_size Long = Long
load_size _ = Quad

abbrev pub memory_text : MemoryOperand → List ℕ
memory_text memory = signed_decimal memory.displacement ++ 40 ∷ register_name Quad memory.base ++ 41 ∷ []

-- a mnemonic with one register, and with two
abbrev pub single_text : List ℕ → ℕ → List ℕ
single_text word to = word ++ 32 ∷ register_name Quad to

abbrev pub double_text : List ℕ → ℕ → ℕ → List ℕ
double_text word from to = word ++ 32 ∷ register_name Quad from ++ codes ", " ++ register_name Quad to

-- a mnemonic with its size, a register of that size and a memory operand
abbrev pub access_text : List ℕ → Size → ℕ → MemoryOperand → List ℕ
access_text word size r memory = word ++ suffix size ++ 32 ∷ register_name size r ++ codes ", " ++ memory_text memory

-- the same behind the prefix that locks
abbrev pub locked_text : List ℕ → Size → ℕ → MemoryOperand → List ℕ
locked_text word size r memory = codes "lock " ++ access_text word size r memory

-- a jump names the place to which it goes
abbrev pub jump_text : List ℕ → ℕ → ℤ → List ℕ
jump_text word place distance = word ++ codes " .L" ++ decimal (displaced place distance)

-- the instruction at a place
unfoldable pub instr_text : ℕ → X86Instr → List ℕ
instr_text place (x86.Movabs n to) = codes "movabsq $" ++ decimal n ++ codes ", " ++ register_name Quad to
instr_text place (x86.Mov from to) = double_text (codes "movq") from to
instr_text place (x86.Alu op from to) = double_text (alu_word op) from to
instr_text place (x86.Neg to) = single_text (codes "negq") to
instr_text place (x86.Not to) = single_text (codes "notq") to
instr_text place (x86.Shift op count to) = shift_word op ++ codes " $" ++ decimal count ++ codes ", " ++ register_name Quad to
instr_text place (x86.Extend kind from to) = extension_word kind ++ 32 ∷ register_name (narrow_size kind) from ++ codes ", " ++ register_name (wide_size kind) to
instr_text place (x86.Cmp right left) = double_text (codes "cmpq") right left
instr_text place (x86.Setcc condition to) = codes "set" ++ condition_code condition ++ 32 ∷ register_name Byte to
instr_text place (x86.Cmovcc condition from to) = codes "cmov" ++ condition_code condition ++ 32 ∷ register_name Quad from ++ codes ", " ++ register_name Quad to
instr_text place (x86.Load size memory to) = load_word size ++ 32 ∷ memory_text memory ++ codes ", " ++ register_name (load_size size) to
instr_text place (x86.Store size from memory) = access_text (codes "mov") size from memory
instr_text place (x86.Xchg size r memory) = access_text (codes "xchg") size r memory
instr_text place (x86.LockXadd size r memory) = locked_text (codes "xadd") size r memory
instr_text place (x86.LockCmpxchg size from memory) = locked_text (codes "cmpxchg") size from memory
instr_text place (x86.LockCmpxchg16b memory) = codes "lock cmpxchg16b " ++ memory_text memory
instr_text place x86.Mfence = codes "mfence"
instr_text place (x86.Jmp distance) = jump_text (codes "jmp") place distance
instr_text place (x86.Jcc condition distance) = jump_text (106 ∷ condition_code condition) place distance
instr_text place (x86.Call routine target) = codes "call " ++ name_of routine
instr_text place x86.Ret = codes "ret"
instr_text place x86.Syscall = codes "syscall"
instr_text place x86.Ud2 = codes "ud2"
instr_text place x86.Nop = codes "nop"
