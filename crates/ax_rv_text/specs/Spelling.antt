-- The texts of RV64 instructions, in the spelling of the RISC-V Unprivileged ISA. A jump names the place that it goes to, a call the routine.
use Rattle.std.specs.Prelude.{ℕ, ℤ, List, [], ◌∷◌, ◌++◌, codes, decimal}
use Rattle.std.specs.Fmt.{signed_decimal}
use Rattle.ax_words.specs.Routine.{name_of}
use Rattle.ax_isa.specs.Numbers.{displaced}
use Rattle.ax_rv.specs.declared.instructions.Ending.{Ending}
use Rattle.ax_rv.specs.declared.instructions.Size.{Size}
use Rattle.ax_rv.specs.declared.instructions.RvInstr.{RvInstr}
use Rattle.ax_rv.specs.declared.instructions.RvInstr.TheVariants.{Li, Unary, Binary, Shift, Immediate, Load, Store, LoadReserved, StoreConditional, Amo, Fence, Jump, Call, Ret, Branch, Ecall, Ebreak, Nop}
use Rattle.ax_rv_text.specs.Words.{amo_word, binary_word, condition_word, ending_word, fence_word, immediate_word, load_word, shift_word, size_word, store_word, unary_word}
use Rattle.ax_rv_text.specs.Registers.{register_name}

abbrev pub comma : List ℕ
comma = codes ", "

-- a word and two registers
abbrev pub pair_text : List ℕ → ℕ → ℕ → List ℕ
pair_text word a b = word ++ 32 ∷ register_name a ++ comma ++ register_name b

-- a load or store: the register, then the displacement and the register that it is added to
abbrev pub access_text : List ℕ → ℕ → ℤ → ℕ → List ℕ
access_text word r d base = word ++ 32 ∷ register_name r ++ comma ++ signed_decimal d ++ 40 ∷ register_name base ++ 41 ∷ []

-- an instruction of the A extension, with its size and its order ending
abbrev pub ended_text : List ℕ → Size → Ending → List ℕ
ended_text word size ending = word ++ size_word size ++ ending_word ending

-- a place that a jump at another goes to
abbrev pub label_text : ℕ → ℤ → List ℕ
label_text place distance = codes ".L" ++ decimal (displaced place distance)

unfoldable pub instr_text : ℕ → RvInstr → List ℕ
instr_text place (Li rd n) = codes "li " ++ register_name rd ++ comma ++ decimal n
instr_text place (Unary op rd rs) = pair_text (unary_word op) rd rs
instr_text place (Binary op rd rs1 rs2) = pair_text (binary_word op) rd rs1 ++ comma ++ register_name rs2
instr_text place (Shift op rd rs k) = pair_text (shift_word op) rd rs ++ comma ++ decimal k
instr_text place (Immediate op rd rs n) = pair_text (immediate_word op) rd rs ++ comma ++ signed_decimal n
instr_text place (Load form rd d rs1) = access_text (load_word form) rd d rs1
instr_text place (Store form rs2 d rs1) = access_text (store_word form) rs2 d rs1
instr_text place (LoadReserved size ending rd rs1) = ended_text (codes "lr") size ending ++ 32 ∷ register_name rd ++ codes ", (" ++ register_name rs1 ++ 41 ∷ []
instr_text place (StoreConditional size ending rd rs2 rs1) = ended_text (codes "sc") size ending ++ 32 ∷ register_name rd ++ comma ++ register_name rs2 ++ codes ", (" ++ register_name rs1 ++ 41 ∷ []
instr_text place (Amo op size ending rd rs2 rs1) = ended_text (amo_word op) size ending ++ 32 ∷ register_name rd ++ comma ++ register_name rs2 ++ codes ", (" ++ register_name rs1 ++ 41 ∷ []
instr_text place (Fence sets) = fence_word sets
instr_text place (Jump distance) = codes "j " ++ label_text place distance
instr_text place (Call routine target) = codes "jal ra, " ++ name_of routine
instr_text place Ret = codes "ret"
instr_text place (Branch condition rs1 rs2 distance) = pair_text (condition_word condition) rs1 rs2 ++ comma ++ label_text place distance
instr_text place Ecall = codes "ecall"
instr_text place Ebreak = codes "ebreak"
instr_text place Nop = codes "nop"
