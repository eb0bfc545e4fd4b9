-- The text of an instruction: one blank after the mnemonic and after each comma. A jump names its target by its place, and a call its routine.
use Rattle.std.specs.Prelude.{ℕ, ℤ, List, [], ◌∷◌, ◌++◌, codes, decimal}
use Rattle.ax_words.specs.Routine.{name_of}
use Rattle.ax_arm.specs.declared.instructions.ArmInstr.{ArmInstr}
use Rattle.ax_arm.specs.declared.instructions.ArmInstr.TheVariants as arm
use Rattle.ax_arm.specs.declared.instructions.Ending.{Ending}
use Rattle.ax_arm.specs.declared.instructions.Extension.{Extension}
use Rattle.ax_arm.specs.declared.instructions.Extension.TheVariants as extension
use Rattle.ax_arm.specs.declared.instructions.Size.{Size}
use Rattle.ax_isa.specs.Numbers.{displaced}
use Rattle.ax_arm.specs.Effects.{next_register}
use Rattle.ax_arm_text.specs.Registers.{register_of, w_name, x_name}
use Rattle.ax_arm_text.specs.Words.{alu_text, barrier_text, condition_text, ending_text, extension_text, lse_text, shift_text, size_text}

-- a word and its operands
abbrev pub one : List ℕ → List ℕ → List ℕ
one word a = word ++ 32 ∷ a

abbrev pub two : List ℕ → List ℕ → List ℕ → List ℕ
two word a b = word ++ 32 ∷ a ++ codes ", " ++ b

abbrev pub three : List ℕ → List ℕ → List ℕ → List ℕ → List ℕ
three word a b c = word ++ 32 ∷ a ++ codes ", " ++ b ++ codes ", " ++ c

-- the base of an access without a distance
abbrev pub base_text : ℕ → List ℕ
base_text base = codes ", [" ++ x_name base ++ 93 ∷ []

-- an operand of so many bytes at a distance from a base
abbrev pub access_text : List ℕ → Size → ℕ → ℕ → ℕ → List ℕ
access_text word size r base d = word ++ one (size_text size) (register_of size r) ++ codes ", [" ++ x_name base ++ codes ", #" ++ decimal d ++ 93 ∷ []

abbrev pub extend_text : Extension → ℕ → ℕ → List ℕ
extend_text extension.Uxtb rd rn = two (codes "uxtb") (w_name rd) (w_name rn)
extend_text extension.Uxth rd rn = two (codes "uxth") (w_name rd) (w_name rn)
extend_text extension.Sxtb rd rn = two (codes "sxtb") (x_name rd) (w_name rn)
extend_text extension.Sxth rd rn = two (codes "sxth") (x_name rd) (w_name rn)
extend_text extension.Sxtw rd rn = two (codes "sxtw") (x_name rd) (w_name rn)

abbrev pub casp_text : Ending → ℕ → ℕ → ℕ → List ℕ
casp_text ending rs rt rn = codes "casp" ++ three (ending_text ending) (x_name rs) (x_name (next_register rs)) (x_name rt) ++ codes ", " ++ x_name (next_register rt) ++ base_text rn

-- the label of the place that a jump at `place` leads to
abbrev pub label_text : ℕ → ℤ → List ℕ
label_text place d = codes ".L" ++ decimal (displaced place d)

-- THE TEXT of an instruction at a place
unfoldable pub instr_text : ℕ → ArmInstr → List ℕ
instr_text place (arm.Constant rd n) = codes "ldr " ++ x_name rd ++ codes ", =" ++ decimal n
instr_text place (arm.Mov rd rn) = two (codes "mov") (x_name rd) (x_name rn)
instr_text place (arm.MovWord rd rn) = two (codes "mov") (w_name rd) (w_name rn)
instr_text place (arm.Alu op rd rn rm) = three (alu_text op) (x_name rd) (x_name rn) (x_name rm)
instr_text place (arm.Neg rd rm) = two (codes "neg") (x_name rd) (x_name rm)
instr_text place (arm.Mvn rd rm) = two (codes "mvn") (x_name rd) (x_name rm)
instr_text place (arm.Shift op rd rn k) = two (shift_text op) (x_name rd) (x_name rn) ++ codes ", #" ++ decimal k
instr_text place (arm.Extend op rd rn) = extend_text op rd rn
instr_text place (arm.Cmp rn rm) = two (codes "cmp") (x_name rn) (x_name rm)
instr_text place (arm.Cset rd condition) = two (codes "cset") (x_name rd) (condition_text condition)
instr_text place (arm.Csel rd rn rm condition) = three (codes "csel") (x_name rd) (x_name rn) (x_name rm) ++ codes ", " ++ condition_text condition
instr_text place (arm.Ldr size rt rn d) = access_text (codes "ldr") size rt rn d
instr_text place (arm.Ldar size rt rn) = access_text (codes "ldar") size rt rn 0
instr_text place (arm.Str size rt rn d) = access_text (codes "str") size rt rn d
instr_text place (arm.Stlr size rt rn) = access_text (codes "stlr") size rt rn 0
instr_text place (arm.Ldxr size rt rn) = codes "ldxr" ++ one (size_text size) (register_of size rt) ++ base_text rn
instr_text place (arm.Ldaxr size rt rn) = codes "ldaxr" ++ one (size_text size) (register_of size rt) ++ base_text rn
instr_text place (arm.Ldxp rt rt2 rn) = two (codes "ldxp") (x_name rt) (x_name rt2) ++ base_text rn
instr_text place (arm.Ldaxp rt rt2 rn) = two (codes "ldaxp") (x_name rt) (x_name rt2) ++ base_text rn
instr_text place (arm.Stxr size rs rt rn) = codes "stxr" ++ two (size_text size) (w_name rs) (register_of size rt) ++ base_text rn
instr_text place (arm.Stlxr size rs rt rn) = codes "stlxr" ++ two (size_text size) (w_name rs) (register_of size rt) ++ base_text rn
instr_text place (arm.Stxp rs rt rt2 rn) = three (codes "stxp") (w_name rs) (x_name rt) (x_name rt2) ++ base_text rn
instr_text place (arm.Stlxp rs rt rt2 rn) = three (codes "stlxp") (w_name rs) (x_name rt) (x_name rt2) ++ base_text rn
instr_text place (arm.Lse op ending size rs rt rn) = lse_text op ++ ending_text ending ++ two (size_text size) (register_of size rs) (register_of size rt) ++ base_text rn
instr_text place (arm.Cas ending size rs rt rn) = codes "cas" ++ ending_text ending ++ two (size_text size) (register_of size rs) (register_of size rt) ++ base_text rn
instr_text place (arm.Casp ending rs rt rn) = casp_text ending rs rt rn
instr_text place (arm.Dmb barrier) = one (codes "dmb") (barrier_text barrier)
instr_text place (arm.B d) = one (codes "b") (label_text place d)
instr_text place (arm.BCond condition d) = one (codes "b." ++ condition_text condition) (label_text place d)
instr_text place (arm.Cbz rt d) = two (codes "cbz") (x_name rt) (label_text place d)
instr_text place (arm.Cbnz rt d) = two (codes "cbnz") (x_name rt) (label_text place d)
instr_text place (arm.Bl routine first) = one (codes "bl") (name_of routine)
instr_text place arm.Ret = codes "ret"
instr_text place arm.Svc = codes "svc #0"
instr_text place arm.Brk = codes "brk #1"
instr_text place arm.Nop = codes "nop"
