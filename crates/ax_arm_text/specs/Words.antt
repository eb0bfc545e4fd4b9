-- The words of which mnemonics are made.
use Rattle.std.specs.Prelude.{ℕ, List, [], codes}
use Rattle.ax_arm.specs.declared.instructions.Alu.{Alu}
use Rattle.ax_arm.specs.declared.instructions.Alu.TheVariants as alu
use Rattle.ax_arm.specs.declared.instructions.Barrier.{Barrier}
use Rattle.ax_arm.specs.declared.instructions.Barrier.TheVariants as barriers
use Rattle.ax_arm.specs.declared.instructions.Condition.{Condition}
use Rattle.ax_arm.specs.declared.instructions.Condition.TheVariants as conditions
use Rattle.ax_arm.specs.declared.instructions.Ending.{Ending}
use Rattle.ax_arm.specs.declared.instructions.Ending.TheVariants as endings
use Rattle.ax_arm.specs.declared.instructions.Extension.{Extension}
use Rattle.ax_arm.specs.declared.instructions.Extension.TheVariants as extension
use Rattle.ax_arm.specs.declared.instructions.Lse.{Lse}
use Rattle.ax_arm.specs.declared.instructions.Lse.TheVariants as lse
use Rattle.ax_arm.specs.declared.instructions.Shift.{Shift}
use Rattle.ax_arm.specs.declared.instructions.Shift.TheVariants as shift
use Rattle.ax_arm.specs.declared.instructions.Size.{Size}
use Rattle.ax_arm.specs.declared.instructions.Size.TheVariants as sizes

abbrev pub alu_text : Alu → List ℕ
alu_text alu.Add = codes "add"
alu_text alu.Sub = codes "sub"
alu_text alu.And = codes "and"
alu_text alu.Orr = codes "orr"
alu_text alu.Eor = codes "eor"
alu_text alu.Mul = codes "mul"

abbrev pub shift_text : Shift → List ℕ
shift_text shift.Lsl = codes "lsl"
shift_text shift.Lsr = codes "lsr"
shift_text shift.Asr = codes "asr"

abbrev pub extension_text : Extension → List ℕ
extension_text extension.Uxtb = codes "uxtb"
extension_text extension.Uxth = codes "uxth"
extension_text extension.Sxtb = codes "sxtb"
extension_text extension.Sxth = codes "sxth"
extension_text extension.Sxtw = codes "sxtw"

abbrev pub condition_text : Condition → List ℕ
condition_text conditions.Eq = codes "eq"
condition_text conditions.Ne = codes "ne"
condition_text conditions.Lo = codes "lo"
condition_text conditions.Hs = codes "hs"
condition_text conditions.Ls = codes "ls"
condition_text conditions.Hi = codes "hi"
condition_text conditions.Lt = codes "lt"
condition_text conditions.Ge = codes "ge"
condition_text conditions.Le = codes "le"
condition_text conditions.Gt = codes "gt"

-- the letter of an access of fewer bytes than a register has
abbrev pub size_text : Size → List ℕ
size_text sizes.Byte = codes "b"
size_text sizes.Half = codes "h"
size_text sizes.Word = []
size_text sizes.Double = []

abbrev pub ending_text : Ending → List ℕ
ending_text endings.Plain = []
ending_text endings.Acquire = codes "a"
ending_text endings.Release = codes "l"
ending_text endings.AcquireRelease = codes "al"

abbrev pub lse_text : Lse → List ℕ
lse_text lse.Swp = codes "swp"
lse_text lse.Ldadd = codes "ldadd"
lse_text lse.Ldclr = codes "ldclr"
lse_text lse.Ldset = codes "ldset"
lse_text lse.Ldeor = codes "ldeor"
lse_text lse.Ldsmax = codes "ldsmax"
lse_text lse.Ldsmin = codes "ldsmin"
lse_text lse.Ldumax = codes "ldumax"
lse_text lse.Ldumin = codes "ldumin"

abbrev pub barrier_text : Barrier → List ℕ
barrier_text barriers.Ish = codes "ish"
barrier_text barriers.Ishld = codes "ishld"
