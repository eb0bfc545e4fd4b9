-- The assembly of a lowered program: that of its image, in the spelling of its instruction set.
use Rattle.std.specs.Prelude.{ℕ, List}
use Rattle.ax_target.specs.declared.target.Target.{Target}
use Rattle.ax_lowered.specs.declared.lowered.Code.{Code}
use Rattle.ax_lowered.specs.declared.lowered.Code.TheVariants.{X86, Arm, Rv}
use Rattle.ax_lowered.specs.Code.{InstrOf, image_of}
use Rattle.ax_x86_text.specs.Spelling as x86
use Rattle.ax_arm_text.specs.Spelling as arm
use Rattle.ax_rv_text.specs.Spelling as rv
use Rattle.ax_print.specs.Assembly.{assembly_text}

-- the spelling of an instruction at a place
abbrev pub spelling_of : (code : Code) → ℕ → InstrOf code → List ℕ
spelling_of (X86 image) = x86.instr_text
spelling_of (Arm image) = arm.instr_text
spelling_of (Rv image) = rv.instr_text

-- THE ASSEMBLY of a code, for a target and with these names of its functions
abbrev pub code_text : Target → List (List ℕ) → Code → List ℕ
code_text target names code = assembly_text (spelling_of code) target names (image_of code)
