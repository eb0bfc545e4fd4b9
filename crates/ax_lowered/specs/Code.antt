-- The image of a program, whatever its instruction set: each definition over images is one of codes by these.
use Rattle.std.specs.Prelude.{Bool, true, false}
use Rattle.ax_isa.specs.declared.images.Image.{Image}
use Rattle.ax_isa.specs.Steps.{Kind}
use Rattle.ax_target.specs.declared.target.Target.{Target}
use Rattle.ax_target.specs.declared.target.Target.TheVariants as targets
use Rattle.ax_x86.specs.declared.instructions.X86Instr.{X86Instr}
use Rattle.ax_x86.specs.Instructions as x86
use Rattle.ax_arm.specs.declared.instructions.ArmInstr.{ArmInstr}
use Rattle.ax_arm.specs.Instructions as arm
use Rattle.ax_rv.specs.declared.instructions.RvInstr.{RvInstr}
use Rattle.ax_rv.specs.Instructions as rv
use Rattle.ax_lowered.specs.declared.lowered.Code.{Code}
use Rattle.ax_lowered.specs.declared.lowered.Code.TheVariants.{X86, Arm, Rv}

-- the instructions of a code
abbrev pub InstrOf : Code → Type 0
InstrOf (X86 image) = X86Instr
InstrOf (Arm image) = ArmInstr
InstrOf (Rv image) = RvInstr

abbrev pub image_of : (code : Code) → Image (InstrOf code)
image_of (X86 image) = image
image_of (Arm image) = image
image_of (Rv image) = image

-- what its instructions do, and which of them have their registers and numbers in their ranges
abbrev pub kind_of : (code : Code) → Kind (InstrOf code)
kind_of (X86 image) = x86.x86_kind
kind_of (Arm image) = arm.arm_kind
kind_of (Rv image) = rv.rv_kind

abbrev pub IsInstrOf : (code : Code) → InstrOf code → Type 0
IsInstrOf (X86 image) = x86.IsInstr
IsInstrOf (Arm image) = arm.IsInstr
IsInstrOf (Rv image) = rv.IsInstr

-- is the instruction set that of a target
abbrev pub is_for : Target → Code → Bool
is_for (targets.X86 cx16) (X86 image) = true
is_for (targets.Arm lse) (Arm image) = true
is_for (targets.Rv zabha zacas) (Rv image) = true
is_for target code = false
