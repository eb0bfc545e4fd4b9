use Rattle.std.proofs.Common.{IfOk, length, sym, subst}
use Rattle.ax_agree.specs.Sound.{HasFunctions}
use Rattle.ax_lowered.specs.declared.lowered.Code.{Code}
use Rattle.ax_lowered.specs.Code.{image_of, kind_of}
use Rattle.ax_run.specs.Start.{Begun}
use Rattle.ax_run.proofs.start.start.Goals as goal

pub start_image-requires-clause-functions : goal.start_image-requires-clause-functions
start_image-requires-clause-functions c = subst (λ (code : Code). HasFunctions (length c.args.program.now.source.functions) (image_of code)) c.in-X86.is c.requires.functions

pub start_image-requires-in-Arm-clause-functions : goal.start_image-requires-in-Arm-clause-functions
start_image-requires-in-Arm-clause-functions c = subst (λ (code : Code). HasFunctions (length c.args.program.now.source.functions) (image_of code)) c.in-Arm.is c.requires.functions

pub start_image-requires-in-Rv-clause-functions : goal.start_image-requires-in-Rv-clause-functions
start_image-requires-in-Rv-clause-functions c = subst (λ (code : Code). HasFunctions (length c.args.program.now.source.functions) (image_of code)) c.in-Rv.is c.requires.functions

pub returns-in-X86 : goal.returns-in-X86
returns-in-X86 c = subst (λ (code : Code). IfOk c.start_image.result (Begun (kind_of code) (image_of code) c.args.program.now c.args.entries.now c.args.events)) (sym c.in-X86.is) c.start_image.ensures

pub returns-in-Arm : goal.returns-in-Arm
returns-in-Arm c = subst (λ (code : Code). IfOk c.start_image-in-Arm.result (Begun (kind_of code) (image_of code) c.args.program.now c.args.entries.now c.args.events)) (sym c.in-Arm.is) c.start_image-in-Arm.ensures

pub returns-in-Rv : goal.returns-in-Rv
returns-in-Rv c = subst (λ (code : Code). IfOk c.start_image-in-Rv.result (Begun (kind_of code) (image_of code) c.args.program.now c.args.entries.now c.args.events)) (sym c.in-Rv.is) c.start_image-in-Rv.ensures
