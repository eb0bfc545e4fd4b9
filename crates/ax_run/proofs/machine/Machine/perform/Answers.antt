use Rattle.std.proofs.Common.{sym, subst}
use Rattle.ax_lowered.specs.declared.lowered.Code.{Code}
use Rattle.ax_lowered.specs.Code.{IsInstrOf, image_of, kind_of}
use Rattle.ax_run.specs.Machine.{MayRun, Performed}
use Rattle.ax_run.proofs.machine.Machine.perform.Goals as goal

pub perform_image-requires-clause-runs : goal.perform_image-requires-clause-runs
perform_image-requires-clause-runs c = subst (λ (code : Code). MayRun (kind_of code) (IsInstrOf code) (image_of code) c.args.self.now) c.in-X86.is c.requires.runs

pub perform_image-requires-in-Arm-clause-runs : goal.perform_image-requires-in-Arm-clause-runs
perform_image-requires-in-Arm-clause-runs c = subst (λ (code : Code). MayRun (kind_of code) (IsInstrOf code) (image_of code) c.args.self.now) c.in-Arm.is c.requires.runs

pub perform_image-requires-in-Rv-clause-runs : goal.perform_image-requires-in-Rv-clause-runs
perform_image-requires-in-Rv-clause-runs c = subst (λ (code : Code). MayRun (kind_of code) (IsInstrOf code) (image_of code) c.args.self.now) c.in-Rv.is c.requires.runs

pub returns-in-X86 : goal.returns-in-X86
returns-in-X86 c = subst (λ (code : Code). Performed (kind_of code) (image_of code) c.args.items.now c.args.target c.args.self.now c.perform_image.new.self) (sym c.in-X86.is) c.perform_image.ensures

pub returns-in-Arm : goal.returns-in-Arm
returns-in-Arm c = subst (λ (code : Code). Performed (kind_of code) (image_of code) c.args.items.now c.args.target c.args.self.now c.perform_image-in-Arm.new.self) (sym c.in-Arm.is) c.perform_image-in-Arm.ensures

pub returns-in-Rv : goal.returns-in-Rv
returns-in-Rv c = subst (λ (code : Code). Performed (kind_of code) (image_of code) c.args.items.now c.args.target c.args.self.now c.perform_image-in-Rv.new.self) (sym c.in-Rv.is) c.perform_image-in-Rv.ensures
