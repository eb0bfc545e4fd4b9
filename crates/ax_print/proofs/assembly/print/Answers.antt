use Rattle.std.proofs.Common.{◌≡◌, ℕ, length, sym, ap, ◌∙◌, subst, IfOk, string_bytes}
use Rattle.ax_lowered.specs.declared.lowered.Code.{Code}
use Rattle.ax_lowered.specs.Code.{image_of}
use Rattle.ax_print.specs.Lowered.{code_text}
use Rattle.ax_print.proofs.assembly.print.Goals as goal

abbrev entries : Code → ℕ
entries code = length (image_of code).entries

abbrev frames : Code → ℕ
frames code = length (image_of code).frames

pub assembly-requires-clause-entries : goal.assembly-requires-clause-entries
assembly-requires-clause-entries c = ap entries (sym c.in-X86.is) ∙ c.requires.entries ∙ ap length (sym c.as_slice-names.ensures)

pub assembly-requires-clause-frames : goal.assembly-requires-clause-frames
assembly-requires-clause-frames c = ap frames (sym c.in-X86.is) ∙ c.requires.frames ∙ ap length (sym c.as_slice-names.ensures)

pub assembly-requires-in-Arm-clause-entries : goal.assembly-requires-in-Arm-clause-entries
assembly-requires-in-Arm-clause-entries c = ap entries (sym c.in-Arm.is) ∙ c.requires.entries ∙ ap length (sym c.as_slice-names.ensures)

pub assembly-requires-in-Arm-clause-frames : goal.assembly-requires-in-Arm-clause-frames
assembly-requires-in-Arm-clause-frames c = ap frames (sym c.in-Arm.is) ∙ c.requires.frames ∙ ap length (sym c.as_slice-names.ensures)

pub assembly-requires-in-Rv-clause-entries : goal.assembly-requires-in-Rv-clause-entries
assembly-requires-in-Rv-clause-entries c = ap entries (sym c.in-Rv.is) ∙ c.requires.entries ∙ ap length (sym c.as_slice-names.ensures)

pub assembly-requires-in-Rv-clause-frames : goal.assembly-requires-in-Rv-clause-frames
assembly-requires-in-Rv-clause-frames c = ap frames (sym c.in-Rv.is) ∙ c.requires.frames ∙ ap length (sym c.as_slice-names.ensures)

pub returns-in-X86 : goal.returns-in-X86
returns-in-X86 c =
    subst (λ code. IfOk c.assembly.result (λ text. string_bytes text ≡ code_text c.args.l.now.target c.args.l.now.names code)) (sym c.in-X86.is) (rw (← c.as_slice-names.ensures) c.assembly.ensures)

pub returns-in-Arm : goal.returns-in-Arm
returns-in-Arm c =
    subst (λ code. IfOk c.assembly-in-Arm.result (λ text. string_bytes text ≡ code_text c.args.l.now.target c.args.l.now.names code)) (sym c.in-Arm.is) (rw (← c.as_slice-names.ensures) c.assembly-in-Arm.ensures)

pub returns-in-Rv : goal.returns-in-Rv
returns-in-Rv c =
    subst (λ code. IfOk c.assembly-in-Rv.result (λ text. string_bytes text ≡ code_text c.args.l.now.target c.args.l.now.names code)) (sym c.in-Rv.is) (rw (← c.as_slice-names.ensures) c.assembly-in-Rv.ensures)
