-- MODULES FOR X86-64 THAT NEED NO ROUTINE, and their images.
use Rattle.std.specs.Prelude.{◌≡◌, ℕ, ◌+◌, ◌<◌, ◌^◌, Bool, true, ◌&&◌, List, length}
use Rattle.ax_words.specs.declared.mark.Op.{Op}
use Rattle.ax_words.specs.declared.order.Order.{Order}
use Rattle.ax_words.specs.declared.width.Width.{Width}
use Rattle.ax_source_run.specs.SourceState.{SourceProgram}
use Rattle.ax_target.specs.Decisions.{is_x86}
use Rattle.ax_check.specs.Accepted.{IsAccepted}
use Rattle.ax_isa.specs.declared.images.Image.{Image}
use Rattle.ax_agree.specs.Lowers.{Lowers}
use Rattle.ax_x86.specs.declared.instructions.X86Instr.{X86Instr}
use Rattle.ax_x86.specs.Instructions.{x86_kind}
use Rattle.ax_emit.specs.Images.{Drafted}
use Rattle.ax_emit_x86.specs.Code.{Expansion}
use Rattle.ax_cas.specs.Codes.{Atomic, expansion_of}
use Rattle.ax_selected.specs.Direct.{needs_no_routine}
use Rattle.ax_image_x86.specs.Image.{AreExpanded, x86_draft, x86_image}

-- ---- their code
-- every operation that calls no routine has code
abbrev pub direct_expansions : Op → Width → Order → Bool → Expansion
direct_expansions o width order weak = expansion_of (Atomic o width order weak)

-- so many idle steps in a row at most
abbrev pub direct_steps : ℕ
direct_steps = 32

-- such a module
abbrev pub is_built : SourceProgram → Bool
is_built program = is_x86 program.target && needs_no_routine program

-- EACH ACCESS AND EACH ATOMIC OPERATION of it has an expansion
abbrev pub DirectX86ModuleIsExpanded : SourceProgram → Type 0
DirectX86ModuleIsExpanded program = is_built program ≡ true → IsAccepted program → AreExpanded program direct_expansions direct_steps

abbrev pub DirectX86ModulesAreExpanded : Type 0
DirectX86ModulesAreExpanded = (program : SourceProgram) → DirectX86ModuleIsExpanded program

abbrev pub direct_draft : SourceProgram → List (Drafted X86Instr)
direct_draft program = x86_draft program direct_expansions

abbrev pub direct_image : SourceProgram → Image X86Instr
direct_image program = x86_image program direct_expansions

-- AND SO ITS IMAGE LOWERS IT
abbrev pub DirectX86ImageLowers : SourceProgram → Type 0
DirectX86ImageLowers program = is_built program ≡ true → IsAccepted program → length (direct_draft program) + 1 < 2 ^ 32 → Lowers x86_kind (direct_image program) program

abbrev pub DirectX86ImagesLower : Type 0
DirectX86ImagesLower = (program : SourceProgram) → DirectX86ImageLowers program
