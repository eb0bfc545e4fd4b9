-- MODULES FOR RV64 WHOSE ATOMIC INSTRUCTIONS HAVE CODE, and their images.
use Rattle.std.specs.Prelude.{◌≡◌, ℕ, ◌+◌, ◌<◌, ◌^◌, Bool, true, ◌&&◌, List, length}
use Rattle.std.specs.List.{list_all}
use Rattle.ax_words.specs.declared.mark.Op.{Op}
use Rattle.ax_words.specs.declared.mark.Op.TheVariants as op
use Rattle.ax_words.specs.declared.order.Order.{Order}
use Rattle.ax_words.specs.declared.width.Width.{Width}
use Rattle.ax_module.specs.declared.inst.Inst.{Inst}
use Rattle.ax_module.specs.declared.inst.Inst.TheVariants as inst
use Rattle.ax_source_run.specs.SourceInstructions.{width_of}
use Rattle.ax_source_run.specs.SourceState.{SourceProgram}
use Rattle.ax_target.specs.declared.target.Target.{Target}
use Rattle.ax_target.specs.Decisions.{decided, is_rv64}
use Rattle.ax_check.specs.Accepted.{IsAccepted}
use Rattle.ax_isa.specs.declared.images.Image.{Image}
use Rattle.ax_agree.specs.Lowers.{Lowers}
use Rattle.ax_rv.specs.declared.instructions.RvInstr.{RvInstr}
use Rattle.ax_rv.specs.Instructions.{rv_kind}
use Rattle.ax_emit.specs.Images.{Drafted}
use Rattle.ax_emit_rv.specs.Code.{Expansion}
use Rattle.ax_llsc.specs.Codes.{Atomic, expansion_of, is_coded_way}
use Rattle.ax_selected.specs.Direct.{needs_no_routine}
use Rattle.ax_image_rv.specs.Image.{AreExpanded, rv_draft, rv_image}

-- ---- modules
-- an instruction for which the decision table has a way with code
unfoldable pub is_coded : Target → Inst → Bool
is_coded target (inst.LoadAtomic ty a order align) = is_coded_way (decided target op.Load (width_of ty) align)
is_coded target (inst.StoreAtomic ty v a order align) = is_coded_way (decided target op.Store (width_of ty) align)
is_coded target (inst.Cmpxchg weak a ty v new_ty w success failure align) = is_coded_way (decided target op.Cmpxchg (width_of ty) align)
is_coded target (inst.Rmw o a ty v order align) = is_coded_way (decided target (op.Rmw o) (width_of ty) align)
is_coded target _ = true

-- so is each instruction of a module
abbrev pub is_direct_module : SourceProgram → Bool
is_direct_module program = list_all (λ f. list_all (λ b. list_all (is_coded program.target) b.insts) f.blocks) program.source.functions

-- ---- their code
abbrev pub direct_expansions : Target → Op → Width → Order → Bool → Expansion
direct_expansions target o width order weak = expansion_of target (Atomic o width order weak)

-- so many idle steps in a row at most
abbrev pub direct_steps : ℕ
direct_steps = 48

-- EACH ACCESS AND EACH ATOMIC OPERATION of such a module has an expansion
abbrev pub DirectModuleIsExpanded : SourceProgram → Type 0
DirectModuleIsExpanded program = is_rv64 program.target ≡ true → IsAccepted program → is_direct_module program ≡ true → AreExpanded program (direct_expansions program.target) direct_steps

abbrev pub DirectModulesAreExpanded : Type 0
DirectModulesAreExpanded = (program : SourceProgram) → DirectModuleIsExpanded program

-- such a module that calls no routine
abbrev pub is_built : SourceProgram → Bool
is_built program = is_rv64 program.target && needs_no_routine program && is_direct_module program

abbrev pub direct_draft : SourceProgram → List (Drafted RvInstr)
direct_draft program = rv_draft program (direct_expansions program.target)

abbrev pub direct_image : SourceProgram → Image RvInstr
direct_image program = rv_image program (direct_expansions program.target)

-- AND SO ITS IMAGE LOWERS IT
abbrev pub DirectImageLowers : SourceProgram → Type 0
DirectImageLowers program = is_built program ≡ true → IsAccepted program → length (direct_draft program) + 1 < 2 ^ 32 → Lowers rv_kind (direct_image program) program

abbrev pub DirectImagesLower : Type 0
DirectImagesLower = (program : SourceProgram) → DirectImageLowers program
