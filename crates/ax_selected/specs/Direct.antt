-- Modules whose atomic instructions and calls need no routine.
pub use Rattle.ax_mid.specs.WellFormed.{is_direct_way}
use Rattle.std.specs.Prelude.{Bool, true}
use Rattle.std.specs.List.{list_all}
use Rattle.ax_module.specs.declared.inst.Inst.{Inst}
use Rattle.ax_module.specs.declared.inst.Inst.TheVariants as inst
use Rattle.ax_source_run.specs.SourceInstructions.{is_out, width_of}
use Rattle.ax_source_run.specs.SourceState.{SourceProgram}
use Rattle.ax_target.specs.declared.target.Target.{Target}
use Rattle.ax_target.specs.Decisions.{decided}
use Rattle.ax_words.specs.declared.mark.Op.TheVariants as op

-- an instruction that calls no routine
unfoldable pub is_direct : Target → Inst → Bool
is_direct target (inst.LoadAtomic ty a order align) = is_direct_way (decided target op.Load (width_of ty) align)
is_direct target (inst.StoreAtomic ty v a order align) = is_direct_way (decided target op.Store (width_of ty) align)
is_direct target (inst.Cmpxchg weak a ty v new_ty w success failure align) = is_direct_way (decided target op.Cmpxchg (width_of ty) align)
is_direct target (inst.Rmw o a ty v order align) = is_direct_way (decided target (op.Rmw o) (width_of ty) align)
is_direct target (inst.Call result name args) = is_out name
is_direct target _ = true

-- no instruction of a module calls a routine
abbrev pub needs_no_routine : SourceProgram → Bool
needs_no_routine program = list_all (λ f. list_all (λ b. list_all (is_direct program.target) b.insts) f.blocks) program.source.functions
