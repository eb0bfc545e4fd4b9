-- The way of an instruction, and what is asked of each instruction of a module that is built.
use Rattle.std.specs.Prelude.{Bool, true, Option, Some, None}
use Rattle.ax_words.specs.declared.mark.Op.TheVariants as op
use Rattle.ax_module.specs.declared.inst.Inst.{Inst}
use Rattle.ax_module.specs.declared.inst.Inst.TheVariants as inst
use Rattle.ax_source_run.specs.SourceInstructions.{is_out, width_of}
use Rattle.ax_target.specs.declared.decision.Way.{Way}
use Rattle.ax_target.specs.declared.target.Target.{Target}
use Rattle.ax_target.specs.Decisions.{decided}
use Rattle.ax_selected.specs.Direct.{is_direct}
use Rattle.ax_direct_rv.specs.Direct.{is_coded}
use Rattle.ax_lower.specs.declared.built.Asked.{Asked}
use Rattle.ax_lower.specs.declared.built.Asked.TheVariants.{CodedWay, NoRoutine}

-- of an atomic instruction, under the decision table
unfoldable pub way_of : Target → Inst → Option Way
way_of target (inst.LoadAtomic ty a order align) = Some (decided target op.Load (width_of ty) align)
way_of target (inst.StoreAtomic ty v a order align) = Some (decided target op.Store (width_of ty) align)
way_of target (inst.Cmpxchg weak a ty v new_ty w success failure align) = Some (decided target op.Cmpxchg (width_of ty) align)
way_of target (inst.Rmw o a ty v order align) = Some (decided target (op.Rmw o) (width_of ty) align)
way_of target _ = None

-- a call of a function that is no routine; other instructions call none
unfoldable pub calls_no_routine : Inst → Bool
calls_no_routine (inst.Call result name args) = is_out name
calls_no_routine _ = true

abbrev pub meets : Asked → Target → Inst → Bool
meets NoRoutine target i = is_direct target i
meets CodedWay target i = is_coded target i
