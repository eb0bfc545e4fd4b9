use Rattle.std.proofs.Common.{◌∙◌, ap, sym, subst, IsTrue, List}
use Rattle.ax_module.specs.declared.operand.Arg.{Arg}
use Rattle.ax_words.specs.Routine.{routine_named}
use Rattle.ax_source.specs.Calls.{routine_has_pointers}
use Rattle.ax_source.specs.Instructions.{any_outside}
use Rattle.ax_source.proofs.Inside.{call_inside, call_pointers}
use Rattle.ax_source.proofs.processor.Processor.result.Goals as goal

pub routine_result-requires-clause-inside : goal.routine_result-requires-clause-inside
routine_result-requires-clause-inside c =
    ap (any_outside c.args.self.now) c.as_slice.ensures ∙ call_inside c.args.self.now c.args.inst.now _ _ _ c.in-Call.is c.requires.inside

pub routine_result-requires-clause-pointers : goal.routine_result-requires-clause-pointers
routine_result-requires-clause-pointers c =
    subst (λ (args : List Arg). IsTrue (routine_has_pointers (routine_named c.in-Call.name) args)) (sym c.as_slice.ensures) (call_pointers c.args.inst.now _ _ _ c.in-Call.is c.requires.narrow)
