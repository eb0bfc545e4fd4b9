use Rattle.std.proofs.Common.{ap, sym, ◌∙◌, subst}
use Rattle.ax_module.specs.declared.module.Module.{Module}
use Rattle.ax_selected.specs.Formed.{IsFormed, LinesAreSmall}
use Rattle.ax_selected.specs.InStep.{GoesOn, RunsInStep, StandsAtSites}
use Rattle.ax_selected.specs.Operations.{AccessesAreAtSites, OperationsAreAtSites}
use Rattle.ax_select.proofs.Selects.{selects}
use Rattle.ax_select.proofs.selection.select.Goals as goal

pub returns-clause-code : goal.returns-clause-code
returns-clause-code c = selects c.args.a.now _ _ _ _ _ c.in_ok-globals.ensures c.new-code.ensures.globals c.new-code.ensures.lines (c.as_slice-functions.ensures ∙ ap (λ (m : Module). m.functions) c.module-m.ensures) c.in_ok-push_functions.ensures c.finish.ensures

pub returns-clause-step : goal.returns-clause-step
returns-clause-step c =
    let is = selects c.args.a.now _ _ _ _ _ c.in_ok-globals.ensures c.new-code.ensures.globals c.new-code.ensures.lines (c.as_slice-functions.ensures ∙ ap (λ (m : Module). m.functions) c.module-m.ensures) c.in_ok-push_functions.ensures c.finish.ensures in
    subst (RunsInStep c.args.a.now) (sym is) (c.selected_code_runs_in_step.ensures.step c.args.a.now c.is_without_faults.ensures)

pub returns-clause-sites : goal.returns-clause-sites
returns-clause-sites c =
    let is = selects c.args.a.now _ _ _ _ _ c.in_ok-globals.ensures c.new-code.ensures.globals c.new-code.ensures.lines (c.as_slice-functions.ensures ∙ ap (λ (m : Module). m.functions) c.module-m.ensures) c.in_ok-push_functions.ensures c.finish.ensures in
    subst (StandsAtSites c.args.a.now) (sym is) (c.selected_code_runs_in_step.ensures.sites c.args.a.now c.is_without_faults.ensures)

pub returns-clause-operations : goal.returns-clause-operations
returns-clause-operations c =
    let is = selects c.args.a.now _ _ _ _ _ c.in_ok-globals.ensures c.new-code.ensures.globals c.new-code.ensures.lines (c.as_slice-functions.ensures ∙ ap (λ (m : Module). m.functions) c.module-m.ensures) c.in_ok-push_functions.ensures c.finish.ensures in
    subst (OperationsAreAtSites c.args.a.now) (sym is) (c.selected_operations_are_at_sites.ensures c.args.a.now)

pub returns-clause-accesses : goal.returns-clause-accesses
returns-clause-accesses c =
    let is = selects c.args.a.now _ _ _ _ _ c.in_ok-globals.ensures c.new-code.ensures.globals c.new-code.ensures.lines (c.as_slice-functions.ensures ∙ ap (λ (m : Module). m.functions) c.module-m.ensures) c.in_ok-push_functions.ensures c.finish.ensures in
    subst (AccessesAreAtSites c.args.a.now) (sym is) (c.selected_accesses_are_at_sites.ensures c.args.a.now)

pub returns-clause-formed : goal.returns-clause-formed
returns-clause-formed c =
    let is = selects c.args.a.now _ _ _ _ _ c.in_ok-globals.ensures c.new-code.ensures.globals c.new-code.ensures.lines (c.as_slice-functions.ensures ∙ ap (λ (m : Module). m.functions) c.module-m.ensures) c.in_ok-push_functions.ensures c.finish.ensures in
    subst (IsFormed c.args.a.now) (sym is) (c.selected_code_is_formed.ensures c.args.a.now c.is_without_faults.ensures)

pub returns-clause-goes_on : goal.returns-clause-goes_on
returns-clause-goes_on c =
    let is = selects c.args.a.now _ _ _ _ _ c.in_ok-globals.ensures c.new-code.ensures.globals c.new-code.ensures.lines (c.as_slice-functions.ensures ∙ ap (λ (m : Module). m.functions) c.module-m.ensures) c.in_ok-push_functions.ensures c.finish.ensures in
    subst (GoesOn c.args.a.now) (sym is) (c.selected_code_runs_in_step.ensures.goes_on c.args.a.now c.is_without_faults.ensures)

pub returns-clause-small : goal.returns-clause-small
returns-clause-small c =
    let is = selects c.args.a.now _ _ _ _ _ c.in_ok-globals.ensures c.new-code.ensures.globals c.new-code.ensures.lines (c.as_slice-functions.ensures ∙ ap (λ (m : Module). m.functions) c.module-m.ensures) c.in_ok-push_functions.ensures c.finish.ensures in
    subst LinesAreSmall (sym is) (c.selected_lines_are_small.ensures c.args.a.now c.is_without_faults.ensures)
