use Rattle.std.proofs.Common.{◌≡◌, ◌∙◌, List, ap, sym, subst, true}
use Rattle.ax_module.specs.declared.module.Global.{Global}
use Rattle.ax_module.specs.declared.module.Module.{Module}
use Rattle.ax_module.specs.WellFormed.{is_counted}
use Rattle.ax_scope.specs.NameTable.{look}
use Rattle.ax_scope.specs.Module.{globals_in, functions_in, module_of}
use Rattle.ax_scope.proofs.Counts.{module_counted}
use Rattle.ax_scope.proofs.Whole.{fit, faulty, built}
use Rattle.ax_scope.proofs.module.module_of.Goals as goal

pub returns-in_err-functions-clause-fault : goal.returns-in_err-functions-clause-fault
returns-in_err-functions-clause-fault c = faulty c.args.text.now c.args.lines.now c.in_ok-scope.scope (c.in_ok-scope.ensures {u = tt}) c.in_err-functions.field-0.0 c.from_residual-in_err-functions.result (c.in_err-functions.ensures {u = tt}).found c.from_residual-in_err-functions.ensures.1

pub returns-clause-fit : goal.returns-clause-fit
returns-clause-fit c = fit c.args.text.now c.args.lines.now c.in_ok-scope.scope (c.in_ok-scope.ensures {u = tt}) (c.in_ok-functions.ensures {u = tt}).found

pub returns-clause-module : goal.returns-clause-module
returns-clause-module c =
    let globals : c.of.result ≡ globals_in c.args.text.now c.args.lines.now = c.of.ensures ∙ c.in_ok-globals.ensures {u = tt} in
    let functions : c.of-2.result ≡ functions_in c.args.text.now (look c.in_ok-scope.scope) c.args.lines.now = c.of-2.ensures ∙ (c.in_ok-functions.ensures {u = tt}).built in
    ap (λ (gs : List Global). record { globals = gs; functions = c.of-2.result }) globals
    ∙ built c.args.text.now c.args.lines.now c.in_ok-scope.scope (c.in_ok-scope.ensures {u = tt}) c.of-2.result functions

pub returns-clause-counts : goal.returns-clause-counts
returns-clause-counts c =
    let globals : c.of.result ≡ globals_in c.args.text.now c.args.lines.now = c.of.ensures ∙ c.in_ok-globals.ensures {u = tt} in
    let functions : c.of-2.result ≡ functions_in c.args.text.now (look c.in_ok-scope.scope) c.args.lines.now = c.of-2.ensures ∙ (c.in_ok-functions.ensures {u = tt}).built in
    let is : record { globals = c.of.result; functions = c.of-2.result } ≡ module_of c.args.text.now c.args.lines.now = ap (λ (gs : List Global). record { globals = gs; functions = c.of-2.result }) globals
    ∙ built c.args.text.now c.args.lines.now c.in_ok-scope.scope (c.in_ok-scope.ensures {u = tt}) c.of-2.result functions in
    subst (λ (m : Module). is_counted m ≡ true) (sym is) (module_counted c.args.text.now c.args.lines.now c.requires.few c.requires.few_params)
