use Rattle.std.proofs.Common.{◌≡◌, ◌+◌, ◌∙◌, ◌++◌, List, None, ap, length, drop, sym, arith}
use Rattle.ax_scope.specs.NameTable.{look}
use Rattle.ax_lines.specs.declared.statement.Line.{Line}
use Rattle.ax_scope.specs.Answers.{first_fault}
use Rattle.ax_scope.specs.Faults.{faults_from}
use Rattle.ax_scope.specs.Module.{functions_in}
use Rattle.ax_scope.proofs.Counts.{few_left, few_first}
use Rattle.ax_scope.proofs.Whole.{begins, more, errs, front_is, tail}
use Rattle.ax_scope.proofs.module.functions_in.Goals as goal

pub returns-in_err-inside-clause-found : goal.returns-in_err-inside-clause-found
returns-in_err-inside-clause-found c =
    let entered = c.in_ok-params.ensures {u = tt} in
    errs c.in_err-inside.field-0.0 _ _ _ ((c.in_err-inside.ensures {u = tt}) c.enter_at.new.names)
    (begins c.args.text.now (look c.args.globals.now) c.loop-rest.names c.enter_at.new.names c.loop-rest.rest.now c.line-item.result c.loop-rest.number _ c.in-len1-up.len_at_least c.line-item.is c.loop-rest.invariant.found entered.0 entered.1)
    c.from_residual-in_err-inside.ensures.1

pub loop-rest-preserved : goal.loop-rest-preserved
loop-rest-preserved c =
    let entered = c.in_ok-params.ensures {u = tt} in
    let takes = c.in_ok-inside.ensures {u = tt} in
    let back : c.split_at.result.1.now ≡ drop c.in_ok-inside.inside (tail c.loop-rest.rest.now) = c.split_at.ensures.back in
    let behind = ap length (front_is c.loop-rest.rest.now c.line-item.result c.in-len1-up.len_at_least c.line-item.is) in
    record {
      built = more c.args.text.now (look c.args.globals.now) c.loop-rest.functions.items c.function_in.new.functions.items c.loop-rest.rest.now c.line-item.result c.split_at.result.1.now _ c.in-len1-up.len_at_least c.line-item.is c.loop-rest.invariant.built
          (ap (λ (ls : List Line). c.function_in.new.functions.items ++ functions_in c.args.text.now (look c.args.globals.now) ls) back ∙ takes.1);
      found = ap (λ (ls : List Line). first_fault (c.loop-rest.number + 1 + c.in_ok-inside.inside) (faults_from c.args.text.now (look c.args.globals.now) c.enter_at.new.names None ls)) back
          ∙ sym (takes.2 c.enter_at.new.names)
          ∙ begins c.args.text.now (look c.args.globals.now) c.loop-rest.names c.enter_at.new.names c.loop-rest.rest.now c.line-item.result c.loop-rest.number _ c.in-len1-up.len_at_least c.line-item.is c.loop-rest.invariant.found entered.0 entered.1;
      few = few_left c.loop-rest.rest.now c.in_ok-inside.inside c.split_at.result.1.now back c.loop-rest.invariant.few;
      counts = omega (arith, c.split_at.ensures.back_len, behind);
    }

pub function_in-requires-clause-few_params : goal.function_in-requires-clause-few_params
function_in-requires-clause-few_params c = few_first c.loop-rest.rest.now c.line-item.result c.in-len1-up.len_at_least c.line-item.is c.loop-rest.invariant.few
