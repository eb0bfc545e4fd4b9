use Rattle.std.proofs.Common.{◌≡◌, ℕ, ◌<◌, ◌+◌, List, Some, length, drop, sym, ap, subst, arith, slice_get}
use Rattle.ax_module.specs.declared.module.Function.{Function}
use Rattle.ax_selected.specs.Selected.{function_lines, functions_lines}
use Rattle.ax_select.specs.Ready.{IsReadyFunction}
use Rattle.ax_select.proofs.Grown.{grown, item, next}
use Rattle.ax_select.proofs.functions.push_functions.Goals as goal

pub push_function-requires-clause-ready : goal.push_function-requires-clause-ready
push_function-requires-clause-ready c =
    let functions = c.args.functions.now in
    let i = c.loop-function.function-index in
    let x = c.function-item.result in
    let before : i < length functions = omega arith in
    subst (λ (k : ℕ). IsReadyFunction k x.blocks) (sym c.loop-function.invariant.number)
    (c.requires.ready.functions i x (subst (λ (xs : List Function). slice_get xs i ≡ Some x) c.requires.functions (item functions i x before c.function-item.is)))

pub loop-function-preserved : goal.loop-function-preserved
loop-function-preserved c =
    let p = c.args.program.now in
    let functions = c.args.functions.now in
    let i = c.loop-function.function-index in
    let f = c.loop-function.f in
    let x = c.function-item.result in
    let before : i < length functions = omega arith in
    record {
      number = omega (arith, c.loop-function.invariant.number);
      code = grown _ _ _ (function_lines p f x) (functions_lines p f (drop i functions)) (functions_lines p (f + 1) (drop (i + 1) functions)) _ c.loop-function.invariant.code c.in_ok-push_function.ensures (ap (functions_lines p f) (next functions i x before c.function-item.is));
    }
