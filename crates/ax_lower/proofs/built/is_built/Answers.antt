use Rattle.std.proofs.Common.{◌≡◌, ap, ◌∙◌, refl}
use Rattle.ax_target.specs.Decisions.{is_rv64}
use Rattle.ax_direct_rv.specs.Direct.{is_direct_module}
use Rattle.ax_lower.specs.declared.built.Asked.TheVariants.{CodedWay, NoRoutine}
use Rattle.ax_lower.proofs.Asking.{asked, built_is, last, refused}
use Rattle.ax_lower.proofs.built.is_built.Goals as goal

pub returns-then-not-meets_in_functions : goal.returns-then-not-meets_in_functions
returns-then-not-meets_in_functions c =
    let p = c.args.a.now in
    let those : c.as_slice-functions.result.now ≡ p.source.functions = c.as_slice-functions.ensures ∙ ap (λ m. m.functions) c.module.ensures in
    let direct = asked p NoRoutine c.target-t.result c.as_slice-functions.result.now c.meets_in_functions.result c.meets_in_functions.ensures c.target-t.ensures those in
    refused c.is_rv64.result c.meets_in_functions.result (is_direct_module p) c.if-not-meets_in_functions.true
    ∙ built_is p c.is_rv64.result c.meets_in_functions.result (is_direct_module p) (c.is_rv64.ensures ∙ ap is_rv64 c.target-t.ensures) direct refl

pub returns : goal.returns
returns c =
    let p = c.args.a.now in
    let those : c.as_slice-functions.result.now ≡ p.source.functions = c.as_slice-functions.ensures ∙ ap (λ m. m.functions) c.module.ensures in
    let direct = asked p NoRoutine c.target-t.result c.as_slice-functions.result.now c.meets_in_functions.result c.meets_in_functions.ensures c.target-t.ensures those in
    let coded = asked p CodedWay c.target-t.result c.as_slice-functions.result.now c.meets_in_functions-2.result c.meets_in_functions-2.ensures c.target-t.ensures those in
    last c.is_rv64.result c.meets_in_functions.result c.meets_in_functions-2.result c.if-not-is_rv64.false c.if-not-meets_in_functions.false
    ∙ built_is p c.is_rv64.result c.meets_in_functions.result c.meets_in_functions-2.result (c.is_rv64.ensures ∙ ap is_rv64 c.target-t.ensures) direct coded
