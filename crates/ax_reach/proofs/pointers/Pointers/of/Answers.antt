use Rattle.std.proofs.Common.{◌≡◌, ◌≤◌, List, Some, sym, ap, ◌∙◌, subst, slice_get}
use Rattle.ax_module.specs.declared.module.Module.{Module}
use Rattle.ax_rules.specs.declared.facts.Outcome.{Outcome}
use Rattle.ax_rules.specs.declared.facts.FunctionScope.{FunctionScope}
use Rattle.ax_rules.specs.Facts.{scope_of}
use Rattle.ax_reach.specs.Frames.{frame_bytes, frame_of}
use Rattle.ax_reach.proofs.Bounds.{are_of, frame_within}
use Rattle.ax_reach.proofs.pointers.Pointers.of.Goals as goal

pub of-requires-2 : goal.of-requires-2
of-requires-2 c =
    let program = c.args.program.now in
    let f = c.function_of.result.now in
    let at : slice_get program.source.functions c.args.function ≡ Some f = ap (λ (m : Module). slice_get m.functions c.args.function) (sym c.module-source.ensures) ∙ c.function_of.ensures in
    let scope = c.in_ok-scope.ensures ∙ ap (λ (m : Module). scope_of m f) c.module-source.ensures in
    subst (λ (os : List Outcome). frame_bytes os ≤ 32768) (sym (c.as_slice.ensures ∙ ap (λ (s : FunctionScope). s.outcomes) scope))
    (frame_within program c.is_without_faults.ensures c.args.function f at c.accepted_functions_are_within_limits.ensures.heads)

pub invariant_of-result : goal.invariant_of-result
invariant_of-result c =
    let program = c.args.program.now in
    let f = c.function_of.result.now in
    let laws = c.accepted_functions_are_within_limits.ensures in
    let at : slice_get program.source.functions c.args.function ≡ Some f = ap (λ (m : Module). slice_get m.functions c.args.function) (sym c.module-source.ensures) ∙ c.function_of.ensures in
    let scope = c.in_ok-scope.ensures ∙ ap (λ (m : Module). scope_of m f) c.module-source.ensures in
    let frame = c.in_ok-frame.ensures ∙ ap frame_of c.as_slice.ensures in
    are_of program c.is_without_faults.ensures c.args.function f at laws.heads c.accepted_instructions_are_sound.ensures laws.few c.accepted_can_be_laid_out.ensures c.in_ok-scope.scope c.in_ok-frame.frame c.requires scope frame
