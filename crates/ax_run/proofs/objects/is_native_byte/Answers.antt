use Rattle.std.proofs.Common.{◌≤◌, length, sym, ap, ◌∙◌, arith}
use Rattle.ax_module.specs.declared.module.Module.{Module}
use Rattle.ax_run.proofs.Elements.{spans_counted}
use Rattle.ax_run.proofs.Natives.{none_left}
use Rattle.ax_run.proofs.objects.is_native_byte.Goals as goal

pub returns : goal.returns
returns c =
    let program = c.args.program.now in
    let counted = spans_counted program c.is_without_faults.ensures c.accepted_can_be_laid_out.ensures in
    let whole = ap length (c.as_slice-globals.ensures ∙ ap (λ (m : Module). m.globals) c.module.ensures) in
    let past : length program.layout.spans ≤ c.loop-g.g = omega (arith, counted, whole, c.loop-g-test.false, c.loop-g.auto.g-end) in
    sym (none_left program c.args.a c.loop-g.g past) ∙ c.loop-g.invariant
