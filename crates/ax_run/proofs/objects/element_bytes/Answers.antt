use Rattle.std.proofs.Common.{sym, ap, ◌∙◌, arith}
use Rattle.ax_store.specs.Bytes.{is_width}
use Rattle.ax_run.proofs.Elements.{bytes_few, element_width, laid_out, that}
use Rattle.ax_run.proofs.objects.element_bytes.Goals as goal

pub overflow_cast-result : goal.overflow_cast-result
overflow_cast-result c =
    let at = laid_out c.args.program.now c.is_without_faults.ensures c.accepted_can_be_laid_out.ensures c.objects_are_apart.ensures.globals c.args.g c.args.global.now c.requires in
    let few = bytes_few c.args.global.now.elem at.element in
    omega (arith, few, c.bytes.ensures)

pub returns-clause-bytes : goal.returns-clause-bytes
returns-clause-bytes c =
    c.bytes.ensures ∙ sym (that c.args.program.now c.is_without_faults.ensures c.accepted_can_be_laid_out.ensures c.objects_are_apart.ensures.globals c.args.g c.args.global.now c.requires).bytes

pub returns-clause-width : goal.returns-clause-width
returns-clause-width c =
    let at = laid_out c.args.program.now c.is_without_faults.ensures c.accepted_can_be_laid_out.ensures c.objects_are_apart.ensures.globals c.args.g c.args.global.now c.requires in
    ap is_width c.bytes.ensures ∙ element_width c.args.global.now.elem at.element
