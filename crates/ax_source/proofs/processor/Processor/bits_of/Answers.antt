use Rattle.std.proofs.Common.{◌≤◌, ℕ, sym, ap, ◌∙◌, subst}
use Rattle.ax_source_run.specs.SourceValues.{type_bits}
use Rattle.ax_cells.specs.Values.{object_of}
use Rattle.ax_source.proofs.Narrow.{elem_bits}
use Rattle.ax_source.proofs.processor.Processor.bits_of.Goals as goal

pub returns-clause-most : goal.returns-clause-most
returns-clause-most c =
    let l = elem_bits c.args.self.now.program.source c.elem_of.ensures.sound.runnable.narrow c.args.self.now.function (object_of c.args.object) in
    let P : ℕ → Type 0 = λ n. n ≤ 128 in
    subst P (sym (c.bits.ensures ∙ ap type_bits c.elem_of.ensures.value)) l
