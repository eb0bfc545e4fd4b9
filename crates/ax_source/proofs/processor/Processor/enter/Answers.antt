use Rattle.std.proofs.Common.{◌≤◌, IsTrue, List, ap, sym, ◌∙◌, subst}
use Rattle.std.specs.List.{list_all}
use Rattle.ax_module.specs.declared.inst.Inst.{Inst}
use Rattle.ax_module.specs.declared.module.Block.{Block}
use Rattle.ax_source_run.specs.SourceInstructions.{insts_of_block, phi_count}
use Rattle.ax_source.specs.Runnable.{is_narrow_inst}
use Rattle.ax_source.proofs.Narrow.{block_narrow}
use Rattle.ax_source.proofs.processor.Processor.enter.Goals as goal

pub phi_numbers-numbers-requires-clause-narrow : goal.phi_numbers-numbers-requires-clause-narrow
phi_numbers-numbers-requires-clause-narrow c =
    let v = c.args.self.now in
    let e = c.insts_of_block.ensures ∙ ap (λ (bs : List Block). insts_of_block bs c.args.b) c.blocks-2.ensures.blocks in
    subst (λ (is : List Inst). IsTrue (list_all is_narrow_inst is)) (sym e) (block_narrow v.program.source c.blocks-2.ensures.sound.runnable.narrow v.function c.args.b)

pub phi_numbers-numbers-requires-clause-few : goal.phi_numbers-numbers-requires-clause-few
phi_numbers-numbers-requires-clause-few c =
    let v = c.args.self.now in
    let e = c.insts_of_block.ensures ∙ ap (λ (bs : List Block). insts_of_block bs c.args.b) c.blocks-2.ensures.blocks in
    subst (λ (is : List Inst). phi_count is ≤ 64) (sym e) (c.blocks-2.ensures.sound.runnable.phis v.function c.args.b)
