use Rattle.std.proofs.Common.{List, [], length, map, replicate, ap, ◌∙◌, sym, subst}
use Rattle.std.specs.List.{flat_map}
use Rattle.std.proofs.lemmas.List.{length-map}
use Rattle.ax_module.specs.declared.module.Block.{Block}
use Rattle.ax_module.specs.declared.module.Module.{Module}
use Rattle.ax_source_run.specs.SourcePointers.{blocks_of, insts_of}
use Rattle.ax_cells.specs.declared.value.Value.TheVariants as value
use Rattle.ax_source.specs.Beginnings.{begun}
use Rattle.ax_cells.specs.Memories.{starts_from, zeros_of}
use Rattle.ax_cells.specs.PendingState.{counts_for}
use Rattle.ax_source.specs.ProcessorState.{IsSound}
use Rattle.ax_source.proofs.Begins.{begun_sound}
use Rattle.ax_source.proofs.processor.Processor.begin.Goals as goal

pub invariant_of-result : goal.invariant_of-result
invariant_of-result c =
    let program = c.args.program.now in
    let blocks = c.blocks_of-blocks.ensures ∙ ap (λ (m : Module). blocks_of m c.args.function) c.module-source.ensures in
    let arrays = c.of.ensures ∙ c.in_ok-arrays.ensures ∙ ap (λ (bs : List Block). map zeros_of (flat_map (λ (block : Block). block.insts) bs)) blocks in
    let count = c.len.ensures ∙ c.in_ok-arrays.arrays.ok.0 ∙ ap length (c.in_ok-arrays.ensures ∙ ap (λ (bs : List Block). map zeros_of (flat_map (λ (block : Block). block.insts) bs)) blocks) ∙ length-map (insts_of program.source c.args.function) zeros_of in
    let globals = c.as_slice.ensures ∙ ap (λ (m : Module). m.globals) c.module-source.ensures in
    let pending = c.in_ok-pending.ensures ∙ (λ d. record { stores = []; room = c.args.room; counts = counts_for c.args.room (globals d) }) in
    let results = c.in_ok-results.ensures ∙ ap (λ n. replicate n (value.Number 0)) count in (
      c.in_ok-starts.ensures ∙ ap (starts_from 0) blocks,
      subst IsSound (λ d. record (begun program c.args.room c.args.function) { results = sym results d; arrays = sym arrays d; waiting = sym pending d }) (begun_sound program c.args.room c.args.function c.requires),
    )
