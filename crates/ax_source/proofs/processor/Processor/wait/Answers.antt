use Rattle.std.proofs.Common.{◌<◌, ap, subst, sym, arith}
use Rattle.ax_source.specs.ProcessorState.{ProcessorState}
use Rattle.ax_cells.specs.Shapes.{IsCell, global_shapes}
use Rattle.ax_cells.proofs.NewestStores.{cell_counted}
use Rattle.ax_source.proofs.processor.Processor.wait.Goals as goal

pub push-requires-clause-element : goal.push-requires-clause-element
push-requires-clause-element c =
    let store = c.args.store in
    let pending = c.self.inside.pending in
    let cell = subst (λ (p : ProcessorState). IsCell (global_shapes p.program.source) store.global store.element) (sym c.self.view_is) c.requires.cell in
    let room : 0 < pending.room = omega (arith, ap (λ (p : ProcessorState). p.waiting.room) c.self.view_is, c.requires.room) in
    cell_counted c.self.inside.program.now.source.globals pending.counts store.global store.element cell (c.self.invariant.1.counts room)
