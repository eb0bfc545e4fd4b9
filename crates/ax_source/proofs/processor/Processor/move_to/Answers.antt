use Rattle.std.proofs.Common.{◌≡◌, length, ap, subst, arith}
use Rattle.ax_source_run.specs.SourcePointers.{blocks_of}
use Rattle.ax_source.specs.ProcessorState.{ProcessorState, IsSound, state_of}
use Rattle.ax_source.proofs.Blocks.{fits}
use Rattle.ax_source.proofs.processor.Processor.move_to.Goals as goal

pub set_all-requires-clause-within : goal.set_all-requires-clause-within
set_all-requires-clause-within c =
    let v = c.args.self.now in
    let sound = subst IsSound c.self.view_is c.self.invariant.1 in
    let l = fits (blocks_of v.program.source v.function) c.args.b c.start-start.result v.block (state_of v).values c.args.numbers.now c.start-start.ensures c.requires in
    let e = sound.results in
    let f : length c.self.inside.results ≡ length v.results = ap (λ (p : ProcessorState). length p.results) c.self.view_is in
    omega arith

pub set_all-requires-clause-small : goal.set_all-requires-clause-small
set_all-requires-clause-small c =
    let v = c.args.self.now in
    let sound = subst IsSound c.self.view_is c.self.invariant.1 in
    let l = fits (blocks_of v.program.source v.function) c.args.b c.start-start.result v.block (state_of v).values c.args.numbers.now c.start-start.ensures c.requires in
    let few = sound.runnable.few v.function in
    omega arith
