use Rattle.ax_source.proofs.Inside.{performable}
use Rattle.ax_source.proofs.processor.Processor.work.Goals as goal

pub perform-requires-clause-elements : goal.perform-requires-clause-elements
perform-requires-clause-elements c =
    performable c.args.self.now c.args.inst.now _ c.in-Some.ensures c.requires.narrow c.requires.inside
