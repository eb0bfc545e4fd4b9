use Rattle.std.proofs.Common.{subst}
use Rattle.ax_source.specs.ProcessorState.{IsSound}
use Rattle.ax_source.proofs.Places.{found}
use Rattle.ax_source.proofs.processor.Processor.next.Goals as goal

pub returns-in-Running-clause-found : goal.returns-in-Running-clause-found
returns-in-Running-clause-found c = found c.args.self.now c.here.result (subst IsSound c.self.view_is c.self.invariant.1) c.here.ensures
