use Rattle.std.proofs.Common.{◌≡◌, drop}
use Rattle.ax_source_run.specs.SourceInstructions.{incoming}
use Rattle.ax_source.specs.ProcessorState.{state_of}
use Rattle.ax_source.proofs.processor.Processor.incoming.Given as goal

abbrev pub invariant-loop-entry : goal.invariant-loop-entry
invariant-loop-entry l = incoming l.ty l.self.block (drop l.entry-index l.entries) (state_of l.self).values ≡ incoming l.ty l.self.block l.entries (state_of l.self).values
