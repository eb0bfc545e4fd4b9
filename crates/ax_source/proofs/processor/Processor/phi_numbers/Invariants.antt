use Rattle.std.proofs.Common.{◌≡◌, ◌++◌, drop}
use Rattle.ax_source.specs.Phis.{phi_numbers}
use Rattle.ax_source.specs.ProcessorState.{state_of}
use Rattle.ax_source.proofs.processor.Processor.phi_numbers.Given as goal

abbrev pub invariant-loop-inst : goal.invariant-loop-inst
invariant-loop-inst l =
    l.numbers.items ++ phi_numbers l.self.block (state_of l.self).values (drop l.inst-index l.insts) ≡ phi_numbers l.self.block (state_of l.self).values l.insts
