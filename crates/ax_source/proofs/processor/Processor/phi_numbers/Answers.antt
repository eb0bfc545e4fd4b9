use Rattle.std.proofs.Common.{sym, arith}
use Rattle.ax_source.specs.ProcessorState.{state_of}
use Rattle.ax_source.proofs.SetTogether.{phis_room}
use Rattle.ax_source.proofs.processor.Processor.phi_numbers.Goals as goal

pub push-requires : goal.push-requires
push-requires c =
    let l = phis_room c.args.self.now.block (state_of c.args.self.now).values c.loop-inst.numbers.items c.args.insts.now c.loop-inst.inst-index c.inst-item.result c.in-Some.number c.loop-inst.invariant c.requires.few c.loop-inst-test.true c.inst-item.is (sym c.in-Some.ensures) in
    (omega arith, omega arith)
