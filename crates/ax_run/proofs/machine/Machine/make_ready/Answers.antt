use Rattle.ax_run.proofs.Sending.{none_flushes, ready_as_is, ready_flushed}
use Rattle.ax_run.proofs.machine.Machine.make_ready.Goals as goal

pub returns-then-flushes : goal.returns-then-flushes
returns-then-flushes g c = ready_flushed g.I.Isa.kind c.args.image.now c.args.p c.args.self.now c.send_all.new.self c.if-flushes.ensures c.send_all.ensures

pub returns-else-flushes : goal.returns-else-flushes
returns-else-flushes g c = ready_as_is g.I.Isa.kind c.args.image.now c.args.p c.args.self.now (none_flushes g.I.Isa.kind c.args.image.now c.args.p c.args.self.now c.if-flushes.ensures)
