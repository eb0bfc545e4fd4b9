use Rattle.ax_run.proofs.Telling.{drain_tells}
use Rattle.ax_run.proofs.machine.Machine.drain.Goals as goal

pub returns-clause-tells : goal.returns-clause-tells
returns-clause-tells g c =
    λ start told. drain_tells g.I.Isa.kind c.args.image.now start c.args.self.now c.args.p c.requires.processor told c.pass.new.self c.send_first.new.self c.send_first.ensures c.pass.ensures
