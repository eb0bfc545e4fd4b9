use Rattle.ax_run.proofs.Plans.{running_is, running_not}
use Rattle.ax_run.proofs.Telling.{pass_tells, step_tells}
use Rattle.ax_run.proofs.machine.Machine.step.Goals as goal

pub returns-then-is_running-clause-tells : goal.returns-then-is_running-clause-tells
returns-then-is_running-clause-tells g c =
    λ start told. step_tells g.I.Isa.kind c.args.image.now start c.args.self.now c.args.p c.requires.processor told c.advance.new.self c.make_ready.new.self c.make_ready.ensures c.advance.ensures (running_is _ c.if-is_running.ensures)

pub returns-else-is_running-clause-tells : goal.returns-else-is_running-clause-tells
returns-else-is_running-clause-tells g c =
    λ start told. pass_tells g.I.Isa.kind c.args.image.now start c.args.self.now c.args.p c.requires.processor told c.pass.new.self (running_not _ c.if-is_running.ensures) c.pass.ensures
