use Rattle.ax_run.proofs.Telling.{drop_tells}
use Rattle.ax_run.proofs.machine.Machine.drop_link.Goals as goal

pub returns-clause-tells : goal.returns-clause-tells
returns-clause-tells g c =
    λ start told. drop_tells g.I.Isa.kind c.args.image.now start c.args.self.now c.args.p c.requires.processor told c.pass.new.self c.drop_reservation.new.self c.drop_reservation.ensures.storage c.drop_reservation.ensures.rest c.pass.ensures
