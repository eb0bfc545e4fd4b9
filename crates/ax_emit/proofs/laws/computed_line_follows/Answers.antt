use Rattle.ax_emit.proofs.Computed.{computed_line}
use Rattle.ax_emit.proofs.laws.computed_line_follows.Goals as goal

pub returns : goal.returns
returns g c = λ case table base line most is to t no_label private few usable room computes. computed_line g.I.Isa.kind (g.M.MiddleProgram.program case) table base line most is to t no_label private few usable room computes
