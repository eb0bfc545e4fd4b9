use Rattle.ax_emit.proofs.Lines.{ended_line}
use Rattle.ax_emit.proofs.laws.ended_line_follows.Goals as goal

pub returns : goal.returns
returns g c = λ case table base line is acts most no_label low ends. ended_line g.I.Isa.kind (g.M.MiddleProgram.program case) table base line is acts most low ends no_label
