use Rattle.ax_emit.proofs.Composed.{label_line}
use Rattle.ax_emit.proofs.laws.label_line_follows.Goals as goal

pub returns : goal.returns
returns g c = λ case most line is. label_line g.I.Isa.kind (g.M.MiddleProgram.program case) most line is
