use Rattle.ax_emit.proofs.Composed.{follows}
use Rattle.ax_emit.proofs.laws.emitted_code_follows.Goals as goal

pub returns : goal.returns
returns g c = λ case size_of code_of most all_code lib words counts public few. follows g.I.Isa.kind (g.M.MiddleProgram.program case) size_of code_of most all_code lib words counts public few
