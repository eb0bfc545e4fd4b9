use Rattle.ax_emit.proofs.Same.{end_is}
use Rattle.ax_emit.proofs.laws.end_is_behind_code.Goals as goal

pub returns : goal.returns
returns g c = λ size_of code_of lines sized places at n. end_is size_of code_of lines sized places at n
