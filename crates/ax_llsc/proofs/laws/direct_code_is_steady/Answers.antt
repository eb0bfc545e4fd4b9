use Rattle.ax_llsc.proofs.Idle.{steady}
use Rattle.ax_llsc.proofs.laws.direct_code_is_steady.Goals as goal

pub returns : goal.returns
returns c = λ target o width order weak start. steady target o width order weak start
