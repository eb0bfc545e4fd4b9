use Rattle.ax_cas.proofs.Coded.{steady}
use Rattle.ax_cas.proofs.laws.x86_code_is_steady.Goals as goal

pub returns : goal.returns
returns c = λ o width order weak start. steady o width order weak start
