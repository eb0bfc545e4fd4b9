use Rattle.ax_cas.proofs.Emitted.{expanded}
use Rattle.ax_cas.proofs.laws.x86_code_is_expanded.Goals as goal

pub returns : goal.returns
returns g c = λ case cx16 expansions most o width order weak args results way is many_args many_results enough. expanded (g.M.ProgramOnBytes.program case) cx16 expansions most o width order weak args results way is many_args many_results enough
