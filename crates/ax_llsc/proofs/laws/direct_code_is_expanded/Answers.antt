use Rattle.ax_llsc.proofs.Emitted.{expanded}
use Rattle.ax_llsc.proofs.laws.direct_code_is_expanded.Goals as goal

pub returns : goal.returns
returns g c = λ case zabha zacas expansions most o width order weak args results way is many_args many_results enough.
    expanded c.direct_code_expands.ensures.expands (g.M.ProgramOnBytes.program case) zabha zacas expansions most o width order weak args results way is many_args many_results enough
