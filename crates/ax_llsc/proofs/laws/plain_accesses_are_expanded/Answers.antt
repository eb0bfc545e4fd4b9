use Rattle.ax_llsc.proofs.Emitted.{plain_accessed}
use Rattle.ax_llsc.proofs.laws.plain_accesses_are_expanded.Goals as goal

pub returns : goal.returns
returns g c = λ case zabha zacas n size. plain_accessed c.direct_code_expands.ensures.expands (g.M.ProgramOnBytes.program case) zabha zacas n size
