use Rattle.ax_cas.proofs.Emitted.{plain_accessed}
use Rattle.ax_cas.proofs.laws.plain_accesses_are_expanded.Goals as goal

pub returns : goal.returns
returns g c = λ case cx16 n size. plain_accessed (g.M.ProgramOnBytes.program case) cx16 n size
