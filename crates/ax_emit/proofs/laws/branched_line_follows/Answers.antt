use Rattle.ax_emit.proofs.Branches.{branched_line}
use Rattle.ax_emit.proofs.laws.branched_line_follows.Goals as goal

pub returns : goal.returns
returns g c = λ case table base line test a b inst is turn jumps most few splits jump_is. branched_line g.I.Isa.kind (g.M.MiddleProgram.program case) table base line test a b inst is turn jumps most few splits jump_is
