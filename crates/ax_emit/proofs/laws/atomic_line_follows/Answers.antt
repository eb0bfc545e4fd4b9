use Rattle.ax_emit.proofs.Atomics.{atomic_line}
use Rattle.ax_emit.proofs.laws.atomic_line_follows.Goals as goal

pub returns : goal.returns
returns g c = λ case table base o width order weak address args results keeps at ps qs homes most size piece counted expands line inst bound room. atomic_line g.I.Isa.kind (g.M.MiddleProgram.program case) table base o width order weak address args results keeps at ps qs homes most size piece counted expands line inst bound room
