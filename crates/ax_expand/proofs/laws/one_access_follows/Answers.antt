use Rattle.ax_expand.specs.Bytes.{bytes_world}
use Rattle.ax_expand.proofs.Accesses.{one_access}
use Rattle.ax_expand.proofs.Single.{one_instruction}
use Rattle.ax_expand.proofs.laws.one_access_follows.Goals as goal

pub returns : goal.returns
returns g c = λ case keeps i one. (let m = g.C.AccessOnMachine in one_instruction m.kind bytes_world keeps i (m.operation case) (one_access m.kind keeps i (m.operation case) one))
