use Rattle.ax_expand.proofs.Single.{one_instruction}
use Rattle.ax_expand.proofs.laws.one_instruction_follows.Goals as goal

pub returns : goal.returns
returns g c = λ case keeps i one. one_instruction g.C.OperationOnMachine.kind g.C.OperationOnMachine.world keeps i (g.C.OperationOnMachine.operation case) one
