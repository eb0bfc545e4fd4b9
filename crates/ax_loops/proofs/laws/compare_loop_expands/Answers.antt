use Rattle.ax_loops.proofs.Compare.{compare_expands}
use Rattle.ax_loops.proofs.laws.compare_loop_expands.Goals as goal

pub returns : goal.returns
returns g c = λ case keeps replacement loop law h. compare_expands g.N.ReplacedNumber.kind g.N.ReplacedNumber.world law keeps (g.N.ReplacedNumber.operation case) replacement loop h
