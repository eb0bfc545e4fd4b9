use Rattle.ax_loops.proofs.WideRetry.{wide_expands}
use Rattle.ax_loops.proofs.laws.wide_loop_expands.Goals as goal

pub returns : goal.returns
returns g c = λ case keeps replacement loop law h. wide_expands g.N.ReplacedNumber.kind g.N.ReplacedNumber.world law keeps (g.N.ReplacedNumber.operation case) replacement loop h
