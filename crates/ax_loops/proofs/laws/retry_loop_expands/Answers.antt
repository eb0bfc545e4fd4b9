use Rattle.ax_loops.proofs.Retry.{retry_expands}
use Rattle.ax_loops.proofs.laws.retry_loop_expands.Goals as goal

pub returns : goal.returns
returns g c = λ case keeps replacement loop law h. retry_expands g.N.ReplacedNumber.kind g.N.ReplacedNumber.world law keeps (g.N.ReplacedNumber.operation case) replacement loop h
