use Rattle.ax_loops.proofs.Exchange.{exchange_expands}
use Rattle.ax_loops.proofs.laws.pair_exchange_expands.Goals as goal

pub returns : goal.returns
returns g c = λ case keeps exchange code law h. exchange_expands g.N.ReplacedNumber.kind g.N.ReplacedNumber.world law keeps (g.N.ReplacedNumber.operation case) exchange code h
