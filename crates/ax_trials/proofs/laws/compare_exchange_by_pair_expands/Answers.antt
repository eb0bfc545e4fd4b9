use Rattle.ax_trials.proofs.PairExchange.{expands}
use Rattle.ax_trials.proofs.laws.compare_exchange_by_pair_expands.Goals as goal

pub returns : goal.returns
returns c = λ keeps acquire release z h. expands c.pair_exchange_expands.ensures keeps acquire release z h
