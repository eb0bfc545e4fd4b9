use Rattle.ax_expand.proofs.Bytes.{bytes_lawful}
use Rattle.ax_trials.proofs.WidePairs.{replacement, wide_loop, wide_retries}
use Rattle.ax_trials.proofs.laws.exchange_wide_by_pair_expands.Goals as goal

pub returns : goal.returns
returns c = λ keeps z h. c.wide_loop_expands.ensures z keeps (replacement z) (wide_loop keeps z h) bytes_lawful (wide_retries keeps z h)
