use Rattle.ax_trials.proofs.Buffered.{is_store}
use Rattle.ax_trials.proofs.laws.buffered_store_expands.Goals as goal

pub returns : goal.returns
returns c = λ keeps address value ka kv. c.one_access_follows.ensures (address, value) keeps _ (is_store keeps address value ka kv)
