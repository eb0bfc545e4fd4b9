use Rattle.ax_trials.proofs.Buffered.{is_addition}
use Rattle.ax_trials.proofs.laws.locked_addition_expands.Goals as goal

pub returns : goal.returns
returns c = λ keeps address operand ka ko. c.one_access_follows.ensures (record { address = address; operand = operand; result = operand }) keeps _ (is_addition keeps address operand ka ko)
