use Rattle.ax_trials.proofs.RefusedExchange.{early_refused, once_refused}
use Rattle.ax_trials.proofs.laws.wrong_exchanges_are_refused.Goals as goal

pub returns-clause-early : goal.returns-clause-early
returns-clause-early c = early_refused

pub returns-clause-once : goal.returns-clause-once
returns-clause-once c = once_refused
