use Rattle.ax_trials.proofs.Refused.{leaving_refused, nop_refused, plain_refused, twice_refused}
use Rattle.ax_trials.proofs.laws.wrong_pieces_are_refused.Goals as goal

pub returns-clause-plain : goal.returns-clause-plain
returns-clause-plain c = plain_refused

pub returns-clause-leaving : goal.returns-clause-leaving
returns-clause-leaving c = leaving_refused

pub returns-clause-twice : goal.returns-clause-twice
returns-clause-twice c = twice_refused

pub returns-clause-nop : goal.returns-clause-nop
returns-clause-nop c = nop_refused
