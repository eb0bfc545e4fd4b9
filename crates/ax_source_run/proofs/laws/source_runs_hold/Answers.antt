use Rattle.ax_source_run.proofs.SourceSteps.{others, own_stores, stopped}
use Rattle.ax_source_run.proofs.SourceUnbuffered.{nothing_waits}
use Rattle.ax_source_run.proofs.laws.source_runs_hold.Goals as goal

pub returns-clause-own : goal.returns-clause-own
returns-clause-own c = own_stores

pub returns-clause-others : goal.returns-clause-others
returns-clause-others c = others

pub returns-clause-stopped : goal.returns-clause-stopped
returns-clause-stopped c = stopped

pub returns-clause-unbuffered : goal.returns-clause-unbuffered
returns-clause-unbuffered c = nothing_waits
