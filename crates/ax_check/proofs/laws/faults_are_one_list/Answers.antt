use Rattle.ax_rules.specs.Points.{points}
use Rattle.ax_check.specs.Faults.{IsFaultPair, pairs}
use Rattle.ax_check.proofs.Total.{faults_exist, kept_same}
use Rattle.ax_check.proofs.laws.faults_are_one_list.Goals as goal

pub returns-clause-some : goal.returns-clause-some
returns-clause-some c = faults_exist

pub returns-clause-alone : goal.returns-clause-alone
returns-clause-alone c = λ m t faults others h k. kept_same (IsFaultPair m t) (pairs (points m)) faults others h k
