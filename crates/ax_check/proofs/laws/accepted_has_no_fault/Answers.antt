use Rattle.ax_check.proofs.Acceptance.{nothing_broken}
use Rattle.ax_check.proofs.laws.accepted_has_no_fault.Goals as goal

pub returns : goal.returns
returns c = λ r program p a h. nothing_broken program a p h r
