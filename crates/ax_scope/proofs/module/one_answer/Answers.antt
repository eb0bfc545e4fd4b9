use Rattle.ax_scope.proofs.Exclusive.{fit_excludes, one_fault}
use Rattle.ax_scope.proofs.module.one_answer.Goals as goal

pub returns : goal.returns
returns c = record { fit = fit_excludes; fault = one_fault }
