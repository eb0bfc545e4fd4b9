use Rattle.ax_check.proofs.Acceptance.{globals_fine}
use Rattle.ax_check.proofs.Lays.{can_be_laid_out}
use Rattle.ax_check.proofs.laws.accepted_can_be_laid_out.Goals as goal

pub returns : goal.returns
returns c = λ program a. can_be_laid_out program.source (globals_fine program a)
