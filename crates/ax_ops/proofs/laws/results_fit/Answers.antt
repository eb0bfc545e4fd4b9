use Rattle.ax_ops.proofs.Operations.{result_of-fits}
use Rattle.ax_ops.proofs.laws.results_fit.Goals as goal

pub returns : goal.returns
returns c = result_of-fits
