use Rattle.ax_fine.proofs.Events.{fine_fits, fine_in_step}
use Rattle.ax_fine.proofs.laws.fine_machine_runs_in_step.Goals as goal

pub returns-clause-step : goal.returns-clause-step
returns-clause-step g c = fine_in_step c.results_fit.ensures

pub returns-clause-fits : goal.returns-clause-fits
returns-clause-fits g c = fine_fits c.results_fit.ensures
