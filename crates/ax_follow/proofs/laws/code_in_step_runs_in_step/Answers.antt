use Rattle.ax_follow.proofs.Runs.{runs_in_step}
use Rattle.ax_follow.proofs.laws.code_in_step_runs_in_step.Goals as goal

pub returns : goal.returns
returns g c = λ case all law. runs_in_step (g.C.MeantCode.setting case) (g.C.MeantCode.meaning case) (g.C.MeantCode.reading case) all law
