use Rattle.ax_follow.proofs.Bounds.{run_bounds}
use Rattle.ax_follow.proofs.laws.runs_stay_in_bounds.Goals as goal

pub returns : goal.returns
returns g c = λ case all m h es. run_bounds (g.C.MeantCode.setting case) all es m h
