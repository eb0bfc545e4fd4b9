use Rattle.ax_target.proofs.CallNames.{name_of-routines_of}
use Rattle.ax_target.proofs.rows.calls_are_named.Goals as goal

pub returns : goal.returns
returns c = name_of-routines_of
