use Rattle.ax_read.proofs.Formed.{derived_module}
use Rattle.ax_read.proofs.laws.derived_modules_are_well_formed.Goals as goal

pub returns : goal.returns
returns c = λ text m d. derived_module text m d
