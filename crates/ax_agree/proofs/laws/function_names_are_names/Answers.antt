use Rattle.ax_agree.proofs.FunctionNames.{names_fine}
use Rattle.ax_agree.proofs.laws.function_names_are_names.Goals as goal

pub returns : goal.returns
returns c = names_fine
