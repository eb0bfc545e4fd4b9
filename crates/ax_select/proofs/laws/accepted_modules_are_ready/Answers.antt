use Rattle.ax_select.proofs.Ready.{module_is}
use Rattle.ax_select.proofs.laws.accepted_modules_are_ready.Goals as goal

pub returns : goal.returns
returns c = module_is c.accepted_instructions_are_sound.ensures c.accepted_functions_are_within_limits.ensures.few c.accepted_functions_are_within_limits.ensures.heads c.accepted_can_be_laid_out.ensures
