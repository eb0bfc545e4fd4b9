use Rattle.ax_check.proofs.Acceptance.{few_functions, sound_head}
use Rattle.ax_check.proofs.laws.accepted_functions_are_within_limits.Goals as goal

pub returns-clause-few : goal.returns-clause-few
returns-clause-few c = few_functions

pub returns-clause-heads : goal.returns-clause-heads
returns-clause-heads c = sound_head
