use Rattle.ax_check.proofs.Acceptance.{sound}
use Rattle.ax_check.proofs.laws.accepted_instructions_are_sound.Goals as goal

pub returns : goal.returns
returns c = sound
