use Rattle.ax_sound_x86.proofs.Operations.{are_sound}
use Rattle.ax_sound_x86.proofs.laws.x86_operations_are_sound.Goals as goal

pub returns : goal.returns
returns c = are_sound
