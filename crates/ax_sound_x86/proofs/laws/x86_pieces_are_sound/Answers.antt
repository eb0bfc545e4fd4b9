use Rattle.ax_sound_x86.proofs.Lines.{pieces_are_sound}
use Rattle.ax_sound_x86.proofs.laws.x86_pieces_are_sound.Goals as goal

pub returns : goal.returns
returns c = pieces_are_sound c.line_code_is_steady.ensures
