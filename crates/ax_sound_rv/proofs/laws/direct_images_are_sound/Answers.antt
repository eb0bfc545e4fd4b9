use Rattle.ax_sound_rv.proofs.Whole.{images_are_sound}
use Rattle.ax_sound_rv.proofs.laws.direct_images_are_sound.Goals as goal

pub returns : goal.returns
returns c = images_are_sound c.line_code_is_steady.ensures c.direct_code_is_steady.ensures c.images_are_sound.ensures
