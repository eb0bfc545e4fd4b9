use Rattle.ax_sound_rv.proofs.Whole.{images_are_short}
use Rattle.ax_sound_rv.proofs.laws.direct_images_are_short.Goals as goal

pub returns : goal.returns
returns c = images_are_short c.line_code_is_steady.ensures c.direct_code_is_steady.ensures c.images_are_short.ensures
