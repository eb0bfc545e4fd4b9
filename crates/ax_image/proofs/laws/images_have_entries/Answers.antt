use Rattle.ax_image.proofs.Entries.{has_entries}
use Rattle.ax_image.proofs.laws.images_have_entries.Goals as goal

pub returns : goal.returns
returns g c = λ coding program. has_entries coding program
