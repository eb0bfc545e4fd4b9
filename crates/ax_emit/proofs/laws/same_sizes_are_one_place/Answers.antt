use Rattle.ax_emit.proofs.Same.{are_those}
use Rattle.ax_emit.proofs.laws.same_sizes_are_one_place.Goals as goal

pub returns : goal.returns
returns g c = λ size_of other lines same. are_those size_of other lines same
