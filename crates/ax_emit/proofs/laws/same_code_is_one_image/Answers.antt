use Rattle.ax_emit.proofs.Same.{same_image}
use Rattle.ax_emit.proofs.laws.same_code_is_one_image.Goals as goal

pub returns : goal.returns
returns g c = λ size_of other code_of other_code lines same codes. same_image size_of other code_of other_code lines same codes
