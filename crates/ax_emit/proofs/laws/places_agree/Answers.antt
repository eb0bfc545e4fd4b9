use Rattle.ax_emit.proofs.Passes.{places_are}
use Rattle.ax_emit.proofs.laws.places_agree.Goals as goal

pub returns : goal.returns
returns g c = λ size_of code_of lines. places_are size_of code_of lines
