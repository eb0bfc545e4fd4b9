use Rattle.ax_emit_arm.proofs.Sizes.{steady}
use Rattle.ax_emit_arm.proofs.laws.line_code_is_steady.Goals as goal

pub returns : goal.returns
returns g c = λ key depth behind expansions same inst places start. steady key depth behind expansions same inst places start
