use Rattle.ax_emit_arm.proofs.Lines.{code_follows}
use Rattle.ax_emit_arm.proofs.laws.arm_code_follows.Goals as goal

pub returns : goal.returns
returns g c = λ case. code_follows (g.M.MiddleProgram.program case) (c.arm_line_follows.ensures case) (c.emitted_code_follows.ensures case)
