use Rattle.ax_emit.proofs.Lines.{performed_line}
use Rattle.ax_emit.proofs.laws.performed_line_follows.Goals as goal

pub returns : goal.returns
returns g c = λ case table base line before acts after most no_label private low_before low_after performs. performed_line g.I.Isa.kind (g.M.MiddleProgram.program case) table base line before acts after most low_before low_after (λ p c f s h alone. performs p c f s h) private no_label
