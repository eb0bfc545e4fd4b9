use Rattle.ax_emit_arm.proofs.Lines.{line_follows}
use Rattle.ax_emit_arm.proofs.laws.arm_line_follows.Goals as goal

pub returns : goal.returns
returns g c =
    λ case.
    line_follows (g.M.MiddleProgram.program case) (record {
      computed = c.computed_line_follows.ensures case;
      ended = c.ended_line_follows.ensures case;
      branched = c.branched_line_follows.ensures case;
      atomic = c.atomic_line_follows.ensures case;
      load = c.access_line_follows.ensures.load case;
      store = c.access_line_follows.ensures.store case;
      label = c.label_line_follows.ensures case;
    })
