use Rattle.ax_emit.proofs.Composed.{follows}
use Rattle.ax_emit.proofs.runs.emitted_code_runs.Goals as goal

pub returns : goal.returns
returns g c =
    λ case all_code words few lawful.
    let e = g.E.EmittedCode.emission case in
    c.code_in_step_runs_in_step.ensures case (follows g.E.EmittedCode.kind (g.E.EmittedCode.program case) e.size_of e.code_of e.most all_code e.library words e.counts e.public few) lawful
