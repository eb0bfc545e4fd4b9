use Rattle.ax_expand.proofs.Ending.{private_piece}
use Rattle.ax_expand.proofs.laws.private_code_follows.Goals as goal

pub returns : goal.returns
returns g c = λ case sound stable is i t y mid z has number runs role goes last few does at matches. private_piece (g.C.CodeInContext.context case) sound stable is i t y mid z has number runs role goes last few does at matches
