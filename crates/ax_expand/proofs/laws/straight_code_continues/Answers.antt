use Rattle.ax_expand.proofs.Straight.{straight, silent_jump}
use Rattle.ax_expand.proofs.laws.straight_code_continues.Goals as goal

pub returns-clause-straight : goal.returns-clause-straight
returns-clause-straight g c = λ case sound acted is idle y z has role goes few inner stays next. straight (g.C.CodeInContext.context case) sound acted is idle y z has role goes few inner stays next

pub returns-clause-jump : goal.returns-clause-jump
returns-clause-jump g c = λ case sound acted idle i place y here role is low few inner stays next. silent_jump (g.C.CodeInContext.context case) sound acted idle i place y here role is low few inner stays next
