use Rattle.ax_expand.proofs.Wrapped.{wrapped}
use Rattle.ax_expand.proofs.laws.wrapped_code_follows.Goals as goal

pub returns : goal.returns
returns g c = λ case h. wrapped (g.C.WrappedOperation.wrapping case) h
