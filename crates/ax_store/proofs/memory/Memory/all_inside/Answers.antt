use Rattle.std.proofs.Common.{sym, ◌∙◌}
use Rattle.ax_store.proofs.Spans.{span_inside}
use Rattle.ax_store.proofs.memory.Memory.all_inside.Goals as goal

pub returns-then-is_some : goal.returns-then-is_some
returns-then-is_some c = sym (span_inside c.args.self.now c.args.a c.args.n c.span.result c.span.ensures (sym c.is_some.ensures ∙ c.if-is_some.true))
