use Rattle.std.proofs.Common.{rules, sym, ◌∙◌}
use Rattle.ax_symbols.proofs.Passing.{over_item, over_none}
use Rattle.ax_symbols.proofs.pass.pass_over.Goals as goal

pub returns-then-len-eq0 : goal.returns-then-len-eq0
returns-then-len-eq0 c = sym (over_none c.args.pass c.loop-pass.rest.now c.min-len.result (search rules) (search rules)) ∙ c.loop-pass.invariant

pub loop-pass-preserved : goal.loop-pass-preserved
loop-pass-preserved c = search rules ∙ over_item c.args.pass c.loop-pass.rest.now c.min-len.result (search rules) (search rules) ∙ c.loop-pass.invariant
