use Rattle.std.proofs.Common.{◌+◌, ◌-◌, sym, ap, ◌∙◌}
use Rattle.std.specs.Prelude.{◌&&◌}
use Rattle.ax_store.specs.Bytes.{all_inside}
use Rattle.ax_store.specs.Places.{is_inside}
use Rattle.ax_store.proofs.Places.{inside_more}
use Rattle.ax_store.proofs.memory.Memory.each_inside.Goals as goal

pub loop-i-preserved : goal.loop-i-preserved
loop-i-preserved c =
    let f = is_inside c.args.self.now in
    c.loop-i.invariant ∙ inside_more f c.args.a c.args.n c.loop-i.i c.loop-i-test.true ∙ ap (λ t. t && all_inside f (c.args.a + (c.loop-i.i + 1)) (c.args.n - (c.loop-i.i + 1))) (sym c.inside.ensures ∙ c.if-not-inside.false)
