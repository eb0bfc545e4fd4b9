use Rattle.std.proofs.Common.{◌≡◌, ◌+◌, ◌∷◌, drop, arith}
use Rattle.ax_scope.specs.Around.{looks}
use Rattle.ax_scope.proofs.Bodies.{drop_is, step_built, step_found}
use Rattle.ax_scope.proofs.body.blocks_in.Goals as goal

pub loop-line-preserved : goal.loop-line-preserved
loop-line-preserved c =
    let front : drop c.loop-line.line-index c.args.inside.now ≡ c.line-item.result ∷ drop (c.loop-line.line-index + 1) c.args.inside.now = drop_is c.args.inside.now c.loop-line.line-index c.line-item.result c.loop-line-test.true c.line-item.is in
    let fits = c.in_ok-inst.ensures {u = tt} in
    record {
      built = step_built (looks c.args.names.now) c.loop-line.blocks.items c.close.new.blocks.items c.loop-line.block.items c.push_inst.new.block.items c.in_ok-block.block.items c.in_ok-inst.inst c.ends_block.result c.line-item.result _ _ _ c.loop-line.invariant.built front fits.1 (c.in_ok-push_inst.ensures {u = tt}) (c.in_ok-block.ensures {u = tt}) c.ends_block.ensures;
      found = step_found (looks c.args.names.now) c.args.entry.now c.loop-line.first c.first_behind-first.result c.loop-line.so_far c.pass_at.new.so_far c.line-item.result _ _ _ _ c.loop-line.invariant.found front fits.0 fits.2 c.first_behind-first.ensures;
      counts = omega arith;
    }
