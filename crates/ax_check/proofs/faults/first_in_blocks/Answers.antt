use Rattle.std.proofs.Common.{rules, arith, subst}
use Rattle.std.proofs.lemmas.Grind.{common_steps}
use Rattle.ax_check.specs.Faults.{FirstInBlock}
use Rattle.ax_check.proofs.Firsts.{blocks_skip, blocks_stop}
use Rattle.ax_check.proofs.faults.first_in_blocks.Goals as goal

pub returns-in-Some : goal.returns-in-Some
returns-in-Some c = λ m ready.
    c.loop-b.invariant.first m ready _
    (blocks_stop m c.args.t c.args.k c.args.f.now c.loop-b.b c.loop-b.start c.args.f.now.blocks c.block-item.result c.in-Some.refusal (search rules) (search rules) (subst (λ o. FirstInBlock m c.args.t c.args.k c.args.f.now c.loop-b.b c.loop-b.start c.block-item.result.insts o) c.in-Some.is (c.in_ok-refusal.ensures m ready)))

pub loop-b-preserved : goal.loop-b-preserved
loop-b-preserved c =
    record {
      numbers = grind (arith, common_steps);
      first = λ m ready r h. c.loop-b.invariant.first m ready r
          (blocks_skip m c.args.t c.args.k c.args.f.now c.loop-b.b c.loop-b.start _ c.args.f.now.blocks c.block-item.result r (search rules) (search rules) (search rules) (subst (λ o. FirstInBlock m c.args.t c.args.k c.args.f.now c.loop-b.b c.loop-b.start c.block-item.result.insts o) c.in_default.is (c.in_ok-refusal.ensures m ready)) h);
    }
