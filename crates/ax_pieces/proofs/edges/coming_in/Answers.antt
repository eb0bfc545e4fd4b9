use Rattle.std.proofs.Common.{◌≡◌, None, refl, sym, ◌∙◌, ◌+◌, arith, rules}
use Rattle.ax_pieces.specs.Edges.{incoming}
use Rattle.ax_pieces.proofs.Phis.{coming_last, coming_next, coming_none}
use Rattle.ax_pieces.proofs.edges.coming_in.Goals as goal

pub loop-inst-preserved : goal.loop-inst-preserved
loop-inst-preserved c =
    let i = c.loop-inst.inst-index in
    let k = c.loop-inst.k in
    record {
      number = omega (arith, c.loop-inst.invariant.number);
      left =
          coming_next c.args.site.function c.args.site.instruction c.args.from i k (i + 1) (k + 1) c.args.insts.now c.inst-item.result c.in-Some.ty c.in-Some.v c.loop-inst.code c.bring.new.code refl refl c.loop-inst-test.true c.inst-item.is c.in-Some.ensures c.in_ok-bring.ensures
          ∙ c.loop-inst.invariant.left;
    }

pub returns-in_default : goal.returns-in_default
returns-in_default c =
    let none : incoming c.args.from c.inst-item.result ≡ None = search rules in
    sym (coming_last c.args.site.function c.args.site.instruction c.args.from c.loop-inst.inst-index c.loop-inst.k c.args.insts.now c.inst-item.result c.loop-inst.code c.loop-inst-test.true c.inst-item.is none) ∙ c.loop-inst.invariant.left

pub returns : goal.returns
returns c = sym (coming_none c.args.site.function c.args.site.instruction c.args.from c.loop-inst.inst-index c.loop-inst.k c.args.insts.now c.loop-inst.code c.loop-inst-test.false) ∙ c.loop-inst.invariant.left
