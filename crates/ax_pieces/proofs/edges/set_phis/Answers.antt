use Rattle.std.proofs.Common.{◌≡◌, true, false, refl, sym, ◌∙◌, ◌+◌, arith, rules}
use Rattle.ax_module.specs.Kinds.{is_phi}
use Rattle.ax_pieces.proofs.Phis.{setting_last, setting_next, setting_none}
use Rattle.ax_pieces.proofs.edges.set_phis.Goals as goal

pub loop-inst-preserved : goal.loop-inst-preserved
loop-inst-preserved c =
    let i = c.loop-inst.inst-index in
    let k = c.loop-inst.k in
    let phi : is_phi c.inst-item.result ≡ true = search rules in
    record {
      number = omega (arith, c.loop-inst.invariant.number);
      left =
          setting_next c.args.site.function c.args.site.instruction i k (i + 1) (k + 1) c.args.insts.now c.inst-item.result c.loop-inst.code c.set_phi.new.code refl refl c.loop-inst-test.true c.inst-item.is phi c.in_ok-set_phi.ensures
          ∙ c.loop-inst.invariant.left;
    }

pub returns-then-not-is_phi : goal.returns-then-not-is_phi
returns-then-not-is_phi c =
    let other : is_phi c.inst-item.result ≡ false = search rules in
    sym (setting_last c.args.site.function c.args.site.instruction c.loop-inst.inst-index c.loop-inst.k c.args.insts.now c.inst-item.result c.loop-inst.code c.loop-inst-test.true c.inst-item.is other) ∙ c.loop-inst.invariant.left

pub returns : goal.returns
returns c = sym (setting_none c.args.site.function c.args.site.instruction c.loop-inst.inst-index c.loop-inst.k c.args.insts.now c.loop-inst.code c.loop-inst-test.false) ∙ c.loop-inst.invariant.left
