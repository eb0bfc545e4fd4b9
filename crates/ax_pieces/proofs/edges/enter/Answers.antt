use Rattle.std.proofs.Common.{◌≡◌, ℕ, List, [], ◌∷◌, ◌++◌, map, subst, ◌∙◌}
use Rattle.std.specs.Prelude.{OnOk}
use Rattle.ax_mid.specs.Built.{pushed}
use Rattle.ax_mid.specs.declared.instruction.MidInst.{MidInst}
use Rattle.ax_mid.specs.declared.instruction.MidInst.TheVariants as mid
use Rattle.ax_mid.specs.declared.registers.Virtual.{Virtual}
use Rattle.ax_selected.specs.Edges.{coming_in, set_phis}
use Rattle.ax_selected.specs.Registers.{block_label}
use Rattle.ax_selected.specs.Selected.{acting, silent}
use Rattle.ax_pieces.proofs.Pushing.{pushed_rest, then_pushed}
use Rattle.ax_pieces.proofs.edges.enter.Goals as goal

pub returns : goal.returns
returns c =
    let f = c.args.site.function in
    let k = c.args.site.instruction in
    let xs : List (MidInst Virtual) = coming_in c.args.from c.args.first c.args.insts.now in
    let ys : List (MidInst Virtual) = set_phis c.args.first c.args.insts.now in
    let before = c.in_ok-set_phis.ensures ∙ pushed_rest (silent f k) xs ys c.args.code.now c.coming_in.new.code c.in_ok-coming_in.ensures in
    let last = subst (λ (n : ℕ). OnOk c.acting.result (c.acting.new.code ≡ pushed (acting f k (mid.Jump n) ∷ []) c.set_phis.new.code)) c.block_label.ensures c.acting.ensures in
    then_pushed c.acting.result (map (silent f k) (xs ++ ys)) (acting f k (mid.Jump (block_label f c.args.first)) ∷ []) c.args.code.now c.set_phis.new.code c.acting.new.code before last
