use Rattle.std.proofs.Common.{◌≡◌, sym, subst}
use Rattle.std.specs.Prelude.{OnOk}
use Rattle.ax_mid.specs.Built.{pushed}
use Rattle.ax_module.specs.declared.inst.BinOp.{BinOp}
use Rattle.ax_selected.specs.Pieces.{wide_bin}
use Rattle.ax_selected.specs.Selected.{straight}
use Rattle.ax_pieces.proofs.computing.wide_bin.Goals as goal

pub returns-in-Add : goal.returns-in-Add
returns-in-Add c =
    let k = c.args.site.instruction in
    let v = c.args.v in
    subst (λ (o : BinOp). OnOk c.wide_sum.result (c.wide_sum.new.code ≡ pushed (straight c.args.site.function k (wide_bin o k v.ty v.a v.b)) c.args.code.now)) (sym c.in-Add.is) c.wide_sum.ensures

pub returns-in-Sub : goal.returns-in-Sub
returns-in-Sub c =
    let k = c.args.site.instruction in
    let v = c.args.v in
    subst (λ (o : BinOp). OnOk c.wide_sum-in-Sub.result (c.wide_sum-in-Sub.new.code ≡ pushed (straight c.args.site.function k (wide_bin o k v.ty v.a v.b)) c.args.code.now)) (sym c.in-Sub.is) c.wide_sum-in-Sub.ensures
