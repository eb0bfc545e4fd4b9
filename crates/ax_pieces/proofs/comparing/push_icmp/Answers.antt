use Rattle.std.proofs.Common.{◌≡◌, Bool, sym, subst, ◌∙◌}
use Rattle.std.specs.Prelude.{OnOk, if◌then◌else◌}
use Rattle.ax_mid.specs.Built.{pushed}
use Rattle.ax_selected.specs.Pieces.{comparison, narrow_icmp, wide_icmp}
use Rattle.ax_selected.specs.Selected.{straight}
use Rattle.ax_pieces.proofs.comparing.push_icmp.Goals as goal

pub returns-else-is_narrow : goal.returns-else-is_narrow
returns-else-is_narrow c =
    let k = c.args.site.instruction in
    let v = c.args.v in
    let rule = comparison c.args.condition in
    subst (λ (b : Bool). OnOk c.wide_icmp.result (c.wide_icmp.new.code ≡ pushed (straight c.args.site.function k (if b then narrow_icmp rule k v.ty v.a v.b else wide_icmp rule k v.ty v.a v.b)) c.args.code.now))
    (sym (sym c.is_narrow.ensures ∙ c.if-is_narrow.false)) c.wide_icmp.ensures
