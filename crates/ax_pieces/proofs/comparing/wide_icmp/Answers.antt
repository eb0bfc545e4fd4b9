use Rattle.std.proofs.Common.{ℕ, refl, ap, ◌∙◌}
use Rattle.ax_mid.specs.declared.instruction.MidOp.{MidOp}
use Rattle.ax_selected.specs.Pieces.{apply, comparison, wide_icmp}
use Rattle.ax_pieces.proofs.Pushing.{as_defined, same_lines}
use Rattle.ax_pieces.proofs.comparing.wide_icmp.Goals as goal

pub returns : goal.returns
returns c =
    let k = c.args.site.instruction in
    let v = c.args.v in
    let rule = comparison c.args.condition in
    let lines = wide_icmp rule k v.ty v.a v.b in
    let differ = same_lines c.apply.ensures (same_lines c.apply-2.ensures (same_lines c.apply-3.ensures refl)) in
    let same = same_lines c.low_into.ensures (same_lines c.high_into.ensures (same_lines c.low_into-2.ensures (same_lines c.high_into-2.ensures differ))) in
    let last = c.apply-4.ensures ∙ ap (λ (o : MidOp). apply o c.low_of.result 0 1) c.operation.ensures ∙ ap (λ (n : ℕ). apply rule.operation n 0 1) c.low_of.ensures in
    as_defined c.push_straight.result c.args.site.function k _ lines.silent _ lines.last c.args.code.now c.push_straight.new.code same last c.push_straight.ensures
