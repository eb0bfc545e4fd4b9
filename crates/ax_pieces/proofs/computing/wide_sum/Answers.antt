use Rattle.std.proofs.Common.{ℕ, ◌++◌, refl, ap, ◌∙◌}
use Rattle.ax_selected.specs.Pieces.{apply, both_into, carried, copy}
use Rattle.ax_selected.specs.Registers.{low_of}
use Rattle.ax_pieces.proofs.Pushing.{as_defined, same_lines}
use Rattle.ax_pieces.proofs.computing.wide_sum.Goals as goal

pub returns : goal.returns
returns c =
    let k = c.args.site.instruction in
    let v = c.args.v in
    let high = c.apply-4.ensures ∙ ap (λ (n : ℕ). apply c.args.op n 6 5) c.high_of.ensures in
    let sums = same_lines c.apply.ensures (same_lines c.apply-2.ensures (same_lines c.apply-3.ensures (same_lines high refl))) in
    let same = same_lines c.low_into.ensures (same_lines c.high_into.ensures (same_lines c.low_into-2.ensures (same_lines c.high_into-2.ensures sums))) in
    let last = c.copy.ensures ∙ ap (λ (n : ℕ). copy n 4) c.low_of.ensures in
    as_defined c.push_straight.result c.args.site.function k _ (both_into v.ty v.a v.b ++ carried c.args.op k c.args.x c.args.y) _ (copy (low_of k) 4) c.args.code.now c.push_straight.new.code same last c.push_straight.ensures
