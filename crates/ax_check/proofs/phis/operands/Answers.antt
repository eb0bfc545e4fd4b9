use Rattle.std.proofs.Common.{rules, sym, ◌<◌, slice_index_or, None, ◌∙◌, ℕ, length, pos}
use Rattle.std.proofs.lemmas.List.{get_or_default, get_or_read}
use Rattle.std.proofs.lemmas.Bool.{iff_false}
use Rattle.ax_module.specs.declared.operand.Operand.{Operand}
use Rattle.ax_module.specs.declared.operand.Operand.TheVariants.{Const}
use Rattle.ax_check.proofs.phis.operands.Goals as goal

pub returns-then-not-is_same : goal.returns-then-not-is_same
returns-then-not-is_same c =
    let i : ℕ = c.loop-operand.operand-index in
    let d : Operand × ℕ = (Const (pos 0), 0) in
    let e : Operand × ℕ = slice_index_or c.args.entries.now i d in
    let lt : i < length c.args.entries.now = search rules in
    let below : e.1 < length c.loop-operand.table.items = search rules in (
      e.1,
      c.in-Some.first,
      e.0,
      c.loop-operand.invariant.named e.1 c.in-Some.first (sym (get_or_read c.loop-operand.table.items e.1 c.index.result.now below c.index.ensures None) ∙ c.in-Some.is),
      (i, lt, sym (get_or_default c.args.entries.now i d e lt)),
      iff_false c.is_same.ensures (search rules),
    )
