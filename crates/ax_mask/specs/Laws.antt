-- WHAT HOLDS OF THE CODE OF THE WAY MASKED ON RV64.
use Rattle.std.specs.Prelude.{◌≡◌, Bool, true, map}
use Rattle.ax_words.specs.declared.mark.Op.{Op}
use Rattle.ax_words.specs.declared.order.Order.{Order}
use Rattle.ax_words.specs.declared.width.Width.{Width}
use Rattle.ax_words.specs.Orders.{is_legal}
use Rattle.ax_target.specs.declared.decision.Way.TheVariants.{Masked}
use Rattle.ax_target.specs.declared.target.Target.TheVariants.{Rv}
use Rattle.ax_target.specs.Rows.{access_of, row_of}
use Rattle.ax_rv.specs.Instructions.{is_frame_register, rv_kind}
use Rattle.ax_rv.specs.Skeleton.{skeleton}
use Rattle.ax_expand.specs.Bytes.{bytes_world}
use Rattle.ax_expand.specs.Doing.{on_registers}
use Rattle.ax_expand.specs.Expands.{Expands}
use Rattle.ax_fine.specs.OnBytes.{atomic_doing}
use Rattle.ax_emit_rv.specs.Laws.{is_kept}
use Rattle.ax_mask.specs.Codes.{is_masked, is_narrow, masked_code, masked_expansion}
use Rattle.ax_mask.specs.Pairs.{args_of_op, results_of_op}

-- EACH CODE IS AN EXPANSION of its operation on the bytes that all processors share: of the object alone, whatever stands beside it in its word
abbrev pub MaskedCodeExpands : Type 0
MaskedCodeExpands =
    (zabha zacas : Bool) (o : Op) (width : Width) (order : Order) (weak : Bool) → is_narrow width ≡ true → is_masked o ≡ true
    → (let e = masked_expansion o width order weak in Expands rv_kind bytes_world e.most is_kept e.size e.piece (on_registers (atomic_doing (Rv zabha zacas) o width order weak) 10 (args_of_op o) (results_of_op o)))

-- ITS SKELETON IS THE ROW of the mapping table, in each order that the operation may have
abbrev pub MaskedCodeHasRow : Type 0
MaskedCodeHasRow =
    (zabha zacas : Bool) (o : Op) (width : Width) (order : Order) (weak : Bool) → is_narrow width ≡ true → is_masked o ≡ true → is_legal (access_of o) order ≡ true
    → skeleton is_frame_register (map (λ i. i.0) (masked_code o width order weak)) ≡ row_of (Rv zabha zacas) o order width Masked
