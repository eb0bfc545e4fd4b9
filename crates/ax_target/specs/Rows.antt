-- The instructions of an operation: its row of the mapping table.
use Rattle.std.specs.Prelude.{ℕ, Bool, true, false, not, ◌&&◌, ◌||◌, nat_lt, List, [], ◌∷◌, length, map}
use Rattle.std.specs.List.{list_all}
use Rattle.ax_words.specs.declared.order.Order.{Order}
use Rattle.ax_words.specs.declared.order.Access.{Access}
use Rattle.ax_words.specs.declared.order.Access.TheVariants.{Load as Loads, Store as Stores, Rmw as Rmws, CmpSuccess, Fence as Fences}
use Rattle.ax_words.specs.declared.width.Width.{Width}
use Rattle.ax_words.specs.declared.width.Width.TheVariants.{W8, W16, W32, W64, W128}
use Rattle.ax_words.specs.declared.mark.Op.{Op}
use Rattle.ax_words.specs.declared.mark.Op.TheVariants.{Load, Store, Cmpxchg, Rmw, Fence}
use Rattle.ax_words.specs.declared.mark.Mark.{Mark}
use Rattle.ax_words.specs.declared.mark.Mark.TheVariants.{Call}
use Rattle.ax_words.specs.Orders.{rising, is_legal}
use Rattle.ax_words.specs.Width.{bytes_of}
use Rattle.ax_target.specs.declared.target.Target.{Target}
use Rattle.ax_target.specs.declared.target.Target.TheVariants.{X86, Arm, Rv}
use Rattle.ax_target.specs.declared.decision.Way.{Way}
use Rattle.ax_target.specs.declared.decision.Way.TheVariants.{Inline, CasLoop, PairLoop, Masked, Sized, Generic}
use Rattle.ax_target.specs.Decisions.{everything, decided}
use Rattle.ax_target.specs.X86Rows.{x86_inline, x86_loop}
use Rattle.ax_target.specs.ArmRows.{arm_inline, arm_pair, lse_inline, lse_loop}
use Rattle.ax_target.specs.RvRows.{rv_inline, rv_pair}
use Rattle.ax_target.specs.Calls.{routines_of, sized_calls, generic_calls}

-- a masked loop is on the aligned word of 4 bytes that holds the object; a way that no access of the target has, has no row
abbrev pub row_of : Target → Op → Order → Width → Way → List Mark
row_of target op order width Sized = map Call (sized_calls op (routines_of width))
row_of target op order width Generic = map Call (generic_calls op)
row_of (X86 cx16) op order width Inline = x86_inline op order width
row_of (X86 cx16) op order width CasLoop = x86_loop width
row_of (Arm false) op order width Inline = arm_inline op order width
row_of (Arm false) op order width PairLoop = arm_pair op order width
row_of (Arm true) op order width Inline = lse_inline op order width
row_of (Arm true) op order width CasLoop = lse_loop order width
row_of (Rv zabha zacas) op order width Inline = rv_inline op order (bytes_of width)
row_of (Rv zabha zacas) op order width PairLoop = rv_pair order (bytes_of width)
row_of (Rv zabha zacas) op order width Masked = rv_pair order 4
row_of target op order width way = []

-- where the order of an operation stands; a compare-exchange has its two orders merged
abbrev pub access_of : Op → Access
access_of Load = Loads
access_of Store = Stores
access_of Cmpxchg = CmpSuccess
access_of (Rmw op) = Rmws
access_of Fence = Fences

abbrev pub has_row : Target → Op → Order → Width → ℕ → Bool
has_row target op order width align = not (is_legal (access_of op) order) || nat_lt 0 (length (row_of target op order width (decided target op width align)))

-- whether each operation has a row at each width, in each order that it may have, at the width's alignment and below it
abbrev pub has_rows : Target → Bool
has_rows target =
    list_all (λ op. list_all (λ width. list_all (λ order. has_row target op order width (bytes_of width) && has_row target op order width 0) rising) (W8 ∷ W16 ∷ W32 ∷ W64 ∷ W128 ∷ [])) everything
