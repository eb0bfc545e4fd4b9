-- The mapping table of a target as a text: a line for each operation, width and legal order, with the way and the row that they have where the alignment is the width's bytes.
use Rattle.std.specs.Prelude.{ℕ, Bool, true, false, if◌then◌else◌, List, [], ◌∷◌, ◌++◌, codes, flat_map}
use Rattle.ax_words.specs.declared.mark.Mark.{Mark}
use Rattle.ax_words.specs.declared.mark.Op.{Op}
use Rattle.ax_words.specs.declared.mark.Op.TheVariants.{Load, Store, Cmpxchg, Rmw, Fence}
use Rattle.ax_words.specs.declared.operation.RmwOp.TheVariants.{Xchg, Add, Sub, And, Nand, Or, Xor, Max, Min, UMax, UMin}
use Rattle.ax_words.specs.declared.order.Order.{Order}
use Rattle.ax_words.specs.declared.width.Width.{Width}
use Rattle.ax_words.specs.declared.width.Width.TheVariants.{W8, W16, W32, W64, W128}
use Rattle.ax_words.specs.Operation.{operation_word}
use Rattle.ax_words.specs.Orders.{is_legal, order_word, rising}
use Rattle.ax_words.specs.Width.{bytes_of}
use Rattle.ax_target.specs.declared.decision.Way.{Way}
use Rattle.ax_target.specs.declared.decision.Way.TheVariants.{Inline, CasLoop, PairLoop, Masked, Sized, Generic}
use Rattle.ax_target.specs.declared.target.Target.{Target}
use Rattle.ax_target.specs.Decisions.{decided}
use Rattle.ax_target.specs.Rows.{access_of, row_of}
use Rattle.ax_table.specs.MarkText.{mark_text}

-- loads, stores, compare-exchanges, the read-modify-writes in the order in which LLVM lists them, and fences
abbrev pub operations : List Op
operations =
    Load ∷ Store ∷ Cmpxchg ∷ Rmw Xchg ∷ Rmw Add ∷ Rmw Sub ∷ Rmw And ∷ Rmw Nand ∷ Rmw Or ∷ Rmw Xor ∷ Rmw Max ∷ Rmw Min ∷ Rmw UMax ∷ Rmw UMin ∷ Fence ∷ []

abbrev pub is_fence : Op → Bool
is_fence Fence = true
is_fence _ = false

abbrev pub widths : List Width
widths = W8 ∷ W16 ∷ W32 ∷ W64 ∷ W128 ∷ []

abbrev pub op_word : Op → List ℕ
op_word Load = codes "load"
op_word Store = codes "store"
op_word Cmpxchg = codes "cmpxchg"
op_word (Rmw operation) = operation_word operation
op_word Fence = codes "fence"

abbrev pub bits_word : Width → List ℕ
bits_word W8 = codes "8"
bits_word W16 = codes "16"
bits_word W32 = codes "32"
bits_word W64 = codes "64"
bits_word W128 = codes "128"

abbrev pub width_word : Op → Width → List ℕ
width_word Fence width = codes "-"
width_word _ width = bits_word width

abbrev pub way_word : Way → List ℕ
way_word Inline = codes "inline"
way_word CasLoop = codes "casloop"
way_word PairLoop = codes "pairloop"
way_word Masked = codes "masked"
way_word Sized = codes "sized"
way_word Generic = codes "generic"

-- its marks, parted by semicolons
abbrev pub row_text : List Mark → List ℕ
row_text [] = codes "none"
row_text (mark ∷ marks) = mark_text mark ++ flat_map (λ m. codes "; " ++ mark_text m) marks

abbrev pub line_text : Target → Op → Width → Order → Way → List ℕ
line_text target op width order way =
    op_word op ++ codes " " ++ width_word op width ++ codes " " ++ order_word order ++ codes " " ++ way_word way ++ codes " " ++ row_text (row_of target op order width way) ++ codes "\n"

-- a compare-exchange has its two orders merged
abbrev pub line_if_legal : Target → Op → Width → Way → Order → List ℕ
line_if_legal target op width way order = if is_legal (access_of op) order then line_text target op width order way else []

unfoldable pub lines_of_width : Target → Op → Width → List ℕ
lines_of_width target op width = flat_map (line_if_legal target op width (decided target op width (bytes_of width))) rising

-- a fence has no width; it has one line an order
unfoldable pub lines_of_op : Target → Op → List ℕ
lines_of_op target op = if is_fence op then lines_of_width target op W8 else flat_map (lines_of_width target op) widths

abbrev pub map_text : Target → List ℕ
map_text target = flat_map (lines_of_op target) operations
