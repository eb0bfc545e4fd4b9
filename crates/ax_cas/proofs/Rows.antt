-- The memory and fence instructions of each code are its row.
use Rattle.std.proofs.Common.{◌≡◌, ℕ, Bool, true, false, map, refl}
use Rattle.std.proofs.lemmas.Bool.{false≢true}
use Rattle.ax_words.specs.declared.mark.Op.{Op}
use Rattle.ax_words.specs.declared.mark.Op.TheVariants as op
use Rattle.ax_words.specs.declared.operation.RmwOp.{RmwOp}
use Rattle.ax_words.specs.declared.operation.RmwOp.TheVariants as rmw
use Rattle.ax_words.specs.declared.order.Order.{Order}
use Rattle.ax_words.specs.declared.order.Order.TheVariants.{SeqCst}
use Rattle.ax_words.specs.declared.width.Width.{Width}
use Rattle.ax_words.specs.declared.width.Width.TheVariants.{W8, W16, W32, W64, W128}
use Rattle.ax_words.specs.Width.{bytes_of}
use Rattle.ax_target.specs.declared.target.Target.TheVariants.{X86}
use Rattle.ax_target.specs.Decisions.{decided}
use Rattle.ax_target.specs.Rows.{row_of}
use Rattle.ax_x86.specs.Instructions.{x86_kind}
use Rattle.ax_x86.specs.Skeleton.{mark_of, skeleton}
use Rattle.ax_cas.specs.Codes.{Atomic, IsCoded, expansion_of}

-- the instructions of some code are the row of its way
abbrev IsRow : Bool → Op → Width → Order → Bool → ℕ → Type 0
IsRow cx16 o width order weak start =
    skeleton x86_kind.frame (map (λ i. i.0) ((expansion_of (Atomic o width order weak)).piece start)) ≡ row_of (X86 cx16) o order width (decided (X86 cx16) o width (bytes_of width))

load_row : (cx16 : Bool) (width : Width) (order : Order) (weak : Bool) (start : ℕ) → IsCoded cx16 (Atomic op.Load width order weak) → IsRow cx16 op.Load width order weak start
unfolding mark_of
load_row true W8 order weak start way = refl
load_row true W16 order weak start way = refl
load_row true W32 order weak start way = refl
load_row true W64 order weak start way = refl
load_row true W128 order weak start way = refl
load_row false W8 order weak start way = refl
load_row false W16 order weak start way = refl
load_row false W32 order weak start way = refl
load_row false W64 order weak start way = refl
load_row false W128 order weak start way = absurd (false≢true way)

exchange_row : (cx16 : Bool) (width : Width) (order : Order) (weak : Bool) (start : ℕ) → IsCoded cx16 (Atomic op.Cmpxchg width order weak) → IsRow cx16 op.Cmpxchg width order weak start
unfolding mark_of
exchange_row true W8 order weak start way = refl
exchange_row true W16 order weak start way = refl
exchange_row true W32 order weak start way = refl
exchange_row true W64 order weak start way = refl
exchange_row true W128 order weak start way = refl
exchange_row false W8 order weak start way = refl
exchange_row false W16 order weak start way = refl
exchange_row false W32 order weak start way = refl
exchange_row false W64 order weak start way = refl
exchange_row false W128 order weak start way = absurd (false≢true way)

store_row : (cx16 : Bool) (width : Width) (order : Order) (weak : Bool) (start : ℕ) → IsCoded cx16 (Atomic op.Store width order weak) → IsRow cx16 op.Store width order weak start
unfolding mark_of
store_row true W8 SeqCst weak start way = refl
store_row true W8 _ weak start way = refl
store_row true W16 SeqCst weak start way = refl
store_row true W16 _ weak start way = refl
store_row true W32 SeqCst weak start way = refl
store_row true W32 _ weak start way = refl
store_row true W64 SeqCst weak start way = refl
store_row true W64 _ weak start way = refl
store_row false W8 SeqCst weak start way = refl
store_row false W8 _ weak start way = refl
store_row false W16 SeqCst weak start way = refl
store_row false W16 _ weak start way = refl
store_row false W32 SeqCst weak start way = refl
store_row false W32 _ weak start way = refl
store_row false W64 SeqCst weak start way = refl
store_row false W64 _ weak start way = refl
store_row true W128 order weak start way = refl
store_row false W128 order weak start way = absurd (false≢true way)

fence_row : (cx16 : Bool) (width : Width) (order : Order) (weak : Bool) (start : ℕ) → IsRow cx16 op.Fence width order weak start
unfolding mark_of
fence_row cx16 width SeqCst weak start = refl
fence_row cx16 width _ weak start = refl

update_row : (cx16 : Bool) (o : RmwOp) (width : Width) (order : Order) (weak : Bool) (start : ℕ) → IsCoded cx16 (Atomic (op.Rmw o) width order weak) → IsRow cx16 (op.Rmw o) width order weak start
unfolding mark_of
update_row true rmw.Xchg W8 order weak start way = refl
update_row true _ W8 order weak start way = refl
update_row true rmw.Xchg W16 order weak start way = refl
update_row true _ W16 order weak start way = refl
update_row true rmw.Xchg W32 order weak start way = refl
update_row true _ W32 order weak start way = refl
update_row true rmw.Xchg W64 order weak start way = refl
update_row true _ W64 order weak start way = refl
update_row true rmw.Xchg W128 order weak start way = refl
update_row true _ W128 order weak start way = refl
update_row false rmw.Xchg W8 order weak start way = refl
update_row false _ W8 order weak start way = refl
update_row false rmw.Xchg W16 order weak start way = refl
update_row false _ W16 order weak start way = refl
update_row false rmw.Xchg W32 order weak start way = refl
update_row false _ W32 order weak start way = refl
update_row false rmw.Xchg W64 order weak start way = refl
update_row false _ W64 order weak start way = refl
update_row false o W128 order weak start way = absurd (false≢true way)

pub rows : (cx16 : Bool) (o : Op) (width : Width) (order : Order) (weak : Bool) (start : ℕ) → IsCoded cx16 (Atomic o width order weak) → IsRow cx16 o width order weak start
rows cx16 op.Load width order weak start way = load_row cx16 width order weak start way
rows cx16 op.Store width order weak start way = store_row cx16 width order weak start way
rows cx16 op.Cmpxchg width order weak start way = exchange_row cx16 width order weak start way
rows cx16 (op.Rmw o) width order weak start way = update_row cx16 o width order weak start way
rows cx16 op.Fence width order weak start way = fence_row cx16 width order weak start
