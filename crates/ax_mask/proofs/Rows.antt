-- The skeleton of masked code is the row of a pair, of 4 bytes.
use Rattle.std.proofs.Common.{◌≡◌, ℕ, Bool, true, false, List, [], ◌∷◌, map, refl}
use Rattle.std.proofs.lemmas.Bool.{false≢true}
use Rattle.ax_words.specs.declared.mark.Mark.TheVariants.{Memory}
use Rattle.ax_words.specs.declared.mark.Op.{Op}
use Rattle.ax_words.specs.declared.mark.Op.TheVariants as op
use Rattle.ax_words.specs.declared.operation.RmwOp.{RmwOp}
use Rattle.ax_words.specs.declared.operation.RmwOp.TheVariants as rmw
use Rattle.ax_words.specs.declared.order.Order.{Order}
use Rattle.ax_words.specs.declared.order.Order.TheVariants.{Unordered, Monotonic, Acquire, Release, AcqRel, SeqCst}
use Rattle.ax_words.specs.declared.width.Width.{Width}
use Rattle.ax_target.specs.RvRows.{rv_pair}
use Rattle.ax_rv.specs.Instructions.{is_frame_register}
use Rattle.ax_rv.specs.Skeleton.{load_code, skeleton, store_code}
use Rattle.ax_mask.specs.Codes.{is_masked, masked_code}
use Rattle.ax_mask.specs.Pairs.{link_ending, store_ending}

-- a linked load and a pair store
pub pair_row : (order : Order) (n : ℕ) → Memory (load_code (link_ending order)) n ∷ Memory (store_code (store_ending order)) n ∷ [] ≡ rv_pair order n
pair_row Unordered n = refl
pair_row Monotonic n = refl
pair_row Acquire n = refl
pair_row Release n = refl
pair_row AcqRel n = refl
pair_row SeqCst n = refl

abbrev IsRow : Op → Width → Order → Bool → Type 0
IsRow o width order weak = skeleton is_frame_register (map (λ i. i.0) (masked_code o width order weak)) ≡ rv_pair order 4

update_row : (o : RmwOp) (width : Width) (order : Order) (weak : Bool) → IsRow (op.Rmw o) width order weak
update_row rmw.Xchg width order weak = pair_row order 4
update_row rmw.Add width order weak = pair_row order 4
update_row rmw.Sub width order weak = pair_row order 4
update_row rmw.And width order weak = pair_row order 4
update_row rmw.Nand width order weak = pair_row order 4
update_row rmw.Or width order weak = pair_row order 4
update_row rmw.Xor width order weak = pair_row order 4
update_row rmw.Max width order weak = pair_row order 4
update_row rmw.Min width order weak = pair_row order 4
update_row rmw.UMax width order weak = pair_row order 4
update_row rmw.UMin width order weak = pair_row order 4

pub rows : (o : Op) (width : Width) (order : Order) (weak : Bool) → is_masked o ≡ true → IsRow o width order weak
rows op.Cmpxchg width order true masked = pair_row order 4
rows op.Cmpxchg width order false masked = pair_row order 4
rows (op.Rmw o) width order weak masked = update_row o width order weak
rows op.Load width order weak masked = absurd (false≢true masked)
rows op.Store width order weak masked = absurd (false≢true masked)
rows op.Fence width order weak masked = absurd (false≢true masked)
