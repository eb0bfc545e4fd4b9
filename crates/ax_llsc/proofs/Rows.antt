-- The skeleton of each code is its row.
use Rattle.std.proofs.Common.{◌≡◌, ◌∙◌, ℕ, Bool, true, false, List, [], ◌∷◌, map, refl, sym, ap, subst, ⊎_elim}
use Rattle.std.proofs.lemmas.Bool.{false≢true}
use Rattle.ax_words.specs.declared.mark.Mark.{Mark}
use Rattle.ax_words.specs.declared.mark.Mark.TheVariants.{Memory}
use Rattle.ax_words.specs.declared.mark.MarkCode.{MarkCode}
use Rattle.ax_words.specs.declared.mark.Op.{Op}
use Rattle.ax_words.specs.declared.mark.Op.TheVariants as op
use Rattle.ax_words.specs.declared.operation.RmwOp.{RmwOp}
use Rattle.ax_words.specs.declared.operation.RmwOp.TheVariants as rmw
use Rattle.ax_words.specs.declared.order.Order.{Order}
use Rattle.ax_words.specs.declared.order.Order.TheVariants.{Unordered, Monotonic, Acquire, Release, AcqRel, SeqCst}
use Rattle.ax_words.specs.declared.width.Width.{Width}
use Rattle.ax_words.specs.declared.width.Width.TheVariants.{W8, W16, W32, W64, W128}
use Rattle.ax_words.specs.Orders.{is_legal}
use Rattle.ax_words.specs.Width.{bytes_of}
use Rattle.ax_target.specs.declared.target.Target.TheVariants.{Rv}
use Rattle.ax_target.specs.declared.decision.Way.TheVariants.{Masked}
use Rattle.ax_target.specs.Decisions.{decided}
use Rattle.ax_target.specs.Endings.{endings, with_ending}
use Rattle.ax_target.specs.Rows.{access_of, row_of}
use Rattle.ax_target.specs.RvRows.{rv_pair, rv_rmw}
use Rattle.ax_mid.specs.Machine.{is_wide}
use Rattle.ax_rv.specs.Instructions.{is_frame_register}
use Rattle.ax_rv.specs.Skeleton.{amo_code, ended, load_code, skeleton, store_code}
use Rattle.ax_mask.specs.Codes.{is_masked, is_narrow, masked_expansion}
use Rattle.ax_mask.specs.Laws.{MaskedCodeHasRow}
use Rattle.ax_mask.proofs.Rows.{pair_row}
use Rattle.ax_emit_rv.specs.Code.{Expansion}
use Rattle.ax_llsc.specs.Codes.{Atomic, IsCoded, amo_of, ending_of, exchange_of, expansion_of, update_of}
use Rattle.ax_llsc.proofs.Ways.{HasAmo, IsAtomicWidth, amo_or_nand, exchange_way, load_way, narrow_or_whole, store_way, update_way}

-- the instructions of some code
abbrev marks : (zabha zacas : Bool) → Op → Width → Order → Bool → ℕ → List Mark
marks zabha zacas o width order weak start = skeleton is_frame_register (map (λ i. i.0) ((expansion_of (Rv zabha zacas) (Atomic o width order weak)).piece start))

-- they are the row of its way
abbrev IsRow : (zabha zacas : Bool) → Op → Width → Order → Bool → ℕ → Type 0
IsRow zabha zacas o width order weak start = marks zabha zacas o width order weak start ≡ row_of (Rv zabha zacas) o order width (decided (Rv zabha zacas) o width (bytes_of width))

load_row : (zabha zacas : Bool) (width : Width) (order : Order) (weak : Bool) (start : ℕ) → is_wide width ≡ false → is_legal (access_of op.Load) order ≡ true → IsRow zabha zacas op.Load width order weak start
load_row zabha zacas W8 Unordered weak start n legal = refl
load_row zabha zacas W8 Monotonic weak start n legal = refl
load_row zabha zacas W8 Acquire weak start n legal = refl
load_row zabha zacas W8 Release weak start n legal = absurd (false≢true legal)
load_row zabha zacas W8 AcqRel weak start n legal = absurd (false≢true legal)
load_row zabha zacas W8 SeqCst weak start n legal = refl
load_row zabha zacas W16 Unordered weak start n legal = refl
load_row zabha zacas W16 Monotonic weak start n legal = refl
load_row zabha zacas W16 Acquire weak start n legal = refl
load_row zabha zacas W16 Release weak start n legal = absurd (false≢true legal)
load_row zabha zacas W16 AcqRel weak start n legal = absurd (false≢true legal)
load_row zabha zacas W16 SeqCst weak start n legal = refl
load_row zabha zacas W32 Unordered weak start n legal = refl
load_row zabha zacas W32 Monotonic weak start n legal = refl
load_row zabha zacas W32 Acquire weak start n legal = refl
load_row zabha zacas W32 Release weak start n legal = absurd (false≢true legal)
load_row zabha zacas W32 AcqRel weak start n legal = absurd (false≢true legal)
load_row zabha zacas W32 SeqCst weak start n legal = refl
load_row zabha zacas W64 Unordered weak start n legal = refl
load_row zabha zacas W64 Monotonic weak start n legal = refl
load_row zabha zacas W64 Acquire weak start n legal = refl
load_row zabha zacas W64 Release weak start n legal = absurd (false≢true legal)
load_row zabha zacas W64 AcqRel weak start n legal = absurd (false≢true legal)
load_row zabha zacas W64 SeqCst weak start n legal = refl
load_row zabha zacas W128 order weak start n legal = absurd (false≢true (sym n))

store_row : (zabha zacas : Bool) (width : Width) (order : Order) (weak : Bool) (start : ℕ) → is_wide width ≡ false → is_legal (access_of op.Store) order ≡ true → IsRow zabha zacas op.Store width order weak start
store_row zabha zacas W8 Unordered weak start n legal = refl
store_row zabha zacas W8 Monotonic weak start n legal = refl
store_row zabha zacas W8 Acquire weak start n legal = absurd (false≢true legal)
store_row zabha zacas W8 Release weak start n legal = refl
store_row zabha zacas W8 AcqRel weak start n legal = absurd (false≢true legal)
store_row zabha zacas W8 SeqCst weak start n legal = refl
store_row zabha zacas W16 Unordered weak start n legal = refl
store_row zabha zacas W16 Monotonic weak start n legal = refl
store_row zabha zacas W16 Acquire weak start n legal = absurd (false≢true legal)
store_row zabha zacas W16 Release weak start n legal = refl
store_row zabha zacas W16 AcqRel weak start n legal = absurd (false≢true legal)
store_row zabha zacas W16 SeqCst weak start n legal = refl
store_row zabha zacas W32 Unordered weak start n legal = refl
store_row zabha zacas W32 Monotonic weak start n legal = refl
store_row zabha zacas W32 Acquire weak start n legal = absurd (false≢true legal)
store_row zabha zacas W32 Release weak start n legal = refl
store_row zabha zacas W32 AcqRel weak start n legal = absurd (false≢true legal)
store_row zabha zacas W32 SeqCst weak start n legal = refl
store_row zabha zacas W64 Unordered weak start n legal = refl
store_row zabha zacas W64 Monotonic weak start n legal = refl
store_row zabha zacas W64 Acquire weak start n legal = absurd (false≢true legal)
store_row zabha zacas W64 Release weak start n legal = refl
store_row zabha zacas W64 AcqRel weak start n legal = absurd (false≢true legal)
store_row zabha zacas W64 SeqCst weak start n legal = refl
store_row zabha zacas W128 order weak start n legal = absurd (false≢true (sym n))

fence_row : (zabha zacas : Bool) (width : Width) (order : Order) (weak : Bool) (start : ℕ) → IsRow zabha zacas op.Fence width order weak start
fence_row zabha zacas width Unordered weak start = refl
fence_row zabha zacas width Monotonic weak start = refl
fence_row zabha zacas width Acquire weak start = refl
fence_row zabha zacas width Release weak start = refl
fence_row zabha zacas width AcqRel weak start = refl
fence_row zabha zacas width SeqCst weak start = refl

-- an order shows in the ending of an instruction's name
ending_row : (order : Order) (plain acquire release both : MarkCode) → ended plain acquire release both (ending_of order) ≡ with_ending order (endings plain acquire release both)
ending_row Unordered plain acquire release both = refl
ending_row Monotonic plain acquire release both = refl
ending_row Acquire plain acquire release both = refl
ending_row Release plain acquire release both = refl
ending_row AcqRel plain acquire release both = refl
ending_row SeqCst plain acquire release both = refl

amo_row : (o : RmwOp) (order : Order) (n : ℕ) → HasAmo o → Memory (amo_code (amo_of o) (ending_of order)) n ∷ [] ≡ rv_rmw o order n
amo_row rmw.Nand order n has = absurd has
amo_row rmw.Xchg order n has = ap (λ m. Memory m n ∷ []) (ending_row order _ _ _ _)
amo_row rmw.Add order n has = ap (λ m. Memory m n ∷ []) (ending_row order _ _ _ _)
amo_row rmw.Sub order n has = ap (λ m. Memory m n ∷ []) (ending_row order _ _ _ _)
amo_row rmw.And order n has = ap (λ m. Memory m n ∷ []) (ending_row order _ _ _ _)
amo_row rmw.Or order n has = ap (λ m. Memory m n ∷ []) (ending_row order _ _ _ _)
amo_row rmw.Xor order n has = ap (λ m. Memory m n ∷ []) (ending_row order _ _ _ _)
amo_row rmw.Max order n has = ap (λ m. Memory m n ∷ []) (ending_row order _ _ _ _)
amo_row rmw.Min order n has = ap (λ m. Memory m n ∷ []) (ending_row order _ _ _ _)
amo_row rmw.UMax order n has = ap (λ m. Memory m n ∷ []) (ending_row order _ _ _ _)
amo_row rmw.UMin order n has = ap (λ m. Memory m n ∷ []) (ending_row order _ _ _ _)

update_row : (zabha zacas : Bool) (o : RmwOp) (width : Width) (order : Order) (weak : Bool) (start : ℕ) → HasAmo o → IsAtomicWidth width → IsRow zabha zacas (op.Rmw o) width order weak start
update_row zabha zacas o W8 order weak start has size = absurd size
update_row zabha zacas o W16 order weak start has size = absurd size
update_row zabha zacas o W128 order weak start has size = absurd size
update_row zabha zacas rmw.Nand width order weak start has size = absurd has
update_row zabha zacas rmw.Xchg W32 order weak start has size = amo_row rmw.Xchg order 4 tt
update_row zabha zacas rmw.Xchg W64 order weak start has size = amo_row rmw.Xchg order 8 tt
update_row zabha zacas rmw.Add W32 order weak start has size = amo_row rmw.Add order 4 tt
update_row zabha zacas rmw.Add W64 order weak start has size = amo_row rmw.Add order 8 tt
update_row zabha zacas rmw.Sub W32 order weak start has size = amo_row rmw.Sub order 4 tt
update_row zabha zacas rmw.Sub W64 order weak start has size = amo_row rmw.Sub order 8 tt
update_row zabha zacas rmw.And W32 order weak start has size = amo_row rmw.And order 4 tt
update_row zabha zacas rmw.And W64 order weak start has size = amo_row rmw.And order 8 tt
update_row zabha zacas rmw.Or W32 order weak start has size = amo_row rmw.Or order 4 tt
update_row zabha zacas rmw.Or W64 order weak start has size = amo_row rmw.Or order 8 tt
update_row zabha zacas rmw.Xor W32 order weak start has size = amo_row rmw.Xor order 4 tt
update_row zabha zacas rmw.Xor W64 order weak start has size = amo_row rmw.Xor order 8 tt
update_row zabha zacas rmw.Max W32 order weak start has size = amo_row rmw.Max order 4 tt
update_row zabha zacas rmw.Max W64 order weak start has size = amo_row rmw.Max order 8 tt
update_row zabha zacas rmw.Min W32 order weak start has size = amo_row rmw.Min order 4 tt
update_row zabha zacas rmw.Min W64 order weak start has size = amo_row rmw.Min order 8 tt
update_row zabha zacas rmw.UMax W32 order weak start has size = amo_row rmw.UMax order 4 tt
update_row zabha zacas rmw.UMax W64 order weak start has size = amo_row rmw.UMax order 8 tt
update_row zabha zacas rmw.UMin W32 order weak start has size = amo_row rmw.UMin order 4 tt
update_row zabha zacas rmw.UMin W64 order weak start has size = amo_row rmw.UMin order 8 tt

-- ---- loops of a linked load and a pair store
nand_row : (zabha zacas : Bool) (width : Width) (order : Order) (weak : Bool) (start : ℕ) → IsAtomicWidth width → IsRow zabha zacas (op.Rmw rmw.Nand) width order weak start
nand_row zabha zacas W32 order weak start size = pair_row order 4
nand_row zabha zacas W64 order weak start size = pair_row order 8
nand_row zabha zacas W8 order weak start size = absurd size
nand_row zabha zacas W16 order weak start size = absurd size
nand_row zabha zacas W128 order weak start size = absurd size

exchange_row : (zabha zacas : Bool) (width : Width) (order : Order) (weak : Bool) (start : ℕ) → IsAtomicWidth width → IsRow zabha zacas op.Cmpxchg width order weak start
exchange_row zabha zacas W32 order true start size = pair_row order 4
exchange_row zabha zacas W32 order false start size = pair_row order 4
exchange_row zabha zacas W64 order true start size = pair_row order 8
exchange_row zabha zacas W64 order false start size = pair_row order 8
exchange_row zabha zacas W8 order weak start size = absurd size
exchange_row zabha zacas W16 order weak start size = absurd size
exchange_row zabha zacas W128 order weak start size = absurd size

-- ---- of the word that holds the object
narrow_way : (zabha zacas : Bool) (o : RmwOp) → (decided (Rv zabha zacas) (op.Rmw o) W8 1 ≡ Masked) × (decided (Rv zabha zacas) (op.Rmw o) W16 2 ≡ Masked)
narrow_way zabha zacas rmw.Xchg = (refl, refl)
narrow_way zabha zacas rmw.Add = (refl, refl)
narrow_way zabha zacas rmw.Sub = (refl, refl)
narrow_way zabha zacas rmw.And = (refl, refl)
narrow_way zabha zacas rmw.Nand = (refl, refl)
narrow_way zabha zacas rmw.Or = (refl, refl)
narrow_way zabha zacas rmw.Xor = (refl, refl)
narrow_way zabha zacas rmw.Max = (refl, refl)
narrow_way zabha zacas rmw.Min = (refl, refl)
narrow_way zabha zacas rmw.UMax = (refl, refl)
narrow_way zabha zacas rmw.UMin = (refl, refl)

masked_way : (zabha zacas : Bool) (o : Op) (width : Width) → is_narrow width ≡ true → is_masked o ≡ true → decided (Rv zabha zacas) o width (bytes_of width) ≡ Masked
masked_way zabha zacas op.Cmpxchg W8 narrow is = refl
masked_way zabha zacas op.Cmpxchg W16 narrow is = refl
masked_way zabha zacas (op.Rmw o) W8 narrow is = (narrow_way zabha zacas o).0
masked_way zabha zacas (op.Rmw o) W16 narrow is = (narrow_way zabha zacas o).1
masked_way zabha zacas op.Load width narrow is = absurd (false≢true is)
masked_way zabha zacas op.Store width narrow is = absurd (false≢true is)
masked_way zabha zacas op.Fence width narrow is = absurd (false≢true is)
masked_way zabha zacas o W32 narrow is = absurd (false≢true narrow)
masked_way zabha zacas o W64 narrow is = absurd (false≢true narrow)
masked_way zabha zacas o W128 narrow is = absurd (false≢true narrow)

module _ (law : MaskedCodeHasRow) (zabha zacas : Bool) where
  -- the row of an expansion's code
  abbrev HasRow : Op → Width → Order → ℕ → Expansion → Type 0
  HasRow o width order start e = skeleton is_frame_register (map (λ i. i.0) (e.piece start)) ≡ row_of (Rv zabha zacas) o order width (decided (Rv zabha zacas) o width (bytes_of width))

  narrow_row : (o : Op) (width : Width) (order : Order) (weak : Bool) (start : ℕ) → is_narrow width ≡ true → is_masked o ≡ true → is_legal (access_of o) order ≡ true → HasRow o width order start (masked_expansion o width order weak)
  narrow_row o width order weak start narrow is legal = law zabha zacas o width order weak narrow is legal ∙ ap (row_of (Rv zabha zacas) o order width) (sym (masked_way zabha zacas o width narrow is))

  pub rows : (o : Op) (width : Width) (order : Order) (weak : Bool) (start : ℕ) → IsCoded (Rv zabha zacas) (Atomic o width order weak) → is_legal (access_of o) order ≡ true → IsRow zabha zacas o width order weak start
  rows op.Load width order weak start way legal = load_row zabha zacas width order weak start (load_way zabha zacas width way) legal
  rows op.Store width order weak start way legal = store_row zabha zacas width order weak start (store_way zabha zacas width way) legal
  rows op.Cmpxchg width order weak start way legal =
      ⊎_elim (λ narrow. subst (λ b. HasRow op.Cmpxchg width order start (exchange_of b width order weak)) (sym narrow) (narrow_row op.Cmpxchg width order weak start narrow refl legal)) (λ whole. exchange_row zabha zacas width order weak start whole) (narrow_or_whole width (exchange_way zabha zacas width way))
  rows (op.Rmw o) width order weak start way legal =
      ⊎_elim (λ narrow. subst (λ b. HasRow (op.Rmw o) width order start (update_of b (Rv zabha zacas) o width order weak)) (sym narrow) (narrow_row (op.Rmw o) width order weak start narrow refl legal))
      (λ size. ⊎_elim (λ e. subst (λ q. IsRow zabha zacas (op.Rmw q) width order weak start) (sym e) (nand_row zabha zacas width order weak start size)) (λ has. update_row zabha zacas o width order weak start has size) (amo_or_nand o))
      (narrow_or_whole width (update_way zabha zacas o width way))
  rows op.Fence width order weak start way legal = fence_row zabha zacas width order weak start
