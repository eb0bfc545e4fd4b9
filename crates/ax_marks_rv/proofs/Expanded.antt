-- The code of atomic operations on registers: it is the same wherever it stands, and leads into itself or right behind it.
use Rattle.std.proofs.Common.{◌≡◌, ℕ, ◌<◌, Bool, true, false, List, [], ◌∷◌, ◌++◌, map, length, refl, sym, ap, ◌∙◌, subst, arith}
use Rattle.std.proofs.lemmas.Bool.{false≢true, true≢false}
use Rattle.std.proofs.lemmas.List.{length-append, map-append}
use Rattle.ax_words.specs.declared.mark.Op.{Op}
use Rattle.ax_words.specs.declared.mark.Op.TheVariants as op
use Rattle.ax_words.specs.declared.operation.RmwOp.{RmwOp}
use Rattle.ax_words.specs.declared.operation.RmwOp.TheVariants as rmw
use Rattle.ax_words.specs.declared.order.Order.{Order}
use Rattle.ax_words.specs.declared.order.Order.TheVariants.{Unordered, Monotonic, Acquire, Release, AcqRel, SeqCst}
use Rattle.ax_words.specs.declared.width.Width.{Width}
use Rattle.ax_words.specs.declared.width.Width.TheVariants.{W8, W16, W32, W64, W128}
use Rattle.ax_tags.specs.declared.tags.Tag.{Tag}
use Rattle.ax_tags.specs.declared.tags.Tag.TheVariants.{Act}
use Rattle.ax_target.specs.declared.target.Target.{Target}
use Rattle.ax_rv.specs.declared.instructions.FenceSets.{FenceSets}
use Rattle.ax_rv.specs.declared.instructions.RvInstr.{RvInstr}
use Rattle.ax_expand.specs.Standing.{silently}
use Rattle.ax_emit_rv.specs.Code.{Expansion}
use Rattle.ax_fine.specs.OnBytes.{atomic_doing}
use Rattle.ax_mask.specs.Codes.{is_narrow, masked_code}
use Rattle.ax_llsc.specs.Codes.{Atomic, atomic_rounding, before_load, before_store, behind_load, exchange_of, expansion_of, fence_instr, fences, prepare, rounded, update_of}
use Rattle.ax_llsc.specs.Loops.{clear, exchange_code, nand_code}
use Rattle.ax_llsc.specs.Rounds.{Rounding}
use Rattle.ax_marks_rv.proofs.Inside.{IsStill, is_closed, still_closed}
use Rattle.ax_marks_rv.proofs.Items.{Each, each_both}

-- ---- instructions without their marks of events
abbrev pub bare : List (RvInstr × Tag) → List RvInstr
bare zs = map (λ z. z.0) zs

pub bare_silently : (is : List RvInstr) (zs : List (RvInstr × Tag)) → bare (silently is ++ zs) ≡ is ++ bare zs
bare_silently [] zs = refl
bare_silently (i ∷ is) zs = ap (λ (l : List RvInstr). i ∷ l) (bare_silently is zs)

pub bare_all : (is : List RvInstr) → bare (silently is) ≡ is
bare_all [] = refl
bare_all (i ∷ is) = ap (λ (l : List RvInstr). i ∷ l) (bare_all is)

pub bare_wrapped : (before : List RvInstr) (zs : List (RvInstr × Tag)) (after : List RvInstr) → bare (silently before ++ (zs ++ silently after)) ≡ before ++ (bare zs ++ after)
bare_wrapped before zs after =
    bare_silently before (zs ++ silently after)
    ∙ ap (λ (l : List RvInstr). before ++ l) (map-append (λ (z : RvInstr × Tag). z.0) zs (silently after) ∙ ap (λ (l : List RvInstr). bare zs ++ l) (bare_all after))

-- ---- the code of an atomic operation
abbrev pub expanded : Target → Op → Width → Order → Bool → List RvInstr
expanded target o width order weak = bare ((expansion_of target (Atomic o width order weak)).piece 0)

-- an operation whose code is a loop: a compare-exchange, a nand, and each change of an object below 4 bytes
abbrev pub loops_on : Bool → RmwOp → Bool
loops_on true o = true
loops_on false rmw.Nand = true
loops_on false _ = false

abbrev pub is_looping : Width → Op → Bool
is_looping width op.Cmpxchg = true
is_looping width (op.Rmw o) = loops_on (is_narrow width) o
is_looping width _ = false

exchange_steady : (narrow : Bool) (width : Width) (order : Order) (weak : Bool) (start : ℕ) → (exchange_of narrow width order weak).piece start ≡ (exchange_of narrow width order weak).piece 0
exchange_steady true width order weak start = refl
exchange_steady false width order weak start = refl

update_steady : (narrow : Bool) (target : Target) (o : RmwOp) (width : Width) (order : Order) (weak : Bool) (start : ℕ) → (update_of narrow target o width order weak).piece start ≡ (update_of narrow target o width order weak).piece 0
update_steady true target o width order weak start = refl
update_steady false target rmw.Nand width order weak start = refl
update_steady false target _ width order weak start = refl

pub steady : (target : Target) (o : Op) (width : Width) (order : Order) (weak : Bool) (start : ℕ) → (expansion_of target (Atomic o width order weak)).piece start ≡ (expansion_of target (Atomic o width order weak)).piece 0
steady target op.Cmpxchg width order weak start = exchange_steady (is_narrow width) width order weak start
steady target (op.Rmw o) width order weak start = update_steady (is_narrow width) target o width order weak start
steady target _ width order weak start = refl

-- ---- code without a loop leads nowhere
fences_still : (sets : List FenceSets) → Each IsStill (fences sets)
fences_still [] = tt
fences_still (s ∷ sets) = (refl, fences_still sets)

clear_still : (r : ℕ) (width : Width) → Each IsStill (clear r width)
clear_still r W8 = tt
clear_still r W16 = tt
clear_still r W32 = (refl, (refl, tt))
clear_still r W64 = tt
clear_still r W128 = tt

prepare_still : (o : RmwOp) → Each IsStill (prepare o)
prepare_still rmw.Sub = (refl, (refl, tt))
prepare_still _ = tt

fence_still : (order : Order) → IsStill (fence_instr order)
fence_still Unordered = refl
fence_still Monotonic = refl
fence_still Acquire = refl
fence_still Release = refl
fence_still AcqRel = refl
fence_still SeqCst = refl

module _ (target : Target) (width : Width) (order : Order) (weak : Bool) where
  abbrev round : Op → Rounding RvInstr
  round o = atomic_rounding (atomic_doing target o width order weak) o width order

  update_straight : (narrow : Bool) (o : RmwOp) → loops_on narrow o ≡ false → update_of narrow target o width order weak ≡ rounded (round (op.Rmw o))
  update_straight true o h = absurd (true≢false h)
  update_straight false rmw.Nand h = absurd (true≢false h)
  update_straight false _ h = refl

  straight : (o : Op) → is_looping width o ≡ false → expansion_of target (Atomic o width order weak) ≡ rounded (round o)
  straight op.Cmpxchg h = absurd (true≢false h)
  straight (op.Rmw o) h = update_straight (is_narrow width) o h
  straight _ h = refl

  straight_code : (o : Op) → is_looping width o ≡ false → expanded target o width order weak ≡ (round o).before ++ ((round o).access ∷ (round o).after)
  straight_code o h = ap (λ (e : Expansion). bare (e.piece 0)) (straight o h) ∙ bare_wrapped (round o).before (((round o).access, Act) ∷ []) (round o).after

  before_still : (o : Op) → Each IsStill (round o).before
  before_still op.Load = fences_still (before_load order)
  before_still op.Store = fences_still (before_store order)
  before_still op.Cmpxchg = tt
  before_still (op.Rmw o) = prepare_still o
  before_still op.Fence = tt

  access_still : (o : Op) → IsStill (round o).access
  access_still op.Load = refl
  access_still op.Store = refl
  access_still op.Cmpxchg = refl
  access_still (op.Rmw o) = refl
  access_still op.Fence = fence_still order

  after_still : (o : Op) → Each IsStill (round o).after
  after_still op.Load = each_both IsStill (fences (behind_load order)) (clear 15 width) (fences_still (behind_load order)) (clear_still 15 width)
  after_still op.Store = tt
  after_still op.Cmpxchg = tt
  after_still (op.Rmw o) = clear_still 15 width
  after_still op.Fence = tt

  pub expanded_still : (o : Op) → is_looping width o ≡ false → Each IsStill (expanded target o width order weak)
  expanded_still o h = subst (Each IsStill) (sym (straight_code o h)) (each_both IsStill (round o).before ((round o).access ∷ (round o).after) (before_still o) (access_still o, after_still o))

-- ---- loops lead back to the linked load, or forward, to the place behind them at most
loop_closed : (width : Width) (order : Order) (weak : Bool) → is_closed (bare (exchange_code width order weak)) ≡ true
loop_closed W8 order true = refl
loop_closed W8 order false = refl
loop_closed W16 order true = refl
loop_closed W16 order false = refl
loop_closed W32 order true = refl
loop_closed W32 order false = refl
loop_closed W64 order true = refl
loop_closed W64 order false = refl
loop_closed W128 order true = refl
loop_closed W128 order false = refl

nand_closed : (width : Width) (order : Order) → is_closed (bare (nand_code width order)) ≡ true
nand_closed W8 order = refl
nand_closed W16 order = refl
nand_closed W32 order = refl
nand_closed W64 order = refl
nand_closed W128 order = refl

masked_closed : (o : RmwOp) (width : Width) (order : Order) (weak : Bool) → is_closed (bare (masked_code (op.Rmw o) width order weak)) ≡ true
masked_closed rmw.Xchg width order weak = refl
masked_closed _ width order weak = refl

exchange_closed : (narrow : Bool) (width : Width) (order : Order) (weak : Bool) → is_closed (bare ((exchange_of narrow width order weak).piece 0)) ≡ true
exchange_closed true width order true = refl
exchange_closed true width order false = refl
exchange_closed false width order weak = loop_closed width order weak

module _ (target : Target) (width : Width) (order : Order) (weak : Bool) where
  update_closed : (narrow : Bool) (o : RmwOp) → loops_on narrow o ≡ true → is_closed (bare ((update_of narrow target o width order weak).piece 0)) ≡ true
  update_closed true o h = masked_closed o width order weak
  update_closed false rmw.Nand h = nand_closed width order
  update_closed false _ h = absurd (false≢true h)

  looping_closed : (o : Op) → is_looping width o ≡ true → is_closed (expanded target o width order weak) ≡ true
  looping_closed op.Cmpxchg h = exchange_closed (is_narrow width) width order weak
  looping_closed (op.Rmw o) h = update_closed (is_narrow width) o h
  looping_closed _ h = absurd (false≢true h)

  closed_by : (o : Op) (looping : Bool) → is_looping width o ≡ looping → is_closed (expanded target o width order weak) ≡ true
  closed_by o true h = looping_closed o h
  closed_by o false h = still_closed (expanded target o width order weak) (expanded_still target width order weak o h)

pub expanded_closed : (target : Target) (o : Op) (width : Width) (order : Order) (weak : Bool) → is_closed (expanded target o width order weak) ≡ true
expanded_closed target o width order weak = closed_by target width order weak o (is_looping width o) refl

-- ---- each has an instruction
some_in : (is : List RvInstr) (x : RvInstr) (xs : List RvInstr) → 0 < length (is ++ (x ∷ xs))
some_in is x xs = let e = length-append is (x ∷ xs) in omega (arith, e)

exchange_some : (narrow : Bool) (width : Width) (order : Order) (weak : Bool) → 0 < length (bare ((exchange_of narrow width order weak).piece 0))
exchange_some true width order weak = omega arith
exchange_some false width order weak = omega arith

module _ (target : Target) (width : Width) (order : Order) (weak : Bool) where
  update_some : (narrow : Bool) (o : RmwOp) → loops_on narrow o ≡ true → 0 < length (bare ((update_of narrow target o width order weak).piece 0))
  update_some true o h = omega arith
  update_some false rmw.Nand h = omega arith
  update_some false _ h = absurd (false≢true h)

  looping_some : (o : Op) → is_looping width o ≡ true → 0 < length (expanded target o width order weak)
  looping_some op.Cmpxchg h = exchange_some (is_narrow width) width order weak
  looping_some (op.Rmw o) h = update_some (is_narrow width) o h
  looping_some _ h = absurd (false≢true h)

  some_by : (o : Op) (looping : Bool) → is_looping width o ≡ looping → 0 < length (expanded target o width order weak)
  some_by o true h = looping_some o h
  some_by o false h =
      let z = atomic_rounding (atomic_doing target o width order weak) o width order in
      subst (λ (l : List RvInstr). 0 < length l) (sym (straight_code target width order weak o h)) (some_in z.before z.access z.after)

pub expanded_some : (target : Target) (o : Op) (width : Width) (order : Order) (weak : Bool) → 0 < length (expanded target o width order weak)
expanded_some target o width order weak = some_by target width order weak o (is_looping width o) refl
