-- The code of loops, and so that of each operation, is good where it stands, and short.
use Rattle.std.proofs.Common.{◌≡◌, ℕ, ◌+◌, ◌^◌, ◌<◌, ◌≤◌, ◌⊎◌, inl, inr, pos, negsuc, Bool, true, false, List, [], ◌∷◌, ◌++◌, length, refl, sym, subst, arith, length-append}
use Rattle.ax_words.specs.declared.mark.Op.{Op}
use Rattle.ax_words.specs.declared.mark.Op.TheVariants as op
use Rattle.ax_words.specs.declared.operation.RmwOp.{RmwOp}
use Rattle.ax_words.specs.declared.operation.RmwOp.TheVariants as rmw
use Rattle.ax_words.specs.declared.order.Order.{Order}
use Rattle.ax_words.specs.declared.width.Width.{Width}
use Rattle.ax_words.specs.declared.width.Width.TheVariants.{W32}
use Rattle.ax_tags.specs.declared.tags.Tag.{Tag}
use Rattle.ax_tags.specs.declared.tags.Tag.TheVariants.{Silent, Stored}
use Rattle.ax_target.specs.declared.target.Target.{Target}
use Rattle.ax_rv.specs.declared.instructions.Binary.TheVariants as binary
use Rattle.ax_rv.specs.declared.instructions.Condition.TheVariants as condition
use Rattle.ax_rv.specs.declared.instructions.RvInstr.{RvInstr}
use Rattle.ax_rv.specs.declared.instructions.RvInstr.TheVariants.{Binary, Branch, Li, StoreConditional, Unary}
use Rattle.ax_rv.specs.declared.instructions.Unary.TheVariants as unary
use Rattle.ax_rv.specs.Instructions.{IsDistance}
use Rattle.ax_expand.specs.Standing.{silently}
use Rattle.ax_expand.proofs.Straight.{silent_length}
use Rattle.ax_emit_rv.specs.Code.{Expansion}
use Rattle.ax_mask.specs.Codes.{is_narrow, masked_code}
use Rattle.ax_mask.specs.Pairs.{store_ending}
use Rattle.ax_llsc.specs.Codes.{Atomic, exchange_of, rounded, rounding, update_of}
use Rattle.ax_llsc.specs.Loops.{answer, clear, comparand, different, exchange_code, link, nand_back, nand_code, nand_computation, size_of}
use Rattle.ax_direct_rv.specs.Direct.{direct_expansions}
use Rattle.ax_sound.proofs.Places.{IsLed, backward, forward}
use Rattle.ax_sound.proofs.Straight.{AllGo, go_both, good_behind, straight_good, straight_silently}
use Rattle.ax_sound_rv.proofs.Instructions.{AreGood, GoesOn, good_of, leap_good, rv, turn_good}
use Rattle.ax_sound_rv.proofs.Masked.{link_ends, mark_is, masked_few, masked_good, store_ends}
use Rattle.ax_sound_rv.proofs.Rounds.{clear_goes, one_access, one_few, one_straight}

-- ---- its parts
link_goes : (width : Width) (order : Order) → GoesOn (link width order)
link_goes width order = (omega arith, omega arith, link_ends order)

comparand_goes : (width : Width) → GoesOn (comparand width)
comparand_goes W32 = (omega arith, omega arith)
comparand_goes _ = (omega arith, omega arith, omega arith)

module _ (n : ℕ) (low : n < 2 ^ 31) where
  clear_good : (width : Width) (place : ℕ) → AreGood n place (silently (clear 15 width))
  clear_good width place = straight_good rv n place (silently (clear 15 width)) (straight_silently rv (clear 15 width) (clear_goes width))

  -- ---- compare-exchange: a weak one jumps over its last instruction, and there is code behind it
  module _ (width : Width) (order : Order) (place : ℕ) (some : 1 ≤ place) (most : place + 7 ≤ n) where
    answer_good : (weak : Bool) → AreGood n (place + 1 + 1 + 1 + 1) (silently (answer weak ++ clear 15 width))
    answer_good true = (
      good_of n (place + 1 + 1 + 1 + 1) (Unary unary.IsZero 16 16) (omega arith, omega arith),
      tt,
      (
        leap_good n (place + 1 + 1 + 1 + 1 + 1) (pos 2) (omega arith) (forward n (place + 1 + 1 + 1 + 1 + 1) 2 low (omega arith) (omega (arith, most))),
        tt,
        (good_of n (place + 1 + 1 + 1 + 1 + 1 + 1) (Li 16 0) (omega arith, omega arith), tt, clear_good width (place + 1 + 1 + 1 + 1 + 1 + 1 + 1)),
      ),
    )
    answer_good false = (
      turn_good n (place + 1 + 1 + 1 + 1) condition.NotEqual 16 0 (negsuc 3) (omega arith, omega arith, omega arith) (backward n (place + 1 + 1 + 1 + 1) 3 low (omega (arith, some)) (omega (arith, most))),
      tt,
      (
        good_of n (place + 1 + 1 + 1 + 1 + 1) (Binary binary.Subtract 16 15 5) (omega arith, omega arith, omega arith),
        tt,
        (good_of n (place + 1 + 1 + 1 + 1 + 1 + 1) (Unary unary.IsZero 16 16) (omega arith, omega arith), tt, clear_good width (place + 1 + 1 + 1 + 1 + 1 + 1 + 1)),
      ),
    )

    between : (weak : Bool) → (3 ≤ different weak) × (different weak ≤ 4)
    between true = (omega arith, omega arith)
    between false = (omega arith, omega arith)

    exchange_good : (weak : Bool) → AreGood n place (exchange_code width order weak)
    exchange_good weak =
        let least = (between weak).0 in
        let greatest = (between weak).1 in (
          good_of n place (link width order) (link_goes width order),
          (omega arith, tt),
          (
            good_of n (place + 1) (comparand width) (comparand_goes width),
            tt,
            (
              turn_good n (place + 1 + 1) condition.NotEqual 15 5 (pos (different weak)) (omega arith, omega arith, omega (arith, greatest)) (forward n (place + 1 + 1) (different weak) low (omega (arith, least)) (omega (arith, greatest, most))),
              tt,
              (good_of n (place + 1 + 1 + 1) (StoreConditional (size_of width) (store_ending order) 16 12 10) (omega arith, omega arith, omega arith, store_ends order), mark_is weak, answer_good weak),
            ),
          ),
        )

  -- ---- nand
  nand_goes : (width : Width) → AllGo rv (nand_computation width)
  nand_goes width = go_both rv (clear 15 width) (Binary binary.And 6 15 11 ∷ Unary unary.Not 6 6 ∷ []) (clear_goes width) ((omega arith, omega arith, omega arith), ((omega arith, omega arith), tt))

  back_distance : (width : Width) → IsDistance (nand_back width)
  back_distance W32 = omega arith
  back_distance _ = omega arith

  module _ (width : Width) (order : Order) (place : ℕ) (some : 1 ≤ place) where
    -- the place of its last instruction
    abbrev nand_last : ℕ
    nand_last = place + 1 + length (nand_computation width) + 1

    back_led : (w : Width) → place + 1 + length (nand_computation w) + 1 ≤ n → IsLed n (place + 1 + length (nand_computation w) + 1) (nand_back w)
    back_led W32 most = backward n (place + 1 + 4 + 1) 5 low (omega (arith, some)) most
    back_led _ most = backward n (place + 1 + 2 + 1) 3 low (omega (arith, some)) most

    nand_good : place + length (nand_code width order) ≤ n + 1 → AreGood n place (nand_code width order)
    nand_good most =
        let computation = nand_computation width in
        let end : List (RvInstr × Tag) = (StoreConditional (size_of width) (store_ending order) 7 6 10, Stored) ∷ (Branch condition.NotEqual 7 0 (nand_back width), Silent) ∷ [] in
        let a = length-append (silently computation) end in
        let b = silent_length computation in (
          good_of n place (link width order) (link_goes width order),
          tt,
          good_behind rv n (place + 1) computation end (nand_goes width) (
            good_of n (place + 1 + length computation) (StoreConditional (size_of width) (store_ending order) 7 6 10) (omega arith, omega arith, omega arith, store_ends order),
            tt,
            (turn_good n nand_last condition.NotEqual 7 0 (nand_back width) (omega arith, omega arith, back_distance width) (back_led width (omega (arith, a, b, most))), tt, tt),
          ),
        )

-- ---- how long they are
exchange_few : (width : Width) (weak : Bool) (order : Order) → length (exchange_code width order weak) ≤ 24
exchange_few W32 true order = omega arith
exchange_few W32 false order = omega arith
exchange_few _ true order = omega arith
exchange_few _ false order = omega arith

nand_few : (width : Width) (order : Order) → length (nand_code width order) ≤ 24
nand_few W32 order = omega arith
nand_few _ order = omega arith

-- ---- each operation: of an object below 4 bytes by a loop over its word, a compare-exchange or a nand by a loop of its own, and else by one access
module _ (target : Target) (width : Width) (order : Order) (weak : Bool) where
  abbrev piece : Op → ℕ → List (RvInstr × Tag)
  piece o start = (direct_expansions target o width order weak).piece start

  update_is : (o : RmwOp) → (o ≡ rmw.Nand) ⊎ (update_of false target o width order weak ≡ rounded (rounding target (Atomic (op.Rmw o) width order weak)))
  update_is rmw.Nand = inl refl
  update_is _ = inr refl

  module _ (start : ℕ) where
    exchange_most : (narrow : Bool) → length ((exchange_of narrow width order weak).piece start) ≤ 24
    exchange_most true = masked_few op.Cmpxchg width order weak
    exchange_most false = exchange_few width weak order

    update_most : (narrow : Bool) (o : RmwOp) → length ((update_of narrow target o width order weak).piece start) ≤ 24
    update_most true o = masked_few (op.Rmw o) width order weak
    update_most false o = by (update_is o)
      where
        by : (o ≡ rmw.Nand) ⊎ (update_of false target o width order weak ≡ rounded (rounding target (Atomic (op.Rmw o) width order weak))) → length ((update_of false target o width order weak).piece start) ≤ 24
        by (inl e) = subst (λ (q : RmwOp). length ((update_of false target q width order weak).piece start) ≤ 24) (sym e) (nand_few width order)
        by (inr e) = subst (λ (z : Expansion). length (z.piece start) ≤ 24) (sym e) (let five = one_few target (op.Rmw o) width order weak start in omega (arith, five))

    -- none has more than 24 instructions
    pub direct_most : (o : Op) → length (piece o start) ≤ 24
    direct_most op.Cmpxchg = exchange_most (is_narrow width)
    direct_most (op.Rmw o) = update_most (is_narrow width) o
    direct_most op.Load = let five = one_few target op.Load width order weak start in omega (arith, five)
    direct_most op.Store = let five = one_few target op.Store width order weak start in omega (arith, five)
    direct_most op.Fence = let five = one_few target op.Fence width order weak start in omega (arith, five)

  -- it is good where it stands, with code behind it
  module _ (n : ℕ) (low : n < 2 ^ 31) (place : ℕ) (some : 1 ≤ place) where
    abbrev IsFine : List (RvInstr × Tag) → Type 0
    IsFine is = place + length is ≤ n → AreGood n place is

    exchange_end : (w : Width) (is_weak : Bool) → place + length (exchange_code w order is_weak) ≤ n → place + 7 ≤ n
    exchange_end W32 true most = omega (arith, most)
    exchange_end W32 false most = omega (arith, most)
    exchange_end _ true most = omega (arith, most)
    exchange_end _ false most = omega (arith, most)

    exchange_fine : (narrow : Bool) → IsFine ((exchange_of narrow width order weak).piece place)
    exchange_fine true most = let long : place + length (masked_code op.Cmpxchg width order weak) ≤ n = most in masked_good n low width order weak place some op.Cmpxchg (omega (arith, long))
    exchange_fine false most = exchange_good n low width order place some (exchange_end width weak most) weak

    update_fine : (narrow : Bool) (o : RmwOp) → IsFine ((update_of narrow target o width order weak).piece place)
    update_fine true o most = let long : place + length (masked_code (op.Rmw o) width order weak) ≤ n = most in masked_good n low width order weak place some (op.Rmw o) (omega (arith, long))
    update_fine false o most = by (update_is o) most
      where
        by : (o ≡ rmw.Nand) ⊎ (update_of false target o width order weak ≡ rounded (rounding target (Atomic (op.Rmw o) width order weak))) → IsFine ((update_of false target o width order weak).piece place)
        by (inl e) = subst (λ (q : RmwOp). IsFine ((update_of false target q width order weak).piece place)) (sym e) (λ most. let long : place + length (nand_code width order) ≤ n = most in nand_good n low width order place some (omega (arith, long)))
        by (inr e) = subst (λ (z : Expansion). IsFine (z.piece place)) (sym e) (λ most. straight_good rv n place (one_access target (op.Rmw o) width order weak place) (one_straight target (op.Rmw o) width order weak place))

    pub direct_good : (o : Op) → IsFine (piece o place)
    direct_good op.Cmpxchg most = exchange_fine (is_narrow width) most
    direct_good (op.Rmw o) most = update_fine (is_narrow width) o most
    direct_good op.Load most = straight_good rv n place (one_access target op.Load width order weak place) (one_straight target op.Load width order weak place)
    direct_good op.Store most = straight_good rv n place (one_access target op.Store width order weak place) (one_straight target op.Store width order weak place)
    direct_good op.Fence most = straight_good rv n place (one_access target op.Fence width order weak place) (one_straight target op.Fence width order weak place)
