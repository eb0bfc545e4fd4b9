-- The code of atomic operations fits into a draft: without a loop it goes on from its first instruction to its last.
use Rattle.std.proofs.Common.{◌≡◌, ℕ, ◌+◌, ◌≤◌, Bool, true, false, List, [], ◌∷◌, ◌++◌, inl, length, refl, arith}
use Rattle.ax_words.specs.declared.mark.Op.{Op}
use Rattle.ax_words.specs.declared.mark.Op.TheVariants as op
use Rattle.ax_words.specs.declared.operation.RmwOp.{RmwOp}
use Rattle.ax_words.specs.declared.operation.RmwOp.TheVariants as rmw
use Rattle.ax_words.specs.declared.order.Order.{Order}
use Rattle.ax_words.specs.declared.order.Order.TheVariants.{Unordered, Monotonic, Acquire, Release, AcqRel, SeqCst}
use Rattle.ax_words.specs.declared.width.Width.{Width}
use Rattle.ax_tags.specs.declared.tags.Tag.TheVariants.{Act}
use Rattle.ax_target.specs.declared.target.Target.{Target}
use Rattle.ax_rv.specs.declared.instructions.FenceSets.{FenceSets}
use Rattle.ax_rv.specs.declared.instructions.RvInstr.{RvInstr}
use Rattle.ax_fine.specs.OnBytes.{atomic_doing}
use Rattle.ax_llsc.specs.Codes.{atomic_rounding, before_load, before_store, behind_load, exchange_of, fences, prepare, rounded, update_of}
use Rattle.ax_llsc.specs.Loops.{clear}
use Rattle.ax_llsc.specs.Rounds.{Rounding}
use Rattle.ax_mask.specs.Codes.{is_narrow}
use Rattle.ax_direct_rv.specs.Direct.{direct_expansions}
use Rattle.ax_idle_rv.proofs.Codes.{Short, none_short, short_both, short_less, wrapped}
use Rattle.ax_idle_rv.proofs.Fits.{LineCoded, coded_less, one_act}
use Rattle.ax_idle_rv.proofs.Loops.{clear_short, exchange_coded, nand_coded}
use Rattle.ax_idle_rv.proofs.Masked.{masked_exchange_coded, masked_update_coded}
use Rattle.ax_idle_rv.proofs.Ranks.{piece_rank}

fences_short : (xs : List FenceSets) → Short (length xs) (fences xs)
fences_short [] = none_short
fences_short (x ∷ xs) = let h = fences_short xs in let few = h.few in record { all = (refl, h.all); few = omega (arith, few) }

before_load_few : (order : Order) → length (before_load order) ≤ 1
before_load_few Unordered = omega arith
before_load_few Monotonic = omega arith
before_load_few Acquire = omega arith
before_load_few Release = omega arith
before_load_few AcqRel = omega arith
before_load_few SeqCst = omega arith

behind_load_few : (order : Order) → length (behind_load order) ≤ 1
behind_load_few Unordered = omega arith
behind_load_few Monotonic = omega arith
behind_load_few Acquire = omega arith
behind_load_few Release = omega arith
behind_load_few AcqRel = omega arith
behind_load_few SeqCst = omega arith

before_store_few : (order : Order) → length (before_store order) ≤ 1
before_store_few Unordered = omega arith
before_store_few Monotonic = omega arith
before_store_few Acquire = omega arith
before_store_few Release = omega arith
before_store_few AcqRel = omega arith
before_store_few SeqCst = omega arith

prepare_short : (o : RmwOp) → Short 2 (prepare o)
prepare_short rmw.Sub = record { all = (refl, (refl, tt)); few = omega arith }
prepare_short _ = record { all = tt; few = omega arith }

-- all that is to be seen of an operation's code
record Seen (z : Rounding RvInstr) : Type 0 where
  before : Short 2 z.before
  after : Short 3 z.after

seen : (target : Target) (o : Op) (w : Width) (order : Order) (weak : Bool) → Seen (atomic_rounding (atomic_doing target o w order weak) o w order)
seen target op.Load w order weak =
    let a = before_load_few order in
    let b = behind_load_few order in
    record {
      before = short_less (length (before_load order)) 2 (fences (before_load order)) (omega (arith, a)) (fences_short (before_load order));
      after = short_less (length (behind_load order) + 2) 3 (fences (behind_load order) ++ clear 15 w) (omega (arith, b)) (short_both (length (behind_load order)) 2 (fences (behind_load order)) (clear 15 w) (fences_short (behind_load order)) (clear_short 15 w));
    }
seen target op.Store w order weak =
    let a = before_store_few order in
    record { before = short_less (length (before_store order)) 2 (fences (before_store order)) (omega (arith, a)) (fences_short (before_store order)); after = short_less 0 3 [] (omega arith) none_short }
seen target op.Cmpxchg w order weak = record { before = short_less 0 2 [] (omega arith) none_short; after = short_less 0 3 [] (omega arith) none_short }
seen target (op.Rmw o) w order weak = record { before = prepare_short o; after = short_less 2 3 (clear 15 w) (omega arith) (clear_short 15 w) }
seen target op.Fence w order weak = record { before = short_less 0 2 [] (omega arith) none_short; after = short_less 0 3 [] (omega arith) none_short }

-- code without a loop
straight_coded : (target : Target) (o : Op) (w : Width) (order : Order) (weak : Bool) (start : ℕ) → LineCoded false piece_rank ((rounded (atomic_rounding (atomic_doing target o w order weak) o w order)).piece start)
straight_coded target o w order weak start =
    let z : Rounding RvInstr = atomic_rounding (atomic_doing target o w order weak) o w order in
    let s = seen target o w order weak in
    coded_less false (2 + 1 + 3) piece_rank _ (omega arith) (wrapped false 2 1 3 z.before z.after ((z.access, Act) ∷ []) s.before (one_act false z.access (inl refl)) s.after)

update_by : (narrow : Bool) (target : Target) (o : RmwOp) (w : Width) (order : Order) (weak : Bool) (start : ℕ) → LineCoded false piece_rank ((update_of narrow target o w order weak).piece start)
update_by true target o w order weak start = masked_update_coded o w order
update_by false target rmw.Nand w order weak start = nand_coded w order
update_by false target o w order weak start = straight_coded target (op.Rmw o) w order weak start

exchange_by : (narrow : Bool) (w : Width) (order : Order) (weak : Bool) (start : ℕ) → LineCoded false piece_rank ((exchange_of narrow w order weak).piece start)
exchange_by true w order weak start = masked_exchange_coded w order weak
exchange_by false w order weak start = exchange_coded w order weak

pub expansions_coded : (target : Target) (o : Op) (w : Width) (order : Order) (weak : Bool) (start : ℕ) → LineCoded false piece_rank ((direct_expansions target o w order weak).piece start)
expansions_coded target op.Load w order weak start = straight_coded target op.Load w order weak start
expansions_coded target op.Store w order weak start = straight_coded target op.Store w order weak start
expansions_coded target op.Cmpxchg w order weak start = exchange_by (is_narrow w) w order weak start
expansions_coded target (op.Rmw o) w order weak start = update_by (is_narrow w) target o w order weak start
expansions_coded target op.Fence w order weak start = straight_coded target op.Fence w order weak start

-- it is the same wherever it stands
update_alike : (narrow : Bool) (target : Target) (o : RmwOp) (w : Width) (order : Order) (weak : Bool) (s t : ℕ) → (update_of narrow target o w order weak).piece s ≡ (update_of narrow target o w order weak).piece t
update_alike true target o w order weak s t = refl
update_alike false target rmw.Nand w order weak s t = refl
update_alike false target _ w order weak s t = refl

exchange_alike : (narrow : Bool) (w : Width) (order : Order) (weak : Bool) (s t : ℕ) → (exchange_of narrow w order weak).piece s ≡ (exchange_of narrow w order weak).piece t
exchange_alike true w order weak s t = refl
exchange_alike false w order weak s t = refl

pub alike : (target : Target) (o : Op) (w : Width) (order : Order) (weak : Bool) (s t : ℕ) → (direct_expansions target o w order weak).piece s ≡ (direct_expansions target o w order weak).piece t
alike target op.Cmpxchg w order weak s t = exchange_alike (is_narrow w) w order weak s t
alike target (op.Rmw o) w order weak s t = update_alike (is_narrow w) target o w order weak s t
alike target _ w order weak s t = refl
