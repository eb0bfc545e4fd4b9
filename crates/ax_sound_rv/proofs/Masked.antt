-- Loops over the aligned word that holds an object: their code is good where it stands, and has at most 24 instructions.
use Rattle.std.proofs.Common.{ℕ, ◌+◌, ◌^◌, ◌<◌, ◌≤◌, pos, negsuc, Bool, true, false, List, [], ◌∷◌, ◌++◌, length, arith, length-append}
use Rattle.ax_words.specs.declared.mark.Op.{Op}
use Rattle.ax_words.specs.declared.mark.Op.TheVariants as op
use Rattle.ax_words.specs.declared.operation.RmwOp.{RmwOp}
use Rattle.ax_words.specs.declared.operation.RmwOp.TheVariants as rmw
use Rattle.ax_words.specs.declared.order.Order.{Order}
use Rattle.ax_words.specs.declared.order.Order.TheVariants.{Unordered, Monotonic, Acquire, Release, AcqRel, SeqCst}
use Rattle.ax_words.specs.declared.width.Width.{Width}
use Rattle.ax_words.specs.declared.width.Width.TheVariants.{W8}
use Rattle.ax_tags.specs.declared.tags.Tag.{Tag}
use Rattle.ax_tags.specs.declared.tags.Tag.TheVariants.{Silent, Stored}
use Rattle.ax_agree.specs.Sound.{IsTag}
use Rattle.ax_rv.specs.declared.instructions.Binary.{Binary as BinaryOp}
use Rattle.ax_rv.specs.declared.instructions.Binary.TheVariants as binary
use Rattle.ax_rv.specs.declared.instructions.Condition.TheVariants as condition
use Rattle.ax_rv.specs.declared.instructions.RvInstr.{RvInstr}
use Rattle.ax_rv.specs.declared.instructions.RvInstr.TheVariants.{Binary, Branch, Unary}
use Rattle.ax_rv.specs.declared.instructions.Unary.TheVariants as unary
use Rattle.ax_rv.specs.Instructions.{IsLoadEnding, IsStoreEnding}
use Rattle.ax_expand.specs.Standing.{silently}
use Rattle.ax_expand.proofs.Straight.{silent_length}
use Rattle.ax_loops.specs.PairExchange.{pair_mark}
use Rattle.ax_mask.specs.Codes.{above, again, both, choose, compares, comparison, computation, different, exchange_answer, exchange_code, exchange_loop, exchange_setup, find_word, link, masked_code, merge, ones, placed_if, store, take_out, to_place, to_top, update_code, update_loop, update_setup}
use Rattle.ax_mask.specs.Pairs.{link_ending, store_ending}
use Rattle.ax_sound.proofs.Places.{backward, forward}
use Rattle.ax_sound.proofs.Straight.{AllGo, go_both, good_behind, good_both, straight_good, straight_silently}
use Rattle.ax_sound_rv.proofs.Instructions.{AreGood, GoesOn, good_of, rv, turn_good}

-- ---- a linked load and a pair store have their endings, and each pair store its mark
pub link_ends : (order : Order) → IsLoadEnding (link_ending order)
link_ends Unordered = tt
link_ends Monotonic = tt
link_ends Acquire = tt
link_ends Release = tt
link_ends AcqRel = tt
link_ends SeqCst = tt

pub store_ends : (order : Order) → IsStoreEnding (store_ending order)
store_ends Unordered = tt
store_ends Monotonic = tt
store_ends Acquire = tt
store_ends Release = tt
store_ends AcqRel = tt
store_ends SeqCst = tt

pub mark_is : (weak : Bool) → IsTag (pair_mark weak)
mark_is true = tt
mark_is false = tt

-- ---- straight code
above_most : (width : Width) → above width < 64
above_most W8 = omega arith
above_most _ = omega arith

ones_most : (width : Width) → ones width < 2 ^ 64
ones_most W8 = omega arith
ones_most _ = omega arith

find_goes : (width : Width) → AllGo rv (find_word width)
find_goes width =
    let most = above_most width in (
      (omega arith, omega arith, omega arith),
      (
        (omega arith, omega arith, omega arith),
        ((omega arith, omega arith, omega arith), ((omega arith, omega arith), ((omega arith, omega arith, omega (arith, most)), ((omega arith, ones_most width), ((omega arith, omega arith, omega arith), tt))))),
      ),
    )

placed_goes : (top : Bool) → AllGo rv (placed_if top)
placed_goes true = tt
placed_goes false = ((omega arith, omega arith, omega arith), tt)

update_setup_goes : (o : RmwOp) (width : Width) → AllGo rv (update_setup o width)
update_setup_goes o width = go_both rv (find_word width) (to_top width 28 11 ++ placed_if (compares o)) (find_goes width) ((omega arith, omega arith, above_most width), placed_goes (compares o))

exchange_setup_goes : (width : Width) → AllGo rv (exchange_setup width)
exchange_setup_goes width =
    let most = above_most width in
    go_both rv (find_word width) (to_top width 28 11 ++ (to_place 28 ++ (to_top width 30 12 ++ to_place 30))) (find_goes width)
    ((omega arith, omega arith, most), ((omega arith, omega arith, omega arith), ((omega arith, omega arith, most), ((omega arith, omega arith, omega arith), tt))))

merge_goes : (r : ℕ) → r < 32 → AllGo rv (merge r)
merge_goes r lt = ((omega arith, omega arith, lt), ((omega arith, omega arith, omega arith), ((omega arith, omega arith, omega arith), tt)))

both_goes : (o : BinaryOp) → AllGo rv (both o)
both_goes o = ((omega arith, omega arith, omega arith), merge_goes 29 (omega arith))

choose_goes : (test : RvInstr) → GoesOn test → AllGo rv (choose test)
choose_goes test h = (
  (omega arith, omega arith, omega arith),
  (
    h,
    (
      (omega arith, omega arith),
      ((omega arith, omega arith, omega arith), ((omega arith, omega arith, omega arith), ((omega arith, omega arith, omega arith), ((omega arith, omega arith, omega arith), ((omega arith, omega arith, omega arith), tt))))),
    ),
  ),
)

computation_goes : (o : RmwOp) → AllGo rv (computation o)
computation_goes rmw.Xchg = merge_goes 28 (omega arith)
computation_goes rmw.Add = both_goes binary.Add
computation_goes rmw.Sub = both_goes binary.Subtract
computation_goes rmw.And = both_goes binary.And
computation_goes rmw.Nand = ((omega arith, omega arith, omega arith), ((omega arith, omega arith), merge_goes 29 (omega arith)))
computation_goes rmw.Or = both_goes binary.Or
computation_goes rmw.Xor = both_goes binary.Xor
computation_goes rmw.Max = choose_goes (Binary binary.IsLess 30 29 28) (omega arith, omega arith, omega arith)
computation_goes rmw.Min = choose_goes (Binary binary.IsLess 30 28 29) (omega arith, omega arith, omega arith)
computation_goes rmw.UMax = choose_goes (Binary binary.IsBelow 30 29 28) (omega arith, omega arith, omega arith)
computation_goes rmw.UMin = choose_goes (Binary binary.IsBelow 30 28 29) (omega arith, omega arith, omega arith)

computation_few : (o : RmwOp) → length (computation o) ≤ 8
computation_few rmw.Xchg = omega arith
computation_few _ = omega arith

take_goes : (width : Width) → AllGo rv (take_out width)
take_goes width = ((omega arith, omega arith, omega arith), ((omega arith, omega arith, above_most width), tt))

link_goes : (order : Order) → GoesOn (link order)
link_goes order = (omega arith, omega arith, link_ends order)

store_goes : (order : Order) → GoesOn (store order 29)
store_goes order = (omega arith, omega arith, omega arith, store_ends order)

module _ (n : ℕ) (low : n < 2 ^ 31) where
  -- ---- read-modify-writes: the last instruction of the loop leads back to its linked load
  module _ (o : RmwOp) (order : Order) where
    loop_good : (place : ℕ) → 1 ≤ place → place + length (update_loop o order) ≤ n + 1 → AreGood n place (update_loop o order)
    loop_good place some most =
        let is = computation o in
        let end : List (RvInstr × Tag) = (store order 29, Stored) ∷ (again 29 (length is + 1), Silent) ∷ [] in
        let last = place + 1 + length is + 1 in
        let a = length-append (silently is) end in
        let b = silent_length is in
        let few = computation_few o in (
          good_of n place (link order) (link_goes order),
          tt,
          good_behind rv n (place + 1) is end (computation_goes o) (
            good_of n (place + 1 + length is) (store order 29) (store_goes order),
            tt,
            (turn_good n last condition.NotEqual 29 0 (negsuc (length is + 1)) (omega arith, omega arith, omega (arith, few)) (backward n last (length is + 1) low (omega (arith, some)) (omega (arith, a, b, most))), tt, tt),
          ),
        )

    update_good : (width : Width) (place : ℕ) → 1 ≤ place → place + length (update_code o width order) ≤ n + 1 → AreGood n place (update_code o width order)
    update_good width place some most =
        let setup = update_setup o width in
        let loop = update_loop o order in
        let out = take_out width in
        let a = length-append (silently setup ++ loop) (silently out) in
        let b = length-append (silently setup) loop in
        let c = silent_length setup in
        good_both rv n place (silently setup ++ loop) (silently out)
        (good_behind rv n place setup loop (update_setup_goes o width) (loop_good (place + length setup) (omega (arith, some)) (omega (arith, a, b, c, most))))
        (straight_good rv n (place + length (silently setup ++ loop)) (silently out) (straight_silently rv out (take_goes width)))

  -- ---- compare-exchanges: the comparison leads to where the answer is made, and a strong one back
  module _ (width : Width) (order : Order) (place : ℕ) (some : 1 ≤ place) where
    -- the place of the comparison's branch, and that behind the pair store
    abbrev turning : ℕ
    turning = place + 1 + 3

    abbrev answering : ℕ
    answering = turning + 1 + 3 + 1

    answer_good : (weak : Bool) → answering ≤ n → AreGood n answering (silently (exchange_answer weak ++ take_out width))
    answer_good true most = straight_good rv n answering (silently (Unary unary.IsZero 16 29 ∷ take_out width)) (straight_silently rv (Unary unary.IsZero 16 29 ∷ take_out width) ((omega arith, omega arith), take_goes width))
    answer_good false most = (
      turn_good n answering condition.NotEqual 29 0 (negsuc 8) (omega arith, omega arith, omega arith) (backward n answering 8 low (omega (arith, some)) most),
      tt,
      straight_good rv n (answering + 1) (silently (Unary unary.IsZero 16 29 ∷ take_out width)) (straight_silently rv (Unary unary.IsZero 16 29 ∷ take_out width) ((omega arith, omega arith), take_goes width)),
    )

    pair_good : (weak : Bool) → 1 ≤ different weak → different weak ≤ 6 → turning + different weak ≤ n → answering ≤ n → AreGood n place (exchange_loop width order weak)
    pair_good weak least greatest led most =
        let rest : List (RvInstr × Tag) = (store order 29, pair_mark weak) ∷ silently (exchange_answer weak ++ take_out width) in (
          good_of n place (link order) (link_goes order),
          (omega arith, omega arith),
          good_behind rv n (place + 1) comparison ((Branch condition.NotEqual 29 0 (pos (different weak)), Silent) ∷ (silently (merge 30) ++ rest)) ((omega arith, omega arith, omega arith), ((omega arith, omega arith, omega arith), ((omega arith, omega arith), tt))) (
            turn_good n turning condition.NotEqual 29 0 (pos (different weak)) (omega arith, omega arith, omega (arith, greatest)) (forward n turning (different weak) low least led),
            tt,
            good_behind rv n (turning + 1) (merge 30) rest (merge_goes 30 (omega arith)) (good_of n (turning + 1 + 3) (store order 29) (store_goes order), mark_is weak, answer_good weak most),
          ),
        )

    loop_by : (weak : Bool) → place + length (exchange_loop width order weak) ≤ n + 1 → AreGood n place (exchange_loop width order weak)
    loop_by true most = pair_good true (omega arith) (omega arith) (omega (arith, most)) (omega (arith, most))
    loop_by false most = pair_good false (omega arith) (omega arith) (omega (arith, most)) (omega (arith, most))

  module _ (width : Width) (order : Order) (weak : Bool) (place : ℕ) (some : 1 ≤ place) where
    exchange_good : place + length (exchange_code width order weak) ≤ n + 1 → AreGood n place (exchange_code width order weak)
    exchange_good most =
        let setup = exchange_setup width in
        let loop = exchange_loop width order weak in
        let a = length-append (silently setup) loop in
        good_behind rv n place setup loop (exchange_setup_goes width) (loop_by width order (place + length setup) (omega (arith, some)) weak (omega (arith, a, most)))

    -- ---- each of them
    pub masked_good : (o : Op) → place + length (masked_code o width order weak) ≤ n + 1 → AreGood n place (masked_code o width order weak)
    masked_good op.Cmpxchg most = exchange_good most
    masked_good (op.Rmw o) most = update_good o order width place some most
    masked_good _ most = tt

-- ---- how long they are
placed_few : (top : Bool) → length (placed_if top) ≤ 1
placed_few true = omega arith
placed_few false = omega arith

update_few : (o : RmwOp) (width : Width) (order : Order) → length (update_code o width order) ≤ 24
update_few o width order =
    let setup = update_setup o width in
    let loop = update_loop o order in
    let end : List (RvInstr × Tag) = (store order 29, Stored) ∷ (again 29 (length (computation o) + 1), Silent) ∷ [] in
    let a = length-append (silently setup ++ loop) (silently (take_out width)) in
    let b = length-append (silently setup) loop in
    let c = silent_length setup in
    let d = length-append (silently (computation o)) end in
    let e = silent_length (computation o) in
    let f = computation_few o in
    let g = placed_few (compares o) in
    omega (arith, a, b, c, d, e, f, g)

exchange_few : (weak : Bool) (width : Width) (order : Order) → length (exchange_code width order weak) ≤ 24
exchange_few true width order = omega arith
exchange_few false width order = omega arith

pub masked_few : (o : Op) (width : Width) (order : Order) (weak : Bool) → length (masked_code o width order weak) ≤ 24
masked_few op.Cmpxchg width order weak = exchange_few weak width order
masked_few (op.Rmw o) width order weak = update_few o width order
masked_few _ width order weak = omega arith
