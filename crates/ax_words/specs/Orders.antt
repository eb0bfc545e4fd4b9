-- The memory orders: which is at least as strong as which, where each may stand, and their numbers.
use Rattle.std.specs.Prelude.{codes, ℕ, Bool, true, false, ◌&&◌, ◌==◌, Option, Some, None, if◌then◌else◌, List, [], ◌∷◌, find, unwrap_or, IsTrue}
use Rattle.ax_words.specs.declared.order.Order.{Order}
use Rattle.ax_words.specs.declared.order.Order.TheVariants.{Unordered, Monotonic, Acquire, Release, AcqRel, SeqCst}
use Rattle.ax_words.specs.declared.order.Access.{Access}
use Rattle.ax_words.specs.declared.order.Access.TheVariants.{Load, Store, Fence, Rmw, CmpSuccess, CmpFailure}

-- `is_at_least strong weak` (LLVM Atomic Instructions and Concurrency Guide): Unordered is below
-- Monotonic, that below Acquire and Release, these below AcqRel, and AcqRel below SeqCst
abbrev pub is_at_least : Order → Order → Bool
is_at_least _ Unordered = true
is_at_least Unordered _ = false
is_at_least _ Monotonic = true
is_at_least Monotonic _ = false
is_at_least SeqCst _ = true
is_at_least _ SeqCst = false
is_at_least AcqRel _ = true
is_at_least _ AcqRel = false
is_at_least Acquire Acquire = true
is_at_least Release Release = true
is_at_least _ _ = false

abbrev pub AtLeast : Order → Order → Type 0
AtLeast strong weak = IsTrue (is_at_least strong weak)

-- the least order that is at least both
pub record IsJoin (success failure join : Order) : Type 0 where
  pub above_success : AtLeast join success
  pub above_failure : AtLeast join failure
  pub least : (order : Order) → AtLeast order success → AtLeast order failure → AtLeast order join

-- the orders, each after those below it
abbrev pub rising : List Order
rising = Unordered ∷ Monotonic ∷ Acquire ∷ Release ∷ AcqRel ∷ SeqCst ∷ []

-- the first of them that is at least both
abbrev pub merged_order : Order → Order → Order
merged_order success failure =
    unwrap_or (find (λ order. is_at_least order success && is_at_least order failure) rising) SeqCst

-- where an order may stand (LLVM Language Reference, "load", "store", "fence", "atomicrmw", "cmpxchg")
abbrev pub is_legal : Access → Order → Bool
is_legal Load Release = false
is_legal Load AcqRel = false
is_legal Store Acquire = false
is_legal Store AcqRel = false
is_legal Fence Unordered = false
is_legal Fence Monotonic = false
is_legal Rmw Unordered = false
is_legal CmpSuccess Unordered = false
is_legal CmpFailure Unordered = false
is_legal CmpFailure Release = false
is_legal CmpFailure AcqRel = false
is_legal _ _ = true

abbrev pub order_word : Order → List ℕ
order_word Unordered = codes "unordered"
order_word Monotonic = codes "monotonic"
order_word Acquire = codes "acquire"
order_word Release = codes "release"
order_word AcqRel = codes "acq_rel"
order_word SeqCst = codes "seq_cst"

-- the number of an order in a call of libatomic (GCC libatomic ABI)
abbrev pub abi_of : Order → ℕ
abi_of Unordered = 0
abi_of Monotonic = 0
abi_of Acquire = 2
abi_of Release = 3
abi_of AcqRel = 4
abi_of SeqCst = 5

-- the order of a number; 1 is consume, which is taken as acquire
abbrev pub order_of_abi : ℕ → Option Order
order_of_abi n =
    if n == 0 then Some Monotonic
    else if n == 1 then Some Acquire
    else if n == 2 then Some Acquire
    else if n == 3 then Some Release
    else if n == 4 then Some AcqRel
    else if n == 5 then Some SeqCst
    else None
