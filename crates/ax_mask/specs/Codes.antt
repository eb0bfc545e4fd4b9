-- THE CODE OF THE WAY MASKED ON RV64: an object of 1 or 2 bytes is read, changed and written in the aligned word of 4 bytes that holds it, by a loop of a linked load and a pair store; the word's other bytes are written back as they were linked (RISC-V Unprivileged ISA: A extension, "Load-Reserved/Store-Conditional Instructions", "Eventual Success of Store-Conditional Instructions"; LLVM, "Atomic Instructions and Concurrency Guide", of masked intrinsics).
--
-- Of the object with n bytes at the address a: the word begins at a - a % 4, and `up`, which is 64 - 8 * n - 8 * (a % 4), is how far it lies below the highest bits of a register. A shift left by `up` brings it there, a shift right by `up` brings a number from there to its place.
use Rattle.std.specs.Prelude.{ℕ, ◌+◌, ◌-◌, ◌*◌, ◌^◌, Bool, true, false, List, [], ◌∷◌, ◌++◌, length, pos, negsuc, Some}
use Rattle.ax_words.specs.declared.mark.Op.{Op}
use Rattle.ax_words.specs.declared.mark.Op.TheVariants as op
use Rattle.ax_words.specs.declared.operation.RmwOp.{RmwOp}
use Rattle.ax_words.specs.declared.operation.RmwOp.TheVariants as rmw
use Rattle.ax_words.specs.declared.order.Order.{Order}
use Rattle.ax_words.specs.declared.width.Width.{Width}
use Rattle.ax_words.specs.declared.width.Width.TheVariants.{W8, W16}
use Rattle.ax_words.specs.Width.{bits_of}
use Rattle.ax_tags.specs.declared.tags.Tag.{Tag}
use Rattle.ax_tags.specs.declared.tags.Tag.TheVariants.{Linked, Silent, Stored}
use Rattle.ax_rv.specs.declared.instructions.Binary.{Binary as BinaryOp}
use Rattle.ax_rv.specs.declared.instructions.Binary.TheVariants as binary
use Rattle.ax_rv.specs.declared.instructions.Condition.TheVariants as condition
use Rattle.ax_rv.specs.declared.instructions.Immediate.TheVariants as immediate
use Rattle.ax_rv.specs.declared.instructions.RvInstr.{RvInstr}
use Rattle.ax_rv.specs.declared.instructions.RvInstr.TheVariants.{Binary, Branch, Immediate, Li, LoadReserved, Shift, StoreConditional, Unary}
use Rattle.ax_rv.specs.declared.instructions.Shift.TheVariants as shift
use Rattle.ax_rv.specs.declared.instructions.Size.TheVariants.{Word}
use Rattle.ax_rv.specs.declared.instructions.Unary.TheVariants as unary
use Rattle.ax_loops.specs.PairExchange.{pair_mark}
use Rattle.ax_expand.specs.Standing.{silently}
use Rattle.ax_emit_rv.specs.Code.{Expansion}
use Rattle.ax_mask.specs.Pairs.{link_ending, store_ending}

-- objects narrower than the word of a pair
abbrev pub is_narrow : Width → Bool
is_narrow W8 = true
is_narrow W16 = true
is_narrow _ = false

-- operations that read the object and write it
abbrev pub is_masked : Op → Bool
is_masked op.Cmpxchg = true
is_masked (op.Rmw o) = true
is_masked _ = false

-- ---- registers: the address in 10, what the operation takes in 11 and 12, what it gives in 15 and 16; the word's address in 5, `up` in 6, the mask in 7, the first number in its place or, where it is compared, at the highest bits in 28; scratch 29 and 30

-- ---- before the linked load
-- the bits above an object at the highest place of a register, as a displacement
abbrev pub above : Width → ℕ
above width = 64 - bits_of width

abbrev pub ones : Width → ℕ
ones width = 2 ^ 64 - 2 ^ above width

abbrev pub find_word : Width → List RvInstr
find_word width =
    Immediate immediate.And 5 10 (negsuc 3) ∷ Immediate immediate.And 6 10 (pos 3) ∷ Shift shift.Left 6 6 3 ∷ Unary unary.Negate 6 6 ∷ Immediate immediate.Add 6 6 (pos (above width)) ∷ Li 7 (ones width) ∷ Binary binary.ShiftRight 7 7 6 ∷ []

-- a number goes to the highest bits, cut to the object's
abbrev pub to_top : Width → ℕ → ℕ → List RvInstr
to_top width to from = Shift shift.Left to from (above width) ∷ []

-- and from there to its place
abbrev pub to_place : ℕ → List RvInstr
to_place r = Binary binary.ShiftRight r r 6 ∷ []

-- a maximum or minimum compares its operand at the highest bits
abbrev pub compares : RmwOp → Bool
compares rmw.Max = true
compares rmw.Min = true
compares rmw.UMax = true
compares rmw.UMin = true
compares _ = false

abbrev pub placed_if : Bool → List RvInstr
placed_if true = []
placed_if false = to_place 28

abbrev pub update_setup : RmwOp → Width → List RvInstr
update_setup o width = find_word width ++ to_top width 28 11 ++ placed_if (compares o)

-- an exchange has both numbers in their places: the desired one in 30
abbrev pub exchange_setup : Width → List RvInstr
exchange_setup width = find_word width ++ to_top width 28 11 ++ to_place 28 ++ to_top width 30 12 ++ to_place 30

-- ---- between the linked load, which gives the word in 15, and the pair store of 29
-- the masked bits of a register, and the others as linked
abbrev pub merge : ℕ → List RvInstr
merge r = Binary binary.Xor 29 15 r ∷ Binary binary.And 29 29 7 ∷ Binary binary.Xor 29 15 29 ∷ []

abbrev pub both : BinaryOp → List RvInstr
both o = Binary o 29 15 28 ∷ merge 29

-- the object at the highest bits stands in 29, its operand there in 28; where the test, which 30 gets, finds the operand greater or smaller, the operand is taken, else the word stays: what lies below the object at the highest bits changes no comparison but one of equal numbers
abbrev pub choose : RvInstr → List RvInstr
choose test =
    Binary binary.ShiftLeft 29 15 6 ∷ test ∷ Unary unary.Negate 30 30 ∷ Binary binary.ShiftRight 29 28 6 ∷ Binary binary.Xor 29 15 29 ∷ Binary binary.And 29 29 7 ∷ Binary binary.And 29 29 30 ∷ Binary binary.Xor 29 15 29 ∷ []

abbrev pub computation : RmwOp → List RvInstr
computation rmw.Xchg = merge 28
computation rmw.Add = both binary.Add
computation rmw.Sub = both binary.Subtract
computation rmw.And = both binary.And
computation rmw.Nand = Binary binary.And 29 15 28 ∷ Unary unary.Not 29 29 ∷ merge 29
computation rmw.Or = both binary.Or
computation rmw.Xor = both binary.Xor
computation rmw.Max = choose (Binary binary.IsLess 30 29 28)
computation rmw.Min = choose (Binary binary.IsLess 30 28 29)
computation rmw.UMax = choose (Binary binary.IsBelow 30 29 28)
computation rmw.UMin = choose (Binary binary.IsBelow 30 28 29)

-- ---- behind it
-- the object out of the linked word, extended by zeros
abbrev pub take_out : Width → List RvInstr
take_out width = Binary binary.ShiftLeft 15 15 6 ∷ Shift shift.Right 15 15 (above width) ∷ []

-- ---- read-modify-writes
abbrev pub link : Order → RvInstr
link order = LoadReserved Word (link_ending order) 15 5

abbrev pub store : Order → ℕ → RvInstr
store order failed = StoreConditional Word (store_ending order) failed 29 5

-- back by so many instructions and one more where the pair store failed
abbrev pub again : ℕ → ℕ → RvInstr
again failed before = Branch condition.NotEqual failed 0 (negsuc before)

abbrev pub update_loop : RmwOp → Order → List (RvInstr × Tag)
update_loop o order = (link order, Silent) ∷ (silently (computation o) ++ (store order 29, Stored) ∷ (again 29 (length (computation o) + 1), Silent) ∷ [])

abbrev pub update_code : RmwOp → Width → Order → List (RvInstr × Tag)
update_code o width order = silently (update_setup o width) ++ update_loop o order ++ silently (take_out width)

-- ---- compare-exchange: 29 is not 0 where the linked object differs from the expected one; of the masked numbers the word's 32 bits are compared, as a linked word is extended by its sign
abbrev pub comparison : List RvInstr
comparison = Binary binary.Xor 29 15 28 ∷ Binary binary.And 29 29 7 ∷ Unary unary.SignExtendWord 29 29 ∷ []

-- what a strong one does behind the pair store, and where the objects differ, as then 29 is not 0 either: 16 tells whether it was replaced
abbrev pub exchange_answer : Bool → List RvInstr
exchange_answer true = Unary unary.IsZero 16 29 ∷ []
exchange_answer false = again 29 8 ∷ Unary unary.IsZero 16 29 ∷ []

-- the distance from the comparison to where the objects differ
abbrev pub different : Bool → ℕ
different true = 5
different false = 6

abbrev pub exchange_between : Bool → List RvInstr
exchange_between weak = comparison ++ Branch condition.NotEqual 29 0 (pos (different weak)) ∷ merge 30

abbrev pub exchange_loop : Width → Order → Bool → List (RvInstr × Tag)
exchange_loop width order weak =
    (link order, Linked weak 28 (Some 7)) ∷ (silently (exchange_between weak) ++ (store order 29, pair_mark weak) ∷ silently (exchange_answer weak ++ take_out width))

abbrev pub exchange_code : Width → Order → Bool → List (RvInstr × Tag)
exchange_code width order weak = silently (exchange_setup width) ++ exchange_loop width order weak

-- ---- the table: of other operations there is no such code
abbrev pub masked_code : Op → Width → Order → Bool → List (RvInstr × Tag)
masked_code op.Cmpxchg width order weak = exchange_code width order weak
masked_code (op.Rmw o) width order weak = update_code o width order
masked_code _ width order weak = []

-- so many idle steps in a row at most
abbrev pub masked_steps : ℕ
masked_steps = 24

abbrev pub masked_expansion : Op → Width → Order → Bool → Expansion
masked_expansion o width order weak = record { piece = λ start. masked_code o width order weak; size = length (masked_code o width order weak); most = masked_steps }
