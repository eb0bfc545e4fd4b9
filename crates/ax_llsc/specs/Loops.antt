-- THE CODE OF THE WAY PAIRLOOP ON RV64: loops of a linked load and a pair store (RISC-V Unprivileged ISA: A extension, "Load-Reserved/Store-Conditional Instructions", "Eventual Success of Store-Conditional Instructions"; "Code porting and mapping guidelines", table A.6), on the registers that emission gives them.
pub use Rattle.ax_loops.specs.PairExchange.{pair_mark}
use Rattle.std.specs.Prelude.{ℕ, ◌+◌, Bool, true, false, ℤ, List, [], ◌∷◌, ◌++◌, pos, negsuc, length, None}
use Rattle.ax_words.specs.declared.order.Order.{Order}
use Rattle.ax_words.specs.declared.width.Width.{Width}
use Rattle.ax_words.specs.declared.width.Width.TheVariants.{W32}
use Rattle.ax_tags.specs.declared.tags.Tag.{Tag}
use Rattle.ax_tags.specs.declared.tags.Tag.TheVariants.{Linked, Silent, Stored}
use Rattle.ax_rv.specs.declared.instructions.Binary.TheVariants as binary
use Rattle.ax_rv.specs.declared.instructions.Condition.TheVariants as condition
use Rattle.ax_rv.specs.declared.instructions.Immediate.TheVariants as immediate
use Rattle.ax_rv.specs.declared.instructions.RvInstr.{RvInstr}
use Rattle.ax_rv.specs.declared.instructions.RvInstr.TheVariants.{Binary, Branch, Immediate, Jump, Li, LoadReserved, Shift, StoreConditional, Unary}
use Rattle.ax_rv.specs.declared.instructions.Shift.TheVariants as shift
use Rattle.ax_rv.specs.declared.instructions.Size.{Size}
use Rattle.ax_rv.specs.declared.instructions.Size.TheVariants.{Word, Double}
use Rattle.ax_rv.specs.declared.instructions.Unary.TheVariants as unary
use Rattle.ax_expand.specs.Standing.{silently}
use Rattle.ax_emit_rv.specs.Code.{Expansion}
use Rattle.ax_mask.specs.Pairs.{link_ending, store_ending}

abbrev pub size_of : Width → Size
size_of W32 = Word
size_of _ = Double

-- results are extended by zeros
abbrev pub clear : ℕ → Width → List RvInstr
clear r W32 = Shift shift.Left r r 32 ∷ Shift shift.Right r r 32 ∷ []
clear r _ = []

-- a word is loaded extended by its sign, so the expected one is extended by its sign too
abbrev pub comparand : Width → RvInstr
comparand W32 = Unary unary.SignExtendWord 5 11
comparand _ = Immediate immediate.Add 5 11 (pos 0)

abbrev pub link : Width → Order → RvInstr
link width order = LoadReserved (size_of width) (link_ending order) 15 10

-- ---- compare-exchange: expected in register 11, desired in 12; the number found goes to 15, and to 16 whether it was replaced

-- a strong one goes back where the pair store failed
abbrev pub strong_answer : List RvInstr
strong_answer = Branch condition.NotEqual 16 0 (negsuc 3) ∷ Binary binary.Subtract 16 15 5 ∷ Unary unary.IsZero 16 16 ∷ []

-- a weak one answers false there, and where the numbers differ
abbrev pub weak_answer : List RvInstr
weak_answer = Unary unary.IsZero 16 16 ∷ Jump (pos 2) ∷ Li 16 0 ∷ []

-- the distance from the comparison to where the numbers differ
abbrev pub different : Bool → ℕ
different true = 4
different false = 3

abbrev pub answer : Bool → List RvInstr
answer true = weak_answer
answer false = strong_answer

abbrev pub exchange_code : Width → Order → Bool → List (RvInstr × Tag)
exchange_code width order weak =
    (link width order, Linked weak 11 None)
    ∷ (comparand width, Silent)
    ∷ (Branch condition.NotEqual 15 5 (pos (different weak)), Silent)
    ∷ (StoreConditional (size_of width) (store_ending order) 16 12 10, pair_mark weak)
    ∷ silently (answer weak ++ clear 15 width)

abbrev pub exchange_expansion : Width → Order → Bool → Expansion
exchange_expansion width order weak = record { piece = λ start. exchange_code width order weak; size = 7 + length (clear 15 width); most = 6 }

-- ---- nand, which has no instruction: its operand in register 11; the number found goes to 15
abbrev pub nand_computation : Width → List RvInstr
nand_computation width = clear 15 width ++ Binary binary.And 6 15 11 ∷ Unary unary.Not 6 6 ∷ []

-- from the branch back to the linked load
abbrev pub nand_back : Width → ℤ
nand_back W32 = negsuc 5
nand_back _ = negsuc 3

abbrev pub nand_code : Width → Order → List (RvInstr × Tag)
nand_code width order =
    (link width order, Silent)
    ∷ (silently (nand_computation width) ++ (StoreConditional (size_of width) (store_ending order) 7 6 10, Stored) ∷ (Branch condition.NotEqual 7 0 (nand_back width), Silent) ∷ [])

abbrev pub nand_expansion : Width → Order → Expansion
nand_expansion width order = record { piece = λ start. nand_code width order; size = 5 + length (clear 15 width); most = 6 }
