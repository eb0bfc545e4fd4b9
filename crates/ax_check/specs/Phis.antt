use Rattle.std.specs.Prelude.{◌≡◌, ◌≢◌, ℕ, ◌⊎◌, ◌↔◌, List, Option, Some, None, slice_index_or, Contains, Any}
use Rattle.ax_check.specs.declared.exits.Exit.{Exit}
use Rattle.ax_check.specs.Walk.{Leads}
use Rattle.ax_module.specs.declared.operand.Operand.{Operand}

-- the entries of a phi: operands and blocks
abbrev pub Entries : Type 0
Entries = List (Operand × ℕ)

-- two entries name one block with two operands
abbrev pub Clashes : Entries → Type 0
Clashes entries = (p : ℕ) × (x : Operand) × (y : Operand) × Contains entries (x, p) × Contains entries (y, p) × (x ≢ y)

-- a predecessor of block b that no entry names
abbrev pub MissesOne : List Exit → ℕ → Entries → Type 0
MissesOne graph b entries = (p : ℕ) × Leads graph p b × ((x : Operand) → Contains entries (x, p) → ⊥)

-- an entry names a block that is no predecessor of block b
abbrev pub NamesOther : List Exit → ℕ → Entries → Type 0
NamesOther graph b entries = Any (λ e. Leads graph e.1 b → ⊥) entries

-- the blocks of a phi of block b aren't exactly the predecessors, or it names one with two operands
abbrev pub HasWrongBlocks : List Exit → ℕ → Entries → Type 0
HasWrongBlocks graph b entries = NamesOther graph b entries ⊎ (Clashes entries ⊎ MissesOne graph b entries)

-- the table has the operand of each block that is named
abbrev pub IsTable : List (Option Operand) → Entries → Type 0
IsTable table entries = (p : ℕ) (x : Operand) → (slice_index_or table p None ≡ Some x) ↔ Contains entries (x, p)
