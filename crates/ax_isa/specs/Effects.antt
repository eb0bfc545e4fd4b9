-- Which effects a step can apply.
use Rattle.std.specs.Prelude.{ℕ, ◌<◌, ◌≤◌, Bool, true, false}
use Rattle.ax_store.specs.Bytes.{IsWidth}
use Rattle.ax_store.specs.Store.{spared}
use Rattle.ax_isa.specs.declared.effects.Back.{Back}
use Rattle.ax_isa.specs.declared.effects.Back.TheVariants.{Place, Stack as Pops}
use Rattle.ax_isa.specs.declared.effects.Change.{Change}
use Rattle.ax_isa.specs.declared.effects.Change.TheVariants.{Update, Exchange}
use Rattle.ax_isa.specs.declared.effects.Effect.{Effect}
use Rattle.ax_isa.specs.declared.effects.Effect.TheVariants.{Set, Compare, Load, Store, Locked, Fence, Link, LinkHalf, PairStore, Jump, CallTo, Return, Output, Trap, Nop}
use Rattle.ax_isa.specs.declared.effects.Saved.{Saved}
use Rattle.ax_isa.specs.declared.effects.Saved.TheVariants.{Register, Stack}

-- there are 32 registers, and each has 8 bytes
abbrev pub IsRegister : ℕ → Type 0
IsRegister r = r < 32

abbrev pub FitsRegister : ℕ → Type 0
FitsRegister bytes = IsWidth bytes × (bytes ≤ 8)

abbrev pub FitsChange : ℕ → Change → Type 0
FitsChange bytes (Update op number) = FitsRegister bytes
FitsChange bytes (Exchange expected number compares) = IsWidth bytes

abbrev pub IsSaved : Saved → Type 0
IsSaved (Register to) = IsRegister to
IsSaved (Stack pointer a) = IsRegister pointer

abbrev pub IsBack : Back → Type 0
IsBack (Place place) = Unit {0}
IsBack (Pops pointer a) = IsRegister pointer

-- an effect whose registers and sizes are in their ranges
abbrev pub IsEffect : Effect → Type 0
IsEffect (Set to number) = IsRegister to
IsEffect (Compare left right) = Unit {0}
IsEffect (Load to a bytes rest ends_half) = IsRegister to × FitsRegister bytes
IsEffect (Store a bytes number) = IsWidth bytes
IsEffect (Locked to high a bytes rest change) = IsRegister to × IsRegister high × FitsChange bytes change
IsEffect Fence = Unit {0}
IsEffect (Link to a bytes rest) = IsRegister to × FitsRegister bytes
IsEffect (LinkHalf to a) = IsRegister to
IsEffect (PairStore to a bytes number) = IsRegister to × IsWidth bytes
IsEffect (Jump place) = Unit {0}
IsEffect (CallTo place saved) = IsSaved saved
IsEffect (Return back) = IsBack back
IsEffect (Output number) = Unit {0}
IsEffect Trap = Unit {0}
IsEffect Nop = Unit {0}

-- effects of linked loads and pair stores
abbrev pub is_paired : Effect → Bool
is_paired (Link to a bytes rest) = true
is_paired (LinkHalf to a) = true
is_paired (PairStore to a bytes number) = true
is_paired _ = false

abbrev pub spared_by_call : Saved → Bool → ℕ → (ℕ → ℕ) → ℕ → ℕ
spared_by_call (Register to) buffered p spares = spares
spared_by_call (Stack pointer a) buffered p spares = spared buffered p spares

-- the rooms for stores after an effect: a store of a buffered machine takes one
abbrev pub spared_by : Effect → Bool → ℕ → (ℕ → ℕ) → ℕ → ℕ
spared_by (Store a bytes number) buffered p spares = spared buffered p spares
spared_by (CallTo place saved) buffered p spares = spared_by_call saved buffered p spares
spared_by _ buffered p spares = spares
