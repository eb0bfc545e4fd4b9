-- Plain stores and full fences as operations.
use Rattle.std.specs.Prelude.{ℕ, Bool, false, if◌then◌else◌, List, [], ◌∷◌, Option, Some, None}
use Rattle.ax_store.specs.Storage.{entry_of}
use Rattle.ax_isa.specs.Tells.{Given, An_act}
use Rattle.ax_expand.specs.Doing.{Doing, Result, on_registers}
use Rattle.ax_expand.specs.Operation.{Deed, Operation}
use Rattle.ax_expand.specs.Shared.{Object, Shared, shared_store}
use Rattle.ax_loops.specs.Updating.{is_none}

-- a plain store, which waits on a machine with buffers
abbrev pub store_by : Bool → ℕ → Given → ℕ → ℕ → List ℕ → Shared → Option (Result Shared)
store_by buffered bytes An_act p a (v ∷ []) w = Some (record { results = []; seen = None; world = shared_store buffered p (entry_of a bytes v) w; output = None; excused = false })
store_by buffered bytes _ p a vs w = None

abbrev pub storing : Bool → ℕ → Doing Shared
storing buffered bytes = record { happens = λ g p a vs seen w. store_by buffered bytes g p a vs w; fits = λ a vs w. Object a bytes w }

abbrev pub storing_on : Bool → ℕ → ℕ → ℕ → Operation Shared
storing_on buffered bytes address value = on_registers (storing buffered bytes) address (value ∷ []) []

-- a full fence: it happens once no own store waits
abbrev pub fence_by : Given → ℕ → (ℕ → ℕ) → Shared → Option (Deed Shared)
fence_by An_act p regs w = if is_none (w.pending p) then Some (record { regs = regs; seen = None; world = w; output = None; excused = false }) else None
fence_by _ p regs w = None

abbrev pub fencing : Operation Shared
fencing = record { happens = λ g p regs seen w. fence_by g p regs w; fits = λ regs w. Unit {0} }
