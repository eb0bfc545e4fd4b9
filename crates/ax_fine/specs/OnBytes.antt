-- What atomic operations and plain accesses do to the bytes that all processors share, and to the stores that wait.
use Rattle.std.specs.Prelude.{◌≡◌, ℕ, ◌+◌, ◌-◌, ◌*◌, ◌≤◌, ◌<◌, ◌%◌, ◌^◌, Bool, true, false, ◌&&◌, nat_eq, if◌then◌else◌, List, [], ◌∷◌, Option, Some, None, slice_index_or}
use Rattle.ax_words.specs.declared.mark.Op.{Op}
use Rattle.ax_words.specs.declared.mark.Op.TheVariants as op
use Rattle.ax_words.specs.declared.order.Order.{Order}
use Rattle.ax_words.specs.declared.width.Width.{Width}
use Rattle.ax_words.specs.Width.{bytes_of}
use Rattle.ax_store.specs.declared.entry.Entry.{Entry}
use Rattle.ax_store.specs.Bytes.{all_inside, number_at}
use Rattle.ax_store.specs.Storage.{entry_of, newest}
use Rattle.ax_target.specs.declared.target.Target.{Target}
use Rattle.ax_target.specs.Targets.{is_buffered}
use Rattle.ax_source_run.specs.SourceAccess.{Drains, Looks, Manner, ObjectOperation, Reads, Waits, Writes, is_expected, manner_of_native, stored_by}
use Rattle.ax_source_run.specs.SourceInstructions.{is_seq_cst}
use Rattle.ax_isa.specs.Tells.{Given, Nothing, An_act, A_look, A_miss}
use Rattle.ax_mid.specs.Machine.{argument, is_exchange, is_fence, may_wait, operation_of, results_of}
use Rattle.ax_expand.specs.Doing.{Doing, Result}
use Rattle.ax_expand.specs.Shared.{Shared, shared_replaced, shared_store, shared_wrote, with_pending}

-- what processor p finds at an address: its stores that wait, else memory
abbrev pub found_at : ℕ → ℕ → ℕ → Shared → ℕ
found_at p a bytes w = number_at (λ b. newest (w.inside b) (w.pending p) b (w.mem b)) a bytes

-- these stores reach memory, in order
abbrev pub wrote_each : List Entry → Shared → Shared
wrote_each [] w = w
wrote_each (e ∷ es) w = wrote_each es (shared_wrote e w)

-- all of p's stores that wait reach memory
abbrev pub sent_out : ℕ → Shared → Shared
sent_out p w = with_pending p [] (wrote_each (w.pending p) w)

-- the number that an operation finds, and what it leaves
pub record Met : Type 0 where
  pub found : ℕ
  pub world : Shared

abbrev pub met_by : Manner → Bool → ℕ → ℕ → ℕ → ObjectOperation → Shared → Met
met_by (Waits n) buffered p a bytes operation w = record { found = 0; world = shared_store buffered p (entry_of a bytes n) w }
met_by Looks buffered p a bytes operation w = record { found = found_at p a bytes w; world = w }
met_by Drains buffered p a bytes operation w = record {
  found = number_at (sent_out p w).mem a bytes;
  world = shared_replaced a bytes (stored_by operation (8 * bytes) (number_at (sent_out p w).mem a bytes)) (sent_out p w);
}

abbrev pub met_at : Target → Bool → ℕ → ℕ → ℕ → ObjectOperation → Shared → Met
met_at target waits p a bytes operation w = met_by (manner_of_native operation waits) (is_buffered target) p a bytes operation w

-- below the frames what may be used begins and ends at words of 4 bytes
abbrev pub AreWords : (ℕ → Bool) → Type 0
AreWords inside = (a : ℕ) → a < 2 ^ 24 → inside a ≡ true → all_inside inside (a - a % 4) 4 ≡ true

-- an object below the frames, at a multiple of its size
pub record IsObject (a bytes : ℕ) (w : Shared) : Type 0 where
  pub aligned : a % bytes ≡ 0
  pub shared : a + bytes ≤ 2 ^ 24
  pub inside : all_inside w.inside a bytes ≡ true
  pub words : AreWords w.inside
  pub small : (b : ℕ) → w.mem b < 2 ^ 8

abbrev pub results_with : List ℕ → Shared → Result Shared
results_with results w = record { results = results; seen = None; world = w; output = None; excused = false }

-- ---- atomic operations
module _ (target : Target) (o : Op) (width : Width) (order : Order) where
  abbrev pub fenced : Bool → ℕ → Shared → Result Shared
  fenced true p w = results_with [] (sent_out p w)
  fenced false p w = results_with [] w

  abbrev pub answered : ObjectOperation → Met → Result Shared
  answered operation met = results_with (results_of o width met.found (is_expected operation met.found)) met.world

  abbrev pub acts : ℕ → ℕ → List ℕ → Shared → Result Shared
  acts p a args w =
      if is_fence o then fenced (is_seq_cst order) p w
      else answered (operation_of o width args) (met_at target (may_wait target width order) p a (bytes_of width) (operation_of o width args) w)

  -- a look reads the object and changes nothing
  abbrev pub looks : ℕ → Shared → Result Shared
  looks a w = record { results = []; seen = Some (number_at w.mem a (bytes_of width)); world = w; output = None; excused = false }

  -- a miss answers false where the look saw the expected number; others or a Drop caused it
  abbrev pub misses : List ℕ → Option ℕ → Shared → Option (Result Shared)
  misses args None w = None
  misses args (Some n) w = if nat_eq (argument width args 0) n then Some (results_with (results_of op.Cmpxchg width (argument width args 0) false) w) else None

  abbrev pub atomic_gives : Bool → Given → ℕ → ℕ → List ℕ → Option ℕ → Shared → Option (Result Shared)
  atomic_gives weak Nothing p a args seen w = None
  atomic_gives weak An_act p a args seen w = Some (acts p a args w)
  atomic_gives weak A_look p a args seen w = if weak && is_exchange o then Some (looks a w) else None
  atomic_gives weak A_miss p a args seen w = if weak && is_exchange o then misses args seen w else None

  abbrev pub Asks : Bool → ℕ → Shared → Type 0
  Asks true a w = Unit {0}
  Asks false a w = IsObject a (bytes_of width) w

  abbrev pub atomic_doing : Bool → Doing Shared
  atomic_doing weak = record { happens = λ g p a args seen w. atomic_gives weak g p a args seen w; fits = λ a args w. Asks (is_fence o) a w }

-- ---- plain accesses of so many bytes
module _ (target : Target) (bytes : ℕ) where
  abbrev pub plain_load : Given → ℕ → ℕ → List ℕ → Option ℕ → Shared → Option (Result Shared)
  plain_load An_act p a args seen w = Some (results_with ((met_at target false p a bytes Reads w).found ∷ []) w)
  plain_load _ p a args seen w = None

  abbrev pub plain_store : Given → ℕ → ℕ → List ℕ → Option ℕ → Shared → Option (Result Shared)
  plain_store An_act p a args seen w = Some (results_with [] (met_at target true p a bytes (Writes (slice_index_or args 0 0 % 2 ^ (8 * bytes))) w).world)
  plain_store _ p a args seen w = None

  abbrev pub load_doing : Doing Shared
  load_doing = record { happens = plain_load; fits = λ a args w. IsObject a bytes w }

  abbrev pub store_doing : Doing Shared
  store_doing = record { happens = plain_store; fits = λ a args w. IsObject a bytes w }
