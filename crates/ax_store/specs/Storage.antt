-- *Storage*: memory, store buffers and reservations as functions, and the steps that change them. Each call of `Store`
-- is one of these steps. Buffers are those of x86-TSO (Sewell and others, 2010), byte by byte; reservations those of the
-- exclusive pairs of Arm and of the A extension of RISC-V, at most one for each processor.
use Rattle.std.specs.Prelude.{ℕ, ◌-◌, List, [], ◌∷◌, ◌++◌, Bool, true, false, ◌&&◌, Option, Some, None, if◌then◌else◌, nat_eq, slice_get}
use Rattle.ax_store.specs.declared.entry.Entry.{Entry}
use Rattle.ax_store.specs.declared.entry.Reservation.{Reservation}
use Rattle.ax_map.specs.Map.{covers, in_regions}
use Rattle.ax_store.specs.Bytes.{number_at, byte_of, cut, put, set_inside}
use Rattle.ax_store.specs.Reservations.{left_of, stands_for}

pub record Storage : Type 0 where
  -- the addresses of the three regions
  pub inside : ℕ → Bool
  -- the byte at an address, 0 outside the regions
  pub mem : ℕ → ℕ
  -- for each processor the stores that wait in its buffer, the oldest first
  pub waiting : ℕ → List Entry
  -- for each processor its reservation
  pub linked : ℕ → Option Reservation

-- at the start, where the globals end at `end` and there is a frame of each of these sizes
abbrev pub started : ℕ → List ℕ → Storage
started end frames = record { inside = in_regions end frames; mem = λ a. 0; waiting = λ p. []; linked = λ p. None }

-- f, but v at k
abbrev pub at_place : {A : Type 0} → (ℕ → A) → ℕ → A → ℕ → A
at_place f k v a = if nat_eq a k then v else f a

abbrev pub with_waiting : ℕ → List Entry → Storage → Storage
with_waiting p es st = record { inside = st.inside; mem = st.mem; waiting = at_place st.waiting p es; linked = st.linked }

abbrev pub with_linked : ℕ → Option Reservation → Storage → Storage
with_linked p l st = record { inside = st.inside; mem = st.mem; waiting = st.waiting; linked = at_place st.linked p l }

-- `set`: an initial byte
abbrev pub byte_put : ℕ → ℕ → Storage → Storage
byte_put a b st = record { inside = st.inside; mem = set_inside st.inside st.mem a b; waiting = st.waiting; linked = st.linked }

-- a store of the low n bytes of v
abbrev pub entry_of : ℕ → ℕ → ℕ → Entry
entry_of a n v = record { address = a; bytes = n; value = cut n v }

-- byte b after an entry reached it, if b is inside
abbrev pub byte_after : Bool → Entry → ℕ → ℕ → ℕ
byte_after inside e b v = if covers e.address e.bytes b && inside then byte_of e.value (b - e.address) else v

-- byte b by the newest of these stores that reaches it, else v
abbrev pub newest : Bool → List Entry → ℕ → ℕ → ℕ
newest inside [] b v = v
newest inside (e ∷ es) b v = newest inside es b (byte_after inside e b v)

-- what p sees at a byte: its newest store that waits, else memory
abbrev pub seen : ℕ → Storage → ℕ → ℕ
seen p st b = newest (st.inside b) (st.waiting p) b (st.mem b)

-- `load`
abbrev pub load : ℕ → ℕ → ℕ → Storage → ℕ
load p a n st = number_at (seen p st) a n

-- a write by p reaches memory, and ends the reservations of others that it reaches
abbrev pub wrote : ℕ → Entry → Storage → Storage
wrote p e st = record { inside = st.inside; mem = put st.inside e.address e.bytes e.value st.mem; waiting = st.waiting; linked = λ q. left_of p e.address e.bytes q (st.linked q) }

abbrev pub wrote_all : ℕ → List Entry → Storage → Storage
wrote_all p [] st = st
wrote_all p (e ∷ es) st = wrote_all p es (wrote p e st)

-- a store enters p's buffer
abbrev pub entered : ℕ → Entry → Storage → Storage
entered p e st = with_waiting p (st.waiting p ++ e ∷ []) st

-- `store`, on a machine with buffers or without
abbrev pub stored : Bool → ℕ → ℕ → ℕ → ℕ → Storage → Storage
stored true p a n v st = entered p (entry_of a n v) st
stored false p a n v st = wrote p (entry_of a n v) st

-- p's oldest store that waits
abbrev pub oldest : ℕ → Storage → Option Entry
oldest p st = slice_get (st.waiting p) 0

abbrev pub drain_one : ℕ → List Entry → Storage → Storage
drain_one p [] st = st
drain_one p (e ∷ es) st = wrote p e (with_waiting p es st)

-- `drain`: p's oldest store that waits reaches memory
abbrev pub drained : ℕ → Storage → Storage
drained p st = drain_one p (st.waiting p) st

-- `fence`: all of p's stores that wait reach memory, in order
abbrev pub flushed : ℕ → Storage → Storage
flushed p st = wrote_all p (st.waiting p) (with_waiting p [] st)

-- `locked`, after the own buffer is flushed: the new number, or nothing for None
abbrev pub replaced : ℕ → ℕ → ℕ → Option ℕ → Storage → Storage
replaced p a n None st = st
replaced p a n (Some v) st = wrote p (entry_of a n v) st

-- `link`, and for 16 bytes `link_half`: p's reservation begins, and the older one ends
abbrev pub linked_at : ℕ → ℕ → ℕ → Storage → Storage
linked_at p a n st = with_linked p (Some (record { address = a; bytes = n })) st

-- may p's pair store succeed
abbrev pub may_pair : ℕ → ℕ → ℕ → Storage → Bool
may_pair p a n st = stands_for a n (st.linked p)

-- `pair_store`: it writes only where it may, and p's reservation ends in either case
abbrev pub pair_stored : ℕ → ℕ → ℕ → ℕ → Storage → Storage
pair_stored p a n v st = if may_pair p a n st then with_linked p None (wrote p (entry_of a n v) st) else with_linked p None st

-- `drop_reservation`
abbrev pub dropped : ℕ → Storage → Storage
dropped p st = with_linked p None st
