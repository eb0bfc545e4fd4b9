-- The steps of one buffer.
pub use Rattle.ax_store.specs.BufferState.{BufferState}
use Rattle.std.specs.Prelude.{ℕ, ◌-◌, List, [], ◌∷◌, ◌++◌, Option, Some, None, if◌then◌else◌, nat_lt, slice_index_or, drop}
use Rattle.std.specs.Option.{option_or}
use Rattle.ax_store.specs.declared.entry.Entry.{Entry}
use Rattle.ax_map.specs.Map.{covers}
use Rattle.ax_store.specs.Bytes.{byte_of}

abbrev pub with_room : ℕ → BufferState → BufferState
with_room n b = record b { room = if nat_lt b.room n then n else b.room }

abbrev pub pushed : Entry → BufferState → BufferState
pushed e b = record { entries = b.entries ++ e ∷ []; room = b.room - 1 }

abbrev pub popped : BufferState → BufferState
popped b = record b { entries = drop 1 b.entries }

abbrev pub none : BufferState
none = record { entries = []; room = 0 }

-- the buffer of a processor, none past the last
abbrev pub buffer_of : List BufferState → ℕ → BufferState
buffer_of bs p = slice_index_or bs p none

-- what an entry has for byte b
abbrev pub byte_from : Entry → ℕ → Option ℕ
byte_from e b = if covers e.address e.bytes b then Some (byte_of e.value (b - e.address)) else None

-- what the newest entry that reaches byte b has for it
abbrev pub latest : List Entry → ℕ → Option ℕ
latest [] b = None
latest (e ∷ es) b = option_or (latest es b) (byte_from e b)
