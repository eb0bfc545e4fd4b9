-- What contracts see of a buffer.
use Rattle.std.specs.Prelude.{ℕ, List}
use Rattle.ax_store.specs.declared.entry.Entry.{Entry}

pub record BufferState : Type 0 where
  -- the stores that wait, the oldest first
  pub entries : List Entry
  -- for how many more there is room
  pub room : ℕ
