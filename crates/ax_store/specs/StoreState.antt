-- What contracts see of a store.
use Rattle.std.specs.Prelude.{ℕ, List, Bool, Option}
use Rattle.ax_store.specs.BufferState.{BufferState}
use Rattle.ax_store.specs.declared.entry.Reservation.{Reservation}

pub record StoreState : Type 0 where
  pub memory : List (List ℕ)
  pub buffers : List BufferState
  pub links : List (Option Reservation)
  pub buffered : Bool
