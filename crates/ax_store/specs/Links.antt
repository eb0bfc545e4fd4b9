-- A list of reservations by processor.
use Rattle.std.specs.Prelude.{ℕ, List, Option, None, slice_index_or}
use Rattle.ax_store.specs.declared.entry.Reservation.{Reservation}

abbrev pub link_of : List (Option Reservation) → ℕ → Option Reservation
link_of ls q = slice_index_or ls q None
