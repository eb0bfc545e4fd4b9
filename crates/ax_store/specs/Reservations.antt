-- Reservations: at most one for each processor, over the aligned 64 bytes round the linked address.
use Rattle.std.specs.Prelude.{ℕ, ◌-◌, ◌+◌, ◌/◌, Bool, false, ◌&&◌, Option, Some, None, if◌then◌else◌, nat_le, nat_eq}
use Rattle.ax_store.specs.declared.entry.Reservation.{Reservation}

-- does a write of n bytes at a reach the 64 bytes with this number
abbrev pub reaches : ℕ → ℕ → ℕ → Bool
reaches a n line = nat_le (a / 64) line && nat_le line ((a + n - 1) / 64)

-- what a write by p leaves of q's reservation: another processor's ends where the write reaches its 64 bytes
abbrev pub left_of : ℕ → ℕ → ℕ → ℕ → Option Reservation → Option Reservation
left_of p a n q None = None
left_of p a n q (Some r) = if nat_eq q p then Some r else (if reaches a n (r.address / 64) then None else Some r)

-- does a reservation stand that a linked load of this address and size began
abbrev pub stands_for : ℕ → ℕ → Option Reservation → Bool
stands_for a n None = false
stands_for a n (Some r) = nat_eq r.address a && nat_eq r.bytes n
