use Rattle.std.proofs.Common.{◌≡◌, ℕ, List, Option, length}
use Rattle.std.specs.Prelude.{if◌then◌else◌, nat_lt}
use Rattle.ax_store.specs.declared.entry.Reservation.{Reservation}
use Rattle.ax_store.specs.Links.{link_of}
use Rattle.ax_store.specs.Reservations.{left_of}
use Rattle.ax_store.proofs.links.Links.end_others.Given as goal

pub record Sofar (old new : List (Option Reservation)) (p a n i : ℕ) : Type 0 where
  pub count : length new ≡ length old
  pub links : (q : ℕ) → link_of new q ≡ (if nat_lt q i then left_of p a n q (link_of old q) else link_of old q)

abbrev pub invariant-loop-q : goal.invariant-loop-q
invariant-loop-q l = Sofar l.fn.self l.self l.p l.a l.n l.q
