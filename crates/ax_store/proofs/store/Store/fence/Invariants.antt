use Rattle.std.proofs.Common.{◌≡◌, ◌-◌, ℕ, length}
use Rattle.ax_store.specs.Storage.{flushed}
use Rattle.ax_store.specs.Store.{Kept, StoreState, spare_of, storage_of}
use Rattle.ax_store.proofs.store.Store.fence.Given as goal

pub record Sofar (old new : StoreState) (p i : ℕ) : Type 0 where
  pub all : flushed p (storage_of new) ≡ flushed p (storage_of old)
  pub left : length ((storage_of new).waiting p) ≡ length ((storage_of old).waiting p) - i
  pub spares : spare_of new ≡ spare_of old
  pub kept : Kept old new

abbrev pub invariant-loop-i : goal.invariant-loop-i
invariant-loop-i l = Sofar l.fn.self l.self l.p l._i
