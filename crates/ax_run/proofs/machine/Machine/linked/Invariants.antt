use Rattle.std.proofs.Common.{◌≡◌, ℕ, ◌<◌, length}
use Rattle.std.specs.Prelude.{false, is_some, slice_index_or}
use Rattle.ax_store.specs.Store.{storage_of}
use Rattle.ax_run.proofs.machine.Machine.linked.Given as goal

abbrev pub invariant-loop-p : goal.invariant-loop-p
invariant-loop-p l = (length l.linked ≡ 8) × ((q : ℕ) → q < l.p → slice_index_or l.linked q false ≡ is_some ((storage_of l.fn.self.store).linked q))
