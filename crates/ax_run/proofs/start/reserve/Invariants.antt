use Rattle.std.proofs.Common.{◌≡◌, ℕ, ◌<◌, ◌≤◌}
use Rattle.ax_store.specs.Store.{Kept, spare_of, storage_of}
use Rattle.ax_run.proofs.start.reserve.Given as goal

abbrev pub invariant-loop-p : goal.invariant-loop-p
invariant-loop-p l =
    record {
      kept : Kept l.fn.store l.store;
      storage : storage_of l.store ≡ storage_of l.fn.store;
      spares : (q : ℕ) → q < l.p → l.events ≤ spare_of l.store q;
    }
