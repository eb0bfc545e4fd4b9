use Rattle.std.proofs.Common.{◌≡◌, ◌++◌, length}
use Rattle.ax_store.specs.Storage.{flushed}
use Rattle.ax_store.specs.Store.{storage_of}
use Rattle.ax_isa.specs.Run.{drain_events}
use Rattle.ax_agree.specs.Agree.{is_native_entry}
use Rattle.ax_run.specs.Machine.{Sent}
use Rattle.ax_run.proofs.machine.Machine.send_all.Given as goal

-- what was sent and what is left is the whole
abbrev pub invariant-loop-self : goal.invariant-loop-self
invariant-loop-self l =
    record {
      sent : Sent l.fn.self l.self;
      storage : flushed l.p (storage_of l.self.store) ≡ flushed l.p (storage_of l.fn.self.store);
      sources : l.self.sources ++ drain_events (is_native_entry l.fn.self.program) l.p ((storage_of l.self.store).waiting l.p) ≡ l.fn.self.sources ++ drain_events (is_native_entry l.fn.self.program) l.p ((storage_of l.fn.self.store).waiting l.p);
    }

abbrev pub decreases-loop-self : goal.decreases-loop-self
decreases-loop-self l = length ((storage_of l.self.store).waiting l.p)
