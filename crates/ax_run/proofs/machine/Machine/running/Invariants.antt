use Rattle.std.proofs.Common.{◌≡◌, ℕ, ◌<◌, length}
use Rattle.std.specs.Prelude.{false, slice_index_or}
use Rattle.ax_run.specs.Machine.{cpu_in}
use Rattle.ax_run.specs.Plans.{is_running}
use Rattle.ax_run.proofs.machine.Machine.running.Given as goal

abbrev pub invariant-loop-p : goal.invariant-loop-p
invariant-loop-p l = (length l.running ≡ 8) × ((q : ℕ) → q < l.p → slice_index_or l.running q false ≡ is_running (cpu_in l.fn.self q).status)
