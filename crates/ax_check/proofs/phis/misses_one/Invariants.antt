use Rattle.std.proofs.Common.{ℕ, ◌<◌, ◌≡◌, slice_index_or, None}
use Rattle.ax_check.specs.Walk.{Leads}
use Rattle.ax_check.proofs.phis.misses_one.Given as goal

abbrev pub invariant-loop-p : goal.invariant-loop-p
invariant-loop-p l = (p : ℕ) → p < l.p → Leads l.walks p l.b → slice_index_or l.table p None ≡ None → ⊥
