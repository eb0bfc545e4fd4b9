use Rattle.std.proofs.Common.{sym, ap, ◌∙◌, subst}
use Rattle.ax_map.specs.Map.{IsGlobalsEnd}
use Rattle.ax_store.specs.Storage.{started}
use Rattle.ax_store.specs.Store.{storage_of}
use Rattle.ax_run.proofs.Elements.{region_fits}
use Rattle.ax_run.proofs.start.store.Goals as goal
use Rattle.ax_run.proofs.start.store.Goals.{then-buffered+in_ok-reserve, else-buffered}

pub new-requires-clause-end : goal.new-requires-clause-end
new-requires-clause-end c =
    let p = c.args.program.now in
    let accepted = c.is_without_faults.ensures in
    subst IsGlobalsEnd (sym c.region_end.ensures) (region_fits p accepted (c.accepted_can_be_laid_out.ensures p accepted))

pub returns-clause-storage : goal.returns-clause-storage
returns-clause-storage c =
    let first = c.store_globals.ensures.storage c.args.frames.now (c.in_ok-store.ensures.storage ∙ ap (λ e. started e c.args.frames.now) c.region_end.ensures) in
    elim c.if-buffered.branch [
      | then-buffered+in_ok-reserve w ↦ ap storage_of w.store-is ∙ w.reserve.ensures.storage ∙ first
      | else-buffered w ↦ ap storage_of w.store-is ∙ first
    ]
