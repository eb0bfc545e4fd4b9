use Rattle.std.proofs.Common.{ap, ◌∙◌, sym}
use Rattle.ax_source_run.specs.SourceAccess.{newest}
use Rattle.ax_cells.specs.PendingState.{PendingState}
use Rattle.ax_cells.proofs.NewestStores.{newest_past}
use Rattle.ax_cells.proofs.pending.Pending.newest.Goals as goal

pub returns-else-place-self : goal.returns-else-place-self
returns-else-place-self c =
    sym (newest_past c.self.inside.newest c.self.inside.stores.items c.args.global c.args.element c.args.number c.place-place.result c.self.inside.head c.self.invariant.2 c.place-place.ensures c.if-place-self.false)
    ∙ ap (λ (p : PendingState). newest c.args.global c.args.element p.stores c.args.number) c.self.view_is
