use Rattle.std.proofs.Common.{ℕ, List, ◌<◌, ap, ◌∙◌, sym, subst}
use Rattle.std.specs.Prelude.{slice_index}
use Rattle.ax_source_run.specs.SourceAccess.{element_set}
use Rattle.ax_cells.specs.NewestStores.{counts_of, place_in}
use Rattle.ax_cells.proofs.NewestStores.{places_set}
use Rattle.ax_cells.proofs.newest_stores.NewestStores.set.Goals as goal

pub returns-clause-places : goal.returns-clause-places
returns-clause-places c =
    let within = subst (λ (rows : List (List ℕ)). c.args.element < slice_index (counts_of rows) c.args.global) (sym c.self.view_is) c.requires in
    places_set c.self.inside.rows.items c.args.global c.args.element c.args.place c.index_mut-row.result.now c.set.new.self within c.index_mut-row.ensures.value c.set.ensures
    ∙ ap (λ rows. element_set c.args.global c.args.element c.args.place (place_in rows)) c.self.view_is
