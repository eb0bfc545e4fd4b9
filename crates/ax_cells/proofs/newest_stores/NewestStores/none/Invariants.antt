use Rattle.std.proofs.Common.{◌≡◌, map, take}
use Rattle.ax_cells.specs.NewestStores.{no_places}
use Rattle.ax_cells.proofs.newest_stores.NewestStores.none.Given as goal

abbrev pub invariant-loop-global : goal.invariant-loop-global
invariant-loop-global l = l.rows.items ≡ map no_places (take l.global-index l.globals)
