use Rattle.std.proofs.Common.{◌≡◌, drop}
use Rattle.ax_source_run.specs.SourceAccess.{written_out}
use Rattle.ax_cells.specs.Shapes.{cells_of, shapes_of}
use Rattle.ax_cells.proofs.pending.write_stores.Given as goal

abbrev pub invariant-loop-store : goal.invariant-loop-store
invariant-loop-store l = record {
  numbers : written_out (drop l.store-index l.stores) (cells_of l.globals) ≡ written_out l.stores (cells_of l.fn.globals);
  shapes : shapes_of l.globals ≡ shapes_of l.fn.globals;
}
