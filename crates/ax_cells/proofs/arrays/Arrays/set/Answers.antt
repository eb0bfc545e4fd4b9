use Rattle.std.proofs.Common.{◌∙◌, ap}
use Rattle.ax_cells.specs.Shapes.{shapes_of}
use Rattle.ax_cells.proofs.Writes.{shapes_after}
use Rattle.ax_cells.proofs.arrays.Arrays.set.Goals as goal

pub returns-clause-shapes : goal.returns-clause-shapes
returns-clause-shapes c =
    shapes_after c.self.inside.arrays.items c.args.r c.args.i c.args.number c.index_mut-array.result.now c.set.new.self c.index_mut-array.ensures.value c.set.ensures
    ∙ ap shapes_of c.self.view_is
