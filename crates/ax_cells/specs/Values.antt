-- What the values of a processor stand for.
use Rattle.ax_cells.specs.declared.value.Object.{Object}
use Rattle.ax_cells.specs.declared.value.Object.TheVariants as object
use Rattle.ax_cells.specs.declared.value.Pointer.{Pointer}
use Rattle.ax_cells.specs.declared.value.Value.{Value}
use Rattle.ax_cells.specs.declared.value.Value.TheVariants as value
use Rattle.ax_source_run.specs.SourceState.{Object as SourceObject, Shared, Private, Pointer as SourcePointer, SourceValue, Number, Pair, PointsTo}

abbrev pub object_of : Object → SourceObject
object_of (object.Shared g) = Shared g
object_of (object.Private r) = Private r

abbrev pub pointer_of : Pointer → SourcePointer
pointer_of p = record { object = object_of p.object; index = p.index }

abbrev pub value_of : Value → SourceValue
value_of (value.Number n) = Number n
value_of (value.Pair n flag) = Pair n flag
value_of (value.PointsTo p) = PointsTo (pointer_of p)
