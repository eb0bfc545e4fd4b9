-- What the objects and indexes of pointers stand for.
use Rattle.std.specs.Prelude.{◌≡◌, ℕ, ◌<◌, ◌⊎◌, true, List, [], ◌∷◌}
use Rattle.ax_module.specs.declared.operand.Operand.TheVariants as operand
use Rattle.ax_source_run.specs.SourceState.{Object as SourceObject, Private, Shared, SourceProgram}
use Rattle.ax_source_run.specs.SourceValues.{type_bits}
use Rattle.ax_mid.specs.declared.instruction.MidInst.{MidInst}
use Rattle.ax_mid.specs.declared.instruction.MidInst.TheVariants as mid
use Rattle.ax_mid.specs.declared.registers.Virtual.{Virtual}
use Rattle.ax_selected.specs.Addresses.{Brought, Fixed, IndexAt, Pointing as SelectedPointing, count_of}
use Rattle.ax_selected.specs.Operands.{low_into}
use Rattle.ax_selected.specs.Registers.{low_of, virtual}
use Rattle.ax_reach.specs.declared.place.Index.{Index}
use Rattle.ax_reach.specs.declared.place.Index.TheVariants as index
use Rattle.ax_reach.specs.declared.place.Object.{Object}
use Rattle.ax_reach.specs.declared.place.Object.TheVariants as object
use Rattle.ax_reach.specs.declared.place.Origin.{Origin}
use Rattle.ax_reach.specs.declared.place.Origin.TheVariants as origin
use Rattle.ax_reach.specs.declared.place.Pointing.{Pointing}

abbrev pub object_of : Object → SourceObject
object_of (object.Shared g) = Shared g
object_of (object.Private r) = Private r

-- an index into register 1: a getelementptr's as it is, a number extended by its sign
abbrev pub lines_of : Origin → List (MidInst Virtual)
lines_of (origin.Gep r) = mid.Copy (virtual 1) (virtual (low_of r)) ∷ []
lines_of (origin.Number ty r) = low_into 1 ty (operand.Value r) ∷ mid.Extend (virtual 1) (virtual 1) (type_bits ty) true ∷ []

abbrev pub index_of : Index → IndexAt
index_of (index.Fixed i) = Fixed i
index_of (index.Brought from) = Brought (lines_of from)

abbrev pub pointing_of : Pointing → SelectedPointing
pointing_of p = record { object = object_of p.object; index = index_of p.index }

-- an element that there is, or the first
abbrev pub IsReached : SourceProgram → ℕ → SourceObject → ℕ → Type 0
IsReached program f o i = (i < count_of program f o) ⊎ (i ≡ 0)
