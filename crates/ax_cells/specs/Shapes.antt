-- What contracts see of arrays of numbers and of the results of instructions.
use Rattle.std.specs.Prelude.{◌<◌, ◌+◌, ℕ, List, [], ◌∷◌, Some, length, map, slice_index, slice_index_or}
use Rattle.ax_module.specs.declared.module.Module.{Module}
use Rattle.ax_module.specs.declared.types.Ty.{Ty}
use Rattle.ax_module.specs.declared.types.Ty.TheVariants.{I8}
use Rattle.ax_source_run.specs.SourceAccess.{put_at}
use Rattle.ax_source_run.specs.SourcePointers.{Elements, elements_of_alloca, elements_of_global, insts_of, no_elements}
use Rattle.ax_source_run.specs.SourceState.{Number, SourceValue}
use Rattle.ax_cells.specs.declared.value.Value.{Value}
use Rattle.ax_cells.specs.declared.value.Value.TheVariants as value
use Rattle.ax_cells.specs.Values.{value_of}

-- an array: the type of its elements, and their numbers
pub record ArrayState : Type 0 where
  pub elem : Ty
  pub cells : List ℕ

abbrev pub shape_of : ArrayState → Elements
shape_of a = record { elem = a.elem; count = length a.cells }

-- what isn't there has none
abbrev pub no_array : ArrayState
no_array = record { elem = I8; cells = [] }

-- the numbers of elements, 0 where there is none
abbrev pub cells_of : List ArrayState → ℕ → ℕ → ℕ
cells_of arrays r i = slice_index (slice_index_or arrays r no_array).cells i

abbrev pub shapes_of : List ArrayState → List Elements
shapes_of arrays = map shape_of arrays

abbrev pub shape_in : List Elements → ℕ → Elements
shape_in shapes r = slice_index_or shapes r no_elements

-- there is an element i of array r
pub record IsCell (shapes : List Elements) (r i : ℕ) : Type 0 where
  pub array : r < length shapes
  pub cell : i < (shape_in shapes r).count

-- the results of a function's instructions, by their numbers, 0 where there is none
abbrev pub values_of : List Value → ℕ → SourceValue
values_of values k = value_of (slice_index_or values k (value.Number 0))

-- numbers as results from instruction k on
abbrev pub numbers_put : ℕ → List ℕ → (ℕ → SourceValue) → ℕ → SourceValue
numbers_put k [] values = values
numbers_put k (n ∷ numbers) values = numbers_put (k + 1) numbers (put_at values k (Number n))

-- the shapes of a module's globals, and of a function's allocas by the numbers of the instructions
abbrev pub global_shapes : Module → List Elements
global_shapes m = map (λ global. elements_of_global (Some global)) m.globals

abbrev pub alloca_shapes : Module → ℕ → List Elements
alloca_shapes m f = map (λ inst. elements_of_alloca (Some inst)) (insts_of m f)
